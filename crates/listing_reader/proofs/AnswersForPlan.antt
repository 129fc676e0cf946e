-- The answer for a listing text and a plan: what the grammar reads is what the text states for the plan.
-- Assumes nothing.
use Prim.Native.Nat.{ℕ, ◌+◌, ◌≤◌}
use mathlib.Core.Path.{◌≡◌, refl, ap, sym, ◌∙◌}
use mathlib.Core.List.{List}
use native.Mathlib.Omega.{arith}
use lib.ListN.{length, take}
use lib.Seq.{sets, slice}
use Rattle.limits.specs.Limits.{NODES, PROCESSES, EDGES, CONDITIONS}
use Rattle.lists.specs.Front.{front}
use Rattle.lists.proofs.Front.{front_length, front_written}
use Rattle.lists.proofs.Stores.{sets_front}
use Rattle.model.specs.Plan.{Lines}
use Rattle.model.specs.Refusals.{nothing, plan_refusal}
use Rattle.model.specs.Table.{entry_words, frame_words}
use Rattle.model.specs.ListingText.{listed, not_listed, no_listing, a_listing, listed_words, listed_frames, listed_counts}
use Rattle.laws.proofs.Good.{good}
use Rattle.listing_grammar.specs.Parse.{no_reading, read, read_listing}
use Rattle.listing_grammar.proofs.Whole.{states_read, read_states, reading as plan-reading}
use Rattle.listing_scanner.specs.declared.entries.Counts.{Counts}
use Rattle.listing_reader.specs.Answer.{Counted, SomePlan, answer_of, ReadsListing}
use Rattle.listing_reader.specs.Runs.{reading, Lines-stated}
use Rattle.std.specs.Prelude.{Ok, Err}
use Rattle.refusals.specs.declared.Refusal.TheVariants as refusal
use Rattle.listing_reader.specs.declared.reader.Stated.{Stated}

-- counts that some plan has are small
pub few : {slots processes edges conditions : ℕ} → SomePlan slots processes edges conditions →
    (slots ≤ NODES) × (processes ≤ PROCESSES) × (edges ≤ EDGES) × (conditions ≤ CONDITIONS)
few s =
    let g = good s.plan s.passes in
    let k = s.counted in (
      omega (arith, k.its_slots, g.few_slots),
      omega (arith, k.its_processes, g.few_processes),
      omega (arith, k.its_edges, g.few_edges),
      omega (arith, k.its_conditions, g.few_conditions),
    )

-- words at the front of one array, copied to the front of another
module _ (words own : List ℕ) {part : List ℕ} {n : ℕ} (many : n ≡ length words) (held : part ≡ front words own) where
  copied : (lent : List ℕ) {now : List ℕ} → n ≤ length lent → now ≡ sets lent 0 (slice 0 (0 + n) part) → now ≡ front words lent
  copied lent room e =
      let z : 0 + n ≡ length words = omega arith in
      e
      ∙ (λ i. sets lent 0 (take (z i) (held i)))
      ∙ ap (sets lent 0) (front_written words own)
      ∙ sets_front words lent (omega arith)

  as_before : n ≤ length own → length part ≡ length own
  as_before room = ap length held ∙ front_length words own (omega arith)

-- the words that the lines were read into
module _ {text : List ℕ} {counts : Counts} {own own_frames own_counts part frame-part count-part : List ℕ} {s : Stated}
    (h : Lines-stated text counts own own_frames own_counts part frame-part count-part s) where
  how_many : (s.words ≡ length (entry_words h.states.entries)) × (s.framewords ≡ length (frame_words h.states.frames))
  unfolding answer_of
  how_many = let e = h.answer in (cc, cc)

  pub words_long : s.words ≤ length own → length part ≡ length own
  words_long room = as_before (entry_words h.states.entries) own how_many.0 h.words room

  pub framewords_long : s.framewords ≤ length own_frames → length frame-part ≡ length own_frames
  framewords_long room = as_before (frame_words h.states.frames) own_frames how_many.1 h.frame_words room

  pub counted_long : counts.slots ≤ length own_counts → length count-part ≡ length own_counts
  counted_long room = as_before h.states.passed own_counts (sym h.for_each) h.counted room

-- what the text is for a plan of so many slots, processes, edges and conditions
abbrev pub counts_of : ℕ → ℕ → ℕ → ℕ → Counts
counts_of slots processes edges conditions = record { slots = slots; processes = processes; edges = edges; conditions = conditions }

module _ (p : Lines) (fine : plan_refusal p ≡ nothing) {slots processes edges conditions : ℕ} (k : Counted p slots processes edges conditions) where
  abbrev counts : Counts
  counts = counts_of slots processes edges conditions

  same_reading : (text : List ℕ) → reading counts text ≡ plan-reading p text
  same_reading text = λ i. read_listing (k.its_slots i) (k.its_processes i) (k.its_edges i) (k.its_conditions i) text

  module _ {text table frames passed : List ℕ} where
    pub refused_for : reading counts text ≡ no_reading → ReadsListing p text (Err refusal.ListingText) table frames passed table frames passed
    unfolding answer_of listed_words listed_frames listed_counts
    refused_for h =
        record {
          reading = not_listed 21;
          of_text = no_listing (λ r m.
              let z : no_reading ≡ read r = sym h ∙ same_reading text ∙ states_read p fine m in
              let y : ◌≡◌ {A = ℕ} 0 1 = cc in
              omega arith);
          answer = refl;
          words = refl;
          frame_words = refl;
          counts = refl;
        }

    pub stated_for : {own own_frames own_counts part frame-part count-part table-now frames-now passed-now : List ℕ} {s : Stated} →
        Lines-stated text counts own own_frames own_counts part frame-part count-part s →
        s.words ≤ length table → s.framewords ≤ length frames → slots ≤ length passed →
        table-now ≡ sets table 0 (slice 0 (0 + s.words) part) → frames-now ≡ sets frames 0 (slice 0 (0 + s.framewords) frame-part) →
        passed-now ≡ sets passed 0 (slice 0 (0 + slots) count-part) →
        ReadsListing p text (Ok s) table frames passed table-now frames-now passed-now
    unfolding listed_words listed_frames listed_counts
    stated_for {own} {own_frames} {own_counts} h room frame-room count_room e f g =
        record {
          reading = listed h.states;
          of_text = a_listing h.states (read_states p fine (sym (same_reading text) ∙ h.of_text));
          answer = h.answer;
          words = copied (entry_words h.states.entries) own (how_many h).0 h.words table room e;
          frame_words = copied (frame_words h.states.frames) own_frames (how_many h).1 h.frame_words frames frame-room f;
          counts = copied h.states.passed own_counts (sym h.for_each) h.counted passed count_room g;
        }
