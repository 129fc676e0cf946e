-- The answer to a listing text: by the reader's answer, a refusal, or what is answered to what the text states.
-- Assumes nothing.
use Prim.Native.Nat.{ℕ, ◌*◌, ◌%◌, ◌≤◌}
use mathlib.Core.Path.{◌≡◌, ap, sym, ◌∙◌}
use mathlib.Core.List.{List}
use native.Mathlib.Omega.{arith}
use Rattle.std.specs.Prelude.{Ok, Err}
use Rattle.std.specs.Prelude as std
use lib.ListN.{length, take}
use lib.Seq.{length-take-le}
use Rattle.limits.specs.Limits.{NODES, PRINTEDWORDS, PRINTEDFRAMEWORDS}
use Rattle.lists.specs.Front.{front}
use Rattle.lists.proofs.Front.{front_length, front_written}
use Rattle.model.specs.Plan.{Lines}
use Rattle.model.specs.Refusals.{nothing, plan_refusal}
use Rattle.model.specs.Table.{Result, entry_words, frame_words, entries_of, frames_of}
use Rattle.model.specs.ListingText.{Listed, listed, not_listed, States, AnswersListing, a_listing, listed_words, listed_frames, listed_counts, stated_refusal, listed_refusal, by_listing}
use Rattle.laws.proofs.Good.{good}
use Rattle.laws.proofs.Words.{entries_back, frames_back, entry_words_count, frame_words_count}
use Rattle.plan.specs.declared.Plan.{Plan}
use Rattle.plan.specs.Memory.{lines}
use Rattle.plan.proofs.Counted.{counted_length}
use Rattle.listing_reader.specs.Answer.{Counted, SomePlan, ReadsListing}
use Rattle.listing_reader.specs.Answer as reader
use Rattle.listing_reader.specs.declared.reader.Stated.{Stated}
use Rattle.refusals.specs.declared.Refusal.{Refusal}
use Rattle.refusals.specs.Numbers.{number_of, numbered}
use Rattle.checker_table.specs.Verdict.{answer_of}
use Rattle.checker_listing.specs.Stated.{stated_in}
use Rattle.checker_listing.specs.Listing.{Checks}

-- how many slots, processes, edges and conditions a plan in memory has
module _ (p : Plan) where
  pub counts : Counted (lines p) p.slots p.processes p.edges p.conditions
  unfolding lines
  counts =
      record {
        its_slots = sym (counted_length _ _ _ _);
        its_processes = sym (counted_length _ _ _ _);
        its_edges = sym (counted_length _ _ _ _);
        its_conditions = sym (counted_length _ _ _ _);
      }

  pub some_plan : plan_refusal (lines p) ≡ nothing → SomePlan p.slots p.processes p.edges p.conditions
  some_plan fine = record { plan = lines p; passes = fine; counted = counts }

-- what is stated has the words of whole entries and frames, within those lent
pub record WholeWords (s : Stated) (table frames : ℕ) : Type 0 where
  pub words_in : s.words ≤ table
  pub framewords_in : s.framewords ≤ frames
  pub whole_entries : s.words % 5 ≡ 0
  pub whole_frames : s.framewords % 3 ≡ 0
  pub few_frames : s.framewords ≤ PRINTEDFRAMEWORDS

-- the same of the first words of those lent
pub first_words : (s : Stated) (table frames : List ℕ) → WholeWords s (length table) (length frames) →
    (length (take s.words table) % 5 ≡ 0) × (length (take s.framewords frames) % 3 ≡ 0) × (length (take s.framewords frames) ≤ PRINTEDFRAMEWORDS)
first_words s table frames w =
    let n = length-take-le s.words table w.words_in in
    let m = length-take-le s.framewords frames w.framewords_in in
    (omega (arith, n, w.whole_entries), omega (arith, m, w.whole_frames), omega (arith, m, w.few_frames))

-- what the reader's answer tells: a refusal, or what the text states, in the front of the words
record Tells (p : Lines) (bytes : List ℕ) (s : Stated) (table frames passed table-now frames-now passed-now : List ℕ) : Type 0 where
  result : Result
  states : States p bytes result
  words : s.words ≡ length (entry_words result.entries)
  framewords : s.framewords ≡ length (frame_words result.frames)
  delay : s.delay ≡ result.delay
  in_table : table-now ≡ front (entry_words result.entries) table
  in_frames : frames-now ≡ front (frame_words result.frames) frames
  in_passed : passed-now ≡ front result.passed passed

module _ (p : Lines) (bytes table frames passed table-now frames-now passed-now : List ℕ) where
  told : (s : Stated) → ReadsListing p bytes (Ok s) table frames passed table-now frames-now passed-now → Tells p bytes s table frames passed table-now frames-now passed-now
  unfolding reader.answer_of listed_words listed_frames listed_counts
  told s h = at h.reading h.of_text h.answer h.words h.frame_words h.counts
    where
      at : (l : Listed) → AnswersListing p bytes l → Ok s ≡ reader.answer_of l → table-now ≡ listed_words l table → frames-now ≡ listed_frames l frames →
          passed-now ≡ listed_counts l passed →
          Tells p bytes s table frames passed table-now frames-now passed-now
      at (not_listed n) a e t f g = absurd (let z : ◌≡◌ {A = ℕ} 0 1 = cc in omega arith)
      at (listed r) (a_listing q m) e t f g =
          record { result = r; states = m; words = cc; framewords = cc; delay = cc; in_table = t; in_frames = f; in_passed = g }

  -- whole entries and frames, no more than there is room for
  pub whole_words : (s : Stated) → ReadsListing p bytes (Ok s) table frames passed table-now frames-now passed-now → PRINTEDWORDS ≤ length table → PRINTEDFRAMEWORDS ≤ length frames →
      WholeWords s (length table-now) (length frames-now)
  whole_words s h t f =
      let k = told s h in
      let n = entry_words_count k.result.entries in
      let m = frame_words_count k.result.frames in
      let a : s.words ≡ 5 * length k.result.entries = k.words ∙ n in
      let b : s.framewords ≡ 3 * length k.result.frames = k.framewords ∙ m in
      let i : length table-now ≡ length table = ap length k.in_table ∙ front_length (entry_words k.result.entries) table (omega (arith, n, k.states.few_entries, t)) in
      let j : length frames-now ≡ length frames = ap length k.in_frames ∙ front_length (frame_words k.result.frames) frames (omega (arith, m, k.states.few_frames, f)) in
      record {
        words_in = omega (arith, a, i, k.states.few_entries, t);
        framewords_in = omega (arith, b, j, k.states.few_frames, f);
        whole_entries = omega (arith, a);
        whole_frames = omega (arith, b);
        few_frames = omega (arith, b, k.states.few_frames);
      }

  -- the counts that were lent are as many as before
  pub counts_long : plan_refusal p ≡ nothing → (s : Stated) → ReadsListing p bytes (Ok s) table frames passed table-now frames-now passed-now →
      length passed ≡ NODES → length passed-now ≡ NODES
  counts_long fine s h l =
      let k = told s h in
      ap length k.in_passed ∙ front_length k.result.passed passed (omega (arith, k.states.count_for_each, (good p fine).few_slots, l)) ∙ l

  -- what was checked is what the text states
  same_stated : (s : Stated) (k : Tells p bytes s table frames passed table-now frames-now passed-now) →
      stated_in (take s.words table-now) (take s.framewords frames-now) s.delay (take (length p.slots) passed-now) ≡ k.result
  unfolding stated_in
  same_stated s k =
      let r : Result = k.result in
      let t : take s.words table-now ≡ entry_words r.entries = (λ i. take (k.words i) (k.in_table i)) ∙ front_written (entry_words r.entries) table in
      let f : take s.framewords frames-now ≡ frame_words r.frames = (λ i. take (k.framewords i) (k.in_frames i)) ∙ front_written (frame_words r.frames) frames in
      let es : entries_of (take s.words table-now) ≡ r.entries = ap entries_of t ∙ entries_back r.entries in
      let fs : frames_of (take s.framewords frames-now) ≡ r.frames = ap frames_of f ∙ frames_back r.frames in
      let ps : take (length p.slots) passed-now ≡ r.passed = (λ i. take (sym k.states.count_for_each i) (k.in_passed i)) ∙ front_written r.passed passed in
      λ i. record { delay = k.delay i; passed = ps i; entries = es i; frames = fs i }

  module _ (fine : plan_refusal p ≡ nothing) where
    pub refused_checks : (r : Refusal) → ReadsListing p bytes (Err r) table frames passed table-now frames-now passed-now → Checks p bytes (Err r)
    unfolding reader.answer_of listed_refusal answer_of
    refused_checks r h = at h.reading h.of_text h.answer
      where
        at : (l : Listed) → AnswersListing p bytes l → Err (number_of r) ≡ reader.answer_of l → Checks p bytes (Err r)
        at (not_listed m) a e =
            let q : number_of r ≡ m = cc in
            record { refusal = listed_refusal p (not_listed m); of_listing = by_listing (not_listed m) fine a; answer = λ i. Err (q i) }
        at (listed s) a e = absurd (let z : ◌≡◌ {A = ℕ} 0 1 = cc in omega arith)

    pub stated_checks : (slots : ℕ) → slots ≡ length p.slots → (s : Stated) (r : std.Result (Unit {0}) Refusal) → ReadsListing p bytes (Ok s) table frames passed table-now frames-now passed-now →
        numbered r ≡ answer_of (stated_refusal p (stated_in (take s.words table-now) (take s.framewords frames-now) s.delay (take slots passed-now))) → Checks p bytes r
    unfolding listed_refusal
    stated_checks slots n s r h e =
        let k = told s h in
        record {
          refusal = listed_refusal p (listed k.result);
          of_listing = by_listing (listed k.result) fine (a_listing k.result k.states);
          answer =
              e
              ∙ ap (λ (m : ℕ). answer_of (stated_refusal p (stated_in (take s.words table-now) (take s.framewords frames-now) s.delay (take m passed-now)))) n
              ∙ ap (λ (z : Result). answer_of (stated_refusal p z)) (same_stated s k);
        }
