-- Document 02, point 2, as a theorem: see specs/PointTwo.antt.
-- Assumes nothing.
use Rattle.std.specs.Prelude.{Ok}
use Prim.Native.Nat.{ℕ, ◌≤◌}
use mathlib.Core.Path.{◌≡◌, refl, sym, ap, subst, ◌∙◌}
use mathlib.Core.Bool.{false, ◌||◌}
use mathlib.Core.List.{List, ◌∷◌, ◌++◌}
use native.Mathlib.Omega.{arith}
use borrow.Author.Tests.{ltb-false, le-ltb}
use lib.Dec.{ltb}
use lib.ListN.{length, take}
use Rattle.lists.specs.Front.{front}
use Rattle.lists.proofs.Tests as tests
use Rattle.lists.proofs.Front.{front_written}
use Rattle.model.specs.Plan.{Lines}
use Rattle.model.specs.Refusals.{Refusal, nothing, refused, or_else, plan_refusal}
use Rattle.model.specs.Text.{Means, unless_refused, fitting, bytes_after}
use Rattle.model.specs.Table.{Result, made, result, entry_words, frame_words, room_refusal}
use Rattle.model.specs.Checking.{check, Sound}
use Rattle.model.specs.Lookup.{lookup}
use Rattle.model.specs.Listing.{words_listing, printed, plan_listing, listing_refusal}
use Rattle.model.specs.ListingText.{States, ChecksListing, ChecksTexts, ChecksInput, check_prints}
use Rattle.laws.proofs.Demand.{sound_runs_right}
use Rattle.laws.proofs.Good.{pass}
use Rattle.laws.proofs.Words.{entries_back, frames_back, words_back, entry_words_count, frame_words_count}
use Rattle.laws.proofs.Sound.{sound_iff}
use Rattle.text_grammar.proofs.Whole.{means_unique}
use Rattle.listing_grammar.proofs.Whole.{states_unique}
use Rattle.listing_grammar.proofs.Tables.{listed_table, table_states}
use Rattle.listing_grammar.proofs.Answered.{AcceptedListing as Has, listing_accepted, accepted_checks, checks_unique, texts_unique, own_checks, own_input}
use Rattle.listing_grammar.proofs.Longer.{longer_alike}
use Rattle.refusals.specs.Numbers.{numbered}
use Rattle.refusals.proofs.Numbered.{is_ok}
use Rattle.plan.specs.declared.Plan.{Plan}
use Rattle.plan.specs.Memory.{lines}
use Rattle.text_lines.specs.Answer as writer
use Rattle.listing.specs.Answer as listing-answer
use Rattle.checker_table.specs.Verdict.{answer_of}
use Rattle.checker_table.proofs.AcceptedSound.{accepted_sound}
use Rattle.checker_listing.specs.Listing.{Checks}
use Rattle.c_check.specs.Checks.{checked_number}
use Rattle.c_interface.specs.Listings.{ChecksListingText}
use Rattle.demands.specs.Calls.{Outcome}
use Rattle.demands.specs.Calls as calls
use Rattle.demands.specs.Kernel.{asked}
use Rattle.demands.specs.Sentences.{plan_sentences, room_sentences, listing_sentences, FirstOfText, exceeds, not_of_the_form, of_lines, FirstOfTexts, text_exceeds, text_not_of_the_form, of_text}
use Rattle.demands.specs.Two.{NotRefused, Plans, ListedPlan}
use Rattle.demands.specs.PointTwo.{AcceptedListing, AcceptedFor, listing_of, CanBeListed, Point2}
use Rattle.demands.proofs.Firsts.{plan_first, plan_then, listing_first, room_first, text_some}
use Rattle.demands.proofs.Listings.{checks_first, first_checks, texts_first, first_texts, texts_number}
use Rattle.demands.proofs.One.{demand_one}
use Rattle.demands.proofs.Two.{none_applies, neither, demand_two}
use Rattle.demands.proofs.Three.{means_back}
use Rattle.demands.proofs.Contracts.{write_listing_says, check_table_says, check_listing_says, print_check_says, c_check_listing_says, lookup_says}

-- an answer of none is that nothing is refused
none_answered : (x : Refusal) → answer_of x ≡ Ok tt → x ≡ nothing
unfolding answer_of
none_answered nothing e = refl
none_answered (refused n) e = absurd (let z : ◌≡◌ {A = ℕ} 0 1 = cc in omega arith)

-- in memory
module _ (p : Plan) (bytes : List ℕ) where
  has : Has (lines p) bytes → AcceptedListing (lines p) bytes
  has h = record { stated = h.stated; states = h.states; sound = h.has.sound; its_frames = h.has.its_frames; its_counts = h.has.its_counts }

  accepted_has : (r : Outcome (Unit {0})) → Checks (lines p) bytes r → r ≡ Ok tt → AcceptedListing (lines p) bytes
  accepted_has r c e =
      let q = none_answered c.refusal (sym c.answer ∙ ap numbered e) in
      has (listing_accepted (lines p) (subst (ChecksListing (lines p) bytes) q c.of_listing))

has_back : (p : Lines) (bytes : List ℕ) → AcceptedListing p bytes → Has p bytes
has_back p bytes a =
    record { stated = a.stated; states = a.states; has = record { sound = a.sound; its_frames = a.its_frames; its_counts = a.its_counts } }

has_accepted : (p : Plan) (bytes : List ℕ) (r : Outcome (Unit {0})) → Checks (lines p) bytes r → AcceptedListing (lines p) bytes → r ≡ Ok tt
unfolding answer_of
has_accepted p bytes r c a =
    let q : c.refusal ≡ nothing = checks_unique (lines p) c.of_listing (accepted_checks (lines p) (has_back (lines p) bytes a)) in
    is_ok r tt (c.answer ∙ ap answer_of q)

-- the plan of an accepted listing meets none of 2 to 9, and what it states is the one thing that it can state
accepted_sound_of : (p : Plan) (bytes : List ℕ) → calls.CheckListing p bytes (Ok tt) → (s : Result) → States (lines p) bytes s →
    Sound (lines p) (entry_words s.entries) s.delay
unfolding check
accepted_sound_of p bytes c s m =
    let a = accepted_has p bytes (Ok tt) (check_listing_says c) refl in
    let fine : plan_refusal (lines p) ≡ nothing = (neither (plan_refusal (lines p)) _ a.sound).0 in
    let q : a.stated ≡ s = states_unique (lines p) fine a.states m in
    subst (λ (z : Result). Sound (lines p) (entry_words z.entries) z.delay) q a.sound

-- from C
zero_none : (x : Refusal) (answer : ℕ) → ((n : ℕ) → x ≡ refused n → n ≤ 22) → answer ≡ checked_number x → answer ≡ 0 → x ≡ nothing
unfolding checked_number
zero_none nothing answer h e z = refl
zero_none (refused n) answer h e z = absurd (let l = h n refl in omega (arith, l, e, z))

module _ (text bytes : List ℕ) (answer : ℕ) (c : ChecksListingText text bytes answer) where
  none_found : answer ≡ 0 → FirstOfTexts text bytes nothing
  none_found z =
      let f = texts_first text bytes c.of_texts in
      let q = zero_none c.refusal answer (λ n e. (texts_number text bytes f n e).1) c.number z in
      subst (FirstOfTexts text bytes) q f

  texts_zero : ChecksTexts text bytes nothing → answer ≡ 0
  unfolding checked_number
  texts_zero k = c.number ∙ ap checked_number (texts_unique c.of_texts k)

accepted_for : (text bytes : List ℕ) (x : Refusal) → FirstOfTexts text bytes x → x ≡ nothing → AcceptedFor text bytes
accepted_for text bytes x (text_exceeds l) e = absurd (let z : ◌≡◌ {A = ℕ} 0 1 = cc in omega arith)
accepted_for text bytes x (text_not_of_the_form f) e = absurd (let z : ◌≡◌ {A = ℕ} 0 1 = cc in omega arith)
accepted_for text bytes x (of_text p y m l c) e =
    let h = listing_accepted p (subst (ChecksListing p bytes) e (first_checks p bytes c)) in
    record {
      plan = p;
      means = m;
      short = l;
      accepted = record { stated = h.stated; states = h.states; sound = h.has.sound; its_frames = h.has.its_frames; its_counts = h.has.its_counts };
    }

for_texts : (text bytes : List ℕ) → AcceptedFor text bytes → ChecksTexts text bytes nothing
for_texts text bytes a =
    first_texts text bytes
    (of_text a.plan nothing a.means a.short
    (checks_first a.plan bytes (accepted_checks a.plan (has_back a.plan bytes a.accepted))))

-- how many entries and frames fit the words that the planner is lent
module _ (p : Lines) where
  entries_fit : ltb 15000 (length (entry_words (result p).entries)) ≡ false → length (result p).entries ≤ 3000
  entries_fit e = omega (arith, ltb-false 15000 (length (entry_words (result p).entries)) e, entry_words_count (result p).entries)

  frames_fit : ltb 6000 (length (frame_words (result p).frames)) ≡ false → length (result p).frames ≤ 2000
  frames_fit e = omega (arith, ltb-false 6000 (length (frame_words (result p).frames)) e, frame_words_count (result p).frames)

  own_listing : plan_refusal p ≡ nothing → length (result p).entries ≤ 3000 → length (result p).frames ≤ 2000 → ChecksListing p (plan_listing p) nothing
  unfolding plan_listing
  own_listing fine a b = own_checks p fine a b

-- a plan that was listed
record Own (text : List ℕ) : Type 0 where
  plan : Lines
  means : Means text plan
  short : length text ≤ 16384
  checks : ChecksListing plan (plan_listing plan) nothing

own_of : (text : List ℕ) (lent : ℕ) (x : Refusal) → FirstOfText text (λ p. plan_sentences p ++ listing_sentences p lent) x → x ≡ nothing → Own text
unfolding listing_refusal
own_of text lent x (exceeds l) e = absurd (let z : ◌≡◌ {A = ℕ} 0 1 = cc in omega arith)
own_of text lent x (not_of_the_form f) e = absurd (let z : ◌≡◌ {A = ℕ} 0 1 = cc in omega arith)
own_of text lent x (of_lines p m l) e =
    let n = neither (plan_refusal p) (listing_refusal p lent) (ap (or_else (plan_refusal p)) (sym (listing_first p lent)) ∙ sym (plan_then p (listing_sentences p lent)) ∙ e) in
    let a = pass 10 (ltb 15000 (length (entry_words (result p).entries)) || ltb lent (length (plan_listing p))) _ n.1 in
    let b = pass 11 (ltb 6000 (length (frame_words (result p).frames))) nothing a.1 in
    let c = tests.neither (ltb 15000 (length (entry_words (result p).entries))) (ltb lent (length (plan_listing p))) a.0 in
    record { plan = p; means = m; short = l; checks = own_listing p n.0 (entries_fit p c.0) (frames_fit p b.0) }

-- the bytes written are the plan's listing
written_listing : (text out out-now : List ℕ) (count : ℕ) (o : Own text) → ListedPlan text out out-now count → ChecksTexts text (take count out-now) nothing
written_listing text out out-now count o w =
    let q : o.plan ≡ w.plan = means_unique o.means w.means in
    let b : take count out-now ≡ plan_listing o.plan =
    ap (λ (k : ℕ). take k out-now) w.counted ∙ ap (take (length (plan_listing w.plan))) w.bytes ∙ front_written (plan_listing w.plan) out ∙ ap plan_listing (sym q) in
    subst (λ (z : List ℕ). ChecksTexts text z nothing) (sym b)
    (first_texts text (plan_listing o.plan) (of_text o.plan nothing o.means o.short (checks_first o.plan (plan_listing o.plan) o.checks)))

planned_accepted : (text out out-now : List ℕ) (count : ℕ) → calls.ListPlan text out out-now (Ok count) →
    (answer : ℕ) → calls.CCheckListing text (take count out-now) answer → answer ≡ 0
planned_accepted text out out-now count c answer k =
    let x = text_some text (λ p. plan_sentences p ++ listing_sentences p (length out)) in
    let q = none_applies (demand_one.listing_plan text out out-now (Ok count) c) (λ n e. absurd (let z : ◌≡◌ {A = ℕ} 0 1 = cc in omega arith)) x.0 x.1 in
    texts_zero text (take count out-now) answer (c_check_listing_says k)
    (written_listing text out out-now count (own_of text (length out) x.0 x.1 q) (demand_two.listed text out out-now count c))

c_planned_accepted : (text out out-now : List ℕ) (count : ℕ) → calls.CPlanListing text out out-now count → NotRefused count →
    (answer : ℕ) → calls.CCheckListing text (take count out-now) answer → answer ≡ 0
c_planned_accepted text out out-now count c not answer k =
    let x = text_some text (λ p. plan_sentences p ++ listing_sentences p (length out)) in
    let q = none_applies (demand_one.c_listing_plan text out out-now count c) not x.0 x.1 in
    texts_zero text (take count out-now) answer (c_check_listing_says k)
    (written_listing text out out-now count (own_of text (length out) x.0 x.1 q) (demand_two.c_listed text out out-now count c not))

-- the two programs
input_accepted : (text : List ℕ) (x : Refusal) → FirstOfText text (λ p. plan_sentences p ++ room_sentences (result p) 15000 6000) x → x ≡ nothing →
    (p : Lines) × Plans text p × ChecksInput (text ++ (10 ∷ plan_listing p)) nothing
unfolding room_refusal plan_listing
input_accepted text x (exceeds l) e = absurd (let z : ◌≡◌ {A = ℕ} 0 1 = cc in omega arith)
input_accepted text x (not_of_the_form f) e = absurd (let z : ◌≡◌ {A = ℕ} 0 1 = cc in omega arith)
input_accepted text x (of_lines p m l) e =
    let n = neither (plan_refusal p) (room_refusal (result p) 15000 6000) (ap (or_else (plan_refusal p)) (sym (room_first (result p) 15000 6000)) ∙ sym (plan_then p (room_sentences (result p) 15000 6000)) ∙ e) in
    let a = pass 10 (ltb 15000 (length (entry_words (result p).entries))) _ n.1 in
    let b = pass 11 (ltb 6000 (length (frame_words (result p).frames))) nothing a.1 in (
      p,
      record { means = m; short = l; fine = e },
      subst (λ (t : List ℕ). ChecksInput (t ++ (10 ∷ printed p (made (result p)))) nothing) m.prints (own_input p n.0 (entries_fit p a.0) (frames_fit p b.0)),
    )

printed_accepted : (text out out-now : List ℕ) (count : ℕ) → calls.PrintAll text out out-now count →
    FirstOfText text (λ p. plan_sentences p ++ room_sentences (result p) 15000 6000) nothing →
    (verdict verdict-now : List ℕ) (many : ℕ) → calls.PrintCheck (text ++ (10 ∷ take count out-now)) verdict verdict-now many →
    (many ≡ length (check_prints nothing)) × (verdict-now ≡ front (check_prints nothing) verdict)
printed_accepted text out out-now count c f verdict verdict-now many k =
    let i = input_accepted text nothing f refl in
    let w = demand_two.printed text out out-now count c i.0 i.1 in
    let b : take count out-now ≡ plan_listing i.0 = ap (λ (z : ℕ). take z out-now) w.0 ∙ ap (take (length (plan_listing i.0))) w.1 ∙ front_written (plan_listing i.0) out in
    let s = print_check_says k in
    let q : s.refusal ≡ nothing = texts_unique s.of_input (subst (λ (z : List ℕ). ChecksInput (text ++ (10 ∷ z)) nothing) (sym b) i.2) in
    (s.counted ∙ ap (λ (z : Refusal). length (check_prints z)) q, s.bytes ∙ ap (λ (z : Refusal). front (check_prints z) verdict) q)

-- printed again: the words of what a text states print as it
same_listing : (p : Lines) (bytes : List ℕ) (s : Result) → States p bytes s → (passed : List ℕ) → take (length p.slots) passed ≡ s.passed →
    words_listing p s.delay passed (entry_words s.entries) (frame_words s.frames) ≡ bytes
unfolding words_listing
same_listing p bytes s m passed e = rw (entries_back s.entries, frames_back s.frames, e) m.prints

written_whole : (bytes out out-now : List ℕ) (r : Outcome ℕ) → numbered r ≡ writer.answer_of (listing-answer.written_of (length out) bytes) →
    out-now ≡ bytes_after (listing-answer.written_of (length out) bytes) out → length bytes ≤ length out → (r ≡ Ok (length bytes)) × (out-now ≡ front bytes out)
unfolding listing-answer.written_of fitting unless_refused bytes_after
written_whole bytes out out-now r e b l =
    let q : ltb (length out) (length bytes) ≡ false = le-ltb (length out) (length bytes) l in
    (is_ok r (length bytes) (e ∙ rw q), b ∙ rw q)

-- an accepted table, printed
module _ (p : Plan) (table : List ℕ) (delay : ℕ) (c : calls.CheckTable p table delay (Ok tt)) (h : CanBeListed (lines p) table delay) where
  sound : Sound (lines p) table delay
  sound = (accepted_sound p table delay).0 (sym (check_table_says c))

  fine : plan_refusal (lines p) ≡ nothing
  unfolding check
  fine = (neither (plan_refusal (lines p)) _ sound).0

  abbrev given : Result
  given = listed_table (lines p) fine table delay sound h.value_words h.nine_digits h.in_order h.few_entries h.few_frames

  given_states : States (lines p) (listing_of (lines p) table delay) given
  given_states = table_states (lines p) fine table delay sound h.value_words h.nine_digits h.in_order h.few_entries h.few_frames

  read_again : (s : Result) → States (lines p) (listing_of (lines p) table delay) s → (entry_words s.entries ≡ table) × (s.delay ≡ delay)
  read_again s m =
      let q : given ≡ s = states_unique (lines p) fine given_states m in
      (ap (λ (z : Result). entry_words z.entries) (sym q) ∙ words_back table ((sound_iff (lines p) table delay).0 sound).1, ap (λ (z : Result). z.delay) (sym q))

  listed_accepted : (r : Outcome (Unit {0})) → calls.CheckListing p (listing_of (lines p) table delay) r → r ≡ Ok tt
  listed_accepted r k =
      has_accepted p (listing_of (lines p) table delay) r (check_listing_says k)
      (record {
        stated = given;
        states = given_states;
        sound = rw (words_back table ((sound_iff (lines p) table delay).0 sound).1) sound;
        its_frames = refl;
        its_counts = refl;
      })

pub point_2 : Point2
point_2 =
    record {
      one_meaning = λ p f bytes r s a b. states_unique p (sym (plan_first p) ∙ f) a b;
      accepts = λ p bytes r c. (accepted_has p bytes r (check_listing_says c), has_accepted p bytes r (check_listing_says c));
      c_accepts = λ text bytes answer c.
          (let k = c_check_listing_says c in
          (λ z. accepted_for text bytes nothing (none_found text bytes answer k z) refl, λ a. texts_zero text bytes answer k (for_texts text bytes a)));
      accepted_as_words = λ p bytes c s m r k.
          is_ok r tt (check_table_says k ∙ (accepted_sound p (entry_words s.entries) s.delay).1 (accepted_sound_of p bytes c s m));
      runs_right = λ p bytes c s m answers keeps.
          sound_runs_right (lines p) (entry_words s.entries) s.delay (asked answers) (accepted_sound_of p bytes c s m)
          (λ n t h v from a b d e f. means_back (answers n t h v from) (lookup (lines p) (entry_words s.entries) n t h v from) (lookup_says (keeps n t h v from a b d e f)));
      planned_accepted = planned_accepted;
      c_planned_accepted = c_planned_accepted;
      printed_accepted = printed_accepted;
      printed_again = λ p bytes s m out out-now r passed e c l.
          (let w = write_listing_says c in
          let q = same_listing (lines p) bytes s m passed e in
          written_whole bytes out out-now r (w.0 ∙ ap (λ (z : List ℕ). writer.answer_of (listing-answer.written_of (length out) z)) q)
          (w.1 ∙ ap (λ (z : List ℕ). bytes_after (listing-answer.written_of (length out) z) out) q) l);
      read_again = λ p table delay c h s m. read_again p table delay c h s m;
      listed_accepted = λ p table delay c h r k. listed_accepted p table delay c h r k;
      longer_alike = longer_alike;
    }
