-- Every listing text, and every input, has exactly one answer; an accepted listing has a sound table, and what the
-- planner prints is accepted.
-- Assumes nothing.
use mathlib.Core.Path.{◌≡◌, refl, ap, sym, subst, ◌∙◌}
use mathlib.Core.Bool.{Bool, true, false}
use mathlib.Core.List.{List, ◌∷◌, ◌++◌, Memᴰ as In}
use Prim.Native.Nat.{ℕ, ◌^◌, ◌≤◌, ◌<◌}
use native.Mathlib.Omega.{arith}
use borrow.Author.Tests.{ltb-true, ltb-false}
use lib.Dec.{ltb}
use lib.ListN.{length}
use Rattle.lists.specs.Ordered.{Ascending}
use Rattle.model.specs.Plan.{Lines}
use Rattle.model.specs.Refusals.{Refusal, nothing, refused, plan_refusal}
use Rattle.model.specs.Table.{Entry, Result, key, made, result, frames, entry_words, entries_of}
use Rattle.model.specs.Checking.{table_refusal, check, Sound}
use Rattle.model.specs.Text.{print, Reading, reads, after_refusal, AnswersText, too_long, of_no_form, of_form}
use Rattle.model.specs.Listing.{listing, printed}
use Rattle.model.specs.ListingText.{plan_part, listing_part, Listed, listed, not_listed, States, AnswersListing, no_listing, a_listing, listed_refusal, stated_refusal, ChecksListing, by_plan, by_listing, ChecksTexts, no_plan, a_plan, ChecksInput}
use Rattle.laws.proofs.Accepted.{Accepted, accepted, accepts}
use Rattle.laws.proofs.Good.{or_nothing}
use Rattle.laws.proofs.Sound.{sound_iff}
use Rattle.laws.proofs.Words.{words_back}
use Rattle.text_grammar.specs.Parse.{Whole, no_lines, got_lines, read_lines}
use Rattle.text_grammar.proofs.Parsed.{not_lines}
use Rattle.text_grammar.proofs.Whole.{read_means, means_read}
use Rattle.text_grammar.proofs.Answers.{answers_unique, written_read}
use Rattle.listing_grammar.specs.Parse.{Read, no_reading, read}
use Rattle.listing_grammar.specs.Cases.{answer_listing, answer_plan, check_input}
use Rattle.listing_grammar.proofs.Whole.{reading, states_read, read_states, states_unique, listing_unique}
use Rattle.listing_grammar.proofs.Tables.{ascending_rows, listed_table, table_states, table_accepted, own_states, own_accepted}
use Rattle.listing_grammar.proofs.Splitting.{plan_first, listing_next}

-- a refusal is not none
not_none : {A : Type 0} {n : ℕ} → refused n ≡ nothing → A
not_none h = absurd (let z : ◌≡◌ {A = ℕ} 0 1 = cc in omega arith)

-- a plan that is read is one in which 2 to 9 find nothing
pub reads_fine : {bytes : List ℕ} {p : Lines} → AnswersText bytes (reads p) → plan_refusal p ≡ nothing
unfolding after_refusal
reads_fine {bytes} {p} a = at a refl
  where
    of : (x : Refusal) (q : Lines) → after_refusal x q ≡ reads p → (x ≡ nothing) × (q ≡ p)
    of nothing q h = (refl, cc)
    of (refused n) q h = absurd (let z : ◌≡◌ {A = ℕ} 0 1 = cc in omega arith)

    at : {r : Reading} → AnswersText bytes r → r ≡ reads p → plan_refusal p ≡ nothing
    at (too_long l) h = absurd (let z : ◌≡◌ {A = ℕ} 0 1 = cc in omega arith)
    at (of_no_form f) h = absurd (let z : ◌≡◌ {A = ℕ} 0 1 = cc in omega arith)
    at (of_form q m l) h = let o = of (plan_refusal q) q h in ap plan_refusal (sym o.1) ∙ o.0

-- every listing and every input has an answer, which the function gives
pub listing_answered : (p : Lines) → plan_refusal p ≡ nothing → (s : List ℕ) → ChecksListing p s (answer_listing p (reading p s))
unfolding listed_refusal answer_listing
listing_answered p fine s = at (reading p s) refl
  where
    at : (x : Read) → reading p s ≡ x → ChecksListing p s (answer_listing p (reading p s))
    at no_reading e = rw e (by_listing (not_listed 21) fine (no_listing (λ r m. absurd (let z = sym e ∙ states_read p fine m in let y : ◌≡◌ {A = ℕ} 0 1 = cc in omega arith))))
    at (read r) e = rw e (by_listing (listed r) fine (a_listing r (read_states p fine e)))

pub check_answers : (input : List ℕ) → ChecksInput input (check_input input)
unfolding check_input answer_plan after_refusal
check_answers input = at (ltb 16384 (length s)) refl (read_lines s) refl
  where
    s : List ℕ
    s = plan_part input

    t : List ℕ
    t = listing_part input

    of_plan : (p : Lines) → AnswersText s (after_refusal (plan_refusal p) p) → (x : Refusal) → plan_refusal p ≡ x →
        ChecksInput input (elim x [ nothing ↦ answer_listing p (reading p t) | refused n ↦ refused n ])
    of_plan p a nothing e =
        a_plan p (answer_listing p (reading p t)) (subst (λ (x : Refusal). AnswersText s (after_refusal x p)) e a)
        (listing_answered p e t)
    of_plan p a (refused n) e = no_plan n (subst (λ (x : Refusal). AnswersText s (after_refusal x p)) e a)

    at : (b : Bool) → ltb 16384 (length s) ≡ b → (w : Whole) → read_lines s ≡ w →
        ChecksInput input (elim b [ true ↦ refused 1 | false ↦ answer_plan (read_lines s) t ])
    at true l w e = no_plan 1 (too_long (ltb-true 16384 (length s) l))
    at false l no_lines e = rw e (no_plan 1 (of_no_form (λ p m. not_lines (sym e ∙ means_read m))))
    at false l (got_lines p) e = rw e (of_plan p (of_form p (read_means e) (ltb-false 16384 (length s) l)) (plan_refusal p) refl)

-- and no other
pub checks_unique : (p : Lines) {bytes : List ℕ} {r s : Refusal} → ChecksListing p bytes r → ChecksListing p bytes s → r ≡ s
checks_unique p (by_plan n e) (by_plan m f) = sym e ∙ f
checks_unique p (by_plan n e) (by_listing l f a) = not_none (sym e ∙ f)
checks_unique p (by_listing l e a) (by_plan m f) = not_none (sym f ∙ e)
checks_unique p (by_listing l e a) (by_listing m f b) = ap (listed_refusal p) (listing_unique p e a b)

pub texts_unique : {plan bytes : List ℕ} {r s : Refusal} → ChecksTexts plan bytes r → ChecksTexts plan bytes s → r ≡ s
texts_unique (no_plan n a) (no_plan m b) = let q = answers_unique a b in ap refused (cc)
texts_unique (no_plan n a) (a_plan p r b c) = absurd (let q = answers_unique a b in let z : ◌≡◌ {A = ℕ} 0 1 = cc in omega arith)
texts_unique (a_plan p r a c) (no_plan m b) = absurd (let q = answers_unique a b in let z : ◌≡◌ {A = ℕ} 0 1 = cc in omega arith)
texts_unique {bytes = bytes} (a_plan p r a c) (a_plan q s b d) =
    let e : p ≡ q = let z = answers_unique a b in cc in
    checks_unique q (subst (λ (x : Lines). ChecksListing x bytes r) e c) d

-- "An accepted listing has everything an accepted table has."
pub record AcceptedListing (p : Lines) (bytes : List ℕ) : Type 0 where
  pub stated : Result
  pub states : States p bytes stated
  pub has : Accepted p stated

pub listing_accepted : (p : Lines) {bytes : List ℕ} → ChecksListing p bytes nothing → AcceptedListing p bytes
unfolding listed_refusal
listing_accepted p {bytes} a = at a refl
  where
    at : {r : Refusal} → ChecksListing p bytes r → r ≡ nothing → AcceptedListing p bytes
    at (by_plan n e) h = not_none h
    at (by_listing (not_listed n) f b) h = not_none h
    at (by_listing (listed r) f b) h = record { stated = r; states = of b refl; has = accepted p r f h }
      where
        of : {l : Listed} → AnswersListing p bytes l → l ≡ listed r → States p bytes r
        of (no_listing k) h = absurd (let z : ◌≡◌ {A = ℕ} 0 1 = cc in omega arith)
        of (a_listing q m) h = let e : q ≡ r = cc in subst (States p bytes) e m

pub accepted_checks : (p : Lines) {bytes : List ℕ} → AcceptedListing p bytes → ChecksListing p bytes nothing
unfolding listed_refusal check
accepted_checks p {bytes} a =
    let r : Result = a.stated in
    let fine = (or_nothing (plan_refusal p) (table_refusal p (entry_words r.entries) r.delay) a.has.sound).0 in
    subst (ChecksListing p bytes) (accepts p r a.has) (by_listing (listed r) fine (a_listing r a.states))

-- the planner's own listing, and the same behind its plan and an empty line
module _ (p : Lines) (fine : plan_refusal p ≡ nothing) (few_entries : length (result p).entries ≤ 3000) (few_frames : length (result p).frames ≤ 2000) where
  abbrev own : List ℕ
  own = printed p (made (result p))

  pub own_checks : ChecksListing p own nothing
  unfolding listed_refusal
  own_checks =
      subst (ChecksListing p own) (own_accepted p fine few_entries few_frames)
      (by_listing (listed (result p)) fine (a_listing (result p) (own_states p fine few_entries few_frames)))

  pub own_input : ChecksInput (print p ++ (10 ∷ own)) nothing
  own_input =
      a_plan p nothing (subst (λ (s : List ℕ). AnswersText s (reads p)) (sym (plan_first p own)) (written_read p fine))
      (subst (λ (s : List ℕ). ChecksListing p s nothing) (sym (listing_next p own)) own_checks)

-- "A printed table read and printed again is byte for byte the same": an accepted listing printed again from its
-- entries, its delay and its plan, in whatever order the lines of a row stand.
pub printed_again : {bytes : List ℕ} {p : Lines} {r : Result} → States p bytes r → Accepted p r →
    listing p r.delay (result p).passed r.entries (frames p r.entries) ≡ bytes
printed_again {p = p} {r = r} m a = (λ i. listing p r.delay (sym a.its_counts i) r.entries (sym a.its_frames i)) ∙ m.prints

-- A sound table in the planner's order, printed and read, is read as that table.
pub table_reread : (p : Lines) (ws : List ℕ) (stated : ℕ) → plan_refusal p ≡ nothing → Sound p ws stated →
    ((e : Entry) → In e (entries_of ws) → e.values < 2 ^ 32) → stated < 1000000000 → Ascending key (entries_of ws) →
    length (entries_of ws) ≤ 3000 → length (frames p (entries_of ws)) ≤ 2000 →
    (r : Result) → States p (listing p stated (result p).passed (entries_of ws) (frames p (entries_of ws))) r →
    (entry_words r.entries ≡ ws) × (r.delay ≡ stated) × (stated_refusal p r ≡ nothing)
table_reread p ws stated fine sound word nine ascends few_entries few_frames r m =
    let ordered = ascending_rows 0 (entries_of ws) (λ e m. omega arith) ascends in
    let q : listed_table p fine ws stated sound word nine ordered few_entries few_frames ≡ r =
    states_unique p fine (table_states p fine ws stated sound word nine ordered few_entries few_frames) m in (
      ap (λ (z : Result). entry_words z.entries) (sym q) ∙ words_back ws ((sound_iff p ws stated).0 sound).1,
      ap (λ (z : Result). z.delay) (sym q),
      ap (stated_refusal p) (sym q) ∙ table_accepted p fine ws stated sound word nine ordered few_entries few_frames,
    )
