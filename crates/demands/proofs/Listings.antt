-- The refusal that the model answers to a listing is the first sentence that applies, for a plan in memory and for a
-- plan text; and to every plan text with a listing one applies first, or none.
-- Assumes nothing.
use Rattle.std.specs.Prelude.{Ok, Err}
use Prim.Native.Nat.{ℕ, ◌≤◌}
use mathlib.Core.Path.{◌≡◌, refl, sym, ap, subst, ◌∙◌}
use mathlib.Core.Bool.{◌||◌}
use mathlib.Core.List.{List, ◌++◌}
use native.Mathlib.Omega.{arith}
use lib.ListN.{length}
use Rattle.limits.specs.Limits.{LASTREFUSAL}
use Rattle.lists.specs.Front.{front}
use Rattle.model.specs.Plan.{Lines}
use Rattle.model.specs.Refusals.{Refusal, nothing, refused, sentence, or_else, plan_refusal}
use Rattle.model.specs.Text.{Means, Reading, reads, not_read, after_refusal, AnswersText, too_long, of_no_form, of_form}
use Rattle.model.specs.Table.{Result, entry_words}
use Rattle.model.specs.ListingText.{listed, not_listed, no_listing, a_listing, other_frames, other_counts, stated_refusal, listed_refusal, ChecksListing, by_plan, by_listing, ChecksTexts, no_plan, a_plan, plan_part, listing_part, check_prints}
use Rattle.refusals.specs.Numbers.{numbered}
use Rattle.plan.specs.declared.Plan.{Plan}
use Rattle.plan.specs.Memory.{lines}
use Rattle.checker_listing.specs.Listing as checker-listing
use Rattle.check_program.specs.Answer.{Prints}
use Rattle.c_interface.specs.Listings.{ChecksListingText}
use Rattle.text_grammar.proofs.Answers.{one_answer}
use Rattle.listing_grammar.proofs.Answered.{listing_answered, checks_unique, texts_unique}
use Rattle.demands.specs.Calls.{Outcome}
use Rattle.demands.specs.Sentences.{first, plan_sentences, table_sentences, frame_sentences, FirstOfListing, not_of_its_form, of_what_it_states, FirstOfCheck, of_plan, of_listing, FirstOfTexts, text_exceeds, text_not_of_the_form, of_text, KeepsTo, InNumber}
use Rattle.demands.proofs.Firsts.{plan_first, table_first, first_append, number_listed, keeps}
use Rattle.demands.proofs.Told.{told_checked}
use Rattle.demands.proofs.OneC.{checked_told}

-- 12 to 20 and 22 on what a listing states
stated_first : (p : Lines) (r : Result) →
    first (table_sentences p (entry_words r.entries) r.delay ++ frame_sentences p r) ≡ stated_refusal p r
unfolding stated_refusal frame_sentences first
stated_first p r =
    first_append (table_sentences p (entry_words r.entries) r.delay) (frame_sentences p r)
    ∙ ap (λ (x : Refusal). or_else x (sentence 22 (other_frames p r || other_counts p r) nothing)) (table_first p (entry_words r.entries) r.delay)

pub checks_first : (p : Lines) (bytes : List ℕ) {x : Refusal} → ChecksListing p bytes x → FirstOfCheck p bytes x
unfolding listed_refusal
checks_first p bytes (by_plan n e) = of_plan n (plan_first p ∙ e)
checks_first p bytes (by_listing l e (no_listing f)) = of_listing (refused 21) (plan_first p ∙ e) (not_of_its_form f)
checks_first p bytes (by_listing l e (a_listing r s)) =
    of_listing (stated_refusal p r) (plan_first p ∙ e) (subst (FirstOfListing p bytes) (stated_first p r) (of_what_it_states r s))

pub first_checks : (p : Lines) (bytes : List ℕ) {x : Refusal} → FirstOfCheck p bytes x → ChecksListing p bytes x
unfolding listed_refusal
first_checks p bytes (of_plan n e) = by_plan n (sym (plan_first p) ∙ e)
first_checks p bytes (of_listing x e (not_of_its_form f)) = by_listing (not_listed 21) (sym (plan_first p) ∙ e) (no_listing f)
first_checks p bytes (of_listing x e (of_what_it_states r s)) =
    subst (ChecksListing p bytes) (sym (stated_first p r)) (by_listing (listed r) (sym (plan_first p) ∙ e) (a_listing r s))

pub check_one : (p : Lines) (bytes : List ℕ) (x y : Refusal) → FirstOfCheck p bytes x → FirstOfCheck p bytes y → x ≡ y
check_one p bytes x y a b = checks_unique p (first_checks p bytes a) (first_checks p bytes b)

-- a text that is not read, and one that is read
refused_one : (x : Refusal) (p : Lines) (n : ℕ) → after_refusal x p ≡ not_read n → x ≡ refused n
unfolding after_refusal
refused_one nothing p n e = absurd (let z : ◌≡◌ {A = ℕ} 0 1 = cc in omega arith)
refused_one (refused m) p n e = let q : m ≡ n = cc in ap refused q

read_one : (x : Refusal) (q p : Lines) → after_refusal x q ≡ reads p → q ≡ p
unfolding after_refusal
read_one nothing q p e = cc
read_one (refused m) q p e = absurd (let z : ◌≡◌ {A = ℕ} 0 1 = cc in omega arith)

pub texts_first : (text bytes : List ℕ) {x : Refusal} → ChecksTexts text bytes x → FirstOfTexts text bytes x
texts_first text bytes (no_plan n a) = at a refl
  where
    at : {r : Reading} → AnswersText text r → r ≡ not_read n → FirstOfTexts text bytes (refused n)
    at (too_long l) h = let q : 1 ≡ n = cc in subst (λ (k : ℕ). FirstOfTexts text bytes (refused k)) q (text_exceeds l)
    at (of_no_form f) h = let q : 1 ≡ n = cc in subst (λ (k : ℕ). FirstOfTexts text bytes (refused k)) q (text_not_of_the_form f)
    at (of_form p m l) h = of_text p (refused n) m l (of_plan n (plan_first p ∙ refused_one (plan_refusal p) p n h))
texts_first text bytes (a_plan p x a c) = at a refl
  where
    at : {r : Reading} → AnswersText text r → r ≡ reads p → FirstOfTexts text bytes x
    at (too_long l) h = absurd (let z : ◌≡◌ {A = ℕ} 0 1 = cc in omega arith)
    at (of_no_form f) h = absurd (let z : ◌≡◌ {A = ℕ} 0 1 = cc in omega arith)
    at (of_form q m l) h =
        let e : q ≡ p = read_one (plan_refusal q) q p h in
        of_text q x m l (checks_first q bytes (subst (λ (z : Lines). ChecksListing z bytes x) (sym e) c))

-- the text's answer, where its lines are known
read_of : (text : List ℕ) (p : Lines) → Means text p → length text ≤ 16384 → (z : Refusal) → plan_refusal p ≡ z → AnswersText text (after_refusal z p)
read_of text p m l z e = subst (λ (x : Refusal). AnswersText text (after_refusal x p)) e (of_form p m l)

pub first_texts : (text bytes : List ℕ) {x : Refusal} → FirstOfTexts text bytes x → ChecksTexts text bytes x
unfolding after_refusal
first_texts text bytes (text_exceeds l) = no_plan 1 (too_long l)
first_texts text bytes (text_not_of_the_form f) = no_plan 1 (of_no_form f)
first_texts text bytes (of_text p x m l c) = at (first_checks p bytes c)
  where
    at : {y : Refusal} → ChecksListing p bytes y → ChecksTexts text bytes y
    at (by_plan n e) = no_plan n (read_of text p m l (refused n) e)
    at (by_listing k e a) = a_plan p (listed_refusal p k) (read_of text p m l nothing e) (by_listing k e a)

pub texts_one : (text bytes : List ℕ) (x y : Refusal) → FirstOfTexts text bytes x → FirstOfTexts text bytes y → x ≡ y
texts_one text bytes x y a b = texts_unique (first_texts text bytes a) (first_texts text bytes b)

pub texts_some : (text bytes : List ℕ) → (x : Refusal) × FirstOfTexts text bytes x
texts_some text bytes = at (one_answer text).1
  where
    of : (p : Lines) → Means text p → length text ≤ 16384 → (z : Refusal) → plan_refusal p ≡ z → (x : Refusal) × FirstOfTexts text bytes x
    of p m l nothing e = (_, of_text p _ m l (checks_first p bytes (listing_answered p e bytes)))
    of p m l (refused n) e = (refused n, of_text p (refused n) m l (of_plan n (plan_first p ∙ e)))

    at : {r : Reading} → AnswersText text r → (x : Refusal) × FirstOfTexts text bytes x
    at (too_long l) = (refused 1, text_exceeds l)
    at (of_no_form f) = (refused 1, text_not_of_the_form f)
    at (of_form p m l) = of p m l (plan_refusal p) refl

-- the numbers of what is answered are 1 to 22
check_number : (p : Lines) (bytes : List ℕ) {x : Refusal} → FirstOfCheck p bytes x → (n : ℕ) → x ≡ refused n → (1 ≤ n) × (n ≤ LASTREFUSAL)
unfolding plan_sentences table_sentences frame_sentences
check_number p bytes (of_plan k e) n q = number_listed (plan_sentences p) n refl (e ∙ q)
check_number p bytes (of_listing x e (not_of_its_form f)) n q = let z : 21 ≡ n = cc in (omega (arith, z), omega (arith, z))
check_number p bytes (of_listing x e (of_what_it_states r s)) n q =
    number_listed (table_sentences p (entry_words r.entries) r.delay ++ frame_sentences p r) n refl q

pub texts_number : (text bytes : List ℕ) {x : Refusal} → FirstOfTexts text bytes x → (n : ℕ) → x ≡ refused n → (1 ≤ n) × (n ≤ LASTREFUSAL)
texts_number text bytes (text_exceeds l) n q = let z : 1 ≡ n = cc in (omega (arith, z), omega (arith, z))
texts_number text bytes (text_not_of_the_form f) n q = let z : 1 ≡ n = cc in (omega (arith, z), omega (arith, z))
texts_number text bytes (of_text p x m l c) n q = check_number p bytes c n q

-- `checker::check_listing`
pub checking_listing : (p : Plan) (bytes : List ℕ) (r : Outcome (Unit {0})) → checker-listing.Checks (lines p) bytes r →
    KeepsTo (FirstOfCheck (lines p) bytes) (λ n. numbered r ≡ Err n) (Unit {0}) (r ≡ Ok tt)
checking_listing p bytes r c =
    let h = checks_first (lines p) bytes c.of_listing in
    keeps (FirstOfCheck (lines p) bytes) (λ n. numbered r ≡ Err n) (Unit {0}) (r ≡ Ok tt) c.refusal h
    (λ y k. check_one (lines p) bytes c.refusal y h k) (told_checked c.refusal r c.answer)

-- `check_program::print_check`
pub printing_check : (input out out-now : List ℕ) (count : ℕ) → Prints input out out-now count → (x : Refusal) →
    FirstOfTexts (plan_part input) (listing_part input) x → (count ≡ length (check_prints x)) × (out-now ≡ front (check_prints x) out)
printing_check input out out-now count c x h =
    let q : c.refusal ≡ x = texts_unique c.of_input (first_texts (plan_part input) (listing_part input) h) in
    (c.counted ∙ ap (λ (z : Refusal). length (check_prints z)) q, c.bytes ∙ ap (λ (z : Refusal). front (check_prints z) out) q)

-- `riscadru_check_listing`
pub c_checking_listing : (text bytes : List ℕ) (answer : ℕ) → ChecksListingText text bytes answer →
    KeepsTo (FirstOfTexts text bytes) (InNumber answer) (Unit {0}) (answer ≡ 0)
c_checking_listing text bytes answer c =
    let h = texts_first text bytes c.of_texts in
    keeps (FirstOfTexts text bytes) (InNumber answer) (Unit {0}) (answer ≡ 0) c.refusal h
    (λ y k. texts_one text bytes c.refusal y h k) (checked_told c.refusal answer (texts_number text bytes h) c.number)
