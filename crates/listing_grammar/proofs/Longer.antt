-- An input that is longer than the program's buffer is answered as its beginning: its plan or its listing is too long.
-- Assumes nothing.
use Prim.Native.Nat.{ℕ, zero, suc, ◌+◌, ◌≤◌, ◌<◌}
use mathlib.Core.Path.{◌≡◌, refl, ap, sym, subst}
use mathlib.Core.Bool.{Bool, true, false, ◌&&◌}
use mathlib.Core.List.{List, [], ◌∷◌}
use native.Mathlib.Omega.{arith}
use lib.Dec.{eqb}
use lib.ListN.{length, take}
use lib.Seq.{length-take-le}
use Rattle.limits.specs.Limits.{TEXT, LISTED, INPUT}
use Rattle.model.specs.Plan.{Lines}
use Rattle.model.specs.Refusals.{Refusal, nothing, refused, plan_refusal}
use Rattle.model.specs.Text.{Reading, reads, not_read, after_refusal, AnswersText, too_long, of_no_form, of_form}
use Rattle.model.specs.ListingText.{before_empty, after_empty, plan_part, listing_part, not_listed, no_listing, listed_refusal, ChecksListing, by_listing, ChecksTexts, no_plan, a_plan, ChecksInput}
use Rattle.listing_grammar.proofs.Room.{states_length}
use Rattle.listing_grammar.proofs.Answered.{reads_fine, checks_unique, texts_unique}

-- The first n bytes of a text hold its first empty line, or they do not.
data Split (f : Bool) (n : ℕ) (s : List ℕ) : Type 0 where
  within : before_empty f s ≡ before_empty f (take n s) →
      length (before_empty f (take n s)) + 1 + length (after_empty f (take n s)) ≡ length (take n s) →
      length (before_empty f s) + 1 + length (after_empty f s) ≡ length s → Split f n s
  beyond : before_empty f (take n s) ≡ take n s → length (take n s) ≤ length (before_empty f s) → Split f n s

split : (f : Bool) (n : ℕ) (s : List ℕ) → Split f n s
unfolding before_empty after_empty
split f zero s = beyond refl (omega arith)
split f (suc n) [] = beyond refl (omega arith)
split f (suc n) (b ∷ s) = at (eqb b 10 && f) refl (split (eqb b 10) n s)
  where
    at : (x : Bool) → (eqb b 10 && f) ≡ x → Split (eqb b 10) n s → Split f (suc n) (b ∷ s)
    at true e r = within (rw e) (rw e (omega arith)) (rw e (omega arith))
    at false e (within a c d) =
        within (rw e (ap (λ (t : List ℕ). b ∷ t) a)) (rw e (omega (arith, c))) (rw e (omega (arith, d)))
    at false e (beyond a l) = beyond (rw e (ap (λ (t : List ℕ). b ∷ t) a)) (rw e (omega (arith, l)))

-- a plan text that is read is not too long
read_short : {text : List ℕ} {p : Lines} → AnswersText text (reads p) → length text ≤ TEXT
unfolding after_refusal
read_short {text} {p} a = at a refl
  where
    at : {r : Reading} → AnswersText text r → r ≡ reads p → length text ≤ TEXT
    at (too_long l) h = absurd (let z : ◌≡◌ {A = ℕ} 0 1 = cc in omega arith)
    at (of_no_form f) h = absurd (let z : ◌≡◌ {A = ℕ} 0 1 = cc in omega arith)
    at (of_form q m l) h = l

-- a listing that is too long meets 21
long_listing : (p : Lines) → plan_refusal p ≡ nothing → (bytes : List ℕ) → LISTED < length bytes → ChecksListing p bytes (refused 21)
unfolding listed_refusal
long_listing p fine bytes l =
    by_listing (not_listed 21) fine (no_listing (λ r m. omega (arith, states_length p fine m)))

pub longer_alike : (input : List ℕ) → INPUT ≤ length input → (x : Refusal) → ChecksInput (take INPUT input) x → ChecksInput input x
unfolding plan_part listing_part
longer_alike input l x a = at (split true INPUT input) a
  where
    long : length (take INPUT input) ≡ INPUT
    long = length-take-le INPUT input l

    at : {y : Refusal} → Split true INPUT input → ChecksTexts (before_empty true (take INPUT input)) (after_empty true (take INPUT input)) y →
        ChecksTexts (before_empty true input) (after_empty true input) y
    at {y} (beyond e k) c =
        let first : ChecksTexts (before_empty true (take INPUT input)) (after_empty true (take INPUT input)) (refused 1) =
        no_plan 1 (too_long (let q = ap length e in omega (arith, q, long))) in
        subst (ChecksTexts (before_empty true input) (after_empty true input)) (texts_unique first c)
        (no_plan 1 (too_long (omega (arith, k, long))))
    at (within e c d) (no_plan n b) = no_plan n (subst (λ (t : List ℕ). AnswersText t (not_read n)) (sym e) b)
    at (within e c d) (a_plan p r b k) =
        let fine = reads_fine b in
        let few = read_short b in
        let q : r ≡ refused 21 = checks_unique p k (long_listing p fine _ (omega (arith, c, few, long))) in
        a_plan p r (subst (λ (t : List ℕ). AnswersText t (reads p)) (sym e) b)
        (subst (ChecksListing p (after_empty true input)) (sym q)
        (long_listing p fine _ (let m = ap length e in omega (arith, d, m, few, l))))
