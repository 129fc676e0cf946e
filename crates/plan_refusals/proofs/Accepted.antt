-- A text that is read as some lines is the text of these lines, and refusals 2 to 9 find nothing in them.
-- Assumes nothing.
use mathlib.Core.Path.{◌≡◌, refl, subst}
use mathlib.Core.List.{List}
use Prim.Native.Nat.{ℕ}
use native.Mathlib.Omega.{arith}
use Rattle.model.specs.Plan.{Lines}
use Rattle.model.specs.Refusals.{Refusal, nothing, refused, plan_refusal}
use Rattle.model.specs.Text.{Means, Reading, reads, after_refusal, AnswersText, too_long, of_no_form, of_form}

pub of_read : (bytes : List ℕ) (r : Reading) (p : Lines) → AnswersText bytes r → r ≡ reads p → (plan_refusal p ≡ nothing) × Means bytes p
unfolding after_refusal
of_read bytes r p (too_long l) e = absurd (let z : ◌≡◌ {A = ℕ} 0 1 = cc in omega arith)
of_read bytes r p (of_no_form f) e = absurd (let z : ◌≡◌ {A = ℕ} 0 1 = cc in omega arith)
of_read bytes r p (of_form q m l) e = at (plan_refusal q) refl e
  where
    at : (x : Refusal) → plan_refusal q ≡ x → after_refusal x q ≡ reads p → (plan_refusal p ≡ nothing) × Means bytes p
    at nothing h s = let same : q ≡ p = cc in subst (λ (z : Lines). (plan_refusal z ≡ nothing) × Means bytes z) same (h, m)
    at (refused n) h s = absurd (let z : ◌≡◌ {A = ℕ} 0 1 = cc in omega arith)
