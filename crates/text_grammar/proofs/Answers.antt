-- Every text has exactly one answer, and a written plan is read as itself.
-- Assumes nothing.
use mathlib.Core.Path.{◌≡◌, refl, ap, sym, subst, ◌∙◌}
use mathlib.Core.Bool.{Bool, true, false}
use mathlib.Core.List.{List}
use Prim.Native.Nat.{ℕ}
use native.Mathlib.Omega.{arith}
use borrow.Author.Tests.{ltb-true, ltb-false}
use lib.Dec.{ltb}
use lib.ListN.{length}
use Rattle.model.specs.Plan.{Lines}
use Rattle.model.specs.Refusals.{Refusal, nothing, plan_refusal}
use Rattle.model.specs.Text.{print, Reading, reads, not_read, after_refusal, AnswersText, too_long, of_no_form, of_form}
use Rattle.text_grammar.specs.Parse.{Whole, no_lines, got_lines, read_lines}
use Rattle.text_grammar.proofs.Parsed.{not_lines}
use Rattle.text_grammar.proofs.Whole.{read_means, means_read, means_unique}
use Rattle.text_grammar.proofs.Bounds.{plan_short, print_length}

pub one_answer : (bytes : List ℕ) → (r : Reading) × AnswersText bytes r
one_answer bytes = at (ltb 16384 (length bytes)) refl (read_lines bytes) refl
  where
    at : (b : Bool) → ltb 16384 (length bytes) ≡ b → (w : Whole) → read_lines bytes ≡ w → (r : Reading) × AnswersText bytes r
    at true l w e = (not_read 1, too_long (ltb-true 16384 (length bytes) l))
    at false l no_lines e = (not_read 1, of_no_form (λ p m. not_lines (sym e ∙ means_read m)))
    at false l (got_lines p) e = (after_refusal (plan_refusal p) p, of_form p (read_means e) (ltb-false 16384 (length bytes) l))

pub answers_unique : {bytes : List ℕ} {r s : Reading} → AnswersText bytes r → AnswersText bytes s → r ≡ s
answers_unique (too_long l) (too_long m) = refl
answers_unique (too_long l) (of_no_form f) = refl
answers_unique (too_long l) (of_form p h m) = absurd (omega arith)
answers_unique (of_no_form f) (too_long m) = refl
answers_unique (of_no_form f) (of_no_form g) = refl
answers_unique (of_no_form f) (of_form p h m) = absurd (f p h)
answers_unique (of_form p h m) (too_long l) = absurd (omega arith)
answers_unique (of_form p h m) (of_no_form f) = absurd (f p h)
answers_unique (of_form p h m) (of_form q k n) = ap (λ (z : Lines). after_refusal (plan_refusal z) z) (means_unique h k)

pub written_read : (p : Lines) → plan_refusal p ≡ nothing → AnswersText (print p) (reads p)
unfolding after_refusal
written_read p h =
    subst (λ (r : Refusal). AnswersText (print p) (after_refusal r p)) h
    (of_form p (record { all_short = plan_short p h; prints = refl }) (print_length p h))
