-- Reading and writing are inverse: what the plan writer writes is read as the lines that it was written from, so it is
-- never refused 1; and what was read is written as the text.
-- Assumes nothing.
use mathlib.Core.Path.{◌≡◌, refl, ap, ◌∙◌}
use mathlib.Core.List.{List}
use Prim.Native.Nat.{ℕ, ◌≤◌}
use native.Mathlib.Omega.{arith}
use lib.ListN.{length}
use borrow.Author.Tests.{le-ltb}
use Rattle.model.specs.Plan.{Lines}
use Rattle.model.specs.Refusals.{Refusal, nothing, refused, or_else, plan_refusal}
use Rattle.model.specs.Text.{print, wrote, Reading, reads, AnswersText, unless_refused, fitting, write_plan}
use Rattle.text_grammar.proofs.Answers.{written_read, answers_unique}
use Rattle.plan_refusals.proofs.Accepted.{of_read}
use Rattle.text_writer.proofs.WholeText.{lent_enough}

wrote_text : (r s : Refusal) (text bytes : List ℕ) → unless_refused (or_else r s) text ≡ wrote bytes → (r ≡ nothing) × (text ≡ bytes)
unfolding unless_refused or_else
wrote_text nothing nothing text bytes h = (refl, cc)
wrote_text nothing (refused n) text bytes h = absurd (let z : ◌≡◌ {A = ℕ} 0 1 = cc in omega arith)
wrote_text (refused n) s text bytes h = absurd (let z : ◌≡◌ {A = ℕ} 0 1 = cc in omega arith)

pub written_is_read : (p : Lines) (lent : ℕ) (bytes : List ℕ) (answer : Reading) → write_plan p lent ≡ wrote bytes → AnswersText bytes answer → answer ≡ reads p
unfolding write_plan
written_is_read p lent bytes answer h a =
    let w = wrote_text (plan_refusal p) (fitting lent (print p)) (print p) bytes h in
    answers_unique a (rw w.1 at (written_read p w.0))

pub read_is_written : (bytes : List ℕ) (p : Lines) (lent : ℕ) → AnswersText bytes (reads p) → length bytes ≤ lent → write_plan p lent ≡ wrote bytes
read_is_written bytes p lent a l =
    let r = of_read bytes (reads p) p a refl in
    lent_enough p lent r.0 (le-ltb lent (length (print p)) (omega (arith, ap length r.1.prints))) ∙ ap wrote r.1.prints
