-- The checker accepts what the planner wrote, with the delay that the planner gave.
-- Assumes nothing.
use mathlib.Core.Path.{◌≡◌}
use mathlib.Core.List.{List}
use Prim.Native.Nat.{ℕ}
use lib.ListN.{length, take}
use Rattle.std.specs.Prelude.{Ok}
use Rattle.model.specs.Table.{plan_answer, table_after}
use Rattle.model.specs.Checking.{check}
use Rattle.plan.specs.declared.Plan.{Plan}
use Rattle.plan.specs.Memory.{lines}
use Rattle.planner_table.specs.declared.Made.{Made}
use Rattle.planner_table.specs.Planner as planner
use Rattle.planner_table.proofs.PlannedSound.{given_sound}
use Rattle.checker_table.specs.Verdict.{answer_of}
use Rattle.checker_table.proofs.AcceptedSound.{accepted_sound}

-- For every plan in memory and all words lent: where the planner's answer is `Ok(m)`, the checker's answer to the
-- first `m.words` words that stand in the table afterwards, with the delay `m.delay` stated, is `Ok(())`.
pub planned_accepted : (p : Plan) (table frames : List ℕ) (m : Made) → Ok m ≡ planner.answer_of (plan_answer (lines p) (length table) (length frames)) →
    answer_of (check (lines p) (take m.words (table_after (plan_answer (lines p) (length table) (length frames)) table)) m.delay) ≡ Ok tt
planned_accepted p table frames m e =
    (accepted_sound p (take m.words (table_after (plan_answer (lines p) (length table) (length frames)) table)) m.delay).1 (given_sound p table frames m e)
