-- `plan_refusals::wrong_deciders` meets its contract.
use mathlib.Core.Path.{◌≡◌, refl, sym, ap, ◌∙◌}
use lib.Dec.{leb}
use Rattle.std.proofs.Common.{rules, tests}
use Rattle.std.proofs.lemmas.Iterator.{YieldsList-from_slice}
use Rattle.std.proofs.lemmas.Iterator.Search.{any_from_yields_List}
use Rattle.lists.specs.Lists.{any, repeated}
use Rattle.model.specs.Refusals.{no_process, wrong_deciders}
use Rattle.plan.specs.Memory.{lines}
use Rattle.plan.proofs.Taken.{any_listed}
use Rattle.plan.proofs.TestsOnLines.{processes_length}
use Rattle.plan_refusals.proofs.Joins.{first_holds, second_tells}
use Rattle.plan_refusals.proofs.lines.wrong_deciders.Goals as goal
use Rattle.plan_refusals.proofs.lines.wrong_deciders.Goals.{After-any}

-- a condition that names no process
none : (c : After-any) → let p = lines c.args.p.now in c.any.result ≡ any (no_process p) p.conditions
unfolding no_process
none c =
    let p = c.args.p.now in
    let ds = c.condition_lines-deciders.result.now in
    any_from_yields_List (leb p.processes) _ _ _ c.any.ensures.ran (YieldsList-from_slice ds cc) (λ x b q k. search (rules, tests))
    ∙ any_listed (leb p.processes) ds
    ∙ λ j. any (leb (sym (processes_length p) j)) (c.condition_lines-deciders.ensures j)

pub returns-then-any : goal.returns-then-any
unfolding wrong_deciders
returns-then-any c = first_holds _ refl c.if-any.true (none (goal.at.returns-then-any c).After-any)

pub returns-else-any : goal.returns-else-any
unfolding wrong_deciders
returns-else-any c =
    second_tells (c.any_twice.ensures ∙ ap repeated c.condition_lines-deciders.ensures) c.if-any.false (none (goal.at.returns-else-any c).After-any)
