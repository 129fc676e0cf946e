-- `planner_dispatch::pick` meets its contract: what the processes from place j on give is what all of them give.
use mathlib.Core.Path.{refl, sym, ap, ◌∙◌}
use Rattle.plan_index.specs.Index.{laid}
use Rattle.log_rows.specs.Rows.{rows_of}
use Rattle.planner_dispatch.specs.Dispatching.{can_start_in}
use Rattle.planner_dispatch.proofs.Picks.{first_pass, first_fail, first_end}
use Rattle.planner_dispatch.proofs.pick.Goals as goal

pub loop-j-init : goal.loop-j-init
loop-j-init c =
    refl

pub returns-then-can_start-clause-first : goal.returns-then-can_start-clause-first
returns-then-can_start-clause-first c =
    let a = c.args in
    let b = laid a.index.now in
    let test = can_start_in b (rows_of a.rows.now) a.u in
    let e = c.dispatch_of-i.ensures.0 in
    e ∙ sym (c.loop-j.invariant ∙ first_pass b.dispatch c.loop-j.j a.b c.loop-j-test.true test (ap test (sym e) ∙ sym c.can_start.ensures ∙ c.if-can_start.true))

pub loop-j-preserved : goal.loop-j-preserved
loop-j-preserved c =
    let a = c.args in
    let b = laid a.index.now in
    let test = can_start_in b (rows_of a.rows.now) a.u in
    let e = c.dispatch_of-i.ensures.0 in
    c.loop-j.invariant ∙ first_fail b.dispatch c.loop-j.j a.b c.loop-j-test.true test (ap test (sym e) ∙ sym c.can_start.ensures ∙ c.if-can_start.false)

pub returns-clause-first : goal.returns-clause-first
returns-clause-first c =
    let a = c.args in
    let b = laid a.index.now in
    sym (c.loop-j.invariant ∙ first_end b.dispatch c.loop-j.j a.b (can_start_in b (rows_of a.rows.now) a.u) c.loop-j-test.false)
