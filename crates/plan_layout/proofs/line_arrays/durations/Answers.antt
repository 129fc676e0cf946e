-- `plan_layout::durations` meets its contract: before turn i the first i are filled.
use mathlib.Core.Path.{refl, ap, ◌∙◌}
use native.Mathlib.Omega.{arith}
use Rattle.lists.specs.Lists.{fill}
use Rattle.lists.proofs.Fill.{fill_next}
use Rattle.plan.specs.Numbers.{ticks_at}
use borrow.Author.Rules.{rules}
use Rattle.plan_layout.proofs.line_arrays.durations.Goals as goal

pub loop-i-init : goal.loop-i-init
unfolding fill
loop-i-init c = search rules

pub loop-i-preserved : goal.loop-i-preserved
loop-i-preserved c =
    let a = c.args in
    let l = c.loop-i in
    (search rules, fill_next 64 (ticks_at a.processes.now) l.i l.invariant.1 refl)

pub returns : goal.returns
returns c =
    let a = c.args in
    let l = c.loop-i in
    l.invariant.1 ∙ ap (fill 64 (ticks_at a.processes.now)) (omega arith)
