-- `plan_order::urgencies` meets its contract: before turn i the urgencies from process i on are there.
use mathlib.Core.Path.{sym}
use native.Mathlib.Omega.{arith}
use lib.ListN.{length}
use Rattle.plan.specs.Numbers.{ticks_at, from_at, to_at}
use Rattle.plan_order.proofs.Downward.{sofar_start, sofar_most, sofar_next, sofar_end}
use Rattle.plan_order.proofs.urgency.urgencies.Goals as goal

pub loop-i-init : goal.loop-i-init
loop-i-init c =
    let a = c.args in
    sofar_start (ticks_at a.processes.now) (from_at a.edges.now) (to_at a.edges.now) (length a.edges.now) (length a.processes.now) c.zeros-urgency.ensures

pub slice_bounds-greatest_after-end : goal.slice_bounds-greatest_after-end
slice_bounds-greatest_after-end c = sym c.loop-i.invariant.long

pub overflow_add-urgency : goal.overflow_add-urgency
overflow_add-urgency c =
    let a = c.args in
    let l = c.loop-i in
    omega (arith, sofar_most (ticks_at a.processes.now) (from_at a.edges.now) (to_at a.edges.now) (length a.edges.now) (length a.processes.now) c.requires.fact_3 c.requires.fact_2 l.urgency l.i c.loop-i-test.true l.invariant c.greatest_after-later.ensures)

pub loop-i-preserved : goal.loop-i-preserved
loop-i-preserved c =
    let a = c.args in
    let l = c.loop-i in
    sofar_next (ticks_at a.processes.now) (from_at a.edges.now) (to_at a.edges.now) (length a.edges.now) (length a.processes.now) c.requires.fact_3 c.requires.fact_2 l.urgency l.i c.loop-i-test.true l.invariant c.greatest_after-later.ensures c.requires.fact_1

pub returns : goal.returns
returns c =
    let a = c.args in
    sofar_end (ticks_at a.processes.now) (from_at a.edges.now) (to_at a.edges.now) (length a.edges.now) (length a.processes.now) c.requires.fact_1 c.loop-i-test.false c.loop-i.invariant
