-- `planner_prefix::later` meets its contract.
use mathlib.Core.Path.{sym}
use native.Mathlib.Omega.{arith}
use borrow.Author.Tests.{eq-eqb, ne_eqb, le-leb, lt-leb}
use Rattle.planner_prefix.specs.Prefix.{later_by}
use Rattle.planner_prefix.proofs.prefix.later.Goals as goal

pub returns-then-value-eq0 : goal.returns-then-value-eq0
unfolding later_by
returns-then-value-eq0 c = rw (eq-eqb _ _ c.if-value-eq0.true)

pub overflow_sub-from : goal.overflow_sub-from
overflow_sub-from c = let l = c.requires.3 (omega (arith, c.if-value-eq0.false)) in omega arith

pub returns-then-clock-best : goal.returns-then-clock-best
unfolding later_by
returns-then-clock-best c =
    let q = c.arrives-clock.ensures in
    rw (ne_eqb _ _ c.if-value-eq0.false, sym q, le-leb _ _ c.if-clock-best.true)

pub returns : goal.returns
unfolding later_by
returns c =
    let q = c.arrives-clock.ensures in
    rw (ne_eqb _ _ c.if-value-eq0.false, sym q, lt-leb _ _ c.if-clock-best.false)
