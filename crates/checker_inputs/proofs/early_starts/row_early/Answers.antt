-- `checker_inputs::row_early` meets its contract, for a process and for an item.
use mathlib.Core.Path.{◌∙◌}
use native.Mathlib.Omega.{arith}
use borrow.Author.Tests.{eq-eqb, ne_eqb, lt-ltb, le-ltb}
use Rattle.plan_index.specs.Index.{laid}
use Rattle.log_queries.specs.Reading.{placed_by, came_by, edges_into}
use Rattle.checker_rows.specs.MetArrays.{start_by}
use Rattle.checker_inputs.specs.Inputs.{row_early_by}
use Rattle.checker_inputs.proofs.early_starts.row_early.Goals as goal

pub returns-then-x-eq0 : goal.returns-then-x-eq0
unfolding row_early_by placed_by
returns-then-x-eq0 c = simp (← c.comes_of-x.ensures, eq-eqb _ _ c.if-x-eq0.true)

pub overflow_sub-u : goal.overflow_sub-u
overflow_sub-u c =
    let l = c.requires.fact_2.lasts c.args.r (λ q. c.if-x-eq0.false (c.comes_of-x.ensures ∙ q)) in
    omega (arith, c.comes_of-x.ensures, c.span_of.ensures.0, l)

pub returns-then-r-processes_of : goal.returns-then-r-processes_of
unfolding row_early_by placed_by edges_into start_by
returns-then-r-processes_of c =
    simp (← c.comes_of-x.ensures, ne_eqb _ _ c.if-x-eq0.false, ← c.span_of.ensures.0, lt-ltb c.args.r (laid c.args.index.now).processes (omega (arith, c.processes_of.ensures.0, c.if-r-processes_of.true)), ← c.intofirst_of-a.ensures.0, ← c.intofirst_of-b.ensures.0) c.misses_some.ensures

pub returns : goal.returns
unfolding row_early_by placed_by came_by start_by
returns c =
    simp (← c.comes_of-x.ensures, ne_eqb _ _ c.if-x-eq0.false, ← c.span_of.ensures.0, le-ltb c.args.r (laid c.args.index.now).processes (omega (arith, c.processes_of.ensures.0, c.if-r-processes_of.false)), ← c.sends-i.ensures.0, ← c.comes_of.ensures, c.came.ensures)
