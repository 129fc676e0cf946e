-- `plan_layout::known_rows` meets its contract: before turn k the first k are filled.
use mathlib.Core.Path.{ap, ◌∙◌}
use Prim.Native.Nat.{◌+◌}
use native.Mathlib.Omega.{arith}
use Rattle.lists.specs.Lists.{fill}
use Rattle.lists.proofs.Fill.{fill_next}
use Rattle.plan.specs.Tests.{at}
use Rattle.plan_layout.specs.LineArrays.{knownby_of, known_rows_by_edge}
use borrow.Author.Rules.{rules}
use Rattle.plan_layout.proofs.line_arrays.known_rows.Goals as goal

pub loop-k-init : goal.loop-k-init
unfolding fill
loop-k-init c = search rules

pub overflow_add-row : goal.overflow_add-row
overflow_add-row c = omega (arith, c.requires.fact_2, c.requires.fact_3 c.loop-k.k)

pub loop-k-preserved : goal.loop-k-preserved
loop-k-preserved c =
    let a = c.args in
    let l = c.loop-k in
    (search rules, fill_next 128 (λ i. knownby_of (at a.kind.now i) (at a.from.now i) (a.conditionrow + at a.condition.now i)) l.k l.invariant.1 c.known_row.ensures)

pub returns : goal.returns
unfolding known_rows_by_edge
returns c =
    let a = c.args in
    let l = c.loop-k in
    l.invariant.1 ∙ ap (fill 128 (λ i. knownby_of (at a.kind.now i) (at a.from.now i) (a.conditionrow + at a.condition.now i))) (omega arith)
