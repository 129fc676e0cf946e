-- `kernel::put_conditions` meets its contract: before turn i the rows of the first i conditions have their nodes.
use mathlib.Core.Path.{◌≡◌, ap, ◌∙◌}
use Prim.Native.Nat.{◌+◌, ◌<◌}
use native.Mathlib.Omega.{arith}
use Rattle.limits.specs.Limits.{ROWS}
use Rattle.lists.proofs.Fill.{fill_next}
use Rattle.model.specs.Bus.{rows, row_node}
use Rattle.plan.specs.Memory.{lines}
use Rattle.plan.specs.Tests.{at}
use Rattle.kernel.specs.Finding.{nodes_to}
use Rattle.kernel.proofs.NodesOfModel.{few, row_count, decider_below, of_condition}
use Rattle.kernel.proofs.nodes.put_conditions.Goals as goal
use Rattle.kernel.proofs.nodes.put_conditions.Goals.{After-wide-decider, In-loop-i}

pub overflow_add-first : goal.overflow_add-first
overflow_add-first c =
    let f = few c.args.p c.requires.fact_1 in
    omega (arith, f.processes, f.edges)

pub loop-i-init : goal.loop-i-init
loop-i-init c =
    let p = c.args.p in
    let q : p.processes + p.edges ≡ p.processes + p.edges + 0 = omega arith in
    (omega arith, c.requires.fact_2 ∙ ap (nodes_to p) q)

-- the condition is one of the array, and its row
below : (c : In-loop-i) → let p = c.args.p in (c.loop-i.i < 6) × (p.processes + p.edges + c.loop-i.i < ROWS)
below c =
    let f = few c.args.p c.requires.fact_1 in
    (omega (arith, c.loop-i-test.true, f.conditions), omega (arith, c.loop-i-test.true, f.conditions, f.edges, f.processes))

pub offset_bounds-p-i : goal.offset_bounds-p-i
offset_bounds-p-i c = omega (arith, (below c).0)

pub bounds-p-i : goal.bounds-p-i
bounds-p-i c = omega (arith, (below c).0)

-- the process is the condition's decider, and one of the array
decides : (c : After-wide-decider) → c.wide-decider.result ≡ at c.args.p.condition c.loop-i.i
decides c = omega (arith, c.wide-decider.ensures)

decider : (c : After-wide-decider) → c.wide-decider.result < 64
decider c =
    omega (arith, decides c, decider_below c.args.p c.requires.fact_1 c.loop-i.i c.loop-i-test.true, (few c.args.p c.requires.fact_1).processes)

pub offset_bounds-node-decider : goal.offset_bounds-node-decider
offset_bounds-node-decider c = omega (arith, decider c)

pub bounds-node-decider : goal.bounds-node-decider
bounds-node-decider c = omega (arith, decider c.before.before)

pub overflow_add-node : goal.overflow_add-node
overflow_add-node c = omega (arith, (below c.before.before.before.before).1)

pub offset_bounds-node-first : goal.offset_bounds-node-first
offset_bounds-node-first c = omega (arith, (below c.before.before.before.before).1)

pub bounds-node-first : goal.bounds-node-first
bounds-node-first c = omega (arith, (below c.before.before.before.before).1)

pub loop-i-preserved : goal.loop-i-preserved
loop-i-preserved c =
    let l = c.loop-i in
    let p = c.args.p in
    let row = p.processes + p.edges + l.i in
    let e : row + 1 ≡ p.processes + p.edges + (l.i + 1) = omega arith in (
      omega (arith, c.loop-i-test.true),
      fill_next ROWS (row_node (lines p)) row l.invariant.1 (of_condition p c.requires.fact_1 l.i c.wide-decider.result l.invariant.1 c.loop-i-test.true (decides c.before.before)) ∙ ap (nodes_to p) e,
    )

pub returns : goal.returns
returns c =
    let l = c.loop-i in
    let p = c.args.p in
    let e : p.processes + p.edges + l.i ≡ rows (lines p) = omega (arith, l.invariant.0, c.loop-i-test.false, row_count p c.requires.fact_1) in
    l.invariant.1 ∙ ap (nodes_to p) e
