-- `kernel::put_processes` meets its contract: before turn i the first i rows have their nodes.
use mathlib.Core.Path.{◌≡◌, ap, ◌∙◌}
use Prim.Native.Nat.{◌<◌}
use native.Mathlib.Omega.{arith}
use Rattle.limits.specs.Limits.{ROWS}
use Rattle.lists.proofs.Fill.{fill_next}
use Rattle.model.specs.Bus.{row_node}
use Rattle.plan.specs.Memory.{lines}
use Rattle.kernel.specs.Finding.{nodes_to}
use Rattle.kernel.proofs.NodesOfModel.{few, of_process}
use Rattle.kernel.proofs.nodes.put_processes.Goals as goal
use Rattle.kernel.proofs.nodes.put_processes.Goals.{In-loop-i}

pub loop-i-init : goal.loop-i-init
loop-i-init c = (omega arith, c.requires.fact_2)

-- the row is one of the array
below : (c : In-loop-i) → c.loop-i.i < 64
below c =
    omega (arith, c.loop-i-test.true, (few c.args.p c.requires.fact_1).processes)

pub offset_bounds-p-i : goal.offset_bounds-p-i
offset_bounds-p-i c = omega (arith, below c)

pub bounds-p-i : goal.bounds-p-i
bounds-p-i c = omega (arith, below c)

pub offset_bounds-node-i : goal.offset_bounds-node-i
offset_bounds-node-i c = omega (arith, below c.before)

pub bounds-node-i : goal.bounds-node-i
bounds-node-i c = omega (arith, below c.before.before)

pub loop-i-preserved : goal.loop-i-preserved
loop-i-preserved c =
    let l = c.loop-i in
    let p = c.args.p in
    (omega (arith, c.loop-i-test.true), fill_next ROWS (row_node (lines p)) l.i l.invariant.1 (of_process p c.requires.fact_1 l.i c.loop-i-test.true))

pub returns : goal.returns
returns c =
    let l = c.loop-i in
    let p = c.args.p in
    let e : l.i ≡ p.processes = omega (arith, l.invariant.0, c.loop-i-test.false) in
    l.invariant.1 ∙ ap (nodes_to p) e
