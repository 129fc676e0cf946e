-- `kernel::put_edges` meets its contract: before turn i the rows of the first i edges have their nodes.
use mathlib.Core.Path.{◌≡◌, ap, ◌∙◌}
use Prim.Native.Nat.{◌+◌, ◌<◌}
use native.Mathlib.Omega.{arith}
use lib.ListN.{get_or}
use Rattle.limits.specs.Limits.{ROWS}
use Rattle.lists.proofs.Fill.{fill_next}
use Rattle.model.specs.Bus.{row_node}
use Rattle.plan.specs.Memory.{no_edge, lines}
use Rattle.kernel.specs.Finding.{nodes_to}
use Rattle.kernel.proofs.NodesOfModel.{few, sender_below, of_edge}
use Rattle.kernel.proofs.nodes.put_edges.Goals as goal
use Rattle.kernel.proofs.nodes.put_edges.Goals.{After-wide-sender, In-loop-i}

pub loop-i-init : goal.loop-i-init
loop-i-init c =
    let p = c.args.p in
    let q : p.processes ≡ p.processes + 0 = omega arith in
    (omega arith, c.requires.fact_2 ∙ ap (nodes_to p) q)

-- the edge is one of the array, and its row
below : (c : In-loop-i) → (c.loop-i.i < 128) × (c.args.p.processes + c.loop-i.i < ROWS)
below c =
    let f = few c.args.p c.requires.fact_1 in
    (omega (arith, c.loop-i-test.true, f.edges), omega (arith, c.loop-i-test.true, f.edges, f.processes))

pub offset_bounds-p-i : goal.offset_bounds-p-i
offset_bounds-p-i c = omega (arith, (below c).0)

pub bounds-p-i : goal.bounds-p-i
bounds-p-i c = omega (arith, (below c).0)

-- the process is the edge's sender, and one of the array
sends : (c : After-wide-sender) → c.wide-sender.result ≡ (get_or c.args.p.edge c.loop-i.i no_edge).from
sends c = omega (arith, c.wide-sender.ensures)

sender : (c : After-wide-sender) → c.wide-sender.result < 64
sender c =
    omega (arith, sends c, sender_below c.args.p c.requires.fact_1 c.loop-i.i c.loop-i-test.true, (few c.args.p c.requires.fact_1).processes)

pub offset_bounds-node-sender : goal.offset_bounds-node-sender
offset_bounds-node-sender c = omega (arith, sender c)

pub bounds-node-sender : goal.bounds-node-sender
bounds-node-sender c = omega (arith, sender c.before.before)

pub overflow_add-node : goal.overflow_add-node
overflow_add-node c = omega (arith, (below c.before.before.before.before).1)

pub offset_bounds-node-p : goal.offset_bounds-node-p
offset_bounds-node-p c = omega (arith, (below c.before.before.before.before).1)

pub bounds-node-p : goal.bounds-node-p
bounds-node-p c = omega (arith, (below c.before.before.before.before).1)

pub loop-i-preserved : goal.loop-i-preserved
loop-i-preserved c =
    let l = c.loop-i in
    let p = c.args.p in
    let row = p.processes + l.i in
    let e : row + 1 ≡ p.processes + (l.i + 1) = omega arith in (
      omega (arith, c.loop-i-test.true),
      fill_next ROWS (row_node (lines p)) row l.invariant.1 (of_edge p c.requires.fact_1 l.i c.wide-sender.result l.invariant.1 c.loop-i-test.true (sends c.before.before)) ∙ ap (nodes_to p) e,
    )

pub returns : goal.returns
returns c =
    let l = c.loop-i in
    let p = c.args.p in
    let e : p.processes + l.i ≡ p.processes + p.edges = omega (arith, l.invariant.0, c.loop-i-test.false) in
    l.invariant.1 ∙ ap (nodes_to p) e
