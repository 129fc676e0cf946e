-- `planner_packing::move_down` meets its contract: before place i, what stands before it is moved down.
use mathlib.Core.Path.{refl, ap, ◌∙◌}
use native.Mathlib.Omega.{arith}
use lib.ListN.{set}
use Rattle.planner_nodes.specs.Nodes.{Nodes, nodes_of}
use Rattle.planner_sends.proofs.RowsRest.{wait_rest}
use Rattle.planner_sends.proofs.Places.{moving_start, moving_next, moving_end}
use Rattle.planner_packing.proofs.Rests.{moving_as}
use Rattle.planner_packing.proofs.packing.move_down.Goals as goal

pub loop-i-init : goal.loop-i-init
loop-i-init c = (moving_start _ _ _ _ c.requires.0 c.requires.1, refl)

pub put_wait-requires : goal.put_wait-requires
put_wait-requires c =
    omega (arith, c.loop-i.invariant.0.step, c.loop-i.invariant.0.begun, c.loop-i-test.true, c.requires.0, c.requires.2)

pub overflow_add-to : goal.overflow_add-to
overflow_add-to c =
    omega (arith, c.loop-i.invariant.0.step, c.loop-i.invariant.0.begun, c.loop-i-test.true, c.requires.0, c.requires.2)

pub loop-i-preserved : goal.loop-i-preserved
loop-i-preserved c =
    let s = c.before in
    let a = s.args in
    let ns : Nodes = nodes_of a.nodes.now in
    let m : Nodes = nodes_of c.loop-i.nodes in
    let q = c.put_wait.ensures in (
      moving_as ((λ n. (q n).wait) ∙ ap (set m.wait c.loop-i.to) c.wait_of-e.ensures)
          (moving_next ns.wait a.k a.j a.z s.requires.0 m.wait c.loop-i.to c.loop-i.i (omega (arith, s.requires.2, s.requires.3)) c.loop-i-test.true c.loop-i.invariant.0),
      wait_rest ns m _ c.loop-i.invariant.1 q,
    )

pub returns : goal.returns
returns c =
    let a = c.args in
    let e = moving_end (nodes_of a.nodes.now).wait a.k a.j a.z c.requires.0 _ _ _ c.loop-i-test.false c.loop-i.invariant.0 in
    record { listed = e.0; behind = e.1; rest = c.loop-i.invariant.1 }
