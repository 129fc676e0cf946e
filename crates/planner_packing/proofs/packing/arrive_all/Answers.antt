-- `planner_packing::arrive_all` meets its contract: before node n, the nodes below n are reached.
use mathlib.Core.Path.{◌≡◌, refl, sym, ap, ◌∙◌}
use Prim.Native.Nat.{ℕ}
use native.Mathlib.Numerals.{add-one}
use native.Mathlib.Omega.{arith}
use Rattle.planner_nodes.specs.Nodes.{Nodes, nodes_of, with_lastarrival, put_lastarrival}
use Rattle.planner_sends.specs.Packing.{arrive_all}
use Rattle.planner_packing.proofs.packing.arrive_all.Goals as goal

pub loop-n-init : goal.loop-n-init
unfolding arrive_all
loop-n-init c = (omega arith, refl)

pub loop-n-preserved : goal.loop-n-preserved
unfolding arrive_all
loop-n-preserved c =
    let a = c.args in
    let ns : Nodes = nodes_of a.nodes.now in (
      omega (arith, c.loop-n-test.true),
      c.put_lastarrival.ensures
          ∙ ap (put_lastarrival c.loop-n.n a.end) c.loop-n.invariant.1
          ∙ ap (λ (k : ℕ). with_lastarrival (arrive_all a.end k ns.lastarrival) ns) (sym (add-one c.loop-n.n)),
    )

pub returns : goal.returns
returns c =
    let a = c.args in
    let ns : Nodes = nodes_of a.nodes.now in
    let q : c.loop-n.n ≡ a.slots = omega (arith, c.loop-n.invariant.0, c.loop-n-test.false) in
    c.loop-n.invariant.1 ∙ ap (λ (k : ℕ). with_lastarrival (arrive_all a.end k ns.lastarrival) ns) q
