-- `planner_combination::begin_nodes` meets its contract: before turn n the first n nodes have begun.
use mathlib.Core.Path.{◌≡◌, refl, ◌∙◌}
use Prim.Native.Nat.{ℕ}
use native.Mathlib.Omega.{arith}
use Rattle.limits.specs.Limits.{NEVER}
use Rattle.lists.specs.Lists.{fill}
use Rattle.lists.proofs.Fill.{fill_next}
use Rattle.planner_nodes.specs.Nodes.{nodes_of, with_nextsend, with_lastarrival, put_nextsend, put_lastarrival}
use Rattle.planner_combination.proofs.combination.begin_nodes.Goals as goal

pub loop-n-init : goal.loop-n-init
unfolding fill
loop-n-init c =
    let z = c.requires in
    (omega arith, λ i. with_nextsend (z.0 i) (with_lastarrival (z.1 i) (nodes_of c.args.nodes.now)))

pub loop-n-preserved : goal.loop-n-preserved
loop-n-preserved c =
    let a = c.args in
    let n : ℕ = c.loop-n.n in
    let q = c.loop-n.invariant.1 in (
      omega (arith, c.loop-n-test.true),
      c.put_nextsend.ensures
          ∙ (λ j. put_nextsend n NEVER (c.put_lastarrival.ensures j))
          ∙ (λ j. put_nextsend n NEVER (put_lastarrival n a.start (q j)))
          ∙ (λ j. with_nextsend (fill_next 8 (λ k. NEVER) n refl refl j) (with_lastarrival (fill_next 8 (λ k. a.start) n refl refl j) (nodes_of a.nodes.now))),
    )

pub returns : goal.returns
unfolding fill
returns c =
    let a = c.args in
    let q : c.loop-n.n ≡ 8 = omega (arith, c.loop-n.invariant.0, c.loop-n-test.false) in
    c.loop-n.invariant.1 ∙ (λ i. with_nextsend (fill 8 (λ k. NEVER) (q i)) (with_lastarrival (fill 8 (λ k. a.start) (q i)) (nodes_of a.nodes.now)))
