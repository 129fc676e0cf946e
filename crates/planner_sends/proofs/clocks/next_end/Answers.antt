-- `planner_sends::next_end` meets its contract: before node n, the least is that of the nodes below n.
use mathlib.Core.Path.{◌≡◌, sym, ap, ◌∙◌}
use native.Mathlib.Numerals.{add-one}
use native.Mathlib.Omega.{arith}
use borrow.Author.Tests.{le-ltb}
use Rattle.planner_nodes.specs.Nodes.{nodes_of}
use Rattle.planner_sends.specs.Clocks.{sooner_by, come_by}
use Rattle.planner_sends.proofs.clocks.next_end.Goals as goal

pub loop-n-init : goal.loop-n-init
unfolding come_by sooner_by
loop-n-init c = (omega arith, rw (le-ltb c.args.u 0 (omega arith)))

pub loop-n-preserved : goal.loop-n-preserved
unfolding come_by
loop-n-preserved c =
    let a = c.args in (
      omega arith,
      c.sooner-least.ensures
          ∙ (λ i. sooner_by (c.loop-n.invariant.1 i) (c.busy_of.ensures i) a.u)
          ∙ ap (come_by 0 (nodes_of a.nodes.now).busy a.u) (sym (add-one c.loop-n.n)),
    )

pub returns : goal.returns
returns c =
    let a = c.args in
    let q : c.loop-n.n ≡ a.slots = omega (arith, c.loop-n.invariant.0, c.loop-n-test.false) in
    c.loop-n.invariant.1 ∙ ap (come_by 0 (nodes_of a.nodes.now).busy a.u) q
