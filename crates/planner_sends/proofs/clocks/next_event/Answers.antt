-- `planner_sends::next_event` meets its contract: before node n, the least is that of the next row over and the
-- slots of the nodes below n.
use mathlib.Core.Path.{◌≡◌, refl, sym, ap, ◌∙◌}
use Prim.Native.Nat.{ℕ, min}
use native.Mathlib.Numerals.{add-one}
use native.Mathlib.Omega.{arith}
use lib.ListN.{get_or}
use Rattle.planner_nodes.specs.Nodes.{nodes_of}
use Rattle.planner_sends.specs.Clocks.{event_now}
use Rattle.planner_sends.proofs.clocks.next_event.Goals as goal

pub loop-n-init : goal.loop-n-init
unfolding event_now
loop-n-init c = (omega arith, refl)

pub loop-n-preserved : goal.loop-n-preserved
unfolding event_now
loop-n-preserved c =
    let a = c.args in
    let q = c.min-least.ensures ∙ ap (min c.loop-n.least) c.nextsend_of.ensures in (
      omega arith,
      q ∙ ap (λ (x : ℕ). min x (get_or (nodes_of a.nodes.now).nextsend c.loop-n.n 0)) c.loop-n.invariant.1 ∙ ap (event_now (nodes_of a.nodes.now).nextsend a.come) (sym (add-one c.loop-n.n)),
    )

pub returns : goal.returns
returns c =
    let a = c.args in
    let q : c.loop-n.n ≡ 8 = omega (arith, c.loop-n.invariant.0, c.loop-n-test.false) in
    c.loop-n.invariant.1 ∙ ap (event_now (nodes_of a.nodes.now).nextsend a.come) q
