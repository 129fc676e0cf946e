-- `planner_packing::pass_over` meets its contract: the count goes up by one, or nothing changes.
use mathlib.Core.Path.{sym, ap, ◌∙◌}
use mathlib.Core.Bool.{Bool}
use Prim.Native.Nat.{ℕ, ◌+◌}
use Rattle.planner_nodes.specs.Nodes.{Nodes, nodes_of, with_passed, put_passed}
use Rattle.planner_packing.specs.Sending.{counted}
use Rattle.planner_packing.proofs.slot.pass_over.Goals as goal

pub returns-then-short : goal.returns-then-short
returns-then-short c =
    let a = c.args in
    let ns : Nodes = nodes_of a.nodes.now in
    c.put_passed.ensures
    ∙ ap (λ (x : ℕ). put_passed a.n (x + 1) ns) c.passed_of-count.ensures
    ∙ sym (ap (λ (q : Bool). with_passed (counted q a.n ns.passed) ns) c.if-short.true)

pub returns-else-short : goal.returns-else-short
returns-else-short c =
    let a = c.args in
    let ns : Nodes = nodes_of a.nodes.now in
    sym (ap (λ (q : Bool). with_passed (counted q a.n ns.passed) ns) c.if-short.false)
