-- `planner_prefix::add_counts` meets its contract: before turn n the counts of the first n nodes are added.
use mathlib.Core.Path.{◌≡◌, ap, ◌∙◌}
use mathlib.Core.List.{List}
use Prim.Native.Nat.{ℕ, ◌+◌}
use native.Mathlib.Omega.{arith}
use lib.ListN.{get_or, set}
use Rattle.planner_nodes.specs.Nodes.{nodes_of}
use Rattle.planner_prefix.specs.Stored.{added}
use Rattle.planner_prefix.proofs.Adding.{added_past, added_next}
use borrow.Author.Rules.{rules}
use Rattle.planner_prefix.proofs.stored_plans.add_counts.Goals as goal

pub loop-n-init : goal.loop-n-init
unfolding added
loop-n-init c = search rules

pub overflow_add-totals : goal.overflow_add-totals
overflow_add-totals c =
    let a = c.args in
    let n = c.loop-n.n in
    omega (
      arith,
      c.passed_of.ensures,
      c.requires.1 n c.loop-n-test.true,
      ap (λ (xs : List ℕ). get_or xs n 0) c.loop-n.invariant.1 ∙ added_past (nodes_of a.nodes.now).passed a.totals.now n n (omega arith),
    )

pub loop-n-preserved : goal.loop-n-preserved
loop-n-preserved c =
    let a = c.args in (
      omega (arith, c.loop-n-test.true),
      ap (λ (x : ℕ). set c.loop-n.totals c.loop-n.n (get_or c.loop-n.totals c.loop-n.n 0 + x)) c.passed_of.ensures
          ∙ added_next (nodes_of a.nodes.now).passed a.totals.now c.loop-n.n c.loop-n.totals c.loop-n.invariant.1,
    )

pub returns : goal.returns
returns c =
    let a = c.args in
    let q : c.loop-n.n ≡ a.slots = omega arith in
    c.loop-n.invariant.1 ∙ ap (added (nodes_of a.nodes.now).passed a.totals.now) q
