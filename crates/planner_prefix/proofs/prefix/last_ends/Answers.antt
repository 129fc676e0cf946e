-- `planner_prefix::last_ends` meets its contract: before turn i the ends of the first i processes are looked at.
use mathlib.Core.Path.{refl, ap, ◌∙◌}
use Prim.Native.Nat.{ℕ, max}
use native.Mathlib.Omega.{arith}
use lib.ListN.{get_or}
use Rattle.plan_index.specs.Index.{laid}
use Rattle.log_rows.specs.Rows.{rows_of}
use Rattle.planner_nodes.specs.Nodes.{nodes_of, with_busy, put_busy}
use Rattle.planner_prefix.specs.Prefix.{ends_below}
use Rattle.planner_prefix.proofs.LastEnds.{ends_next}
use Rattle.planner_prefix.proofs.prefix.last_ends.Goals as goal

pub loop-i-init : goal.loop-i-init
unfolding ends_below
loop-i-init c =
    let z = c.requires.1 in
    (omega arith, λ i. with_busy (z i) (nodes_of c.args.nodes.now))

pub loop-i-preserved : goal.loop-i-preserved
loop-i-preserved c =
    let a = c.args in
    let q = c.loop-i.invariant.1 in (
      omega (arith, c.loop-i-test.true),
      c.put_busy.ensures
          ∙ (λ j. put_busy c.node_of-n.result c.max-end.result (q j))
          ∙ (λ j.
          with_busy
          (ends_next (laid a.index.now).node (rows_of a.rows.now).comes c.loop-i.i c.node_of-n.result c.max-end.result (ends_below (laid a.index.now).node (rows_of a.rows.now).comes c.loop-i.i) refl c.node_of-n.ensures.0
          (c.max-end.ensures ∙ (λ k. max ((c.busy_of.ensures ∙ (λ m. get_or (q m).busy c.node_of-n.result 0)) k) (c.comes_of.ensures k)))
          j)
          (nodes_of a.nodes.now)),
    )

pub returns : goal.returns
returns c =
    let a = c.args in
    c.loop-i.invariant.1 ∙ ap (λ (n : ℕ). with_busy (ends_below (laid a.index.now).node (rows_of a.rows.now).comes n) (nodes_of a.nodes.now)) (omega (arith, c.loop-i.invariant.0, c.loop-i-test.false, c.processes_of-processes.ensures.0))
