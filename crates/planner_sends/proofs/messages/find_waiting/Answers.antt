-- `planner_sends::find_waiting` meets its contract: before place j, the messages that wait so far stand in order.
use mathlib.Core.Path.{refl, sym, ap, ◌∙◌}
use mathlib.Core.Bool.{Bool}
use mathlib.Core.List.{List}
use Prim.Native.Nat.{ℕ}
use native.Mathlib.Omega.{arith}
use lib.ListN.{set}
use Rattle.plan_index.specs.Index.{laid}
use Rattle.log_rows.specs.Rows.{Rows, rows_of}
use Rattle.plan_index.specs.declared.PlanIndex.{PlanIndex}
use Rattle.planner_nodes.specs.Nodes.{Nodes, nodes_of}
use Rattle.planner_sends.specs.Pending.{waits_to_send}
use Rattle.planner_sends.proofs.RowsRest.{wait_rest}
use Rattle.planner_sends.proofs.Places.{finding_start, finding_yes, finding_no, finding_as, finding_end}
use Rattle.planner_sends.proofs.messages.find_waiting.Goals as goal
use Rattle.planner_sends.proofs.messages.find_waiting.Goals.{then-waits, else-waits}

-- the test that the messages pass
abbrev passes : PlanIndex → Rows → ℕ → ℕ → Bool
passes b s u = waits_to_send b s u

pub loop-j-init : goal.loop-j-init
loop-j-init c = (finding_start _ _ _ _ _ c.requires.0, refl)

pub put_wait-requires : goal.put_wait-requires
put_wait-requires c =
    omega (arith, c.loop-j.invariant.0.kept, c.loop-j-test.true, c.requires.1)

pub overflow_add-k : goal.overflow_add-k
overflow_add-k c =
    omega (arith, c.loop-j.invariant.0.kept, c.loop-j-test.true, c.requires.1)

pub loop-j-preserved : goal.loop-j-preserved
loop-j-preserved c =
    let a = c.args in
    let queue = (laid a.index.now).queue in
    let ns : Nodes = nodes_of a.nodes.now in
    let m : Nodes = nodes_of c.loop-j.nodes in
    let e = c.queue_of-e.ensures.0 in
    let test = ap (passes (laid c.args.index.now) (rows_of c.args.rows.now) c.args.u) (sym e) ∙ sym c.waits.ensures in
    elim c.if-waits.branch [
      | then-waits t ↦ let stored = ap nodes_of t.nodes-is ∙ t.put_wait.ensures in (
        finding_as (passes (laid c.args.index.now) (rows_of c.args.rows.now) c.args.u) queue ns.wait a.a a.b _ _ _ _ _ ((λ n. (stored n).wait) ∙ ap (set m.wait c.loop-j.k) e) t.k-is
            (finding_yes (passes (laid c.args.index.now) (rows_of c.args.rows.now) c.args.u) queue ns.wait a.a a.b m.wait c.loop-j.k c.loop-j.j c.loop-j-test.true c.loop-j.invariant.0 (omega (arith, c.requires.1, c.requires.3)) (test ∙ t.if-waits.true)),
        wait_rest ns m _ c.loop-j.invariant.1 stored,
      )
      | else-waits t ↦ (
        finding_as (passes (laid c.args.index.now) (rows_of c.args.rows.now) c.args.u) queue ns.wait a.a a.b _ _ _ _ _ (ap (λ (xs : List ℕ). (nodes_of xs).wait) t.nodes-is) t.k-is
            (finding_no (passes (laid c.args.index.now) (rows_of c.args.rows.now) c.args.u) queue ns.wait a.a a.b m.wait c.loop-j.k c.loop-j.j c.loop-j-test.true c.loop-j.invariant.0 (test ∙ t.if-waits.false)),
        wait_rest ns m _ c.loop-j.invariant.1 (ap nodes_of t.nodes-is),
      )
    ]

pub returns : goal.returns
returns c =
    let a = c.args in
    let e = finding_end (passes (laid c.args.index.now) (rows_of c.args.rows.now) c.args.u) (laid a.index.now).queue (nodes_of a.nodes.now).wait a.a a.b _ _ _ c.loop-j-test.false c.loop-j.invariant.0 in
    record { listed = e.0; upto = e.1; rest = c.loop-j.invariant.1 }
