-- `planner_dispatch::start_node` meets its contract: a free node starts, and one that is not free, or is no node, stays
-- as it is.
use mathlib.Core.Path.{◌≡◌, refl, sym, ap, subst, ◌∙◌}
use Prim.Native.Nat.{ℕ, ◌+◌, ◌<◌, ◌≤◌}
use native.Mathlib.Omega.{arith}
use lib.ListN.{get_or, set}
use borrow.Author.Tests.{lt-ltb, le-ltb, le-leb, lt-leb}
use Rattle.plan_index.specs.declared.PlanIndex.{PlanIndex}
use Rattle.plan_index.specs.Index.{laid}
use Rattle.log_rows.specs.Rows.{Rows, rows_of, with_comes}
use Rattle.planner_nodes.specs.Nodes.{Nodes, nodes_of, with_busy, put_busy}
use Rattle.planner_dispatch.specs.Starts.{Ends, choice, start_by, end_after, rows_after}
use Rattle.planner_dispatch.specs.ChangedNodes.{start_in, Soonest}
use Rattle.planner_dispatch.specs.Dispatching.{picked, node_started, NodeStarted}
use Rattle.planner_dispatch.proofs.Fresh.{soonest_next}
use Rattle.planner_dispatch.proofs.start_node.Goals as goal

module _ (b : PlanIndex) (u n : ℕ) (s : Rows) (m : Nodes) where
  no_node : (first : ℕ) → b.slots ≤ n → NodeStarted b u n s m first s m first
  unfolding start_in
  no_node first l =
      let o = le-ltb n b.slots l in
      record { rows = simp o; nodes = simp o; soonest = λ before z. z }

  not_free : (first : ℕ) → n < b.slots → u < get_or m.busy n 0 → NodeStarted b u n s m first s m first
  unfolding start_in start_by
  not_free first l h =
      let o = lt-ltb n b.slots l in
      let w = lt-leb (get_or m.busy n 0) u h in
      record { rows = simp (o, w); nodes = simp (o, w); soonest = λ before z. z }

  module _ (l : n < b.slots) (h : get_or m.busy n 0 ≤ u) {x y : ℕ} (e : x ≡ get_or b.dispatchfirst n 0) (d : y ≡ get_or b.dispatchfirst (n + 1) 0) where
    begun : node_started b s m.busy u n
        ≡ record {
          busy = set m.busy n (end_after (picked b s u x y) u b.ticks (get_or m.busy n 0));
          comes = rows_after (picked b s u x y) u b.ticks s.comes;
        }
    unfolding start_in start_by choice
    begun = rw (lt-ltb n b.slots l, le-leb (get_or m.busy n 0) u h, e, d) refl

    begun-rows : with_comes (rows_after (picked b s u x y) u b.ticks s.comes) s ≡ with_comes (node_started b s m.busy u n).comes s
    begun-rows = ap (λ (z : Ends). with_comes z.comes s) (sym begun)

    begun-nodes : {end last : ℕ} → end ≡ end_after (picked b s u x y) u b.ticks last → last ≡ get_or m.busy n 0 →
        put_busy n end m ≡ with_busy (node_started b s m.busy u n).busy m
    begun-nodes r q =
        ap (λ (k : ℕ). put_busy n k m) (r ∙ ap (end_after (picked b s u x y) u b.ticks) q) ∙ ap (λ (z : Ends). with_busy z.busy m) (sym begun)

pub returns-then-slots_of-n : goal.returns-then-slots_of-n
returns-then-slots_of-n c =
    let a = c.args in
    no_node (laid a.index.now) a.u a.n (rows_of a.rows.now) (nodes_of a.nodes.now) a.first (omega (arith, c.if-slots_of-n.true, c.slots_of.ensures.0))

pub returns-then-u-last : goal.returns-then-u-last
returns-then-u-last c =
    let a = c.args in
    not_free (laid a.index.now) a.u a.n (rows_of a.rows.now) (nodes_of a.nodes.now) a.first (omega (arith, c.if-slots_of-n.false, c.slots_of.ensures.0)) (omega (arith, c.if-u-last.true, c.busy_of-last.ensures))

pub returns : goal.returns
returns c =
    let a = c.args in
    let b = laid a.index.now in
    let s = rows_of a.rows.now in
    let m = nodes_of a.nodes.now in
    let here : a.n < b.slots = omega (arith, c.if-slots_of-n.false, c.slots_of.ensures.0) in
    let ended : get_or m.busy a.n 0 ≤ a.u = omega (arith, c.if-u-last.false, c.busy_of-last.ensures) in
    let first = c.dispatchfirst_of-a.ensures.0 in
    let past = c.dispatchfirst_of-b.ensures.0 in
    record {
      rows = c.start-end.ensures.rows ∙ begun-rows b a.u a.n s m here ended first past;
      nodes = c.put_busy.ensures ∙ begun-nodes b a.u a.n s m here ended first past c.start-end.ensures.end c.busy_of-last.ensures;
      soonest = λ before z.
          subst (λ (k : Nodes). Soonest b.slots a.u before k.busy c.sooner_end.result) (sym c.put_busy.ensures)
          (soonest_next b.slots a.u before m.busy a.first a.n c.start-end.result c.sooner_end.result here c.requires.0 ended c.sooner_end.ensures z);
    }
