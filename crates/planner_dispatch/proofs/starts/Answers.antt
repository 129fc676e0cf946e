-- `planner_dispatch::starts` meets its contract: the nodes that are left of those for which something is new give the
-- whole answer.
use mathlib.Core.Path.{◌≡◌, refl, sym, ap, ◌∙◌}
use mathlib.Core.List.{List, ◌∷◌}
use Prim.Native.Nat.{ℕ}
use native.Mathlib.Omega.{arith}
use lib.ListN.{drop}
use Rattle.bitset.specs.Masks.{nodes as nodes-in, steps}
use Rattle.bitset.proofs.Sets.{node_small}
use Rattle.bitset.proofs.Steps.{steps_next, steps_end}
use Rattle.plan_index.specs.declared.PlanIndex.{PlanIndex}
use Rattle.plan_index.specs.Index.{laid}
use Rattle.log_rows.specs.Rows.{Rows, rows_of, with_comes}
use Rattle.planner_nodes.specs.Nodes.{Nodes, nodes_of, with_busy}
use Rattle.planner_dispatch.specs.Starts.{Ends}
use Rattle.planner_dispatch.specs.Dispatching.{node_starts, started, NodeStarted, Started}
use Rattle.planner_dispatch.proofs.Fresh.{changed_nodes_start, soonest_none}
use Rattle.planner_dispatch.proofs.starts.Goals as goal
use Rattle.planner_dispatch.proofs.starts.Invariants.{Going}

module _ (b : PlanIndex) (u : ℕ) (s : Rows) (m : Nodes) where
  going_next : (left n : ℕ) {ns : List ℕ} (r : Rows) (k : Nodes) (first : ℕ) {r' : Rows} {k' : Nodes} {first' : ℕ} →
      nodes-in left ≡ n ∷ drop 1 (nodes-in left) → ns ≡ drop 1 (nodes-in left) →
      NodeStarted b u n r k first r' k' first' → Going b u s m (nodes-in left) r k first → Going b u s m ns r' k' first'
  going_next left n r k first {r'} {k'} {first'} e d o g =
      let z : Ends = record { busy = k.busy; comes = r.comes } in
      let x : Ends = node_starts b r u n z in
      let same : x ≡ node_starts b s u n z = ap (λ (y : Rows). node_starts b y u n z) g.rows in
      let now : record { busy = k'.busy; comes = r'.comes } ≡ x = λ i. record { busy = (o.nodes i).busy; comes = (o.rows i).comes } in
      record {
        rows = o.rows ∙ ap (λ (y : Rows). with_comes x.comes y) g.rows ∙ sym (ap (λ (y : Rows). with_comes y.comes s) o.rows);
        nodes = o.nodes ∙ ap (λ (y : Nodes). with_busy x.busy y) g.nodes ∙ sym (ap (λ (y : Nodes). with_busy y.busy m) o.nodes);
        whole = (λ i. steps (node_starts b s u) (d i) ((now ∙ same) i)) ∙ steps_next (node_starts b s u) left n z e ∙ g.whole;
        soonest = λ h. o.soonest m.busy (g.soonest h);
      }

  going_end : (left : ℕ) (r : Rows) (k : Nodes) (first : ℕ) → left ≡ 0 → Going b u s m (nodes-in left) r k first → Started b u s m r k first
  going_end left r k first e g =
      let z : Ends = record { busy = k.busy; comes = r.comes } in
      let all : z ≡ started b s m.busy u = steps_end (node_starts b s u) left z e ∙ g.whole in
      record {
        rows = g.rows ∙ ap (λ (y : Ends). with_comes y.comes s) all;
        nodes = g.nodes ∙ ap (λ (y : Ends). with_busy y.busy m) all;
        soonest = g.soonest;
      }

pub loop-left-init : goal.loop-left-init
loop-left-init c =
    let a = c.args in
    let b : PlanIndex = laid a.index.now in
    let s = rows_of a.rows.now in
    let m = nodes_of a.nodes.now in (
      c.requires.2,
      record {
        rows = refl;
        nodes = refl;
        whole =
            changed_nodes_start b.processes b.remote b.from b.knownby s.unmet s.run b.asany b.intofirst b.into a.u b.dispatchfirst b.dispatch b.ticks b.slots a.new m.busy s.comes c.requires.0.dispatch_members c.requires.3 c.requires.0.few_slots;
        soonest = soonest_none b.slots a.u m.busy;
      },
    )

pub lowest_node-n-requires : goal.lowest_node-n-requires
lowest_node-n-requires c =
    (omega (arith, c.loop-left-test.true), c.loop-left.invariant.0)

pub start_node-first-requires : goal.start_node-first-requires
start_node-first-requires c =
    (node_small c.loop-left.left c.lowest_node-n.result c.lowest_node-n.ensures, c.requires.1, c.requires.0)

pub without_lowest_node-left-requires : goal.without_lowest_node-left-requires
without_lowest_node-left-requires c =
    (omega (arith, c.loop-left-test.true), c.loop-left.invariant.0)

pub loop-left-smaller : goal.loop-left-smaller
loop-left-smaller c =
    omega (arith, c.without_lowest_node-left.ensures.1)

pub loop-left-preserved : goal.loop-left-preserved
loop-left-preserved c =
    let a = c.args in (
      omega (arith, c.without_lowest_node-left.ensures.1, c.loop-left.invariant.0),
      going_next (laid a.index.now) a.u (rows_of a.rows.now) (nodes_of a.nodes.now) c.loop-left.left c.lowest_node-n.result (rows_of c.loop-left.rows) (nodes_of c.loop-left.nodes) c.loop-left.first c.lowest_node-n.ensures c.without_lowest_node-left.ensures.0 c.start_node-first.ensures c.loop-left.invariant.1,
    )

pub returns : goal.returns
returns c =
    let a = c.args in
    going_end (laid a.index.now) a.u (rows_of a.rows.now) (nodes_of a.nodes.now) c.loop-left.left (rows_of c.loop-left.rows) (nodes_of c.loop-left.nodes) c.loop-left.first (omega (arith, c.loop-left-test.false)) c.loop-left.invariant.1
