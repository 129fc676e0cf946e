-- The plan index of a plan's columns, orders and timetable, and how large the numbers in the columns are; and the plan
-- index of a plan's lines.
-- Assumes nothing.
use Rattle.std.specs.Prelude.{List, ℕ, suc, ◌+◌, ◌≤◌, ◌<◌, eqb, length, if◌then◌else◌}
use Rattle.limits.specs.Limits.{NODES, PROCESSES, CONDITIONS, EDGES, ROWS}
use Rattle.lists.specs.Lists.{fill}
use Rattle.model.specs.Plan.{Lines, process, edge, decider, local, unit}
use Rattle.model.specs.Activity.{conjunction}
use Rattle.model.specs.Bus.{rows, row_node, row_bytes}
use Rattle.model.specs.Log.{full_ticks, span}
use Rattle.plan.specs.Kinds.{kind_of, condition_of}
use Rattle.plan.specs.Tests.{at}
use Rattle.bitset.specs.Masks.{mask_from}
use Rattle.log_queries.specs.Holding.{known_row}
use Rattle.plan_order.specs.declared.orders.Orders.{Orders}
use Rattle.plan_order.specs.Orders.{orders_of}
use Rattle.bus_timetable.specs.declared.Timetable.{Timetable}
use Rattle.bus_timetable.specs.Bus.{timetable}
use Rattle.plan_layout.specs.Columns.{ProcessColumns, EdgeColumns}
use Rattle.plan_layout.specs.LineArrays.{as_any_by_process, known_rows_by_edge, remote_by_edge}
use Rattle.plan_layout.specs.NodeArrays.{decided_by_node}
use Rattle.plan_layout.specs.RowArrays.{senders_by_row, spans_by_row, sizes_by_row}
use Rattle.plan_index.specs.declared.PlanIndex.{PlanIndex}

-- how large the numbers in the columns of a plan are in which refusals 2 to 9 find nothing
pub record Small (processes edges conditions : ℕ) (q : ProcessColumns) (e : EdgeColumns) (decider : List ℕ) : Type 0 where
  pub few_processes : processes ≤ 64
  pub few_edges : edges ≤ 128
  pub few_conditions : conditions ≤ 6
  pub nodes : (i : ℕ) → at q.node i < 8
  pub senders : (k : ℕ) → at e.from k < 64
  pub receivers : (k : ℕ) → at e.to k < 64
  pub named : (k : ℕ) → at e.condition k < 6
  pub deciders : (k : ℕ) → at decider k < 64

-- the plan index of a plan's columns, orders and timetable
unfoldable pub index_of : ℕ → ℕ → ℕ → ℕ → ProcessColumns → EdgeColumns → Orders → Timetable → List ℕ → PlanIndex
index_of processes edges conditions slots q e o t decider =
    record {
      processes = processes;
      edges = edges;
      conditions = conditions;
      slots = slots;
      conditionrow = processes + edges;
      rows = processes + edges + conditions;
      node = q.node;
      ticks = q.ticks;
      asany = as_any_by_process q.any o.intofirst processes;
      from = e.from;
      knownby = known_rows_by_edge e.kind e.condition e.from edges (processes + edges);
      remote = remote_by_edge q.node e.from e.to edges;
      bytes = e.bytes;
      kind = e.kind;
      condition = e.condition;
      decider = decider;
      intofirst = o.intofirst;
      into = o.into;
      dispatchfirst = o.dispatchfirst;
      dispatch = o.dispatch;
      queuefirst = o.queuefirst;
      queue = o.queue;
      round = t.round;
      reciprocal = t.reciprocal;
      offset = t.offset;
      lasts = t.ticks;
      rooms = t.bytes;
      decides = decided_by_node decider q.node conditions;
      span =
          spans_by_row q.ticks t.ticks (senders_by_row e.from decider q.node processes (processes + edges) (processes + edges + conditions)) processes
          (processes + edges + conditions);
      sender = senders_by_row e.from decider q.node processes (processes + edges) (processes + edges + conditions);
      size = sizes_by_row e.bytes processes (processes + edges) (processes + edges + conditions);
    }

-- an array by process, by edge and by row of a plan, zeros behind
abbrev pub by_process : Lines → (ℕ → ℕ) → List ℕ
by_process p f = fill PROCESSES f (length p.processes)

abbrev pub by_edge : Lines → (ℕ → ℕ) → List ℕ
by_edge p f = fill EDGES f (length p.edges)

abbrev pub by_row : Lines → (ℕ → ℕ) → List ℕ
by_row p f = fill ROWS f (rows p)

-- the plan index of a plan
unfoldable pub plan_index : Lines → PlanIndex
plan_index p =
    let o : Orders = orders_of p in
    let t : Timetable = timetable p in
    record {
      processes = length p.processes;
      edges = length p.edges;
      conditions = length p.conditions;
      slots = length p.slots;
      conditionrow = length p.processes + length p.edges;
      rows = rows p;
      node = by_process p (λ i. (process p i).node);
      ticks = by_process p (λ i. (process p i).ticks);
      asany = by_process p (λ i. if conjunction p i then 1 else 0);
      from = by_edge p (λ e. (edge p e).from);
      knownby = by_edge p (λ e. known_row p (edge p e).from (edge p e).when);
      remote = by_edge p (λ e. if local p e then 0 else suc (unit p (edge p e).to));
      bytes = by_edge p (λ e. (edge p e).bytes);
      kind = by_edge p (λ e. kind_of (edge p e).when);
      condition = by_edge p (λ e. condition_of (edge p e).when);
      decider = fill CONDITIONS (decider p) (length p.conditions);
      intofirst = o.intofirst;
      into = o.into;
      dispatchfirst = o.dispatchfirst;
      dispatch = o.dispatch;
      queuefirst = o.queuefirst;
      queue = o.queue;
      round = t.round;
      reciprocal = t.reciprocal;
      offset = t.offset;
      lasts = t.ticks;
      rooms = t.bytes;
      decides = fill NODES (λ n. mask_from (λ k. eqb (process p (decider p k)).node n) 0 (length p.conditions)) NODES;
      span = by_row p (span p (full_ticks p));
      sender = by_row p (row_node p);
      size = by_row p (row_bytes p);
    }
