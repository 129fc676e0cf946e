-- The plan index of the tables, orders and timetable of a plan in which refusals 2 to 9 find nothing is that of its
-- lines, array by array; and what that says of the plan.
-- Assumes nothing.
use Rattle.std.specs.Prelude.{if◌then◌else◌}
use mathlib.Core.Path.{◌≡◌, refl, sym, ap, ◌∙◌, subst}
use mathlib.Core.List.{List}
use Prim.Native.Nat.{ℕ, suc, ◌+◌}
use native.Mathlib.Omega.{arith}
use lib.ListN.{length}
use Rattle.lists.specs.Lists.{fill}
use Rattle.lists.proofs.Fill.{fill_same, fill_whole, fill_length}
use Rattle.model.specs.Plan.{Process, Edge, waits_all, always, process, edge, decider, local, unit}
use Rattle.model.specs.Activity.{conjunction}
use Rattle.model.specs.Bus.{row_node, row_bytes}
use Rattle.model.specs.Log.{full_ticks, span}
use Rattle.model.specs.Refusals.{nothing, plan_refusal}
use Rattle.laws.proofs.Good.{good}
use Rattle.plan.specs.declared.Plan.{Plan}
use Rattle.plan.specs.Memory.{lines}
use Rattle.plan.specs.Kinds.{kind_of, condition_of}
use Rattle.plan.specs.Tests.{at}
use Rattle.plan_layout.specs.Columns.{process_columns, edge_columns}
use Rattle.plan.proofs.TestsOnLines.{processes_length, edges_length, conditions_length, slots_length, decider_at}
use Rattle.plan_order.specs.Orders.{orders_of}
use Rattle.plan_order.proofs.OrdersOfModel.{Ordered, ordered}
use Rattle.bus_timetable.specs.Bus.{timetable}
use Rattle.bus_timetable.proofs.TimetableOfModel.{Timed, timed}
use Rattle.plan_index.specs.declared.PlanIndex.{PlanIndex}
use Rattle.plan_layout.specs.LineArrays.{receiver_of, as_any_by_process, known_rows_by_edge, remote_by_edge}
use Rattle.plan_layout.specs.NodeArrays.{decided_by_node}
use Rattle.plan_layout.specs.RowArrays.{senders_by_row, spans_by_row, sizes_by_row}
use Rattle.plan_layout.specs.Layout.{index_of, by_process, by_edge, by_row, plan_index}
use Rattle.plan_layout.specs.Indexed.{Indexed}
use Rattle.plan_layout.proofs.Columns.{few, no_process_at, no_edge_at, process_node, process_ticks, edge_from, edge_to, edge_bytes, edge_kind, edge_condition}
use Rattle.plan_layout.proofs.IndexOfModel.{conditionrow, all_rows, decided_by, decides_at, sent, row_count, node_of, process_same, known_row_at, as_any_at, span_at, size_at, indexed}

module _ (p : Plan) (h : plan_refusal (lines p) ≡ nothing) where
  orders : Ordered (lines p) (orders_of (lines p))
  orders = ordered (lines p) (good (lines p) h)

  times : Timed (lines p) (timetable (lines p))
  times = timed (lines p) h

  -- one number of each line in a table
  process_column : (f : Process → ℕ) → f (record { node = 0; ticks = 0; waits = waits_all }) ≡ 0 → {xs : List ℕ} → length xs ≡ 64 →
      ((i : ℕ) → at xs i ≡ f (process (lines p) i)) → xs ≡ by_process (lines p) (λ i. f (process (lines p) i))
  process_column f z long same =
      fill_whole 64 (λ i. f (process (lines p) i)) (length (lines p).processes) (omega (arith, processes_length p, (few p h).processes)) long (λ i l. same i)
      (λ i l. same i ∙ ap f (no_process_at p h i (omega (arith, processes_length p))) ∙ z)

  edge_column : (f : Edge → ℕ) → f (record { from = 0; to = 0; bytes = 0; when = always }) ≡ 0 → {xs : List ℕ} → length xs ≡ 128 →
      ((e : ℕ) → at xs e ≡ f (edge (lines p) e)) → xs ≡ by_edge (lines p) (λ e. f (edge (lines p) e))
  edge_column f z long same =
      fill_whole 128 (λ e. f (edge (lines p) e)) (length (lines p).edges) (omega (arith, edges_length p, (few p h).edges)) long (λ e l. same e)
      (λ e l. same e ∙ ap f (no_edge_at p h e (omega (arith, edges_length p))) ∙ z)

  nodes : (process_columns (lines p)).node ≡ by_process (lines p) (λ i. (process (lines p) i).node)
  unfolding process_columns
  nodes = process_column (λ q. q.node) refl (fill_length 64 _ _) (process_node p (few p h))

  ticks : (process_columns (lines p)).ticks ≡ by_process (lines p) (λ i. (process (lines p) i).ticks)
  unfolding process_columns
  ticks = process_column (λ q. q.ticks) refl (fill_length 64 _ _) (process_ticks p (few p h))

  senders : (edge_columns (lines p)).from ≡ by_edge (lines p) (λ e. (edge (lines p) e).from)
  unfolding edge_columns
  senders = edge_column (λ x. x.from) refl (fill_length 128 _ _) (edge_from p (few p h))

  bytes : (edge_columns (lines p)).bytes ≡ by_edge (lines p) (λ e. (edge (lines p) e).bytes)
  unfolding edge_columns
  bytes = edge_column (λ x. x.bytes) refl (fill_length 128 _ _) (edge_bytes p (few p h))

  kinds : (edge_columns (lines p)).kind ≡ by_edge (lines p) (λ e. kind_of (edge (lines p) e).when)
  unfolding edge_columns kind_of
  kinds = edge_column (λ x. kind_of x.when) refl (fill_length 128 _ _) (edge_kind p (few p h))

  named : (edge_columns (lines p)).condition ≡ by_edge (lines p) (λ e. condition_of (edge (lines p) e).when)
  unfolding edge_columns condition_of
  named = edge_column (λ x. condition_of x.when) refl (fill_length 128 _ _) (edge_condition p (few p h))

  -- what is worked out of the tables
  as_any : as_any_by_process (process_columns (lines p)).any (orders_of (lines p)).intofirst p.processes ≡ by_process (lines p) (λ i. if conjunction (lines p) i then 1 else 0)
  unfolding as_any_by_process
  as_any =
      fill_same 64 _ (λ i. if conjunction (lines p) i then 1 else 0) p.processes (as_any_at p h (orders_of (lines p)) orders)
      ∙ ap (fill 64 (λ i. if conjunction (lines p) i then 1 else 0)) (sym (processes_length p))

  known : known_rows_by_edge (edge_columns (lines p)).kind (edge_columns (lines p)).condition (edge_columns (lines p)).from p.edges (conditionrow p h) ≡ (plan_index (lines p)).knownby
  unfolding known_rows_by_edge plan_index
  known = λ j. fill 128 (λ e. known_row_at p h e j) (sym (edges_length p) j)

  remotes : remote_by_edge (process_columns (lines p)).node (edge_columns (lines p)).from (edge_columns (lines p)).to p.edges ≡ by_edge (lines p) (λ e. if local (lines p) e then 0 else suc (unit (lines p) (edge (lines p) e).to))
  unfolding remote_by_edge unit
  remotes = λ j. fill 128 (λ e. receiver_of (node_of p h (edge_from p (few p h) e) j) (node_of p h (edge_to p (few p h) e) j)) (sym (edges_length p) j)

  deciders : decided_by p h ≡ fill 6 (decider (lines p)) (length (lines p).conditions)
  deciders = fill_same 6 (at p.condition) (decider (lines p)) p.conditions (decider_at p) ∙ ap (fill 6 (decider (lines p))) (sym (conditions_length p))

  decides : decided_by_node (decided_by p h) (process_columns (lines p)).node p.conditions ≡ (plan_index (lines p)).decides
  unfolding decided_by_node plan_index
  decides = λ j. fill 8 (λ n. decides_at p h n j) 8

  row_senders : senders_by_row (edge_columns (lines p)).from (decided_by p h) (process_columns (lines p)).node p.processes (conditionrow p h) (all_rows p h) ≡ by_row (lines p) (row_node (lines p))
  unfolding senders_by_row row_node
  row_senders =
      fill_same 198 _ (row_node (lines p)) (all_rows p h) (λ r l. node_of p h (process_same p h r (omega (arith, row_count p h)))) ∙ ap (fill 198 (row_node (lines p))) (row_count p h)

  row_spans : spans_by_row (process_columns (lines p)).ticks (timetable (lines p)).ticks (sent p h (orders_of (lines p)) orders (timetable (lines p)) times) p.processes (all_rows p h)
      ≡ by_row (lines p) (span (lines p) (full_ticks (lines p)))
  unfolding spans_by_row
  row_spans =
      fill_same 198 _ (span (lines p) (full_ticks (lines p))) (all_rows p h)
      (λ r l. span_at p h (orders_of (lines p)) orders (timetable (lines p)) times r (omega (arith, row_count p h)))
      ∙ ap (fill 198 (span (lines p) (full_ticks (lines p)))) (row_count p h)

  row_sizes : sizes_by_row (edge_columns (lines p)).bytes p.processes (conditionrow p h) (all_rows p h) ≡ by_row (lines p) (row_bytes (lines p))
  unfolding sizes_by_row
  row_sizes = λ j. fill 198 (λ r. size_at p h r j) (row_count p h j)

  pub index_same : index_of p.processes p.edges p.conditions p.slots (process_columns (lines p)) (edge_columns (lines p)) (orders_of (lines p)) (timetable (lines p)) (decided_by p h) ≡ plan_index (lines p)
  unfolding index_of plan_index
  index_same = λ j.
      record {
        processes = sym (processes_length p) j;
        edges = sym (edges_length p) j;
        conditions = sym (conditions_length p) j;
        slots = sym (slots_length p) j;
        conditionrow = sym (processes_length p) j + sym (edges_length p) j;
        rows = row_count p h j;
        node = nodes j;
        ticks = ticks j;
        asany = as_any j;
        from = senders j;
        knownby = known j;
        remote = remotes j;
        bytes = bytes j;
        kind = kinds j;
        condition = named j;
        decider = deciders j;
        intofirst = (orders_of (lines p)).intofirst;
        into = (orders_of (lines p)).into;
        dispatchfirst = (orders_of (lines p)).dispatchfirst;
        dispatch = (orders_of (lines p)).dispatch;
        queuefirst = (orders_of (lines p)).queuefirst;
        queue = (orders_of (lines p)).queue;
        round = (timetable (lines p)).round;
        reciprocal = (timetable (lines p)).reciprocal;
        offset = (timetable (lines p)).offset;
        lasts = (timetable (lines p)).ticks;
        rooms = (timetable (lines p)).bytes;
        decides = decides j;
        span = row_spans j;
        sender = row_senders j;
        size = row_sizes j;
      }

  pub indexed_lines : {b : PlanIndex} → b ≡ plan_index (lines p) → Indexed (lines p) b
  indexed_lines e =
      subst (λ (b : PlanIndex). Indexed (lines p) b) (index_same ∙ sym e) (indexed p h (orders_of (lines p)) orders (timetable (lines p)) times)
