-- `plan_layout::laid_out` meets its contract: each array is what its function gives.
use mathlib.Core.Path.{◌≡◌, ap, ◌∙◌}
use mathlib.Core.List.{List}
use Prim.Native.Nat.{ℕ, ◌+◌, ◌≤◌, ◌<◌}
use native.Mathlib.Omega.{arith}
use Rattle.plan.specs.Memory.{lines}
use Rattle.plan.specs.Tests.{at}
use Rattle.plan_order.proofs.OrdersOfModel.{counts}
use Rattle.plan_layout.specs.Columns.{edge_columns}
use Rattle.plan_layout.specs.LineArrays.{known_rows_by_edge, remote_by_edge}
use Rattle.plan_layout.specs.NodeArrays.{decided_by_node}
use Rattle.plan_layout.specs.RowArrays.{senders_by_row, spans_by_row, sizes_by_row}
use Rattle.plan_layout.specs.Layout.{index_of}
use Rattle.plan_layout.proofs.Columns.{processes_told, edges_told, from_told, to_told, nodes_told, ticks_told, senders_told, bytes_told, kinds_told, conditions_told, as_any_told, remotes_told}
use Rattle.plan_layout.proofs.RowBounds.{senders_small}
use Rattle.plan_layout.proofs.index.laid_out.Goals as goal

-- what holds of each number of an array, of the array that is the same
each_same : (b : ℕ) {xs ys : List ℕ} → xs ≡ ys → ((k : ℕ) → at ys k < b) → (k : ℕ) → at xs k < b
each_same b e h k = omega (arith, ap (λ (xs : List ℕ). at xs k) e, h k)

pub overflow_add-conditionrow : goal.overflow_add-conditionrow
overflow_add-conditionrow c = let h = c.requires.fact_2 in omega (arith, h.few_processes, h.few_edges)

pub overflow_add-rows : goal.overflow_add-rows
overflow_add-rows c = let h = c.requires.fact_2 in omega (arith, h.few_processes, h.few_edges, h.few_conditions)

pub process_lines-process_lines-requires : goal.process_lines-process_lines-requires
process_lines-process_lines-requires c = counts c.args.p.now c.requires.fact_1

pub edge_lines-edge_lines-requires : goal.edge_lines-edge_lines-requires
edge_lines-edge_lines-requires c = counts c.args.p.now c.requires.fact_1

pub nodes-node-requires : goal.nodes-node-requires
nodes-node-requires c = omega (arith, processes_told c.args.p.now c.requires.fact_1 _ _ c.process_lines-process_lines.ensures c.edge_lines-edge_lines.ensures, c.requires.fact_2.few_processes)

pub durations-ticks-requires : goal.durations-ticks-requires
durations-ticks-requires c = omega (arith, processes_told c.args.p.now c.requires.fact_1 _ _ c.process_lines-process_lines.ensures c.edge_lines-edge_lines.ensures, c.requires.fact_2.few_processes)

pub senders-from-requires : goal.senders-from-requires
senders-from-requires c = omega (arith, edges_told c.args.p.now c.requires.fact_1 _ _ c.process_lines-process_lines.ensures c.edge_lines-edge_lines.ensures, c.requires.fact_2.few_edges)

pub sizes-bytes-requires : goal.sizes-bytes-requires
sizes-bytes-requires c = omega (arith, edges_told c.args.p.now c.requires.fact_1 _ _ c.process_lines-process_lines.ensures c.edge_lines-edge_lines.ensures, c.requires.fact_2.few_edges)

pub kinds-kind-requires : goal.kinds-kind-requires
kinds-kind-requires c = omega (arith, edges_told c.args.p.now c.requires.fact_1 _ _ c.process_lines-process_lines.ensures c.edge_lines-edge_lines.ensures, c.requires.fact_2.few_edges)

pub conditions_named-condition-requires : goal.conditions_named-condition-requires
conditions_named-condition-requires c = omega (arith, edges_told c.args.p.now c.requires.fact_1 _ _ c.process_lines-process_lines.ensures c.edge_lines-edge_lines.ensures, c.requires.fact_2.few_edges)

pub counted_as_any-asany-requires : goal.counted_as_any-asany-requires
counted_as_any-asany-requires c = omega (arith, processes_told c.args.p.now c.requires.fact_1 _ _ c.process_lines-process_lines.ensures c.edge_lines-edge_lines.ensures, c.requires.fact_2.few_processes)

pub overflow_cast-conditionrow : goal.overflow_cast-conditionrow
overflow_cast-conditionrow c = let h = c.requires.fact_2 in omega (arith, h.few_processes, h.few_edges)

pub known_rows-knownby-requires : goal.known_rows-knownby-requires
known_rows-knownby-requires c =
    let h = c.requires.fact_2 in
    record {
      fact_1 = h.few_edges;
      fact_2 = omega (arith, h.few_processes, h.few_edges);
      fact_3 = each_same 6 (c.conditions_named-condition.ensures ∙ conditions_told c.args.p.now c.requires.fact_1 _ _ c.process_lines-process_lines.ensures c.edge_lines-edge_lines.ensures) h.named;
    }

pub remotes-remote-requires : goal.remotes-remote-requires
remotes-remote-requires c =
    let h = c.requires.fact_2 in
    record {
      fact_1 = omega (arith, edges_told c.args.p.now c.requires.fact_1 _ _ c.process_lines-process_lines.ensures c.edge_lines-edge_lines.ensures, h.few_edges);
      fact_2 = λ k. omega (arith, from_told c.args.p.now c.requires.fact_1 _ _ c.process_lines-process_lines.ensures c.edge_lines-edge_lines.ensures k, h.senders k);
      fact_3 = λ k. omega (arith, to_told c.args.p.now c.requires.fact_1 _ _ c.process_lines-process_lines.ensures c.edge_lines-edge_lines.ensures k, h.receivers k);
      fact_4 = each_same 8 (c.nodes-node.ensures ∙ nodes_told c.args.p.now c.requires.fact_1 _ _ c.process_lines-process_lines.ensures c.edge_lines-edge_lines.ensures) h.nodes;
    }

pub row_senders-sender-requires : goal.row_senders-sender-requires
row_senders-sender-requires c =
    let h = c.requires.fact_2 in
    record {
      fact_1 = h.few_processes;
      fact_2 = omega (arith, h.few_edges);
      fact_3 = omega (arith, h.few_conditions);
      fact_4 = each_same 64 (c.senders-from.ensures ∙ senders_told c.args.p.now c.requires.fact_1 _ _ c.process_lines-process_lines.ensures c.edge_lines-edge_lines.ensures) h.senders;
      fact_5 = h.deciders;
    }

pub row_spans-span-requires : goal.row_spans-span-requires
row_spans-span-requires c =
    let a = c.args in
    let p = a.p.now in
    let h = c.requires.fact_2 in
    let u : p.processes + p.edges + p.conditions ≤ 198 = omega (arith, h.few_processes, h.few_edges, h.few_conditions) in record {
      fact_1 = h.few_processes;
      fact_2 = u;
      fact_3 = each_same 8 c.row_senders-sender.ensures
          (senders_small c.senders-from.result a.decider c.nodes-node.result p.processes (p.processes + p.edges) (p.processes + p.edges + p.conditions) u
          (each_same 8 (c.nodes-node.ensures ∙ nodes_told c.args.p.now c.requires.fact_1 _ _ c.process_lines-process_lines.ensures c.edge_lines-edge_lines.ensures) h.nodes));
    }

pub row_sizes-size-requires : goal.row_sizes-size-requires
row_sizes-size-requires c =
    let h = c.requires.fact_2 in
    record { fact_1 = h.few_processes; fact_2 = omega (arith, h.few_edges); fact_3 = omega (arith, h.few_processes, h.few_edges, h.few_conditions) }

pub decided_by_node-decides-requires : goal.decided_by_node-decides-requires
decided_by_node-decides-requires c =
    let h = c.requires.fact_2 in
    record { fact_1 = h.few_conditions; fact_2 = h.deciders; fact_3 = each_same 8 (c.nodes-node.ensures ∙ nodes_told c.args.p.now c.requires.fact_1 _ _ c.process_lines-process_lines.ensures c.edge_lines-edge_lines.ensures) h.nodes }

pub returns : goal.returns
unfolding index_of
returns c =
    let a = c.args in
    let p = a.p.now in
    let e = edge_columns (lines p) in
    let conditionrow : ℕ = p.processes + p.edges in
    let rows : ℕ = conditionrow + p.conditions in
    let nodes = c.nodes-node.ensures ∙ nodes_told c.args.p.now c.requires.fact_1 _ _ c.process_lines-process_lines.ensures c.edge_lines-edge_lines.ensures in
    let ticks = c.durations-ticks.ensures ∙ ticks_told c.args.p.now c.requires.fact_1 _ _ c.process_lines-process_lines.ensures c.edge_lines-edge_lines.ensures in
    let from = c.senders-from.ensures ∙ senders_told c.args.p.now c.requires.fact_1 _ _ c.process_lines-process_lines.ensures c.edge_lines-edge_lines.ensures in
    let bytes = c.sizes-bytes.ensures ∙ bytes_told c.args.p.now c.requires.fact_1 _ _ c.process_lines-process_lines.ensures c.edge_lines-edge_lines.ensures in
    let kinds = c.kinds-kind.ensures ∙ kinds_told c.args.p.now c.requires.fact_1 _ _ c.process_lines-process_lines.ensures c.edge_lines-edge_lines.ensures in
    let named = c.conditions_named-condition.ensures ∙ conditions_told c.args.p.now c.requires.fact_1 _ _ c.process_lines-process_lines.ensures c.edge_lines-edge_lines.ensures in
    let any = c.counted_as_any-asany.ensures ∙ as_any_told c.args.p.now c.requires.fact_1 _ _ c.process_lines-process_lines.ensures c.edge_lines-edge_lines.ensures a.o.intofirst in
    let known = c.known_rows-knownby.ensures ∙ (λ j. known_rows_by_edge (kinds j) (named j) (from j) p.edges conditionrow) in
    let remotes = c.remotes-remote.ensures ∙ remotes_told c.args.p.now c.requires.fact_1 _ _ c.process_lines-process_lines.ensures c.edge_lines-edge_lines.ensures c.nodes-node.result ∙ (λ j. remote_by_edge (nodes j) e.from e.to p.edges) in
    let senders = c.row_senders-sender.ensures ∙ (λ j. senders_by_row (from j) a.decider (nodes j) p.processes conditionrow rows) in
    let spans = c.row_spans-span.ensures ∙ (λ j. spans_by_row (ticks j) a.t.ticks (senders j) p.processes rows) in
    let sizes = c.row_sizes-size.ensures ∙ (λ j. sizes_by_row (bytes j) p.processes conditionrow rows) in
    let decides = c.decided_by_node-decides.ensures ∙ (λ j. decided_by_node a.decider (nodes j) p.conditions) in
    λ j.
    record {
      processes = p.processes;
      edges = p.edges;
      conditions = p.conditions;
      slots = p.slots;
      conditionrow = conditionrow;
      rows = rows;
      node = nodes j;
      ticks = ticks j;
      asany = any j;
      from = from j;
      knownby = known j;
      remote = remotes j;
      bytes = bytes j;
      kind = kinds j;
      condition = named j;
      decider = a.decider;
      intofirst = a.o.intofirst;
      into = a.o.into;
      dispatchfirst = a.o.dispatchfirst;
      dispatch = a.o.dispatch;
      queuefirst = a.o.queuefirst;
      queue = a.o.queue;
      round = a.t.round;
      reciprocal = a.t.reciprocal;
      offset = a.t.offset;
      lasts = a.t.ticks;
      rooms = a.t.bytes;
      decides = decides j;
      span = spans j;
      sender = senders j;
      size = sizes j;
    }
