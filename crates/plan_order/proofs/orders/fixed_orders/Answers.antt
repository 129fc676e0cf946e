-- `plan_order::fixed_orders` meets its contract: each group is what the model says of the lines of the plan.
use native.Mathlib.Omega.{arith}
use Rattle.plan_order.specs.Orders.{orders_of}
use Rattle.plan_order.proofs.OrdersOfModel.{counts, few_processes, few_edges, upward, few_ticks, same_weights, same_dispatch_order, same_queue, same_into, same_dispatch, same_queues}
use Rattle.plan_order.proofs.orders.fixed_orders.Goals as goal

pub process_lines-processes-requires : goal.process_lines-processes-requires
process_lines-processes-requires c = counts c.args.p c.requires

pub edge_lines-edges-requires : goal.edge_lines-edges-requires
edge_lines-edges-requires c = counts c.args.p c.requires

pub nodes-node-requires : goal.nodes-node-requires
nodes-node-requires c = few_processes c.args.p c.requires _ _ c.process_lines-processes.ensures c.edge_lines-edges.ensures

pub receivers-to-requires : goal.receivers-to-requires
receivers-to-requires c = few_edges c.args.p c.requires _ _ c.process_lines-processes.ensures c.edge_lines-edges.ensures

pub urgencies-urgency-requires : goal.urgencies-urgency-requires
urgencies-urgency-requires c =
    let p = c.args.p in
    let h = c.requires in
    let q = c.process_lines-processes.ensures in
    let e = c.edge_lines-edges.ensures in
    record { fact_1 = few_processes p h _ _ q e; fact_2 = few_ticks p h _ _ q e; fact_3 = upward p h _ _ q e }

pub receiver_weights-receiver-requires : goal.receiver_weights-receiver-requires
receiver_weights-receiver-requires c = few_edges c.args.p c.requires _ _ c.process_lines-processes.ensures c.edge_lines-edges.ensures

pub sender_keys-sender-requires : goal.sender_keys-sender-requires
sender_keys-sender-requires c = few_edges c.args.p c.requires _ _ c.process_lines-processes.ensures c.edge_lines-edges.ensures

pub in_groups-a-requires : goal.in_groups-a-requires
in_groups-a-requires c =
    let p = c.args.p in
    let h = c.requires in
    let q = c.process_lines-processes.ensures in
    let e = c.edge_lines-edges.ensures in
    record { fact_1 = few_edges p h _ _ q e; fact_2 = few_processes p h _ _ q e }

pub in_groups-b-requires : goal.in_groups-b-requires
in_groups-b-requires c =
    let p = c.args.p in
    let h = c.requires in
    let l = few_processes p h _ _ c.process_lines-processes.ensures c.edge_lines-edges.ensures in
    record { fact_1 = omega (arith, l); fact_2 = omega (arith, (counts p h).slots) }

pub in_groups-c-requires : goal.in_groups-c-requires
in_groups-c-requires c =
    let p = c.args.p in
    let h = c.requires in
    record { fact_1 = few_edges p h _ _ c.process_lines-processes.ensures c.edge_lines-edges.ensures; fact_2 = omega (arith, (counts p h).slots) }

pub returns : goal.returns
unfolding orders_of
returns c =
    let p = c.args.p in
    let h = c.requires in
    let q = c.process_lines-processes.ensures in
    let e = c.edge_lines-edges.ensures in
    let v = same_weights p h _ _ q e c.urgencies-urgency.result c.urgencies-urgency.ensures c.weights-weight.ensures in
    let into = same_into p h _ _ q e c.zeros-none.ensures c.receivers-to.ensures c.in_groups-a.ensures in
    let dispatch = same_dispatch p h _ _ q e c.nodes-node.ensures (same_dispatch_order p h _ _ q e c.weights-weight.result v) c.in_groups-b.ensures in
    let queue = same_queues p h _ _ q e c.nodes-node.ensures c.sender_keys-sender.ensures (same_queue p h _ _ q e c.weights-weight.result v c.receiver_weights-receiver.ensures) c.in_groups-c.ensures in
    λ j.
    record {
      intofirst = (into j).first;
      into = (into j).member;
      dispatchfirst = (dispatch j).first;
      dispatch = (dispatch j).member;
      queuefirst = (queue j).first;
      queue = (queue j).member;
    }
