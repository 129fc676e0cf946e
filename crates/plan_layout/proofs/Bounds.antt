-- How large the numbers of a plan index are that says of a plan what it should.
-- Assumes nothing.
use native.Mathlib.Omega.{arith}
use Rattle.model.specs.Plan.{Lines}
use Rattle.plan_index.specs.declared.PlanIndex.{PlanIndex}
use Rattle.plan_index.specs.Index.{Bounded}
use Rattle.plan_layout.specs.Indexed.{Indexed}

pub bounded : (p : Lines) (b : PlanIndex) → Indexed p b → Bounded b
bounded p b o =
    record {
      few_processes = o.few_processes;
      few_edges = o.few_edges;
      few_conditions = o.few_conditions;
      few_slots = o.few_slots;
      few_before = omega (arith, o.first_condition_row, o.few_processes, o.few_edges);
      few_rows = omega (arith, o.row_count, o.few_processes, o.few_edges, o.few_conditions, o.processes_count, o.edges_count, o.conditions_count);
      node_small = o.node_small;
      ticks_most = o.ticks_most;
      from_small = o.within.senders;
      knownby_small = o.within.known_rows;
      remote_most = o.remote_most;
      bytes_most = o.bytes_most;
      condition_small = o.condition_small;
      decider_small = o.decider_small;
      into_firsts = o.into_firsts;
      into_edges = o.within.edges;
      dispatch_firsts = o.dispatch_firsts;
      dispatch_members = o.dispatch_members;
      queue_firsts = o.queue_firsts;
      queue_edges = o.queue_members;
      decides_small = o.decides_small;
      span_most = o.span_most;
      sender_small = o.sender_small;
      size_most = o.size_most;
    }
