-- `planner_combination::event` meets its contract: its steps are those of the next event, by what is kept from event to
-- event.
use Rattle.std.specs.Prelude.{IfSome, unwrap_or}
use mathlib.Core.Path.{◌≡◌, ◌∙◌, subst}
use Prim.Native.Nat.{ℕ, ◌<◌}
use Rattle.plan_index.specs.declared.PlanIndex.{PlanIndex}
use Rattle.plan_index.specs.Index.{laid}
use Rattle.log_rows.specs.Rows.{rows_of}
use Rattle.planner_nodes.specs.Nodes.{nodes_of}
use Rattle.planner_sends.specs.Clocks.{sending_node_by, ends_now}
use Rattle.planner_combination.proofs.EventSteps.{timed, updatable, nothing_starts, sendable, event_done}
use Rattle.planner_combination.proofs.event.event.Goals as goal

pub note-requires : goal.note-requires
note-requires c =
    (c.requires.0.bounded, c.requires.1.counts_long)

pub update_may_run-requires : goal.update_may_run-requires
update_may_run-requires c =
    c.requires.0.bounded

pub current_round-begun-requires : goal.current_round-begun-requires
current_round-begun-requires c =
    let o = c.requires.1 in
    (o.kept.from_one, o.low, timed (laid c.args.index.now) c.requires.0, o.carried)

pub update_next_sends-requires : goal.update_next_sends-requires
update_next_sends-requires c =
    let a = c.args in
    let b : PlanIndex = laid a.index.now in
    (c.requires.1.kept.from_one, c.requires.1.low, c.requires.0.bounded, timed b c.requires.0, updatable b c.requires.0 a.at (rows_of a.rows.now) (nodes_of a.nodes.now) c.requires.1 _ c.note.ensures _ c.update_may_run.ensures _ c.changes-look.ensures _ c.new_nodes-new.ensures.0 c.new_nodes-new.ensures.1, c.current_round-begun.ensures)

pub begin-first-requires : goal.begin-first-requires
begin-first-requires c =
    let a = c.args in
    let b : PlanIndex = laid a.index.now in
    (c.requires.0.bounded, c.requires.1.low, c.new_nodes-new.ensures.0, nothing_starts b c.requires.0 a.at (rows_of a.rows.now) (nodes_of a.nodes.now) c.requires.1 _ c.note.ensures _ c.update_may_run.ensures _ c.changes-look.ensures _ c.new_nodes-new.ensures.0 c.new_nodes-new.ensures.1 _ c.update_next_sends.ensures)

pub slots_of-slots-requires : goal.slots_of-slots-requires
slots_of-slots-requires c =
    c.requires.0.bounded

pub send_slot-s-requires : goal.send_slot-s-requires
send_slot-s-requires c =
    let a = c.args in
    let b : PlanIndex = laid a.index.now in
    let n = subst (λ (k : ℕ). unwrap_or c.sending_node-node.result k ≡ sending_node_by (nodes_of c.begin-first.new.nodes).nextsend a.at.u k) c.slots_of-slots.ensures.0 c.sending_node-node.ensures.first in
    (c.requires.1.low, c.requires.0.bounded, timed b c.requires.0, sendable b c.requires.0 a.at (rows_of a.rows.now) (nodes_of a.nodes.now) c.requires.1 _ c.note.ensures _ c.update_may_run.ensures _ c.changes-look.ensures _ c.new_nodes-new.ensures.0 c.new_nodes-new.ensures.1 _ c.update_next_sends.ensures _ _ _ c.begin-first.ensures _ n, subst (λ (k : ℕ). IfSome c.sending_node-node.result (λ i. i < k)) c.slots_of-slots.ensures.0 c.sending_node-node.ensures.among)

pub returns : goal.returns
returns c =
    let a = c.args in
    let b : PlanIndex = laid a.index.now in
    let n = subst (λ (k : ℕ). unwrap_or c.sending_node-node.result k ≡ sending_node_by (nodes_of c.begin-first.new.nodes).nextsend a.at.u k) c.slots_of-slots.ensures.0 c.sending_node-node.ensures.first in
    let e = c.ends_after-ending.ensures ∙ (λ i. ends_now a.at.ends c.begin-first.result (nodes_of c.send_slot-s.new.nodes).busy a.at.u (c.slots_of-slots.ensures.0 i)) in
    event_done b c.requires.0 a.at (rows_of a.rows.now) (nodes_of a.nodes.now) c.requires.1 _ c.note.ensures _ c.update_may_run.ensures _ c.changes-look.ensures _ c.new_nodes-new.ensures.0 c.new_nodes-new.ensures.1 _ c.update_next_sends.ensures _ _ _ c.begin-first.ensures _ n _ _ _ c.send_slot-s.ensures _ _ _ e c.sooner-over.ensures c.next_event-next.ensures _ c.current_round-begun.ensures
