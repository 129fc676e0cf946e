-- `planner_combinations::plan_one` meets its contract: the combination goes on from what it takes over, and its plan is
-- stored.
use mathlib.Core.Path.{refl, ap, ◌∙◌}
use Prim.Native.Nat.{◌<◌}
use native.Mathlib.Omega.{arith}
use Rattle.planner_nodes.specs.Nodes.{nodes_of}
use Rattle.log_rows.specs.Rows.{rows_of}
use Rattle.log_queries.specs.Reading.{last_end_by}
use Rattle.planner_prefix.specs.Stored.{added}
use Rattle.planner_combinations.proofs.FromPrefix.{laid_bounded, laid_fits, few_combinations, none_unmet, plannable, room, one_planned}
use Rattle.planner_combinations.proofs.plan_one.Goals as goal
use Rattle.planner_combinations.proofs.plan_one.Goals.{Start}

few : (s : Start) → s.args.c < 64
few s = few_combinations s.requires.0 s.requires.1

pub shared_prefix-clock-requires : goal.shared_prefix-clock-requires
shared_prefix-clock-requires c =
    (few_combinations c.requires.0 c.requires.1, c.requires.1, laid_bounded c.requires.0, c.requires.2.place_long, c.empty_nodes-nodes.ensures)

pub overflow_cast-number : goal.overflow_cast-number
overflow_cast-number c = omega (arith, few c.before.before.before.before.before)

pub find_unmet-requires : goal.find_unmet-requires
find_unmet-requires c =
    (laid_bounded c.requires.0, none_unmet _ c.requires.0 c.args.c c.requires.1 _ _ _ _ c.requires.2 _ _ _ c.shared_prefix-clock.ensures)

pub plan_combination-requires : goal.plan_combination-requires
plan_combination-requires c =
    (laid_fits c.requires.0, plannable _ c.requires.0 c.args.c c.requires.1 _ _ _ _ c.requires.2 _ _ _ c.shared_prefix-clock.ensures _ c.find_unmet.ensures)

pub offset_bounds-since-c : goal.offset_bounds-since-c
offset_bounds-since-c c = omega (arith, few c.before.before.before.before.before.before.before.before.before.before)

pub bounds-since-c : goal.bounds-since-c
bounds-since-c c = few c.before.before.before.before.before.before.before.before.before.before.before

pub store_rows-requires : goal.store_rows-requires
store_rows-requires c = few c.before.before.before.before.before.before.before.before.before.before.before.before.before

pub store_notes-requires : goal.store_notes-requires
store_notes-requires c = few c.before.before.before.before.before.before.before.before.before.before.before.before.before.before.before

pub slots_of-requires : goal.slots_of-requires
slots_of-requires c = laid_bounded c.requires.0

pub add_counts-requires : goal.add_counts-requires
add_counts-requires c = (
  c.slots_of.ensures.1,
  λ k l. room _ c.requires.0 c.args.c c.requires.1 _ _ _ _ c.requires.2 _ _ _ c.shared_prefix-clock.ensures _ c.find_unmet.ensures (rows_of c.plan_combination.new.rows) (nodes_of c.plan_combination.new.nodes) c.plan_combination.ensures k (omega (arith, l, c.slots_of.ensures.0)),
)

pub processes_of-requires : goal.processes_of-requires
processes_of-requires c = laid_bounded c.requires.0

pub returns : goal.returns
returns c =
    one_planned _ c.requires.0 c.args.c c.requires.1 _ _ _ _ c.requires.2 _ _ _ c.shared_prefix-clock.ensures _ c.find_unmet.ensures (rows_of c.plan_combination.new.rows) (nodes_of c.plan_combination.new.nodes) c.plan_combination.ensures
    (c.last_end.ensures ∙ ap (last_end_by _) c.processes_of.ensures.0) _ c.store_rows.ensures c.store_notes.ensures (c.add_counts.ensures ∙ ap (added _ _) c.slots_of.ensures.0) refl
