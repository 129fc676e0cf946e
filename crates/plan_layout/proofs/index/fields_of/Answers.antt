-- `plan_layout::fields_of` meets its contract: the plan index of the plan's columns, orders and timetable is that of its
-- lines.
use mathlib.Core.Path.{◌∙◌}
use Rattle.plan.specs.Memory.{lines}
use Rattle.plan_layout.specs.Columns.{process_columns, edge_columns}
use Rattle.plan_layout.specs.Layout.{index_of}
use Rattle.plan_layout.proofs.Columns.{few, small}
use Rattle.plan_layout.proofs.IndexOfLines.{index_same}
use Rattle.plan_layout.proofs.index.fields_of.Goals as goal

pub fixed_orders-o-requires : goal.fixed_orders-o-requires
fixed_orders-o-requires c = c.requires

pub of_plan-t-requires : goal.of_plan-t-requires
of_plan-t-requires c = c.requires

pub deciders-decider-requires : goal.deciders-decider-requires
deciders-decider-requires c = (few c.args.p c.requires).conditions

pub laid_out-requires : goal.laid_out-requires
laid_out-requires c =
    record { fact_1 = c.requires; fact_2 = small c.args.p c.requires c.deciders-decider.ensures }

pub returns : goal.returns
returns c =
    let p = c.args.p in
    let o = c.fixed_orders-o.ensures in
    let t = c.of_plan-t.ensures in
    let d = c.deciders-decider.ensures in
    let made = c.laid_out.ensures ∙ (λ j. index_of p.processes p.edges p.conditions p.slots (process_columns (lines p)) (edge_columns (lines p)) (o j) (t j) (d j)) in
    made ∙ index_same p c.requires
