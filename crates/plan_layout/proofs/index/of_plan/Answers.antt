-- `plan_layout::of_plan` meets its contract: the fields of the plan index are laid out.
use mathlib.Core.Path.{◌∙◌}
use Rattle.plan.specs.Memory.{lines}
use Rattle.plan_layout.proofs.IndexOfLines.{indexed_lines}
use Rattle.plan_layout.proofs.Bounds.{bounded}
use Rattle.plan_layout.proofs.index.of_plan.Goals as goal

pub lay_out-requires : goal.lay_out-requires
lay_out-requires c =
    bounded (lines c.args.p) _ (indexed_lines c.args.p c.requires c.fields_of.ensures)

pub returns : goal.returns
returns c = c.lay_out.ensures ∙ c.fields_of.ensures
