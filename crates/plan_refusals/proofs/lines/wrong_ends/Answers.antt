-- `plan_refusals::wrong_ends` meets its contract.
use mathlib.Core.Path.{◌∙◌}
use Rattle.std.proofs.Common.{rules, tests}
use Rattle.std.proofs.lemmas.Iterator.{YieldsList-from_slice}
use Rattle.std.proofs.lemmas.Iterator.Search.{any_from_yields_List}
use Rattle.model.specs.Refusals.{wrong_ends}
use Rattle.plan.specs.Memory.{edge_of, lines}
use Rattle.plan.proofs.Taken.{any_shown}
use Rattle.plan_refusals.proofs.lines.wrong_ends.Goals as goal

pub returns : goal.returns
returns c =
    let t = wrong_ends (lines c.args.p.now) in
    let es = c.edge_lines.result.now in
    any_from_yields_List (λ e. t (edge_of e)) _ _ _ c.any.ensures.ran (YieldsList-from_slice es cc) (λ x b q k. search (rules, tests))
    ∙ any_shown edge_of t es c.edge_lines.ensures
