-- `check_input` meets its contract: the two parts of the input are checked.
use mathlib.Core.Path.{sym}
use lib.Seq.{length-take-le}
use Rattle.check_program.proofs.InputParts.{both_parts, plan_alone}
use Rattle.check_program.proofs.printed.check_input.Goals as goal

pub slice_bounds-check_texts-end : goal.slice_bounds-check_texts-end
slice_bounds-check_texts-end c = sym (length-take-le _ _ c.plan_length-at.ensures.within)

pub returns-then-at-input : goal.returns-then-at-input
returns-then-at-input c = both_parts c.plan_length-at.ensures c.check_texts.ensures

pub returns : goal.returns
returns c = plan_alone c.plan_length-at.ensures c.if-at-input.false c.check_texts-2.ensures
