-- `c_interface::planning::riscadru_plan_listing` meets its contract, by that of `program::list_plan`.
use mathlib.Core.Path.{ap, ◌∙◌}
use Rattle.c_words.specs.Numbers.{answer_number}
use Rattle.c_text.proofs.Copying.{same_number}
use Rattle.c_interface.proofs.planning.riscadru_plan_listing.Goals as goal

pub returns : goal.returns
returns c =
    let q = c.list_plan.ensures in
    record { reading = q.reading; of_text = q.of_text; number = c.answered.ensures ∙ ap answer_number q.answer ∙ same_number _; bytes = q.bytes }
