-- `c_interface::checking::riscadru_check_listing` meets its contract, by that of `check_texts`.
use mathlib.Core.Path.{ap, ◌∙◌}
use Rattle.c_check.specs.Checks.{checked_answer}
use Rattle.c_check.proofs.Checks.{same_number}
use Rattle.c_interface.proofs.checking.riscadru_check_listing.Goals as goal

pub returns : goal.returns
returns c =
    let k = c.check_texts.ensures in
    record { refusal = k.refusal; of_texts = k.of_texts; number = c.checked.ensures ∙ ap checked_answer (c.numbered.ensures ∙ k.answer) ∙ same_number k.refusal }
