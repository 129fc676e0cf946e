-- `print_check` meets its contract, by those of `check_input` and `print_answer`.
use mathlib.Core.Path.{ap, ◌∙◌}
use lib.ListN.{length}
use Rattle.lists.specs.Front.{front}
use Rattle.model.specs.Refusals.{Refusal}
use Rattle.model.specs.ListingText.{check_prints}
use Rattle.check_program.proofs.Printing.{says}
use Rattle.check_program.proofs.printed.print_check.Goals as goal

pub returns : goal.returns
returns c =
    let k = c.check_input.ensures in
    let q = says c.check_input.result k.refusal k.answer in
    record {
      refusal = k.refusal;
      of_input = k.of_texts;
      counted = c.print_answer.ensures.count ∙ ap (λ (x : Refusal). length (check_prints x)) q;
      bytes = c.print_answer.ensures.bytes ∙ ap (λ (x : Refusal). front (check_prints x) c.args.out.now) q;
    }
