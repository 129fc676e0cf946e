-- `c_text::copy_text` meets its contract, by those of reader and plan writer.
use Rattle.plan.specs.Memory.{lines}
use Rattle.refusals.specs.Numbers.{numbered}
use Rattle.c_text.proofs.Copying.{refused_copies, read_copies}
use Rattle.c_text.proofs.copy.copy_text.Goals as goal

pub returns-in-Ok : goal.returns-in-Ok
returns-in-Ok c =
    let w = c.write_plan in
    read_copies _ _ (lines c.in-Ok.p) _ (numbered w.result) _ c.in-Ok.ensures w.ensures.answer w.ensures.bytes c.answered.ensures

pub returns-in-Err : goal.returns-in-Err
returns-in-Err c = refused_copies _ _ _ _ c.in-Err.ensures c.answered-in-Err.ensures
