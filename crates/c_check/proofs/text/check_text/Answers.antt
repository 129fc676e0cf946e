-- `c_check::check_text` meets its contract, by those of the reader and of the checker over bytes.
use Rattle.std.proofs.Common.{ap, ◌∙◌, ◌-◌}
use Rattle.plan.specs.Memory.{lines}
use Rattle.text_reader.proofs.ReadCases.{accepted}
use Rattle.c_check.proofs.Checks.{refused_checks, read_checks}
use Rattle.c_check.proofs.text.check_text.Goals as goal

pub check_bytes-requires : goal.check_bytes-requires
check_bytes-requires c = accepted c.in-Ok.p c.in-Ok.ensures

pub returns-in-Ok : goal.returns-in-Ok
returns-in-Ok c =
    let a = c.args in
    read_checks a.table.now a.delay _ (lines c.in-Ok.p) _ c.in-Ok.ensures (c.numbered.ensures ∙ c.check_bytes.ensures) c.checked.ensures

pub returns-in-Err : goal.returns-in-Err
returns-in-Err c =
    let a = c.args in
    refused_checks a.table.now a.delay _ _ c.in-Err.ensures (c.refused.ensures ∙ ap (λ n. 18446744073709551615 - n) c.number.ensures)
