-- `c_interface::planning::riscadru_plan_table` meets its contract, by those of the reader and of `put_plan`.
use Rattle.plan.specs.Memory.{lines}
use Rattle.refusals.specs.Numbers.{numbered}
use Rattle.c_interface.proofs.Tables.{refused_tables, read_tables}
use Rattle.c_interface.proofs.planning.riscadru_plan_table.Goals as goal

pub returns-in-Ok : goal.returns-in-Ok
returns-in-Ok c =
    let w = c.put_plan in
    let a = c.args in
    read_tables a.table.now a.frames.now a.totals.now _ (lines c.in-Ok.p) _ _ _ (numbered w.result) c.in-Ok.ensures w.ensures.answer w.ensures.bytes
    c.answered.ensures

pub returns-in-Err : goal.returns-in-Err
returns-in-Err c =
    let a = c.args in
    refused_tables a.table.now a.frames.now a.totals.now _ _ c.in-Err.ensures c.answered-in-Err.ensures
