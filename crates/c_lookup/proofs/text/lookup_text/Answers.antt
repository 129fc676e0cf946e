-- `c_lookup::lookup_text` meets its contract, by those of the reader and of the lookup over bytes.
use mathlib.Core.Path.{◌∙◌}
use Rattle.plan.specs.Memory.{lines}
use Rattle.text_reader.proofs.ReadCases.{accepted}
use Rattle.c_lookup.proofs.Looking.{refused_lookup, read_lookup}
use Rattle.c_lookup.proofs.text.lookup_text.Goals as goal

pub lookup_bytes-entry-requires : goal.lookup_bytes-entry-requires
lookup_bytes-entry-requires c = accepted c.in-Ok.p c.in-Ok.ensures

pub returns-in-Ok : goal.returns-in-Ok
returns-in-Ok c =
    let a = c.args in
    let l = c.lookup_bytes-entry in
    read_lookup a.table.now a.node a.tick a.heard a.values a.first _ (lines c.in-Ok.p) l.result c.in-Ok.ensures l.ensures (c.answered.ensures ∙ c.unwrap_or.ensures)

pub returns-in-Err : goal.returns-in-Err
returns-in-Err c =
    let a = c.args in
    refused_lookup a.table.now a.node a.tick a.heard a.values a.first _ _ c.in-Err.ensures c.answered-in-Err.ensures
