-- `table_entries::write_row` meets its contract: before turn i what is left to store gives the whole.
use mathlib.Core.Path.{refl, ap, ◌∙◌}
use Prim.Native.Nat.{◌*◌}
use native.Mathlib.Omega.{arith}
use lib.ListN.{length, get_or}
use lib.Seq.{length-sets}
use Rattle.table_entries.specs.Words.{five}
use Rattle.table_entries.proofs.WordsWritten.{row_next, row_end}
use Rattle.table_entries.proofs.entry_words.write_row.Goals as goal

pub loop-i-init : goal.loop-i-init
loop-i-init c = (refl, refl)

pub write_entry-requires : goal.write_entry-requires
write_entry-requires c =
    (omega (arith, c.loop-i.invariant.1, c.requires.fact_1), c.requires.fact_2 c.loop-i.i c.loop-i-test.true)

pub loop-i-preserved : goal.loop-i-preserved
loop-i-preserved c =
    let a = c.args in
    let s = c.requires.fact_1 in
    let i = c.loop-i.i in (
      row_next a.list.now i a.b a.row c.loop-i.words c.loop-i-test.true (omega arith) c.loop-i.invariant.0 c.write_entry.ensures,
      ap length c.write_entry.ensures ∙ length-sets c.loop-i.words (5 * i) (five a.row (get_or a.list.now i 0)) ∙ c.loop-i.invariant.1,
    )

pub shape_of-words : goal.shape_of-words
shape_of-words c = c.loop-i.invariant.1

pub returns : goal.returns
returns c =
    let a = c.args in
    row_end a.list.now c.loop-i.i a.b a.row c.loop-i.words c.loop-i-test.false c.loop-i.invariant.0
