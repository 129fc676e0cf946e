-- `table_entries::write` meets its contract: before turn r what is left to store gives the whole.
use mathlib.Core.Path.{refl, ap, ◌∙◌}
use Prim.Native.Nat.{◌+◌, ◌*◌}
use native.Mathlib.Omega.{arith}
use lib.ListN.{length, get_or}
use lib.Seq.{slice, length-sets}
use Rattle.lists.specs.Lists.{each}
use Rattle.table_entries.specs.Words.{five}
use Rattle.table_entries.proofs.WordsWritten.{ends_up, table_start, table_next, table_end}
use Rattle.table_entries.proofs.entry_words.write.Goals as goal

pub loop-r-init : goal.loop-r-init
loop-r-init c =
    let a = c.args in
    (omega arith, table_start a.list.now a.ends.now a.rows c.requires.1 a.words.now, refl)

pub overflow_cast-ends : goal.overflow_cast-ends
overflow_cast-ends c =
    let a = c.args in
    let laid = c.requires.1 in
    omega (arith, laid.inside, ends_up a.list.now a.ends.now a.rows laid c.loop-r.r c.loop-r.invariant.0)

pub overflow_cast-ends-in-loop-r : goal.overflow_cast-ends-in-loop-r
overflow_cast-ends-in-loop-r c =
    let a = c.args in
    let laid = c.requires.1 in
    let t = c.loop-r-test.true in
    omega (arith, laid.inside, ends_up a.list.now a.ends.now a.rows laid (c.loop-r.r + 1) (omega arith))

pub write_row-requires : goal.write_row-requires
write_row-requires c =
    let a = c.args in
    let s = c.requires in
    let laid = s.1 in
    let t = c.loop-r-test.true in
    let u = ends_up a.list.now a.ends.now a.rows laid (c.loop-r.r + 1) (omega arith) in
    record { fact_1 = (omega (arith, laid.inside), laid.long, omega (arith, s.2, c.loop-r.invariant.2)); fact_2 = λ i h. laid.small i (omega arith) }

pub loop-r-preserved : goal.loop-r-preserved
loop-r-preserved c =
    let a = c.args in
    let laid = c.requires.1 in
    let r = c.loop-r.r in
    let t = c.loop-r-test.true in (
      omega arith,
      table_next a.list.now a.ends.now a.rows laid r c.loop-r.words t c.loop-r.invariant.1 c.write_row.ensures,
      ap length c.write_row.ensures
          ∙ length-sets c.loop-r.words (5 * get_or a.ends.now r 0) (each (five r) (slice (get_or a.ends.now r 0) (get_or a.ends.now (r + 1) 0) a.list.now)) ∙ c.loop-r.invariant.2,
    )

pub returns : goal.returns
returns c =
    let a = c.args in
    let s = c.requires in
    table_end a.list.now a.ends.now a.rows s.1 c.loop-r.r c.loop-r.words a.words.now c.loop-r-test.false s.2 c.loop-r.invariant.1
