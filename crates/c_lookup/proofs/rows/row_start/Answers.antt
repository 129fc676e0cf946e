-- `c_lookup::row_start` meets its contract: an entry has twenty bytes, and where no entry is of the row the part is at
-- the front.
use Rattle.std.proofs.Common.{◌<◌, ◌≤◌, arith, rules}
use Rattle.model.specs.Firmware.{words_of}
use Rattle.c_words.proofs.Reading.{words_count}
use Rattle.kernel_rows.proofs.Rows.{none_start, some_start}
use Rattle.c_lookup.proofs.rows.row_start.Goals as goal

pub returns-then-is_empty : goal.returns-then-is_empty
returns-then-is_empty c =
    let e = c.row_entries-entries in
    let z : e.result.end ≤ e.result.start = search rules in
    omega (arith, none_start (words_of c.args.bytes.now) c.args.row _ _ e.ensures.value z)

pub overflow_mul-result : goal.overflow_mul-result
overflow_mul-result c = omega (arith, words_count c.args.bytes.now)

pub returns : goal.returns
returns c =
    let e = c.row_entries-entries in
    let z : e.result.start < e.result.end = search rules in
    omega (arith, some_start (words_of c.args.bytes.now) c.args.row _ _ e.ensures.value z)
