-- `c_lookup::row_length` meets its contract: an entry has twenty bytes.
use Rattle.std.proofs.Common.{arith}
use Rattle.model.specs.Firmware.{words_of}
use Rattle.c_words.proofs.Reading.{words_count}
use Rattle.kernel_rows.proofs.Rows.{length_same}
use Rattle.c_lookup.proofs.rows.row_length.Goals as goal

pub overflow_mul-result : goal.overflow_mul-result
overflow_mul-result c = omega (arith, words_count c.args.bytes.now)

pub returns : goal.returns
returns c = omega (arith, length_same (words_of c.args.bytes.now) c.args.row _ _ c.row_entries-entries.ensures.value)
