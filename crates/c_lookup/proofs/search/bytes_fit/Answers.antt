-- `c_lookup::bytes_fit` meets its contract: another tick decides it, and else the words copied are the entry's.
use Rattle.std.proofs.Common.{◌*◌, sym, ap, ◌∙◌, arith}
use Rattle.model.specs.Firmware.{words_of}
use Rattle.c_words.proofs.Reading.{words_count}
use Rattle.c_words.proofs.Entry.{entry_copied}
use Rattle.kernel_rows.specs.Entries.{entry_at}
use Rattle.kernel.specs.Finding.{fits_by}
use Rattle.kernel.proofs.SearchTurns.{other_tick}
use Rattle.c_lookup.proofs.search.bytes_fit.Goals as goal

pub overflow_mul-at : goal.overflow_mul-at
overflow_mul-at c = omega (arith, c.requires.entry, words_count c.args.bytes.now)

pub overflow_add-at : goal.overflow_add-at
overflow_add-at c = omega (arith, c.requires.entry, words_count c.args.bytes.now)

pub returns-then-word_at-tick : goal.returns-then-word_at-tick
returns-then-word_at-tick c =
    let a = c.args in
    sym (other_tick a.b.now.node a.b.now.rows a.node a.tick a.heard a.told (entry_at (words_of a.bytes.now) a.i) (λ q. c.if-word_at-tick.true (c.word_at.ensures ∙ q)))

pub returns : goal.returns
returns c =
    let a = c.args in
    c.entry_fits.ensures ∙ ap (fits_by a.b.now.node a.b.now.rows a.node a.tick a.heard a.told) (entry_copied (words_of a.bytes.now) (a.i * 5) c.entry_of-five.ensures)
