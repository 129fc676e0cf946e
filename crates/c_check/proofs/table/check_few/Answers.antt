-- `c_check::check_few` meets its contract: the copied words are the table's.
use mathlib.Core.Path.{sym, ap, ◌∙◌}
use mathlib.Core.List.{List}
use Prim.Native.Nat.{ℕ, ◌≤◌}
use native.Mathlib.Omega.{arith}
use lib.ListN.{length}
use lib.Seq.{length-take-le}
use Rattle.model.specs.Firmware.{words_of}
use Rattle.model.specs.Checking.{table_refusal}
use Rattle.plan.specs.Memory.{lines}
use Rattle.checker_table.specs.Verdict.{answer_of}
use Rattle.c_words.proofs.Room.{entry_room}
use Rattle.c_check.proofs.Copied.{copy_fits, copy_back}
use Rattle.c_check.proofs.table.check_few.Goals as goal

pub slice_bounds-read_words-end : goal.slice_bounds-read_words-end
slice_bounds-read_words-end c =
    sym (length-take-le c.args.n c.entry_words-words.result (omega (arith, entry_room c.entry_words-words.ensures, c.requires.fact_2.1)))

pub read_words-requires : goal.read_words-requires
read_words-requires c =
    let l : c.args.n ≤ length c.entry_words-words.result = omega (arith, entry_room c.entry_words-words.ensures, c.requires.fact_2.1) in
    omega (arith, c.requires.fact_2.0, length-take-le c.args.n c.entry_words-words.result l)

pub slice_bounds-words-end-2 : goal.slice_bounds-words-end-2
slice_bounds-words-end-2 c =
    copy_fits (words_of c.args.bytes.now) c.entry_words-words.result c.args.n c.requires.fact_2.0 (omega (arith, entry_room c.entry_words-words.ensures, c.requires.fact_2.1)) c.read_words.ensures

pub slice_bounds-check_words-end : goal.slice_bounds-check_words-end
slice_bounds-check_words-end c =
    sym (length-take-le c.args.n _
    (copy_fits (words_of c.args.bytes.now) c.entry_words-words.result c.args.n c.requires.fact_2.0 (omega (arith, entry_room c.entry_words-words.ensures, c.requires.fact_2.1)) c.read_words.ensures))

pub returns : goal.returns
returns c =
    let a = c.args in
    c.check_words.ensures
    ∙ ap (λ (words : List ℕ). answer_of (table_refusal (lines a.p) words a.delay))
    (copy_back (words_of a.bytes.now) c.entry_words-words.result a.n c.requires.fact_2.0 (omega (arith, entry_room c.entry_words-words.ensures, c.requires.fact_2.1)) c.read_words.ensures)
