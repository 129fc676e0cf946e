-- `checker_listing::check_stated` meets its contract: a refusal of the table, or else 22 or nothing.
use mathlib.Core.Path.{sym, ap, ◌∙◌}
use Prim.Native.Nat.{ℕ}
use lib.ListN.{take}
use Rattle.std.proofs.lemmas.Result.{err_from_is_err_and}
use Rattle.model.specs.Checking.{table_refusal}
use Rattle.plan.specs.Memory.{lines}
use Rattle.checker_table.specs.Verdict.{answer_of}
use Rattle.checker_table.proofs.AcceptedSound.{accepted_nothing, refused_number}
use Rattle.checker_listing.proofs.StatedAnswers.{is_sound, answer_table}
use Rattle.checker_listing.proofs.stated.check_stated.Goals as goal

pub returns-in_err-check_words : goal.returns-in_err-check_words
returns-in_err-check_words c =
    let a = c.args in
    let p = lines a.p in
    let q = err_from_is_err_and c.from_residual.result c.from_residual.ensures.1 in
    rw (q.1, q.2)
    (answer_table p a.table.now a.frames.now a.delay (take a.p.slots a.passed.now) c.requires.fact_2.0 c.requires.fact_2.1 _
    ((refused_number (table_refusal p a.table.now a.delay) _).0
    (sym (c.in_err-check_words.ensures ∙ ap (λ (d : ℕ). answer_of (table_refusal p a.table.now d)) c.from.ensures))))

pub check_sound-requires : goal.check_sound-requires
check_sound-requires c =
    let a = c.args in
    let p = lines a.p in
    record {
      fact_1 = (
        a.delay,
        is_sound p a.table.now a.delay c.requires.fact_1 ((accepted_nothing (table_refusal p a.table.now a.delay)).0
            (sym (c.in_ok-check_words.ensures ∙ ap (λ (d : ℕ). answer_of (table_refusal p a.table.now d)) c.from.ensures))),
      );
      fact_2 = (c.requires.fact_2.1, c.requires.fact_2.2, c.requires.fact_2.3);
    }

pub returns : goal.returns
returns c =
    let a = c.args in
    let p = lines a.p in
    c.check_sound.ensures a.delay (is_sound p a.table.now a.delay c.requires.fact_1 ((accepted_nothing (table_refusal p a.table.now a.delay)).0
    (sym (c.in_ok-check_words.ensures ∙ ap (λ (d : ℕ). answer_of (table_refusal p a.table.now d)) c.from.ensures))))
