-- `check_texts` meets its contract, by those of the plan reader and of the checker of listings.
use mathlib.Core.Path.{refl}
use Rattle.std.proofs.lemmas.Result.{err_from_is_err_and}
use Rattle.model.specs.ListingText.{no_plan, a_plan}
use Rattle.text_reader.proofs.ReadCases.{accepted}
use Rattle.checker_table.specs.Verdict.{answer_of}
use Rattle.check_program.proofs.texts.check_texts.Goals as goal

pub returns-in_err-p : goal.returns-in_err-p
unfolding answer_of
returns-in_err-p c =
    let q = err_from_is_err_and c.from_residual.result c.from_residual.ensures.1 in
    rw (q.1, q.2) (record { refusal = _; of_texts = no_plan _ c.in_err-p.ensures; answer = refl })

pub check_listed-requires : goal.check_listed-requires
check_listed-requires c = accepted c.in_ok-p.p c.in_ok-p.ensures

pub returns : goal.returns
returns c =
    let k = c.check_listed.ensures in
    record { refusal = k.refusal; of_texts = a_plan _ k.refusal c.in_ok-p.ensures k.of_listing; answer = k.answer }
