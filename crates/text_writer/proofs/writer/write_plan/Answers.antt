-- `text_writer::write_plan` meets its contract: the refusals are those of document 01, and the bytes are the text or as
-- they were.
use mathlib.Core.Path.{◌≡◌, refl, sym, ap, ◌∙◌}
use mathlib.Core.Bool.{false}
use native.Mathlib.Nat.{zero-add}
use lib.Dec.{ltb}
use lib.ListN.{length}
use borrow.Author.Tests.{ltb-false}
use Rattle.std.proofs.lemmas.Result.{err_from_is_err_and}
use Rattle.std.specs.Prelude.{Ok}
use Rattle.lists.proofs.Stores.{sets_front}
use Rattle.model.specs.Text.{print, bytes_after}
use Rattle.plan.specs.Memory.{lines}
use Rattle.text_writer.proofs.WholeText.{is_refused, lent_less, lent_enough}
use Rattle.text_writer.proofs.writer.write_plan.Goals as goal

pub needed-n-requires : goal.needed-n-requires
needed-n-requires c = sym c.in_ok-refuse.ensures

pub returns-in_err-refuse : goal.returns-in_err-refuse
unfolding bytes_after
returns-in_err-refuse c =
    let p = err_from_is_err_and c.from_residual.result c.from_residual.ensures.1 in
    rw (p.1, p.2, is_refused (lines c.args.p) (length c.args.out.now) (sym c.in_err-refuse.ensures)) (record { answer = refl; bytes = refl })

pub returns-then-lacks : goal.returns-then-lacks
unfolding bytes_after
returns-then-lacks c =
    let n = c.needed-n.ensures in
    rw (lent_less (lines c.args.p) (length c.args.out.now) (sym c.in_ok-refuse.ensures) (rw (n.0, n.1) at (sym c.lacks.ensures ∙ c.if-lacks.true))) (record { answer = refl; bytes = n.1 })

pub put_plan-requires : goal.put_plan-requires
put_plan-requires c = sym c.in_ok-refuse.ensures

pub returns : goal.returns
unfolding bytes_after
returns c =
    let n = c.needed-n.ensures in
    let p = c.put_plan.ensures in
    let e : ltb (length c.args.out.now) (length (print (lines c.args.p))) ≡ false = rw (n.0, n.1) at (sym c.lacks.ensures ∙ c.if-lacks.false) in
    rw (lent_enough (lines c.args.p) (length c.args.out.now) (sym c.in_ok-refuse.ensures) e)
    (record { answer = ap Ok (p.count ∙ zero-add _); bytes = p.holds ∙ rw n.1 (sets_front _ _ (ltb-false _ _ e)) })
