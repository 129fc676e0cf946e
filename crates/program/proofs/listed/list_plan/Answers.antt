-- `program::list_plan` meets its contract, by those of the reader and of `list_planned`.
use Prim.Native.Nat.{ℕ}
use lib.ListN.{length-replicate}
use Rattle.std.proofs.lemmas.Result.{err_from_is_err_and}
use Rattle.plan.specs.Memory.{lines}
use Rattle.text_reader.proofs.ReadCases.{accepted}
use Rattle.program.proofs.ListingOfText.{refused_lists, read_lists}
use Rattle.program.proofs.listed.list_plan.Goals as goal

pub list_planned-requires : goal.list_planned-requires
list_planned-requires c =
    record { fact_1 = accepted c.in_ok-p.p c.in_ok-p.ensures; fact_2 = length-replicate {A = ℕ} 15000 1; fact_3 = length-replicate {A = ℕ} 9000 1 }

pub returns-in_err-p : goal.returns-in_err-p
returns-in_err-p c =
    let p = err_from_is_err_and c.from_residual.result c.from_residual.ensures.1 in
    rw (p.1, p.2) (refused_lists c.args.out.now _ c.in_err-p.ensures)

pub returns : goal.returns
returns c =
    let w = c.list_planned in
    read_lists c.args.out.now (lines c.in_ok-p.p) _ w.result c.in_ok-p.ensures w.ensures.answer w.ensures.bytes
