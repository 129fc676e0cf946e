-- `kernel::lookup` meets its contract: the plan's refusal, or what the search finds.
use mathlib.Core.Path.{sym, ap}
use Rattle.std.proofs.lemmas.Result.{err_from_is_err_and}
use Rattle.kernel.specs.Finding.{found_of}
use Rattle.kernel.proofs.NodesOfModel.{is_refused}
use Rattle.kernel.proofs.table.lookup.Goals as goal

pub found_in-requires : goal.found_in-requires
found_in-requires c = sym c.in_ok-refuse.ensures

pub returns-in_err-refuse : goal.returns-in_err-refuse
returns-in_err-refuse c =
    let a = c.args in
    let p = err_from_is_err_and c.from_residual.result c.from_residual.ensures.1 in
    rw (p.1, p.2) (sym (ap found_of (is_refused a.p a.table.now a.node a.tick a.heard a.values a.first _ (sym c.in_err-refuse.ensures))))

pub returns : goal.returns
returns c = c.found_in.ensures
