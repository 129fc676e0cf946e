-- `plan_layout::lay_out` meets its contract: the fields are stored one behind the other.
use mathlib.Core.Path.{refl}
use Rattle.plan_layout.proofs.InOneArray.{laid_all}
use Rattle.plan_layout.proofs.index_words.lay_out.Goals as goal

pub returns : goal.returns
returns c =
    laid_all _ _ _ _ _ _ _ _ refl c.lay_counts.ensures c.lay_by_processes.ensures c.lay_by_edges.ensures c.lay_by_orders.ensures
    c.lay_by_bus.ensures c.lay_by_rows.ensures
