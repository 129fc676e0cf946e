-- `planner_packing::lay` meets its contract: three stores, the last at the receiver's place.
use mathlib.Core.Path.{ap, ◌∙◌}
use Prim.Native.Nat.{ℕ, ◌+◌, ◌-◌}
use Rattle.log_rows.specs.Rows.{rows_of, put_comes, put_place}
use Rattle.planner_nodes.specs.Nodes.{nodes_of, put_lastarrival}
use Rattle.planner_packing.proofs.packing.lay.Goals as goal

pub returns : goal.returns
returns c =
    let a = c.args in
    let row = c.processes_of.ensures.0 in
    let to = c.wide-to.ensures ∙ c.remote_of.ensures.0 in
    let first = c.put_comes.ensures ∙ ap (λ (n : ℕ). put_comes (n + a.e) a.end (rows_of a.rows.now)) row in record { rows = c.put_place.ensures ∙ (λ i. put_place (row i + a.e) a.used (first i)); arrivals = c.put_lastarrival.ensures ∙ ap (λ (n : ℕ). put_lastarrival (n - 1) a.end (nodes_of a.nodes.now)) to }
