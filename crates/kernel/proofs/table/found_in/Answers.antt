-- `kernel::found_in` meets its contract: the search by the nodes of the plan's rows is the model's.
use Rattle.std.proofs.Common.{◌≤◌, ◌<◌, sym, ap, ◌∙◌, arith, rules}
use Rattle.limits.specs.Limits.{ROWS}
use Rattle.kernel.specs.Finding.{found_of}
use Rattle.kernel.proofs.NodesOfModel.{few_rows, looked_up, unknown}
use Rattle.kernel.proofs.table.found_in.Goals as goal

pub returns-then-p-wide : goal.returns-then-p-wide
returns-then-p-wide c =
    let a = c.args in
    sym (ap found_of (unknown a.p c.requires a.node a.tick a.heard a.values a.table.now a.first (omega (arith, c.wide.ensures, c.if-p-wide.true))))

pub first_entry-requires : goal.first_entry-requires
first_entry-requires c =
    let few : c.row_nodes-b.result.rows ≤ ROWS = rw c.row_nodes-b.ensures (few_rows c.args.p c.requires) in
    search rules

pub returns : goal.returns
returns c =
    let a = c.args in
    let known : a.node < a.p.slots = omega (arith, c.wide.ensures, c.if-p-wide.false) in
    c.first_entry.ensures _ a.table.now (search rules) ∙ ap found_of (looked_up a.p c.requires a.node a.tick a.heard a.values c.row_nodes-b.ensures a.table.now a.first known)
