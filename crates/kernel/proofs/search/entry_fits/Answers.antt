-- `kernel::entry_fits` meets its contract: each test that fails decides it, and the last is that of the column.
use mathlib.Core.Path.{sym, ap, ◌∙◌}
use Prim.Native.Nat.{◌<◌}
use native.Mathlib.Omega.{arith}
use Rattle.model.specs.Table.{Entry}
use Rattle.plan.specs.Tests.{at}
use Rattle.kernel_rows.specs.Entries.{entry_at}
use Rattle.kernel.proofs.SearchTurns.{other_tick, no_row, other_node, by_column}
use Rattle.kernel.proofs.search.entry_fits.Goals as goal
use Rattle.kernel.proofs.search.entry_fits.Goals.{Else-rows-row, Start}

-- the entry
abbrev entry : Start → Entry
entry s = entry_at s.args.table.now s.args.i

pub returns-then-table-at : goal.returns-then-table-at
returns-then-table-at c =
    let a = c.args in
    sym (other_tick a.nodes.now a.rows a.node a.tick a.heard a.told (entry c.before.before.before.before) c.if-table-at.true)

pub returns-then-rows-row : goal.returns-then-rows-row
returns-then-rows-row c =
    let a = c.args in
    sym (no_row a.nodes.now a.rows a.node a.tick a.heard a.told (entry c.before.before.before.before.before.before.before) (omega (arith, c.wide-row.ensures, c.if-rows-row.true)))

-- there is such a row
within : (c : Else-rows-row) → (entry c.before.before.before.before.before.before.before).row < c.args.rows
within c = omega (arith, c.wide-row.ensures, c.if-rows-row.false)

pub returns-then-nodes-row : goal.returns-then-nodes-row
returns-then-nodes-row c =
    let a = c.args in
    sym (other_node a.nodes.now a.rows a.node a.tick a.heard a.told (entry c.before.before.before.before.before.before.before.before.before.before) (λ q. c.if-nodes-row.true (ap (at a.nodes.now) c.wide-row.ensures ∙ q)))

pub returns : goal.returns
returns c =
    let a = c.args in
    c.column_met.ensures
    ∙ sym (by_column a.nodes.now a.rows a.node a.tick a.heard a.told (entry c.before.before.before.before.before.before.before.before.before.before.before.before.before) c.if-table-at.false (within (record { before = c.before.before.before.before.before.before.before; type_inv = record { table = c.shared_slice_known-3-1.given } })) (sym (ap (at a.nodes.now) c.wide-row.ensures) ∙ c.if-nodes-row.false))
