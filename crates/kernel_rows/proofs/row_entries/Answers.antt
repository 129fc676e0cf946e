-- `kernel_rows::row_entries` meets its contract: the part begins past the entries before it, and is as long as the
-- entries of the row that follow.
use Rattle.std.proofs.Common.{◌≡◌, ◌+◌, ◌*◌, ◌<◌, ◌≤◌, sym, arith, rules}
use Rattle.model.specs.Lookup.{row_start}
use Rattle.kernel_rows.specs.RowRange.{RangeOf}
use Rattle.kernel_rows.proofs.Rows.{none_start, none_part, some_start, some_part}
use Rattle.kernel_rows.proofs.row_entries.Goals as goal

pub returns-then-is_empty-clause-place : goal.returns-then-is_empty-clause-place
returns-then-is_empty-clause-place c =
    let t = c.args.table in
    let e = c.row_range-entries in
    let d : RangeOf t.now c.args.row e.result.start e.result.end = e.ensures.value t.now (search rules) in
    let z : e.result.end ≤ e.result.start = search rules in
    let s = none_start t.now c.args.row _ _ d z in
    let q : t.ref_ptr.1 ≡ t.ref_ptr.1 + row_start t.now c.args.row * 4 = omega (arith, s) in
    λ j. (t.ref_ptr.0, q j)

pub returns-then-is_empty-clause-words : goal.returns-then-is_empty-clause-words
returns-then-is_empty-clause-words c =
    let t = c.args.table in
    let e = c.row_range-entries in
    let d : RangeOf t.now c.args.row e.result.start e.result.end = e.ensures.value t.now (search rules) in
    sym (none_part t.now c.args.row _ _ d (search rules))

pub returns-clause-place : goal.returns-clause-place
returns-clause-place c =
    let t = c.args.table in
    let e = c.row_range-entries in
    let d : RangeOf t.now c.args.row e.result.start e.result.end = e.ensures.value t.now (search rules) in
    let z : e.result.start < e.result.end = search rules in
    let s = some_start t.now c.args.row _ _ d z in
    let q : e.result.start * 5 * 4 + t.ref_ptr.1 ≡ t.ref_ptr.1 + row_start t.now c.args.row * 4 = omega (arith, s) in
    λ j. (t.ref_ptr.0, q j)

pub returns-clause-words : goal.returns-clause-words
returns-clause-words c =
    let t = c.args.table in
    let e = c.row_range-entries in
    let d : RangeOf t.now c.args.row e.result.start e.result.end = e.ensures.value t.now (search rules) in
    sym (some_part t.now c.args.row _ _ d (search rules))
