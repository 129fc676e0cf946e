-- `listing_entries::put_runs` meets its contract: before each turn an entry of the row stands at word i, and the
-- entries from there on are still to be stored.
use mathlib.Core.Path.{◌≡◌, refl, sym, ◌∙◌}
use mathlib.Core.List.{List}
use native.Mathlib.Omega.{arith}
use Prim.Native.Nat.{ℕ, ◌+◌, ◌*◌}
use lib.ListN.{drop, get_or}
use Rattle.listing_bytes.proofs.Stored.{going_start, going_length, going_fits, going_on}
use Rattle.model.specs.Table.{entries_of}
use Rattle.listing_entries.specs.Runs.{of_row, run_of, leading, run_entries}
use Rattle.listing_entries.proofs.Leading.{leading_within, leading_next, leading_end, leading_skip, run_first, run_row, row_yes}
use Rattle.listing_entries.proofs.rows.put_runs.Goals as goal

pub loop-counts-init : goal.loop-counts-init
loop-counts-init c = (c.requires.0, refl, refl, going_start _ _ _)

pub put_run-run-requires : goal.put_run-run-requires
put_run-run-requires c =
    let l = c.loop-counts in
    (l.invariant.0, rw l.invariant.1 c.requires.1, c.requires.2, going_fits l.invariant.3 c.requires.3)

pub same_row-requires : goal.same_row-requires
same_row-requires c =
    let l = c.loop-counts in
    let w = leading_within (run_of c.args.table.now l.i) c.args.table.now l.i (omega (arith, l.invariant.0)) in
    (c.requires.0, omega (arith, c.put_run-run.ensures.words, w))

pub shape_of-out-then-not-same_row : goal.shape_of-out-then-not-same_row
shape_of-out-then-not-same_row c = going_length (going_on c.loop-counts.invariant.3 c.put_run-run.ensures.going)

-- the run of the entry from word i on, and what of its row is behind it
behind : (table : List ℕ) (first i next : ℕ) → get_or table i 0 ≡ get_or table first 0 → next ≡ i + 5 * run_entries table i →
    leading (of_row (get_or table first 0)) (entries_of (drop i table)) ≡ run_entries table i + leading (of_row (get_or table first 0)) (entries_of (drop next table))
behind table first i next s e =
    rw (e, sym s) (leading_skip (run_of table i) (of_row (get_or table i 0)) (run_row (get_or table i 0) (get_or table (i + 3) 0) (get_or table (i + 4) 0)) table i)

pub returns-then-not-same_row : goal.returns-then-not-same_row
returns-then-not-same_row c =
    let a = c.args in
    let l = c.loop-counts in
    let r = c.put_run-run.ensures in
    let next = c.put_run-run.result.next in
    let s = behind a.table.now a.first l.i next l.invariant.1 r.words in
    let z = leading_end (of_row (get_or a.table.now a.first 0)) a.table.now next (sym c.same_row.ensures ∙ c.if-not-same_row.true) in
    record { words = omega (arith, r.words, l.invariant.2, s, z); going = going_on l.invariant.3 r.going }

pub loop-counts-smaller : goal.loop-counts-smaller
loop-counts-smaller c =
    let a = c.args in
    let l = c.loop-counts in
    let r = c.put_run-run.ensures in
    let n = leading_next (run_of a.table.now l.i) a.table.now l.i l.invariant.0 (run_first a.table.now l.i) in
    omega (arith, r.words, n, l.invariant.0)

pub loop-counts-preserved : goal.loop-counts-preserved
loop-counts-preserved c =
    let a = c.args in
    let l = c.loop-counts in
    let r = c.put_run-run.ensures in
    let next = c.put_run-run.result.next in
    let s = behind a.table.now a.first l.i next l.invariant.1 r.words in
    let y = row_yes a.table.now a.first next (sym c.same_row.ensures ∙ c.if-not-same_row.false) in
    (y.0, y.1, omega (arith, r.words, l.invariant.2, s), going_on l.invariant.3 r.going)
