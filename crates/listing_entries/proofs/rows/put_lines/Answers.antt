-- `listing_entries::put_lines` meets its contract: before each turn an entry of the run stands at word i, and the
-- entries from there on are still to be stored.
use mathlib.Core.Path.{refl, sym, ◌∙◌}
use native.Mathlib.Omega.{arith}
use Prim.Native.Nat.{◌+◌}
use Rattle.text_lines.proofs.Puts.{put_length}
use Rattle.listing_bytes.proofs.Stored.{going_start, going_length, going_fits, going_next, fits_first}
use Rattle.listing_entries.specs.Lines.{line_at}
use Rattle.listing_entries.specs.Runs.{run_of}
use Rattle.listing_entries.proofs.Leading.{stands_yes, leading_next, leading_end, run_first}
use Rattle.listing_entries.proofs.RunLines.{run_next}
use Rattle.listing_entries.proofs.rows.put_lines.Goals as goal

pub loop-counts-init : goal.loop-counts-init
loop-counts-init c =
    (c.requires.0, run_first c.args.table.now c.args.first, refl, going_start _ _ _)

pub put_line-end-requires : goal.put_line-end-requires
put_line-end-requires c =
    let l = c.loop-counts in
    let m = c.requires.1 in
    (m.begin_long, m.last_long, c.requires.2, l.invariant.0, fits_first (line_at c.args.begin.now c.args.last.now c.args.counts.conditions c.args.table.now l.i) _ (rw (run_next c.args.counts.processes c.args.counts.edges c.args.counts.conditions c.args.table.now l.i c.args.first l.invariant.0 l.invariant.1 c.requires.1) at (going_fits l.invariant.3 c.requires.3)))

pub overflow_add-i : goal.overflow_add-i
overflow_add-i c = omega (arith, c.loop-counts.invariant.0)

pub alike-requires : goal.alike-requires
alike-requires c = (c.requires.0, c.loop-counts.invariant.0)

pub shape_of-out-then-not-alike : goal.shape_of-out-then-not-alike
shape_of-out-then-not-alike c = put_length c.put_line-end.ensures ∙ going_length c.loop-counts.invariant.3

pub returns-then-not-alike : goal.returns-then-not-alike
returns-then-not-alike c =
    let l = c.loop-counts in
    let f = run_of c.args.table.now c.args.first in
    let n = leading_next f c.args.table.now l.i l.invariant.0 l.invariant.1 in
    let z = leading_end f c.args.table.now (l.i + 5) (sym c.alike.ensures ∙ c.if-not-alike.true) in
    record { words = omega (arith, l.invariant.2, n, z); going = going_next l.invariant.3 (run_next c.args.counts.processes c.args.counts.edges c.args.counts.conditions c.args.table.now l.i c.args.first l.invariant.0 l.invariant.1 c.requires.1) c.put_line-end.ensures }

pub loop-counts-smaller : goal.loop-counts-smaller
loop-counts-smaller c = omega (arith, c.loop-counts.invariant.0)

pub loop-counts-preserved : goal.loop-counts-preserved
loop-counts-preserved c =
    let l = c.loop-counts in
    let f = run_of c.args.table.now c.args.first in
    let n = leading_next f c.args.table.now l.i l.invariant.0 l.invariant.1 in
    let y = stands_yes f c.args.table.now (l.i + 5) (sym c.alike.ensures ∙ c.if-not-alike.false) in
    (y.0, y.1, omega (arith, l.invariant.2, n), going_next l.invariant.3 (run_next c.args.counts.processes c.args.counts.edges c.args.counts.conditions c.args.table.now l.i c.args.first l.invariant.0 l.invariant.1 c.requires.1) c.put_line-end.ensures)
