-- `listing_entries::put_run` meets its contract: how the lines end is worked out, and each begins as given.
use mathlib.Core.Path.{sym, ap, ◌∙◌}
use Prim.Native.Nat.{◌+◌}
use native.Mathlib.Omega.{arith}
use lib.ListN.{length, get_or}
use lib.Seq.{length-take-le}
use Rattle.listing_entries.proofs.LineEnds.{put_front, end_most}
use Rattle.listing_entries.proofs.RunLines.{lined}
use Rattle.listing_entries.proofs.rows.put_run.Goals as goal

pub slice_bounds-last-end : goal.slice_bounds-last-end
slice_bounds-last-end c =
    let ws = c.args.table.now in
    let first = c.args.first in
    let given = c.type_inv.table in
    let most = end_most c.args.counts.processes (get_or ws first 0) (get_or ws (first + 3) 0) (get_or ws (first + 4) 0) (omega (arith, given (first + 3))) (omega (arith, given (first + 4))) in
    omega (arith, c.put_end-long.ensures.count, most)

pub slice_bounds-put_lines-end : goal.slice_bounds-put_lines-end
slice_bounds-put_lines-end c =
    let ws = c.args.table.now in
    let first = c.args.first in
    let given = c.type_inv.table in
    let most = end_most c.args.counts.processes (get_or ws first 0) (get_or ws (first + 3) 0) (get_or ws (first + 4) 0) (omega (arith, given (first + 3))) (omega (arith, given (first + 4))) in
    sym (length-take-le _ _ (put_front c.put_end-long.ensures (omega (arith, most))).0)

pub put_lines-requires : goal.put_lines-requires
put_lines-requires c =
    let ws = c.args.table.now in
    let first = c.args.first in
    let given = c.type_inv.table in
    let most = end_most c.args.counts.processes (get_or ws first 0) (get_or ws (first + 3) 0) (get_or ws (first + 4) 0) (omega (arith, given (first + 3))) (omega (arith, given (first + 4))) in
    let h = c.requires.1 in
    let g = put_front c.put_end-long.ensures (omega (arith, most)) in
    let m = lined c.args.counts.processes c.args.counts.edges c.args.counts.conditions (get_or ws first 0) (get_or ws (first + 3) 0) (get_or ws (first + 4) 0) (λ none. h.some (ap length h.whole ∙ none)) in
    (c.requires.0, rw (h.whole, g.1) m, c.requires.2, c.requires.3)
