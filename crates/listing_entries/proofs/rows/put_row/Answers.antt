-- `listing_entries::put_row` meets its contract: how the lines begin is worked out, and a row that the plan lacks has
-- no line.
use mathlib.Core.Path.{◌≡◌, sym, ◌∙◌}
use native.Mathlib.Omega.{arith}
use lib.ListN.{length, get_or}
use lib.Seq.{length-take-le}
use Rattle.listing_bytes.proofs.Stored.{going_start}
use Rattle.listing_entries.specs.Lines.{begin_of}
use Rattle.listing_entries.proofs.LineEnds.{put_front, begin_most}
use Rattle.listing_entries.proofs.Leading.{same_none, same_some}
use Rattle.listing_entries.proofs.RunLines.{run_none}
use Rattle.listing_entries.proofs.rows.put_row.Goals as goal

pub returns-then-long-eq0 : goal.returns-then-long-eq0
returns-then-long-eq0 c =
    let ws = c.args.table.now in
    let none : length (begin_of c.args.counts.processes c.args.counts.edges c.args.counts.conditions (get_or ws c.args.first 0)) ≡ 0 = omega (arith, c.put_first-long.ensures.count, c.if-long-eq0.true) in
    let e = run_none c.args.counts.processes c.args.counts.edges c.args.counts.conditions ws c.args.first c.requires.0 none in
    let n = same_none c.args.counts.processes c.args.counts.edges c.args.counts.conditions ws c.args.first none in
    record { words = omega (arith, n); going = rw e (going_start _ _ _) }

pub slice_bounds-begin-end : goal.slice_bounds-begin-end
slice_bounds-begin-end c =
    let a = c.args in
    let most = begin_most a.counts.processes a.counts.edges a.counts.conditions (get_or a.table.now a.first 0) (omega (arith, c.type_inv.table a.first)) in
    omega (arith, c.put_first-long.ensures.count, most)

pub slice_bounds-put_runs-end : goal.slice_bounds-put_runs-end
slice_bounds-put_runs-end c =
    let a = c.args in
    let most = begin_most a.counts.processes a.counts.edges a.counts.conditions (get_or a.table.now a.first 0) (omega (arith, c.type_inv.table a.first)) in
    sym (length-take-le _ _ (put_front c.put_first-long.ensures (omega (arith, most))).0)

pub put_runs-requires : goal.put_runs-requires
put_runs-requires c =
    let a = c.args in
    let most = begin_most a.counts.processes a.counts.edges a.counts.conditions (get_or a.table.now a.first 0) (omega (arith, c.type_inv.table a.first)) in
    let h = put_front c.put_first-long.ensures (omega (arith, most)) in
    let pre = c.requires in
    (pre.0, record { whole = h.1; some = λ none. c.if-long-eq0.false (sym (length-take-le _ _ h.0) ∙ none) }, pre.1, pre.2)

pub returns : goal.returns
returns c =
    let a = c.args in
    rw (same_some a.counts.processes a.counts.edges a.counts.conditions a.table.now a.first (λ none. c.if-long-eq0.false (omega (arith, c.put_first-long.ensures.count, none)))) c.put_runs.ensures
