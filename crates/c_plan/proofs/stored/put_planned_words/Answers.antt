-- `c_plan::put_planned_words` meets its contract, by those of the words put into bytes.
use mathlib.Core.Path.{sym}
use mathlib.Core.List.{List}
use Prim.Native.Nat.{ℕ, ◌≤◌, ◌+◌}
use native.Mathlib.Omega.{arith}
use lib.ListN.{length, replicate, length-replicate}
use lib.Seq.{length-take-le}
use Rattle.limits.specs.Limits.{TOTALS}
use Rattle.c_plan.proofs.TotalsOfWords.{totals_long, totals_put}
use Rattle.c_plan.proofs.stored.put_planned_words.Goals as goal
use Rattle.c_plan.proofs.stored.put_planned_words.Goals.{After-store_totals}

-- the totals are no more words than the array has
abbrev blank : List ℕ
blank = replicate TOTALS 0

room : (c : After-store_totals) → 3 + length c.args.passed.now ≤ length blank
room c = let few = c.requires.fact_3 in omega (arith, few, length-replicate {A = ℕ} TOTALS 0)

pub slice_bounds-numbers-end : goal.slice_bounds-numbers-end
slice_bounds-numbers-end c =
    let long = totals_long _ _ _ c.args.passed.now blank (room c) c.store_totals.ensures in
    omega (arith, long, room c)

pub slice_bounds-put_some-end : goal.slice_bounds-put_some-end
slice_bounds-put_some-end c =
    let fits = room (goal.at.slice_bounds-put_some-end c).After-store_totals in
    let long = totals_long _ _ _ c.args.passed.now blank fits c.store_totals.ensures in
    sym (length-take-le _ _ (omega (arith, long, fits)))

pub returns : goal.returns
returns c =
    let a = c.args in
    record {
      table_bytes = c.put_words.ensures;
      frame_bytes = c.put_words-2.ensures;
      total_bytes = totals_put _ _ _ a.passed.now blank (room (goal.at.returns c).After-store_totals) c.store_totals.ensures a.totals.now c.put_some.ensures;
    }
