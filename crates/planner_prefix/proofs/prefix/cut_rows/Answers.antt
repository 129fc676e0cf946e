-- `planner_prefix::cut_rows` meets its contract: before turn r the first r rows are cut.
use mathlib.Core.Path.{◌≡◌, refl, sym, ◌∙◌}
use mathlib.Core.Logic.{⊎_elim}
use Prim.Native.Nat.{ℕ}
use native.Mathlib.Omega.{arith}
use lib.ListN.{length, get_or, length-set, get_or-eq_default}
use lib.Seq.{get_or-set_same, get_or-set_other}
use Rattle.lists.proofs.Fill.{fill_whole}
use Rattle.lists.proofs.Tests.{below_suc}
use Rattle.plan_index.specs.Index.{laid}
use Rattle.log_rows.specs.Rows.{Rows, rows_of, with_comes}
use Rattle.table_entries.specs.Logs.{block}
use Rattle.table_entries.proofs.EntriesOfModel.{block_at}
use Rattle.planner_prefix.specs.Prefix.{cut_one, cut_at, cut}
use Rattle.planner_prefix.proofs.prefix.cut_rows.Goals as goal

pub loop-r-init : goal.loop-r-init
loop-r-init c = (omega arith, refl, c.requires.2, λ k l. absurd (omega (arith, l)))

pub loop-r-preserved : goal.loop-r-preserved
unfolding cut_at
loop-r-preserved c =
    let a = c.args in
    let r : ℕ = c.loop-r.r in
    let here : Rows = rows_of c.loop-r.rows in
    let put = c.put_comes.ensures in
    let same = c.loop-r.invariant.1 in
    let long = c.loop-r.invariant.2 in
    let f : ℕ → ℕ = cut_at (block a.all.now a.d) (laid a.index.now).span a.u in
    let new : c.cut_row-x.result ≡ f r =
    c.cut_row-x.ensures
    ∙ (λ k. cut_one (sym (block_at a.all.now a.d r c.loop-r-test.true) k) (c.span_of.ensures.0 k) a.u) in (
      omega (arith, c.loop-r-test.true),
      put ∙ (λ j. with_comes (sym put j).comes (same j)),
      (λ j. length (put j).comes) ∙ length-set here.comes r c.cut_row-x.result ∙ long,
      λ k o.
          (λ j. get_or (put j).comes k 0)
          ∙ ⊎_elim
          (λ s. get_or-set_other here.comes r k c.cut_row-x.result 0 (λ q. omega (arith, q, s)) ∙ c.loop-r.invariant.3 k s)
          (λ q. rw q (get_or-set_same here.comes r c.cut_row-x.result 0 (omega (arith, c.loop-r-test.true, long)) ∙ new))
          (below_suc k r (omega (arith, o))),
    )

pub returns : goal.returns
unfolding cut
returns c =
    let a = c.args in
    let v = c.loop-r.invariant in
    let here : Rows = rows_of c.loop-r.rows in
    let f : ℕ → ℕ = cut_at (block a.all.now a.d) (laid a.index.now).span a.u in
    v.1
    ∙ (λ j.
    with_comes
    (fill_whole 198 f 198 {xs = here.comes} (omega arith) v.2 (λ k o. v.3 k (omega (arith, o, v.0, c.loop-r-test.false)))
    (λ k o. get_or-eq_default here.comes 0 (omega (arith, o, v.2))) j)
    (rows_of a.rows.now))
