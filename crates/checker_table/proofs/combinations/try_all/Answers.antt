-- `checker_table::try_all` meets its contract: the least and the greatest so far, with what is left, give the whole.
use mathlib.Core.Path.{refl, sym, ap, ◌∙◌}
use mathlib.Core.Bool.{true}
use Prim.Native.Nat.{◌≤◌, ◌<◌, max, min}
use native.Mathlib.Omega.{arith}
use Rattle.lists.proofs.Greatest.{most_start, most_taken, most_whole}
use Rattle.plan_index.specs.Index.{laid}
use Rattle.checker_table.specs.Finding.{Finding, first_number}
use Rattle.checker_table.specs.Combinations.{found_by, found_all}
use Rattle.checker_table.proofs.Combined.{early_most}
use Rattle.checker_table.proofs.Least.{fewest_start, fewest_next, fewest_end}
use Rattle.checker_table.proofs.combinations.try_all.Goals as goal

pub loop-c-init : goal.loop-c-init
loop-c-init c =
    let a = c.args in (
      tt,
      fewest_start (λ k. (found_by (laid a.index.now) a.table.now k).first) a.combinations,
      most_start (λ k. (found_by (laid a.index.now) a.table.now k).delay) (λ k. true) a.combinations,
    )

pub try_combination-found-requires : goal.try_combination-found-requires
try_combination-found-requires c = record { fact_1 = c.requires.fact_1; fact_2 = omega (arith, c.requires.fact_2, c.loop-c-test.true) }

pub earlier-first-requires : goal.earlier-first-requires
earlier-first-requires c = (c.loop-c.invariant.0, c.try_combination-found.ensures.1)

pub loop-c-preserved : goal.loop-c-preserved
loop-c-preserved c =
    let a = c.args in
    let n = a.combinations in
    let k = c.loop-c.c in
    let u : k < n = omega (arith, c.loop-c-test.true) in
    let e = c.try_combination-found.ensures.0 in (
      c.earlier-first.ensures.1,
      fewest_next (λ k. (found_by (laid a.index.now) a.table.now k).first) n k (first_number c.loop-c.first) u c.loop-c.invariant.1
          (c.earlier-first.ensures.0 ∙ ap (λ (f : Finding). min (first_number c.loop-c.first) f.first) e),
      most_taken (λ k. (found_by (laid a.index.now) a.table.now k).delay) (λ k. true) n k c.loop-c.delay u refl c.loop-c.invariant.2
          (c.max-delay.ensures ∙ ap (λ (f : Finding). max c.loop-c.delay f.delay) e),
    )

pub returns : goal.returns
unfolding found_all
returns c =
    let a = c.args in
    let h = c.loop-c.invariant in
    let n = a.combinations in
    let v : n ≤ c.loop-c.c = omega (arith, c.loop-c-test.false) in (
      λ i. record {
        first = fewest_end (λ k. (found_by (laid a.index.now) a.table.now k).first) n c.loop-c.c (first_number c.loop-c.first) v (early_most c.loop-c.first h.0) h.1 i;
        delay = sym (most_whole (λ k. (found_by (laid a.index.now) a.table.now k).delay) n c.loop-c.c c.loop-c.delay v h.2) i;
      },
      h.0,
    )
