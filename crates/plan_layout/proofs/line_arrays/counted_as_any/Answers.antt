-- `plan_layout::counted_as_any` meets its contract: before turn i the first i are filled.
use mathlib.Core.Path.{ap, ◌∙◌}
use Prim.Native.Nat.{ℕ, ◌+◌}
use native.Mathlib.Omega.{arith}
use Rattle.lists.specs.Lists.{fill}
use Rattle.lists.proofs.Fill.{fill_next}
use Rattle.plan.specs.Numbers.{any_at}
use Rattle.plan.specs.Tests.{at}
use Rattle.plan_layout.specs.LineArrays.{as_any_of}
use borrow.Author.Rules.{rules}
use Rattle.plan_layout.proofs.line_arrays.counted_as_any.Goals as goal

pub loop-i-init : goal.loop-i-init
unfolding fill
loop-i-init c = search rules

pub loop-i-preserved : goal.loop-i-preserved
loop-i-preserved c =
    let a = c.args in
    let l = c.loop-i in
    (search rules, fill_next 64 (λ k. as_any_of (any_at a.processes.now k) (at a.first k) (at a.first (k + 1))) l.i l.invariant.1 (c.counts_as_any.ensures ∙ ap (λ (x : ℕ). as_any_of x (at a.first l.i) (at a.first (l.i + 1))) c.any_number.ensures))

pub returns : goal.returns
returns c =
    let a = c.args in
    let l = c.loop-i in
    l.invariant.1 ∙ ap (fill 64 (λ k. as_any_of (any_at a.processes.now k) (at a.first k) (at a.first (k + 1)))) (omega arith)
