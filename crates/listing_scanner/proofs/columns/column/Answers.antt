-- `column` gives what the grammar reads: condition by condition, and the bracket behind them.
use Prim.Native.Nat.{◌≤◌}
use native.Mathlib.Omega.{arith}
use Rattle.limits.specs.Limits.{CONDITIONS}
use Rattle.listing_grammar.specs.Parse.{column_at}
use Rattle.listing_scanner.proofs.ColumnSteps.{begun, stepped, over, bit_most}
use Rattle.listing_scanner.proofs.columns.column.Goals as goal

pub returns-in_err-first : goal.returns-in_err-first
unfolding column_at
returns-in_err-first c = rw c.from_residual.ensures (record { within = tt; same = rw (← c.in_err-first.ensures.same) })

pub loop-k-init : goal.loop-k-init
loop-k-init c = begun _ _ _ c.in_ok-first.ensures.within

pub step-s-requires : goal.step-s-requires
step-s-requires c =
    let m = c.loop-k.invariant in
    let few : c.args.conditions ≤ CONDITIONS = omega arith in
    (m.within, m.known_small, m.values_small, bit_most m c.loop-k-test.true few)

pub overflow_mul-bit : goal.overflow_mul-bit
overflow_mul-bit c =
    let m = c.loop-k.invariant in
    let few : c.args.conditions ≤ CONDITIONS = omega arith in
    omega (arith, bit_most m c.loop-k-test.true few)

pub loop-k-preserved : goal.loop-k-preserved
loop-k-preserved c = stepped _ _ _ _ _ _ _ c.loop-k-test.true c.loop-k.invariant c.step-s.ensures

pub word-requires-2 : goal.word-requires-2
word-requires-2 c = c.loop-k.invariant.within

pub returns-in_err-s : goal.returns-in_err-s
unfolding column_at
returns-in_err-s c =
    let done : c.args.conditions ≤ c.loop-k.k = omega arith in
    rw c.from_residual-in_err-s.ensures (record { within = tt; same = rw (← c.in_ok-first.ensures.same, over _ _ _ _ _ _ done c.loop-k.invariant, ← c.in_err-s.ensures.same) })

pub returns : goal.returns
unfolding column_at
returns c =
    let done : c.args.conditions ≤ c.loop-k.k = omega arith in
    record { within = c.in_ok-s.ensures.within; same = rw (← c.in_ok-first.ensures.same, over _ _ _ _ _ _ done c.loop-k.invariant, ← c.in_ok-s.ensures.same) }
