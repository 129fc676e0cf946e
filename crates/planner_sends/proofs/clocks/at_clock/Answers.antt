-- `planner_sends::at_clock` meets its contract: before each turn the mask has the bits of the nodes from n on.
use mathlib.Core.Path.{◌≡◌, sym, ap, ◌∙◌}
use mathlib.Core.Bool.{Bool}
use Prim.Native.Nat.{ℕ, ◌+◌, ◌-◌}
use native.Mathlib.Omega.{arith}
use lib.Dec.{eqb}
use lib.ListN.{get_or}
use Rattle.bitset.specs.Masks.{under, mask_from}
use Rattle.bitset.proofs.Built.{built_start, built_step, built_small}
use Rattle.planner_sends.proofs.clocks.at_clock.Goals as goal

pub loop-n-init : goal.loop-n-init
loop-n-init c =
    let a = c.args in
    (omega arith, sym (built_start (λ k. eqb (get_or a.nodes.now (a.at + k) 0) a.u) 8))

pub with_bit-mask-requires : goal.with_bit-mask-requires
with_bit-mask-requires c =
    let a = c.args in
    let n = c.loop-n.n in
    rw c.loop-n.invariant.1 (built_small (λ k. eqb (get_or a.nodes.now (a.at + k) 0) a.u) n (8 - n) 7 (omega (arith, c.loop-n-test.true)))

pub loop-n-preserved : goal.loop-n-preserved
loop-n-preserved c =
    let a = c.args in
    let f : ℕ → Bool = λ k. eqb (get_or a.nodes.now (a.at + k) 0) a.u in
    let n = c.loop-n.n in
    (omega arith, c.with_bit-mask.ensures.0 ∙ ap (under (f (n - 1))) c.loop-n.invariant.1 ∙ built_step f 8 n (omega (arith, c.loop-n-test.true)) c.loop-n.invariant.0)

pub returns : goal.returns
returns c =
    let a = c.args in
    let f : ℕ → Bool = λ k. eqb (get_or a.nodes.now (a.at + k) 0) a.u in
    let z : c.loop-n.n ≡ 0 = omega (arith, c.loop-n-test.false) in
    let d : 8 - c.loop-n.n ≡ 8 = omega (arith, z) in
    c.loop-n.invariant.1 ∙ (λ i. mask_from f (z i) (d i))
