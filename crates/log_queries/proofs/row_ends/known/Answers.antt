-- `log_queries::known` meets its contract: six conditions are read with no loop; of fewer, before each turn the mask
-- has the bits of the conditions from k on.
use mathlib.Core.Path.{◌≡◌, ap, sym, ◌∙◌}
use mathlib.Core.Bool.{Bool}
use Prim.Native.Nat.{ℕ, ◌+◌, ◌-◌, ◌<◌, ◌≤◌}
use native.Mathlib.Omega.{arith}
use Rattle.bitset.specs.Masks.{under, mask_from}
use Rattle.bitset.proofs.Built.{built_start, built_step, built_small}
use Rattle.log_queries.specs.Reading.{came_by, known_by}
use Rattle.log_queries.proofs.row_ends.known.Goals as goal

-- one turn
next : (f : ℕ → Bool) (n k : ℕ) {b : Bool} {m v : ℕ} → 0 < k → k ≤ n → b ≡ f (k - 1) → m ≡ mask_from f k (n - k) → v ≡ under b m → v ≡ mask_from f (k - 1) (n - (k - 1))
next f n k p l q s e = e ∙ (λ i. under (q i) (s i)) ∙ built_step f n k p l

pub returns-then-conditions-eq-CONDITIONS : goal.returns-then-conditions-eq-CONDITIONS
returns-then-conditions-eq-CONDITIONS c =
    let a = c.args in
    (c.six_known.ensures.0 ∙ ap (λ n. known_by a.rows.now a.base n a.u) (sym c.if-conditions-eq-CONDITIONS.true), c.six_known.ensures.1)

pub loop-k-init : goal.loop-k-init
loop-k-init c =
    let a = c.args in
    (omega arith, sym (built_start (λ j. came_by a.rows.now a.u (a.base + j)) a.conditions))

pub with_bit-mask-requires : goal.with_bit-mask-requires
with_bit-mask-requires c =
    let a = c.args in
    let k = c.loop-k.k in
    rw c.loop-k.invariant.1 (built_small (λ j. came_by a.rows.now a.u (a.base + j)) k (a.conditions - k) 7 (omega arith))

pub loop-k-preserved : goal.loop-k-preserved
unfolding came_by
loop-k-preserved c =
    let a = c.args in
    (omega arith, next (λ j. came_by a.rows.now a.u (a.base + j)) a.conditions c.loop-k.k (omega arith) c.loop-k.invariant.0 c.came.ensures c.loop-k.invariant.1 c.with_bit-mask.ensures.0)

pub returns : goal.returns
unfolding known_by
returns c =
    let a = c.args in
    let f : ℕ → Bool = λ j. came_by a.rows.now a.u (a.base + j) in
    let z : c.loop-k.k ≡ 0 = omega arith in
    let d : a.conditions - c.loop-k.k ≡ a.conditions = omega arith in
    let e : c.loop-k.mask ≡ mask_from f 0 a.conditions = c.loop-k.invariant.1 ∙ (λ i. mask_from f (z i) (d i)) in
    (e, rw e (built_small f 0 a.conditions 6 c.requires.1))
