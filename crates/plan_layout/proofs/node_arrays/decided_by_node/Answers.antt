-- `plan_layout::decided_by_node` meets its contract: before turn k each mask has the conditions below k.
use Rattle.std.specs.Prelude.{if◌then◌else◌}
use mathlib.Core.Path.{◌≡◌, refl, sym, ap, ◌∙◌}
use mathlib.Core.Bool.{Bool, true, false}
use mathlib.Core.Logic.{◌⊎◌, inl, inr}
use mathlib.Core.List.{List}
use Prim.Native.Nat.{ℕ, suc, ◌+◌, ◌*◌, ◌%◌, ◌^◌, ◌≤◌, ◌<◌}
use native.Mathlib.Nat.{pow-le-pow_right}
use native.Mathlib.Omega.{arith}
use lib.Dec.{eqb}
use lib.ListN.{length, get_or, set, length-set, get_or-eq_default}
use lib.Seq.{get_or-set_same, get_or-set_other}
use borrow.Author.Tests.{eq-eqb, eqb-true, eqb-false, ne_eqb}
use Rattle.lists.specs.Lists.{fill}
use Rattle.lists.proofs.Fill.{fill_at, fill_length, fill_whole}
use Rattle.lists.proofs.Tests.{two}
use Rattle.bitset.proofs.Built.{built_above, built_small}
use Rattle.plan.specs.Tests.{at}
use Rattle.plan_layout.specs.NodeArrays.{decided_at, decided_by_node}
use Rattle.plan_layout.proofs.node_arrays.decided_by_node.Goals as goal

-- the bit of condition k added to the mask of its decider's node
module _ (decider node : List ℕ) (k n : ℕ) (n-is : n ≡ at node (at decider k)) (low : n < 8) (xs : List ℕ) (v : ℕ) (held : xs ≡ fill 8 (decided_at decider node k) 8)
    (v-is : v ≡ get_or xs n 0 + 2 ^ k) where
  long : length xs ≡ 8
  long = ap length held ∙ fill_length 8 (decided_at decider node k) 8

  mask_at : (j : ℕ) → j < 8 → get_or xs j 0 ≡ decided_at decider node k j
  mask_at j l = ap (λ (ys : List ℕ). get_or ys j 0) held ∙ fill_at 8 (decided_at decider node k) 8 j (omega arith) l

  above : (j : ℕ) (b : Bool) → eqb (at node (at decider k)) j ≡ b → decided_at decider node (suc k) j ≡ decided_at decider node k j + (if b then 2 ^ k else 0)
  above j b e = built_above (λ i. eqb (at node (at decider i)) j) 0 k ∙ ap (λ (c : Bool). decided_at decider node k j + (if c then 2 ^ k else 0)) (ap (λ (i : ℕ). eqb (at node (at decider i)) j) (omega arith) ∙ e)

  added : set xs n v ≡ fill 8 (decided_at decider node (k + 1)) 8
  added =
      let next : suc k ≡ k + 1 = omega arith in
      fill_whole 8 (decided_at decider node (k + 1)) 8 (omega arith) (length-set xs n v ∙ long) (λ j l. at-node j l (two (eqb j n)) ∙ ap (λ (i : ℕ). decided_at decider node i j) next)
      (λ j l. get_or-eq_default (set xs n v) 0 (omega (arith, l, length-set xs n v, long)))
    where
      at-node : (j : ℕ) → j < 8 → (eqb j n ≡ true) ⊎ (eqb j n ≡ false) → get_or (set xs n v) j 0 ≡ decided_at decider node (suc k) j
      at-node j l (inl e) =
          let q : j ≡ n = eqb-true j n e in
          let a = above j true (eq-eqb _ _ (sym n-is ∙ sym q)) in
          ap (λ (i : ℕ). get_or (set xs n v) i 0) q ∙ get_or-set_same xs n v 0 (omega (arith, low, long)) ∙ omega (arith, v-is, mask_at n low, ap (decided_at decider node k) q, a)
      at-node j l (inr e) =
          let d : j ≡ n → ⊥ = eqb-false j n e in
          let a = above j false (ne_eqb _ _ (λ q. d (sym q ∙ sym n-is))) in
          get_or-set_other xs n j v 0 d ∙ omega (arith, mask_at j l, a)

-- how large a mask and the bit are
mask-small : (decider node : List ℕ) (k n : ℕ) → k ≤ 6 → decided_at decider node k n < 64
mask-small decider node k n l = built_small (λ i. eqb (at node (at decider i)) n) 0 k 6 l

bit-small : (k : ℕ) → k ≤ 6 → 2 ^ k ≤ 64
bit-small k l = pow-le-pow_right {n = 2} (omega arith) {i = k} {j = 6} l

pub loop-k-init : goal.loop-k-init
unfolding fill
loop-k-init c = (omega arith, refl)

pub offset_bounds-node-i : goal.offset_bounds-node-i
offset_bounds-node-i c =
    omega (arith, c.wide-i.ensures, c.requires.fact_2 c.loop-k.k)

pub bounds-node-i : goal.bounds-node-i
bounds-node-i c =
    omega (arith, c.wide-i.ensures, c.requires.fact_2 c.loop-k.k)

-- the node of the decider of condition k
at-decider : (decider node : List ℕ) (k i n : ℕ) → i ≡ at decider k → n ≡ at node i → n ≡ at node (at decider k)
at-decider decider node k i n p q = q ∙ ap (at node) p

pub offset_bounds-decides-n : goal.offset_bounds-decides-n
offset_bounds-decides-n c = omega (arith, c.wide-n.ensures, c.requires.fact_3 c.wide-i.result)

pub bounds-decides-n : goal.bounds-decides-n
bounds-decides-n c = omega (arith, c.wide-n.ensures, c.requires.fact_3 c.wide-i.result)

pub overflow_add-decides : goal.overflow_add-decides
overflow_add-decides c =
    let l = c.loop-k in
    let a = c.args in
    let few : l.k < 6 = omega (arith, c.loop-k-test.true, c.requires.fact_1) in
    let low : c.wide-n.result < 8 = omega (arith, c.wide-n.ensures, c.requires.fact_3 c.wide-i.result) in
    omega (arith, bit-small l.k (omega (arith, few)), mask_at a.decider.now a.node.now l.k c.wide-n.result (at-decider a.decider.now a.node.now l.k c.wide-i.result c.wide-n.result c.wide-i.ensures c.wide-n.ensures) low l.decides _ l.invariant.1 refl c.wide-n.result low, mask-small a.decider.now a.node.now l.k c.wide-n.result (omega (arith, few)))

pub bounds-decides-n-in-loop-k : goal.bounds-decides-n-in-loop-k
bounds-decides-n-in-loop-k c = omega (arith, c.wide-n.ensures, c.requires.fact_3 c.wide-i.result)

pub loop-k-preserved : goal.loop-k-preserved
loop-k-preserved c =
    let l = c.loop-k in
    let a = c.args in
    let low : c.wide-n.result < 8 = omega (arith, c.wide-n.ensures, c.requires.fact_3 c.wide-i.result) in
    let bit : 1 * 2 ^ l.k % 4294967296 ≡ 2 ^ l.k = omega (arith, bit-small l.k (omega (arith, c.loop-k-test.true, c.requires.fact_1))) in (
      omega (arith, c.loop-k-test.true),
      added a.decider.now a.node.now l.k c.wide-n.result (at-decider a.decider.now a.node.now l.k c.wide-i.result c.wide-n.result c.wide-i.ensures c.wide-n.ensures) low l.decides _ l.invariant.1 (ap (λ (x : ℕ). get_or l.decides c.wide-n.result 0 + x) bit),
    )

pub returns : goal.returns
unfolding decided_by_node
returns c =
    let a = c.args in
    let q : c.loop-k.k ≡ a.conditions = omega (arith, c.loop-k.invariant.0, c.loop-k-test.false) in
    c.loop-k.invariant.1 ∙ ap (λ (k : ℕ). fill 8 (decided_at a.decider.now a.node.now k) 8) q
