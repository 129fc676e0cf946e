-- The broadcasts of a slot, one by one: what one turn of the loop does to what is taken so far, and where it may end;
-- and whether a node has any.
-- Assumes nothing.
use Rattle.std.specs.Prelude.{if◌then◌else◌}
use mathlib.Core.Path.{◌≡◌, refl, ap, ◌∙◌}
use mathlib.Core.Bool.{Bool, true, false, not, ◌||◌}
use mathlib.Core.List.Memᴰ.{head as here}
use mathlib.Core.List.{List, [], ◌∷◌}
use Prim.Native.Nat.{ℕ, zero, suc, min, ◌+◌, ◌-◌, ◌≤◌, ◌<◌}
use native.Mathlib.Omega.{arith}
use lib.Dec.{ltb}
use lib.ListN.{length, set, drop}
use Rattle.lists.specs.Lists.{any, null, keep, below}
use Rattle.lists.proofs.Members.{keep_in, below_in}
use Rattle.model.specs.Listing.{bit}
use Rattle.bitset.specs.Masks.{members, mask_from}
use Rattle.bitset.proofs.Built.{built_members}
use Rattle.planner_sends.specs.Packing.{Load, load, laid, broadcast_all, all_broadcast}

-- a member of a mask is a condition
pub member_small : (m k : ℕ) → members m ≡ k ∷ drop 1 (members m) → k < 6
unfolding members
member_small m k e = below_in 6 (keep_in (bit m) (below 6) (rw e (here refl))).0

-- a mask with a member is not 0
pub member_some : (m : ℕ) → 0 < length (members m) → 0 < m
unfolding members bit
member_some zero l = absurd (omega arith)
member_some (suc m) l = omega arith

-- the broadcasts: one turn, and the end
module _ (conditionrow end room m : ℕ) where
  pub broadcast_next : (k used : ℕ) (short : Bool) (comes place : List ℕ) → used < room → members m ≡ k ∷ drop 1 (members m) →
      broadcast_all conditionrow end (room - used) (members m) (load used short comes place)
      ≡ broadcast_all conditionrow end (room - (used + 1)) (drop 1 (members m)) (load (used + 1) short (set comes (conditionrow + k) end) (set place (conditionrow + k) used))
  unfolding broadcast_all laid
  broadcast_next k used short comes place l e =
      let d : room - used ≡ suc (room - (used + 1)) = omega arith in
      (λ i. broadcast_all conditionrow end (d i) (e i) (load used short comes place))

  pub broadcast_end : (used n : ℕ) (s : Load) → used + length (members m) ≡ n → min n room ≤ used → broadcast_all conditionrow end (room - used) (members m) s ≡ s
  unfolding broadcast_all
  broadcast_end used n s q l = at (members m) q
    where
      at : (ks : List ℕ) → used + length ks ≡ n → broadcast_all conditionrow end (room - used) ks s ≡ s
      at [] q = refl
      at (k ∷ ks) q = let d : room - used ≡ 0 = omega arith in ap (λ (n : ℕ). broadcast_all conditionrow end n (k ∷ ks) s) d

-- broadcasts take no more bytes than there are
pub broadcast_within : (conditionrow end n : ℕ) (ks : List ℕ) (s : Load) → (broadcast_all conditionrow end n ks s).used ≤ s.used + n
unfolding broadcast_all laid
broadcast_within conditionrow end n [] s = omega arith
broadcast_within conditionrow end zero (k ∷ ks) s = omega arith
broadcast_within conditionrow end (suc n) (k ∷ ks) s = let r = broadcast_within conditionrow end n ks (laid end (conditionrow + k) 1 s) in omega arith

pub taken_within : (conditionrow room end mask : ℕ) (comes place : List ℕ) → (all_broadcast conditionrow room end mask comes place).used ≤ room
unfolding all_broadcast
taken_within conditionrow room end mask comes place =
    let s : Load = load 0 (ltb room (length (members mask))) comes place in
    omega (arith, broadcast_within conditionrow end room (members mask) s)

-- a list has a number that passes a test just where what is kept is not empty
pub keep_some : (f : ℕ → Bool) (xs : List ℕ) → not (null (keep f xs)) ≡ any f xs
keep_some f [] = refl
keep_some f (x ∷ xs) = at (f x) (keep_some f xs)
  where
    at : (b : Bool) → not (null (keep f xs)) ≡ any f xs → not (null (if b then (x ∷ keep f xs) else keep f xs)) ≡ (b || any f xs)
    at true r = refl
    at false r = r

-- a mask that is built from a test has a member just where one of its numbers passes
pub built_some : (f : ℕ → Bool) (n : ℕ) → n ≤ 6 → not (null (members (mask_from f 0 n))) ≡ any f (below n)
built_some f n l = ap (λ (ks : List ℕ). not (null ks)) (built_members f n l) ∙ keep_some f (below n)
