-- The members of a mask of six bits, and the nodes of a mask of eight: each law is one test that the checker computes
-- at all the masks.
-- Assumes nothing.
use mathlib.Core.Path.{◌≡◌, refl}
use mathlib.Core.Bool.{Bool, true, false, false≢true, beq}
use mathlib.Core.List.Memᴰ.{head as here}
use mathlib.Core.List.{List, [], ◌∷◌}
use Prim.Native.Nat.{ℕ, zero, suc, ◌-◌, ◌<◌}
use native.Mathlib.Omega.{arith}
use lib.Bits.{bit_and, and_le_r}
use lib.Count.{count_trailing_zeros, ones}
use lib.Dec.{eqb}
use lib.ListN.{length, drop}
use borrow.Author.Tests.{eqb-true}
use Rattle.lists.specs.Lists.{all, below, null}
use Rattle.lists.specs.Ordered.{Order, less, same, more, order}
use Rattle.lists.proofs.Members.{all_in, in_below, below_in, keep_in}
use Rattle.lists.proofs.Order.{order_same}
use Rattle.model.specs.Listing.{bit}
use Rattle.bitset.specs.Masks.{members, mask_of, nodes}

is_same : Order → Bool
is_same less = false
is_same same = true
is_same more = false

told_same : (o : Order) → is_same o ≡ true → o ≡ same
unfolding is_same
told_same less e = absurd (false≢true e)
told_same same e = refl
told_same more e = absurd (false≢true e)

-- a test that holds at the numbers below n, computed at each
holds_at : (f : ℕ → Bool) (n m : ℕ) → all f (below n) ≡ true → m < n → f m ≡ true
holds_at f n m e h = all_in f e (in_below n m h)

-- the tests: the first is of the mask suc m, the others of the mask m
split : (ℕ → List ℕ) → ℕ → Bool
split set m = is_same (order (set (suc m)) (count_trailing_zeros 32 (suc m) ∷ set (bit_and (suc m) (suc m - 1))))

counted : ℕ → Bool
counted m = eqb (ones m) (length (members m))

rebuilt : ℕ → Bool
rebuilt m = eqb (mask_of (members m)) m

emptied : ℕ → Bool
emptied m = beq (eqb m 0) (null (members m))

-- the lowest member is what trailing zeros say, and the others are those of the mask with its lowest one cleared
pub mask_split : (m : ℕ) → 0 < m → m < 64 → members m ≡ count_trailing_zeros 32 m ∷ members (bit_and m (m - 1))
unfolding split members bit count_trailing_zeros order is_same
mask_split zero p h = absurd (omega arith)
mask_split (suc m) p h = order_same _ _ (told_same _ (holds_at (split members) 63 m refl (omega arith)))

pub node_split : (m : ℕ) → 0 < m → m < 256 → nodes m ≡ count_trailing_zeros 32 m ∷ nodes (bit_and m (m - 1))
unfolding split nodes bit count_trailing_zeros order is_same
node_split zero p h = absurd (omega arith)
node_split (suc m) p h = order_same _ _ (told_same _ (holds_at (split nodes) 255 m refl (omega arith)))

-- a mask is that of its members
pub mask_rebuilt : (m : ℕ) → m < 64 → mask_of (members m) ≡ m
unfolding rebuilt members bit mask_of
mask_rebuilt m h = eqb-true (mask_of (members m)) m (holds_at rebuilt 64 m refl h)

-- the lowest node of a mask is below 8, and an empty mask has none
pub node_small : (m n : ℕ) → nodes m ≡ n ∷ drop 1 (nodes m) → n < 8
unfolding nodes
node_small m n e = below_in 8 (keep_in (bit m) (below 8) (rw e (here refl))).0

pub nodes_none : nodes 0 ≡ []
unfolding nodes bit
nodes_none = refl

-- clearing the lowest one makes a mask less
pub mask_lower : (m : ℕ) → 0 < m → bit_and m (m - 1) < m
mask_lower m p = omega (arith, and_le_r m (m - 1))

-- a mask has as many members as ones
pub mask_count : (m : ℕ) → m < 64 → ones m ≡ length (members m)
unfolding counted members bit ones
mask_count m h = eqb-true _ _ (holds_at counted 64 m refl h)

-- a mask has no members exactly where it is 0
pub mask_empty : (m : ℕ) → m < 64 → eqb m 0 ≡ null (members m)
unfolding emptied members bit
mask_empty m h = alike _ _ (holds_at emptied 64 m refl h)
  where
    alike : (a b : Bool) → beq a b ≡ true → a ≡ b
    alike true true e = refl
    alike true false e = absurd (false≢true e)
    alike false true e = absurd (false≢true e)
    alike false false e = refl
