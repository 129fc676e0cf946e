-- Masks: a word whose bits stand for conditions, condition 0 the lowest bit.
-- Assumes nothing.
use Rattle.std.specs.Prelude.{ℕ, zero, suc, ◌+◌, ◌*◌, ◌^◌, Bool, false, List, [], ◌∷◌, get_or, if◌then◌else◌}
use Rattle.lists.specs.Lists.{keep, below}
use Rattle.model.specs.Listing.{bit}

-- the conditions whose bits are set in a mask of six bits, ascending
unfoldable pub members : ℕ → List ℕ
members m = keep (bit m) (below 6)

-- the mask that has these members
unfoldable pub mask_of : List ℕ → ℕ
mask_of [] = 0
mask_of (k ∷ ks) = 2 ^ k + mask_of ks

-- the members of a mask that pass a test, as a mask
unfoldable pub passing : (ℕ → Bool) → ℕ → ℕ
passing f m = mask_of (keep f (members m))

-- the nodes whose bits are set in a mask of eight bits, ascending
unfoldable pub nodes : ℕ → List ℕ
nodes m = keep (bit m) (below 8)

-- one step for each number of a list, one after another
unfoldable pub steps : {A : Type 0} → (ℕ → A → A) → List ℕ → A → A
steps f [] s = s
steps f (n ∷ ns) s = steps f ns (f n s)

-- a mask with one bit more below its lowest
abbrev pub under : Bool → ℕ → ℕ
under b m = (if b then 1 else 0) + 2 * m

-- the mask of a test on the numbers a, a + 1, .., n of them, a the lowest bit
abbrev pub mask_from : (ℕ → Bool) → ℕ → ℕ → ℕ
mask_from f a zero = 0
mask_from f a (suc n) = under (f a) (mask_from f (suc a) n)

-- the number of a combination of n conditions
abbrev pub number_of : ℕ → List Bool → ℕ
number_of n c = mask_from (λ k. get_or c k false) 0 n
