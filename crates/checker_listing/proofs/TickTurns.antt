-- Frames in order: one more frame in order, one half of what is left of a search, and the one frame of a tick.
-- Assumes nothing.
use mathlib.Core.Path.{◌≡◌, sym, ap}
use mathlib.Core.Logic.{◌⊎◌, inl, inr}
use mathlib.Core.Bool.{true, false}
use mathlib.Core.List.{List}
use Prim.Native.Nat.{ℕ, ◌+◌, ◌-◌, ◌*◌, ◌<◌, ◌≤◌}
use native.Mathlib.Omega.{arith}
use lib.Dec.{ltb}
use lib.ListN.{length, get_or}
use borrow.Author.Tests.{ltb-true, ltb-false}
use Rattle.lists.proofs.Tests.{two, below_suc}
use Rattle.checker_listing.specs.FrameList.{Ascends, Before}

module _ (frames : List ℕ) where
  abbrev tick_at : ℕ → ℕ
  tick_at k = get_or frames (3 * k) 0

  -- the first n frames are in order
  abbrev pub FirstAscend : ℕ → Type 0
  FirstAscend n = (i j : ℕ) → i < j → j < n → tick_at i < tick_at j

  -- the frame before frame k
  tick_before : (k : ℕ) → get_or frames (3 * k - 3) 0 ≡ tick_at (k - 1)
  tick_before k = let q : 3 * k - 3 ≡ 3 * (k - 1) = omega arith in ap (λ (n : ℕ). get_or frames n 0) q

  pub ascend_next : (k : ℕ) → 1 ≤ k → FirstAscend k → get_or frames (3 * k - 3) 0 < tick_at k → FirstAscend (k + 1)
  ascend_next k l h t i j u v = at (below_suc j k (omega arith))
    where
      last : tick_at (k - 1) < tick_at k
      last = let q = tick_before k in omega arith

      before : (ltb i (k - 1) ≡ true) ⊎ (ltb i (k - 1) ≡ false) → i < k → tick_at i < tick_at k
      before (inl e) m = let r = h i (k - 1) (ltb-true i (k - 1) e) (omega arith) in omega (arith, r, last)
      before (inr e) m =
          let g : k - 1 ≤ i = ltb-false i (k - 1) e in
          let q : i ≡ k - 1 = omega arith in
          omega (arith, ap (λ (n : ℕ). tick_at n) q, last)

      at : (j < k) ⊎ (j ≡ k) → tick_at i < tick_at j
      at (inl m) = h i j u m
      at (inr q) = let r = before (two (ltb i (k - 1))) (omega arith) in omega (arith, r, ap (λ (n : ℕ). tick_at n) q)

  pub not_ascending : (k : ℕ) → 1 ≤ k → 3 * k < length frames → tick_at k ≤ get_or frames (3 * k - 3) 0 → Ascends frames → ⊥
  not_ascending k l u t a = let r = a (k - 1) k (omega arith) u in omega (arith, r, t, tick_before k)

  module _ (ascends : Ascends frames) where
    -- a search: the frames up to one of a smaller tick, and those from another on
    pub lower_half : (tick m : ℕ) → 3 * m < length frames → tick_at m < tick → (i : ℕ) → i < m + 1 → tick_at i < tick
    lower_half tick m l t i u = at (below_suc i m (omega arith))
      where
        at : (i < m) ⊎ (i ≡ m) → tick_at i < tick
        at (inl v) = let r = ascends i m v l in omega arith
        at (inr q) = omega (arith, t, ap (λ (n : ℕ). tick_at n) q)

    pub upper_half : (tick m : ℕ) → tick ≤ tick_at m → (i : ℕ) → m ≤ i → 3 * i < length frames → tick ≤ tick_at i
    upper_half tick m t i u l = at (below_suc m i (omega arith))
      where
        at : (m < i) ⊎ (m ≡ i) → tick ≤ tick_at i
        at (inl v) = let r = ascends m i v l in omega arith
        at (inr q) = omega (arith, t, ap (λ (n : ℕ). tick_at n) q)

    -- the one frame of a tick is the first that has no smaller tick
    pub frame_found : (tick k n : ℕ) → Before frames tick k → 3 * n < length frames → tick_at n ≡ tick → n ≡ k
    frame_found tick k n b l q = at (two (ltb n k))
      where
        later : (k < n) ⊎ (k ≡ n) → n ≡ k
        later (inl v) = absurd (let r = ascends k n v l in let s = b.others k (omega arith) (omega arith) in omega (arith, r, s, q))
        later (inr e) = sym e

        at : (ltb n k ≡ true) ⊎ (ltb n k ≡ false) → n ≡ k
        at (inl e) = absurd (let r = b.smaller n (ltb-true n k e) in omega (arith, r, q))
        at (inr e) = let g : k ≤ n = ltb-false n k e in later (below_suc k n (omega arith))
