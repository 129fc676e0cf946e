-- An array filled one by one: what one store adds, its length, what stands where, what holds at every place, and a part
-- of a list stored in an array of zeros; and zeros behind some numbers.
-- Assumes nothing.
use mathlib.Core.Path.{◌≡◌, refl, sym, ap, subst, ◌∙◌}
use mathlib.Core.Logic.{◌⊎◌, inl, inr}
use mathlib.Core.Bool.{true, false}
use mathlib.Core.List.{List, [], ◌∷◌, ◌++◌}
use Prim.Native.Nat.{ℕ, zero, suc, ◌+◌, ◌-◌, ◌≤◌, ◌<◌}
use native.Mathlib.Nat.{not-suc-le-zero}
use native.Mathlib.Numerals.{add-one}
use native.Mathlib.Omega.{arith}
use lib.Dec.{ltb}
use lib.ListN.{length, get_or, set, replicate, take, drop, length-set, length-replicate, length-drop}
use lib.Seq.{sets, slice, length-sets, length-slice, ext_get_or, get_or-take, get_or-drop, get_or-set_same, get_or-set_other, set-get_or}
use borrow.Author.Tests.{ltb-true, ltb-false}
use Rattle.lists.specs.Lists.{fill}
use Rattle.lists.proofs.Tests.{two, below_suc}
use Rattle.lists.proofs.Stores.{sets_at, sets_after}

pub fill_next : (size : ℕ) (f : ℕ → ℕ) (n : ℕ) {v : ℕ} {xs : List ℕ} → xs ≡ fill size f n → v ≡ f n → set xs n v ≡ fill size f (n + 1)
unfolding fill
fill_next size f n {v} {xs} e q = rw (add-one, e, q)

pub fill_length : (size : ℕ) (f : ℕ → ℕ) (n : ℕ) → length (fill size f n) ≡ size
unfolding fill
fill_length size f zero = length-replicate size 0
fill_length size f (suc n) = length-set (fill size f n) n (f n) ∙ fill_length size f n

-- an array of zeros
pub zeros_at : (size k : ℕ) → ◌≡◌ {A = ℕ} (get_or (replicate size 0) k 0) 0
zeros_at zero k = refl
zeros_at (suc size) zero = refl
zeros_at (suc size) (suc k) = zeros_at size k

-- zeros behind some numbers: each number stands where it stood
pub padded_at : (xs : List ℕ) (m k : ℕ) → get_or (xs ++ replicate m 0) k 0 ≡ get_or xs k 0
padded_at [] m k = zeros_at m k
padded_at (x ∷ xs) m zero = refl
padded_at (x ∷ xs) m (suc k) = padded_at xs m k

-- an array that is 0 from a place on
pub zeros_from : (xs : List ℕ) (a : ℕ) → ((j : ℕ) → a ≤ j → get_or xs j 0 ≡ 0) → drop a xs ≡ replicate (length xs - a) 0
zeros_from xs a h =
    ext_get_or 0 (drop a xs) (replicate (length xs - a) 0) (length-drop a xs ∙ sym (length-replicate (length xs - a) 0))
    (λ j l. get_or-drop a xs j 0 ∙ h (a + j) (omega arith) ∙ sym (zeros_at (length xs - a) j))

-- an array of one number
pub each_at : (size x k : ℕ) → k < size → ◌≡◌ {A = ℕ} (get_or (replicate size x) k 0) x
each_at zero x k l = absurd (omega arith)
each_at (suc size) x zero l = refl
each_at (suc size) x (suc k) l = each_at size x k (omega arith)

module _ (size : ℕ) (f : ℕ → ℕ) where
  pub fill_at : (n k : ℕ) → n ≤ size → k < n → get_or (fill size f n) k 0 ≡ f k
  unfolding fill
  fill_at zero k u l = absurd (not-suc-le-zero l)
  fill_at (suc n) k u l = at (below_suc k n l) (fill_at n k (omega arith))
    where
      at : (k < n) ⊎ (k ≡ n) → (k < n → get_or (fill size f n) k 0 ≡ f k) → get_or (set (fill size f n) n (f n)) k 0 ≡ f k
      at (inl s) h = get_or-set_other (fill size f n) n k (f n) 0 (λ q. omega arith) ∙ h s
      at (inr q) h = rw q (get_or-set_same (fill size f n) n (f n) 0 (omega (arith, fill_length size f n)))

  -- past what is filled there are zeros
  pub fill_past : (n k : ℕ) → n ≤ k → get_or (fill size f n) k 0 ≡ 0
  unfolding fill
  fill_past zero k l = zeros_at size k
  fill_past (suc n) k l = get_or-set_other (fill size f n) n k (f n) 0 (λ q. omega arith) ∙ fill_past n k (omega arith)

  -- a 0 need not be stored
  pub fill_skips : (n : ℕ) {xs : List ℕ} → xs ≡ fill size f n → f n ≡ 0 → xs ≡ fill size f (n + 1)
  fill_skips n e z = e ∙ sym (set-get_or (fill size f n) n 0) ∙ fill_next size f n refl (fill_past n n (omega arith) ∙ sym z)

-- what fills the places matters, and nothing else
pub fill_same : (size : ℕ) (f g : ℕ → ℕ) (n : ℕ) → ((k : ℕ) → k < n → f k ≡ g k) → fill size f n ≡ fill size g n
unfolding fill
fill_same size f g zero h = refl
fill_same size f g (suc n) h = λ j. set (fill_same size f g n (λ k l. h k (omega arith)) j) n (h n (omega arith) j)

-- what holds at each number that fills an array, and of 0 past them, holds in the whole array
pub fill_each : (P : ℕ → ℕ → Type 0) (size : ℕ) (f : ℕ → ℕ) (n : ℕ) → n ≤ size → ((k : ℕ) → k < n → P k (f k)) → ((k : ℕ) → n ≤ k → P k 0) →
    (k : ℕ) → P k (get_or (fill size f n) k 0)
fill_each P size f n u h z k = by (two (ltb k n))
  where
    by : (ltb k n ≡ true) ⊎ (ltb k n ≡ false) → P k (get_or (fill size f n) k 0)
    by (inl e) = let l = ltb-true k n e in subst (P k) (sym (fill_at size f n k u l)) (h k l)
    by (inr e) = let l = ltb-false k n e in subst (P k) (sym (fill_past size f n k l)) (z k l)

pub fill_all : (P : ℕ → Type 0) (size : ℕ) (f : ℕ → ℕ) (n : ℕ) → n ≤ size → ((k : ℕ) → k < n → P (f k)) → P 0 → (k : ℕ) → P (get_or (fill size f n) k 0)
fill_all P size f n u h z = fill_each (λ k. P) size f n u h (λ k l. z)

-- an array of these numbers, and of zeros past them, is one that they fill
pub fill_whole : (size : ℕ) (f : ℕ → ℕ) (n : ℕ) {xs : List ℕ} → n ≤ size → length xs ≡ size → ((k : ℕ) → k < n → get_or xs k 0 ≡ f k) → ((k : ℕ) → n ≤ k → get_or xs k 0 ≡ 0) →
    xs ≡ fill size f n
fill_whole size f n {xs} u long same rest =
    ext_get_or 0 xs (fill size f n) (long ∙ sym (fill_length size f n)) (λ k l. fill_each (λ k x. get_or xs k 0 ≡ x) size f n u same rest k)

-- n numbers from place a on, stored at the front of an array of zeros
pub fill_part : (size : ℕ) (xs : List ℕ) (a n : ℕ) {zeros : List ℕ} → zeros ≡ replicate size 0 → n ≤ size → a + n ≤ length xs →
    sets zeros 0 (slice a (a + n) xs) ≡ fill size (λ k. get_or xs (a + k) 0) n
fill_part size xs a n {zeros} z u h =
    let f : ℕ → ℕ = λ k. get_or xs (a + k) 0 in
    let part : List ℕ = slice a (a + n) xs in
    let long : length part ≡ n = omega (arith, length-slice a (a + n) xs h) in
    let wide : length zeros ≡ size = ap length z ∙ length-replicate size 0 in
    ext_get_or 0 (sets zeros 0 part) (fill size f n) (length-sets zeros 0 part ∙ wide ∙ sym (fill_length size f n)) (λ k l.
    fill_each (λ k x. get_or (sets zeros 0 part) k 0 ≡ x) size f n u
    (λ k l.
    let q : k ≡ 0 + k = omega arith in
    ap (λ (i : ℕ). get_or (sets zeros 0 part) i 0) q ∙ sets_at zeros 0 part k (omega arith) (omega arith) ∙ get_or-drop a (take (a + n) xs) k 0 ∙ get_or-take (a + n) xs (a + k) 0 (omega arith))
    (λ k l. sets_after zeros 0 k part (omega arith) ∙ ap (λ (l : List ℕ). get_or l k 0) z ∙ zeros_at size k) k)
