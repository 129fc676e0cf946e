-- The next event lies after the clock, and no row is over and no slot with an item pending begins before it.
-- Assumes nothing.
use Prim.Native.Nat.{ℕ, zero, suc, ◌≤◌, ◌<◌}
use mathlib.Core.Path.{◌≡◌, refl, sym, subst}
use mathlib.Core.Logic.{◌⊎◌, inl, inr}
use mathlib.Core.Bool.{Bool, true, false}
use mathlib.Core.List.{List}
use native.Mathlib.Omega.{arith}
use lib.Dec.{leb, ltb}
use lib.ListN.{get_or}
use borrow.Author.Tests.{ltb-true, ltb-false, leb-true, leb-false}
use Rattle.lists.proofs.Tests.{clash, below_suc}
use Rattle.planner_sends.specs.Clocks.{no_event, sooner_by, come_by}
use Rattle.planner_combination.specs.Events.{next_slot, nearer_by, event_by}

-- the earlier of two, by cases
data Sooner (least x u : ℕ) : Type 0 where
  past : x ≤ u → sooner_by least x u ≡ least → Sooner least x u
  later : u < x → least ≤ x → sooner_by least x u ≡ least → Sooner least x u
  first : u < x → x < least → sooner_by least x u ≡ x → Sooner least x u

sooner : (least x u : ℕ) → Sooner least x u
unfolding sooner_by
sooner least x u = at (ltb u x) (ltb x least) refl refl
  where
    at : (a b : Bool) → ltb u x ≡ a → ltb x least ≡ b → Sooner least x u
    at false b e f = past (ltb-false u x e) (rw e)
    at true false e f = later (ltb-true u x e) (ltb-false x least f) (rw (e, f))
    at true true e f = first (ltb-true u x e) (ltb-true x least f) (rw (e, f))

sooner_after : (least x u : ℕ) → u < least → u < sooner_by least x u
sooner_after least x u l = at (sooner least x u)
  where
    at : Sooner least x u → u < sooner_by least x u
    at (past a q) = omega (arith, q)
    at (later a b q) = omega (arith, q)
    at (first a b q) = omega (arith, q)

pub sooner_least : (least x u : ℕ) → sooner_by least x u ≤ least
sooner_least least x u = at (sooner least x u)
  where
    at : Sooner least x u → sooner_by least x u ≤ least
    at (past a q) = omega (arith, q)
    at (later a b q) = omega (arith, q)
    at (first a b q) = omega (arith, q)

sooner_or : (least x u : ℕ) → (x ≤ u) ⊎ (sooner_by least x u ≤ x)
sooner_or least x u = at (sooner least x u)
  where
    at : Sooner least x u → (x ≤ u) ⊎ (sooner_by least x u ≤ x)
    at (past a q) = inl a
    at (later a b q) = inr (omega (arith, q))
    at (first a b q) = inr (omega (arith, q))

module _ (slotend : ℕ) (busy : List ℕ) (u : ℕ) where
  pub come_after : (n : ℕ) → u < no_event → u < come_by slotend busy u n
  unfolding come_by
  come_after zero l = sooner_after no_event slotend u l
  come_after (suc n) l = sooner_after (come_by slotend busy u n) (get_or busy n 0) u (come_after n l)

  -- a slot under way, and the last process of a node, end by the clock or not before the next row is over
  pub come_slotend : (n : ℕ) → (slotend ≤ u) ⊎ (come_by slotend busy u n ≤ slotend)
  unfolding come_by
  come_slotend zero = sooner_or no_event slotend u
  come_slotend (suc n) = at (come_slotend n)
    where
      at : (slotend ≤ u) ⊎ (come_by slotend busy u n ≤ slotend) → (slotend ≤ u) ⊎ (sooner_by (come_by slotend busy u n) (get_or busy n 0) u ≤ slotend)
      at (inl l) = inl l
      at (inr l) = inr (let m = sooner_least (come_by slotend busy u n) (get_or busy n 0) u in omega arith)

  pub come_busy : (n k : ℕ) → k < n → (get_or busy k 0 ≤ u) ⊎ (come_by slotend busy u n ≤ get_or busy k 0)
  unfolding come_by
  come_busy zero k l = absurd (omega arith)
  come_busy (suc n) k l = at (below_suc k n l) (come_busy n k)
    where
      at : (k < n) ⊎ (k ≡ n) → (k < n → (get_or busy k 0 ≤ u) ⊎ (come_by slotend busy u n ≤ get_or busy k 0)) →
          (get_or busy k 0 ≤ u) ⊎ (sooner_by (come_by slotend busy u n) (get_or busy n 0) u ≤ get_or busy k 0)
      at (inr q) h =
          subst (λ (j : ℕ). (get_or busy j 0 ≤ u) ⊎ (sooner_by (come_by slotend busy u n) (get_or busy n 0) u ≤ get_or busy j 0)) (sym q) (sooner_or (come_by slotend busy u n) (get_or busy n 0) u)
      at (inl m) h = go (h m)
        where
          go : (get_or busy k 0 ≤ u) ⊎ (come_by slotend busy u n ≤ get_or busy k 0) → (get_or busy k 0 ≤ u) ⊎ (sooner_by (come_by slotend busy u n) (get_or busy n 0) u ≤ get_or busy k 0)
          go (inl l) = inl l
          go (inr l) = inr (let m = sooner_least (come_by slotend busy u n) (get_or busy n 0) u in omega arith)

-- the next row over is the least of all that lie after the clock
sooner_below : (least x u z : ℕ) → z ≤ least → (u < x → z ≤ x) → z ≤ sooner_by least x u
sooner_below least x u z l h = at (sooner least x u)
  where
    at : Sooner least x u → z ≤ sooner_by least x u
    at (past a q) = omega (arith, q)
    at (later a b q) = omega (arith, q)
    at (first a b q) = omega (arith, q, h a)

pub ahead : {x c u : ℕ} → (x ≤ u) ⊎ (c ≤ x) → u < x → c ≤ x
ahead (inl h) l = absurd (omega arith)
ahead (inr h) l = h

module _ (slotend : ℕ) (busy : List ℕ) (u : ℕ) where
  pub come_most : (n : ℕ) → come_by slotend busy u n ≤ no_event
  unfolding come_by
  come_most zero = sooner_least no_event slotend u
  come_most (suc n) = let l = come_most n in let m = sooner_least (come_by slotend busy u n) (get_or busy n 0) u in omega (arith, l, m)

  pub come_below : (z n : ℕ) → z ≤ no_event → (u < slotend → z ≤ slotend) → ((k : ℕ) → k < n → u < get_or busy k 0 → z ≤ get_or busy k 0) → z ≤ come_by slotend busy u n
  unfolding come_by
  come_below z zero l f h = sooner_below no_event slotend u z l f
  come_below z (suc n) l f h = sooner_below (come_by slotend busy u n) (get_or busy n 0) u z (come_below z n l f (λ k m. h k (omega arith))) (h n (omega arith))

-- and it stays so until it comes
pub come_later : (slotend : ℕ) (busy : List ℕ) (n u w : ℕ) → u ≤ w → w < come_by slotend busy u n → come_by slotend busy w n ≡ come_by slotend busy u n
come_later slotend busy n u w l h =
    let a : come_by slotend busy w n ≤ come_by slotend busy u n =
    come_below slotend busy u (come_by slotend busy w n) n (come_most slotend busy w n) (soon slotend (come_slotend slotend busy w n) (come_slotend slotend busy u n)) (λ k m. soon (get_or busy k 0) (come_busy slotend busy w n k m) (come_busy slotend busy u n k m)) in
    let b : come_by slotend busy u n ≤ come_by slotend busy w n =
    come_below slotend busy w (come_by slotend busy u n) n (come_most slotend busy u n) (λ z. ahead (come_slotend slotend busy u n) (omega arith)) (λ k m z. ahead (come_busy slotend busy u n k m) (omega arith)) in
    omega (arith, a, b)
  where
    soon : (x : ℕ) → (x ≤ w) ⊎ (come_by slotend busy w n ≤ x) → (x ≤ u) ⊎ (come_by slotend busy u n ≤ x) → u < x → come_by slotend busy w n ≤ x
    soon x (inr e) g m = e
    soon x (inl e) (inl g) m = absurd (omega arith)
    soon x (inl e) (inr g) m = absurd (omega (arith, h))

-- a slot that begins where none is under way can only make it sooner
pub come_new : (slotend slotend' : ℕ) (busy : List ℕ) (u n : ℕ) → (slotend ≤ u) ⊎ (slotend' ≡ slotend) → sooner_by (come_by slotend busy u n) slotend' u ≡ come_by slotend' busy u n
come_new slotend slotend' busy u n e =
    let s : ℕ = sooner_by (come_by slotend busy u n) slotend' u in
    let c : ℕ = come_by slotend' busy u n in
    let less : s ≤ come_by slotend busy u n = sooner_least (come_by slotend busy u n) slotend' u in
    let a : s ≤ c =
    come_below slotend' busy u s n (omega (arith, less, come_most slotend busy u n)) (ahead (sooner_or (come_by slotend busy u n) slotend' u)) (λ k m z. let y = ahead (come_busy slotend busy u n k m) z in omega (arith, less, y)) in
    let b : c ≤ s =
    sooner_below (come_by slotend busy u n) slotend' u c (come_below slotend busy u c n (come_most slotend' busy u n) (before e) (λ k m. ahead (come_busy slotend' busy u n k m))) (ahead (come_slotend slotend' busy u n)) in
    omega (arith, a, b)
  where
    before : (slotend ≤ u) ⊎ (slotend' ≡ slotend) → u < slotend → come_by slotend' busy u n ≤ slotend
    before (inl l) m = absurd (omega arith)
    before (inr q) m = let z = ahead (come_slotend slotend' busy u n) (omega arith) in omega (arith, q, z)

module _ (pending : ℕ → Bool) (round : ℕ) (offset : List ℕ) (u : ℕ) where
  abbrev slot : ℕ → ℕ
  slot n = next_slot round offset n u

  data Nearer (n least : ℕ) : Type 0 where
    stays : least ≤ slot n → nearer_by pending round offset u n least ≡ least → Nearer n least
    moves : slot n < least → pending n ≡ true → nearer_by pending round offset u n least ≡ slot n → Nearer n least
    none : slot n < least → pending n ≡ false → nearer_by pending round offset u n least ≡ least → Nearer n least

  nearer : (n least : ℕ) → Nearer n least
  unfolding nearer_by
  nearer n least = at (leb least (slot n)) (pending n) refl refl
    where
      at : (a b : Bool) → leb least (slot n) ≡ a → pending n ≡ b → Nearer n least
      at true b e f = stays (leb-true _ _ e) (rw e)
      at false true e f = moves (leb-false _ _ e) f (rw (e, f))
      at false false e f = none (leb-false _ _ e) f (rw (e, f))

  nearer_least : (n least : ℕ) → nearer_by pending round offset u n least ≤ least
  nearer_least n least = at (nearer n least)
    where
      at : Nearer n least → nearer_by pending round offset u n least ≤ least
      at (stays l q) = omega (arith, q)
      at (moves l p q) = omega (arith, q)
      at (none l p q) = omega (arith, q)

  nearer_slot : (n least : ℕ) → pending n ≡ true → nearer_by pending round offset u n least ≤ next_slot round offset n u
  nearer_slot n least e = at (nearer n least)
    where
      at : Nearer n least → nearer_by pending round offset u n least ≤ next_slot round offset n u
      at (stays l q) = omega (arith, q)
      at (moves l p q) = omega (arith, q)
      at (none l p q) = clash e p

  nearer_after : (n least : ℕ) → u < least → u < next_slot round offset n u → u < nearer_by pending round offset u n least
  nearer_after n least a b = at (nearer n least)
    where
      at : Nearer n least → u < nearer_by pending round offset u n least
      at (stays l q) = omega (arith, q)
      at (moves l p q) = omega (arith, q)
      at (none l p q) = omega (arith, q)

  module _ (come : ℕ) where
    abbrev event : ℕ → ℕ
    event n = event_by pending round offset u come n

    pub event_come : (n : ℕ) → event_by pending round offset u come n ≤ come
    unfolding event_by
    event_come zero = omega arith
    event_come (suc n) = let l = event_come n in let m = nearer_least n (event n) in omega arith

    pub event_slot : (n k : ℕ) → k < n → pending k ≡ true → event_by pending round offset u come n ≤ next_slot round offset k u
    unfolding event_by
    event_slot zero k l e = absurd (omega arith)
    event_slot (suc n) k l e = at (below_suc k n l) (λ m. event_slot n k m e)
      where
        at : (k < n) ⊎ (k ≡ n) → (k < n → event n ≤ next_slot round offset k u) → nearer_by pending round offset u n (event n) ≤ next_slot round offset k u
        at (inl m) h = let a = h m in let b = nearer_least n (event n) in omega arith
        at (inr q) h = subst (λ (j : ℕ). nearer_by pending round offset u n (event n) ≤ next_slot round offset j u) (sym q) (nearer_slot n (event n) (subst (λ (j : ℕ). pending j ≡ true) q e))

    pub event_after : (n : ℕ) → u < come → ((k : ℕ) → k < n → u < next_slot round offset k u) → u < event_by pending round offset u come n
    unfolding event_by
    event_after zero l h = l
    event_after (suc n) l h = nearer_after n (event n) (event_after n l (λ k m. h k (omega arith))) (h n (omega arith))
