-- Which text a column's condition and an entry have, by the tests that the code makes.
-- Assumes nothing.
use mathlib.Core.Path.{◌≡◌, refl, sym, ap}
use mathlib.Core.List.{List, [], ◌++◌, append-nil}
use Prim.Native.Nat.{ℕ, zero, suc, ◌+◌, ◌-◌, ◌/◌, ◌%◌, ◌^◌, ◌≤◌, ◌<◌}
use native.Mathlib.Nat.{pow-suc}
use native.Mathlib.Numerals.{add-one}
use native.Mathlib.Omega.{arith}
use borrow.Author.Tests.{lt-ltb, le-ltb, eq-eqb, ne_eqb}
use Rattle.model.specs.Text.{text}
use Rattle.text_lines.specs.Label.{labelled}
use Rattle.listing_count.specs.Parts.{value_at, values_from, start_of, item_of, entry_of}

module _ (known values k : ℕ) where
  pub value_none : known % 2 ≡ 0 → value_at known values k ≡ []
  unfolding value_at
  value_none h = rw (eq-eqb (known % 2) 0 h)

  pub value_false : (known % 2 ≡ 0 → ⊥) → values % 2 ≡ 0 → value_at known values k ≡ labelled " (false " k ++ text ")"
  unfolding value_at
  value_false h l = rw (ne_eqb (known % 2) 0 h, eq-eqb (values % 2) 0 l)

  pub value_true : (known % 2 ≡ 0 → ⊥) → (values % 2 ≡ 0 → ⊥) → value_at known values k ≡ labelled " (true " k ++ text ")"
  unfolding value_at
  value_true h l = rw (ne_eqb (known % 2) 0 h, ne_eqb (values % 2) 0 l)

-- the conditions of a column: the next one, and none where no bit is left
pub values_next : (n known values k : ℕ) → k < n →
    values_from (n - k) known values k ≡ value_at known values k ++ values_from (n - (k + 1)) (known / 2) (values / 2) (k + 1)
unfolding values_from
values_next n known values k h =
    let e : n - k ≡ suc (n - (k + 1)) = omega arith in
    rw (e, add-one k)

pub values_past : (n known values k : ℕ) → n ≤ k → values_from (n - k) known values k ≡ []
unfolding values_from
values_past n known values k h = let e : n - k ≡ 0 = omega arith in rw e

pub values_none : (n values k : ℕ) → values_from n 0 values k ≡ []
unfolding values_from value_at
values_none zero values k = refl
values_none (suc n) values k = values_none n (values / 2) (suc k)

-- halves of halves
halves : (x : ℕ) → (x / 2 / 2 ≡ x / 4) × (x / 4 / 2 ≡ x / 8) × (x / 8 / 2 ≡ x / 16) × (x / 16 / 2 ≡ x / 32)
halves x = (omega arith, omega arith, omega arith, omega arith)

-- words that have no bit past n and none past m show the same in n conditions and in m
pub values_same : (n m known values k : ℕ) → known < 2 ^ n → known < 2 ^ m → values_from n known values k ≡ values_from m known values k
unfolding values_from
values_same zero m known values k h l = let e : known ≡ 0 = omega arith in rw e (sym (values_none m values k))
values_same (suc n) zero known values k h l = let e : known ≡ 0 = omega arith in rw e (values_none (suc n) values k)
values_same (suc n) (suc m) known values k h l =
    ap (λ (s : List ℕ). value_at known values k ++ s) (values_same n m (known / 2) (values / 2) (suc k) (omega (arith, pow-suc 2 n)) (omega (arith, pow-suc 2 m)))

-- six conditions, each by its own bit
pub values_six : (known values : ℕ) →
    values_from 6 known values 0
    ≡ value_at known values 0
    ++ (value_at (known / 2) (values / 2) 1
    ++ (value_at (known / 4) (values / 4) 2
    ++ (value_at (known / 8) (values / 8) 3 ++ (value_at (known / 16) (values / 16) 4 ++ value_at (known / 32) (values / 32) 5))))
unfolding values_from
values_six known values =
    let a = halves known in
    let b = halves values in
    rw (a.0, a.1, a.2, a.3, b.0, b.1, b.2, b.3, append-nil (value_at (known / 32) (values / 32) 5))

module _ (processes edges conditions row known values tick place : ℕ) where
  pub entry_start : row < processes → entry_of processes edges conditions row known values tick place ≡ start_of conditions row known values tick
  unfolding entry_of
  entry_start h = rw (lt-ltb row processes h)

  pub entry_send : processes ≤ row → row - processes < edges →
      entry_of processes edges conditions row known values tick place ≡ item_of (text "(send ") conditions (row - processes) known values tick place
  unfolding entry_of
  entry_send h l = rw (le-ltb row processes h, lt-ltb (row - processes) edges l)

  pub entry_tell : processes ≤ row → edges ≤ row - processes → row - processes - edges < conditions →
      entry_of processes edges conditions row known values tick place ≡ item_of (text "(tell ") conditions (row - processes - edges) known values tick place
  unfolding entry_of
  entry_tell h l m = rw (le-ltb row processes h, le-ltb (row - processes) edges l, lt-ltb (row - processes - edges) conditions m)

  pub entry_none : processes ≤ row → edges ≤ row - processes → conditions ≤ row - processes - edges → entry_of processes edges conditions row known values tick place ≡ []
  unfolding entry_of
  entry_none h l m = rw (le-ltb row processes h, le-ltb (row - processes) edges l, le-ltb (row - processes - edges) conditions m)
