-- How the lines of a row begin and end: which text, how long it is, and that there is room for it.
-- Assumes nothing.
use mathlib.Core.Path.{◌≡◌}
use mathlib.Core.Bool.{true, false}
use mathlib.Core.Logic.{◌⊎◌, inl, inr}
use mathlib.Core.List.{List, [], ◌++◌}
use Prim.Native.Nat.{ℕ, ◌+◌, ◌-◌, ◌≤◌, ◌<◌}
use native.Mathlib.Omega.{arith}
use borrow.Author.Tests.{lt-ltb, le-ltb, ltb-true, ltb-false}
use lib.Dec.{ltb}
use lib.ListN.{length, take, length-append}
use Rattle.lists.proofs.Tests.{two}
use Rattle.lists.proofs.Stores.{sets_taken}
use Rattle.model.specs.Text.{text, decimal}
use Rattle.text_grammar.proofs.Numbers.{decimal_length}
use Rattle.text_lines.specs.Label.{labelled}
use Rattle.text_lines.specs.Put.{Put}
use Rattle.text_lines.proofs.Puts.{put_length}
use Rattle.listing_bytes.specs.Fits.{Fits}
use Rattle.listing_entries.specs.Lines.{begin_by, begin_of, end_of}

-- what is put at the front stands there
pub put_front : {l m : List ℕ} {n : ℕ} {u : List ℕ} → Put l m 0 n u → length u ≤ length l → (n ≤ length m) × (take n m ≡ u)
put_front {l} {m} {n} {u} p h =
    let e : n ≡ length u = omega (arith, p.count) in
    (omega (arith, put_length p, e), rw (e, p.holds) (sets_taken u l h))

pub begin_length : (label : List ℕ) (number : ℕ) → length (begin_by label number) ≡ length label + length (decimal number) + 6
begin_length label number = simp length-append (omega arith)

-- how a line begins and ends has so many bytes at most, since its numbers have at most ten digits
begin_by_most : (label : List ℕ) (number : ℕ) → length label ≤ 7 → number < 10000000000 → length (begin_by label number) ≤ 32
begin_by_most label number s h = omega (arith, begin_length label number, decimal_length 9 number h)

pub start_most : (tick : ℕ) → tick < 10000000000 → length (labelled ") (at " tick ++ text "))\n") ≤ 48
start_most tick h = simp length-append (omega (arith, decimal_length 9 tick h))

pub item_most : (tick place : ℕ) → tick < 10000000000 → place < 10000000000 → length (labelled ") (at " tick ++ (labelled ") (place " place ++ text "))\n")) ≤ 48
item_most tick place h k = simp length-append (omega (arith, decimal_length 9 tick h, decimal_length 9 place k))

-- room for a text of at most so many bytes at the front of as many
pub fits_most : {l u : List ℕ} {n : ℕ} → n ≤ length l → length u ≤ n → Fits l 0 u
fits_most r h = record { within = omega (arith, r, h) }

module _ (processes edges conditions row : ℕ) where
  pub begin_start : row < processes → begin_of processes edges conditions row ≡ begin_by (text "(start ") row
  unfolding begin_of
  begin_start h = rw (lt-ltb row processes h)

  pub begin_send : processes ≤ row → row - processes < edges → begin_of processes edges conditions row ≡ begin_by (text "(send ") (row - processes)
  unfolding begin_of
  begin_send h l = rw (le-ltb row processes h, lt-ltb (row - processes) edges l)

  pub begin_tell : processes ≤ row → edges ≤ row - processes → row - processes - edges < conditions →
      begin_of processes edges conditions row ≡ begin_by (text "(tell ") (row - processes - edges)
  unfolding begin_of
  begin_tell h l o = rw (le-ltb row processes h, le-ltb (row - processes) edges l, lt-ltb (row - processes - edges) conditions o)

  pub begin_none : processes ≤ row → edges ≤ row - processes → conditions ≤ row - processes - edges → begin_of processes edges conditions row ≡ []
  unfolding begin_of
  begin_none h l o = rw (le-ltb row processes h, le-ltb (row - processes) edges l, le-ltb (row - processes - edges) conditions o)

  pub begin_most : row < 10000000000 → length (begin_of processes edges conditions row) ≤ 32
  begin_most h = at (two (ltb row processes)) (two (ltb (row - processes) edges)) (two (ltb (row - processes - edges) conditions))
    where
      at : (ltb row processes ≡ true) ⊎ (ltb row processes ≡ false) → (ltb (row - processes) edges ≡ true) ⊎ (ltb (row - processes) edges ≡ false) →
          (ltb (row - processes - edges) conditions ≡ true) ⊎ (ltb (row - processes - edges) conditions ≡ false) → length (begin_of processes edges conditions row) ≤ 32
      at (inl a) b c = rw (begin_start (ltb-true row processes a)) (begin_by_most (text "(start ") row (omega arith) h)
      at (inr a) (inl b) c = rw (begin_send (ltb-false row processes a) (ltb-true (row - processes) edges b)) (begin_by_most (text "(send ") (row - processes) (omega arith) (omega arith))
      at (inr a) (inr b) (inl c) =
          rw (begin_tell (ltb-false row processes a) (ltb-false (row - processes) edges b) (ltb-true (row - processes - edges) conditions c))
          (begin_by_most (text "(tell ") (row - processes - edges) (omega arith) (omega arith))
      at (inr a) (inr b) (inr c) =
          rw (begin_none (ltb-false row processes a) (ltb-false (row - processes) edges b) (ltb-false (row - processes - edges) conditions c)) (omega arith)

module _ (processes row tick place : ℕ) where
  pub end_start : row < processes → end_of processes row tick place ≡ labelled ") (at " tick ++ text "))\n"
  unfolding end_of
  end_start h = rw (lt-ltb row processes h)

  pub end_item : processes ≤ row → end_of processes row tick place ≡ labelled ") (at " tick ++ (labelled ") (place " place ++ text "))\n")
  unfolding end_of
  end_item h = rw (le-ltb row processes h)

  pub end_most : tick < 10000000000 → place < 10000000000 → length (end_of processes row tick place) ≤ 48
  end_most h k = at (two (ltb row processes))
    where
      at : (ltb row processes ≡ true) ⊎ (ltb row processes ≡ false) → length (end_of processes row tick place) ≤ 48
      at (inl a) = rw (end_start (ltb-true row processes a)) (start_most tick h)
      at (inr a) = rw (end_item (ltb-false row processes a)) (item_most tick place h k)
