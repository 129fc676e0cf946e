-- What stands at a row of an array after all entries of a table: what the met entries of that row leave there one after
-- another.
-- Assumes nothing.
use Rattle.std.specs.Prelude.{if◌then◌else◌}
use mathlib.Core.Path.{◌≡◌, refl, sym, ap, ◌∙◌}
use mathlib.Core.Logic.{◌⊎◌, inl, inr}
use mathlib.Core.Bool.{Bool, true, false}
use mathlib.Core.List.Memᴰ.{head as here}
use mathlib.Core.List.Memᴰ.{tail as there}
use mathlib.Core.List.{List, [], ◌∷◌, Memᴰ as In}
use Prim.Native.Nat.{ℕ, suc, ◌<◌, ◌≤◌}
use native.Mathlib.Omega.{arith}
use lib.Dec.{eqb}
use lib.ListN.{length, get_or, set, replicate, length-set, length-replicate}
use lib.Seq.{get_or-set_same, get_or-set_other}
use borrow.Author.Tests.{eqb-true, eqb-false, ne_eqb}
use Rattle.lists.specs.Lists.{keep}
use Rattle.lists.proofs.Tests.{two}
use Rattle.lists.proofs.Fill.{zeros_at}
use Rattle.model.specs.Table.{Entry, entries_of}
use Rattle.checker_rows.specs.MetRows.{met_in, counted, after, after_all, by_row, Rowed}

-- the entries of a row
abbrev pub of_row : List Entry → ℕ → List Entry
of_row es r = keep (λ e. eqb e.row r) es

-- what some entries leave one after another, given what stood there
abbrev pub left_by : (Entry → ℕ → ℕ) → List Entry → ℕ → ℕ
left_by f [] x = x
left_by f (e ∷ es) x = left_by f es (f e x)

-- what each of some entries leaves is at most m
pub left_most : (f : Entry → ℕ → ℕ) (m : ℕ) (es : List Entry) (x : ℕ) → ((e : Entry) → In e es → (x : ℕ) → f e x ≤ m) → x ≤ m → left_by f es x ≤ m
left_most f m [] x h l = l
left_most f m (e ∷ es) x h l = left_most f m es (f e x) (λ d i. h d (there i)) (h e (here refl) x)

module _ (f : Entry → ℕ → ℕ) (c : ℕ) where
  after_length : (e : Entry) (xs : List ℕ) → length (after f c e xs) ≡ length xs
  after_length e xs = at (met_in c e)
    where
      at : (b : Bool) → length (if b then set xs e.row (f e (get_or xs e.row 0)) else xs) ≡ length xs
      at true = length-set xs e.row (f e (get_or xs e.row 0))
      at false = refl

  all_length : (es : List Entry) (xs : List ℕ) → length (after_all f c es xs) ≡ length xs
  unfolding after_all
  all_length [] xs = refl
  all_length (e ∷ es) xs = all_length es (after f c e xs) ∙ after_length e xs

  all_at : (es : List Entry) (xs : List ℕ) (r : ℕ) → ((e : Entry) → In e es → e.row < length xs) →
      get_or (after_all f c es xs) r 0 ≡ left_by f (of_row (keep (met_in c) es) r) (get_or xs r 0)
  unfolding after_all
  all_at [] xs r h = refl
  all_at (e ∷ es) xs r h = all_at es (after f c e xs) r (λ d m. rw (after_length e xs) (h d (there m))) ∙ at (met_in c e) (two (eqb e.row r)) (h e (here refl))
    where
      at : (b : Bool) → (eqb e.row r ≡ true) ⊎ (eqb e.row r ≡ false) → e.row < length xs →
          left_by f (of_row (keep (met_in c) es) r) (get_or (if b then set xs e.row (f e (get_or xs e.row 0)) else xs) r 0)
          ≡ left_by f (of_row (if b then (e ∷ keep (met_in c) es) else keep (met_in c) es) r) (get_or xs r 0)
      at false q l = refl
      at true (inl q) l =
          let s : e.row ≡ r = eqb-true _ _ q in
          let v : ℕ = f e (get_or xs e.row 0) in
          rw q
          (ap (left_by f (of_row (keep (met_in c) es) r))
          (ap (λ (j : ℕ). get_or (set xs e.row v) j 0) (sym s) ∙ get_or-set_same xs e.row v 0 l ∙ ap (λ (j : ℕ). f e (get_or xs j 0)) s))
      at true (inr q) l =
          let n : e.row ≡ r → ⊥ = eqb-false _ _ q in
          rw q (ap (left_by f (of_row (keep (met_in c) es) r)) (get_or-set_other xs e.row r (f e (get_or xs e.row 0)) 0 (λ z. n (sym z))))

  pub by_row_at : (words : List ℕ) (r : ℕ) → Rowed words → get_or (by_row f c words) r 0 ≡ left_by f (of_row (keep (met_in c) (entries_of words)) r) 0
  unfolding by_row
  by_row_at words r h =
      all_at (entries_of words) (replicate 198 0) r (λ e m. rw (length-replicate {A = ℕ} 198 0) (h e m).0)
      ∙ ap (left_by f (of_row (keep (met_in c) (entries_of words)) r)) (zeros_at 198 r)

  pub by_row_length : (words : List ℕ) → length (by_row f c words) ≡ 198
  unfolding by_row
  by_row_length words = all_length (entries_of words) (replicate 198 0) ∙ length-replicate {A = ℕ} 198 0

-- more than one met entry is counted as 2
count_many : (es : List Entry) → left_by counted es 2 ≡ 2
count_many [] = refl
count_many (e ∷ es) = count_many es

-- a count of 0, 1, or 2 for more tells whether there are as many entries as are due
pub count_tells : (es : List Entry) (d : Bool) → eqb (left_by counted es 0) (if d then 1 else 0) ≡ eqb (length es) (if d then 1 else 0)
count_tells [] d = refl
count_tells (e ∷ []) d = refl
count_tells (e ∷ f ∷ es) d = rw (count_many es) (at d)
  where
    at : (d : Bool) → eqb 2 (if d then 1 else 0) ≡ eqb (suc (suc (length es))) (if d then 1 else 0)
    at true = sym (ne_eqb (suc (suc (length es))) 1 (λ q. omega arith))
    at false = sym (ne_eqb (suc (suc (length es))) 0 (λ q. omega arith))
