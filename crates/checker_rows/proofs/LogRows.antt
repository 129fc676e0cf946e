-- Where arrays by row hold a log, a test over the log, or over its pairs, is a test over the rows.
-- Assumes nothing.
use Rattle.std.specs.Prelude.{if◌then◌else◌}
use mathlib.Core.Path.{◌≡◌, refl, sym, ap, ◌∙◌}
use mathlib.Core.Bool.{Bool, true, false, ◌&&◌, ◌||◌}
use mathlib.Core.List.{List, [], ◌∷◌, Memᴰ as In}
use Prim.Native.Nat.{ℕ, ◌-◌, ◌≤◌, ◌<◌}
use native.Mathlib.Omega.{arith}
use Rattle.lists.specs.Lists.{any, keep, upfrom}
use Rattle.lists.proofs.Tests.{both, join, same_test}
use Rattle.lists.proofs.Members.{any_in, in_any, any_same, in_upfrom, upfrom_in}
use Rattle.model.specs.Plan.{Lines}
use Rattle.model.specs.Log.{Placed, Log}
use Rattle.log_queries.specs.Reading.{placed_by}
use Rattle.log_queries.specs.Holding.{Held}
use Rattle.log_queries.proofs.Placing.{placed_at, row_stands, stands_row}
use Rattle.checker_rows.specs.MetArrays.{some}

-- tests over the numbers from a up to before n
pub some_in : (f : ℕ → Bool) (a n : ℕ) → some f a n ≡ true → (r : ℕ) × (a ≤ r) × (r < n) × (f r ≡ true)
some_in f a n h =
    let m = any_in f (upfrom a (n - a)) h in
    let l = upfrom_in a (n - a) m.1 in
    (m.0, l.0, omega arith, m.2)

pub in_some : (f : ℕ → Bool) (a n r : ℕ) → a ≤ r → r < n → f r ≡ true → some f a n ≡ true
in_some f a n r l u e = in_any f (in_upfrom a (n - a) r l (omega arith)) e

pub some_same : (f g : ℕ → Bool) (a n : ℕ) → ((r : ℕ) → a ≤ r → r < n → f r ≡ g r) → some f a n ≡ some g a n
some_same f g a n e = any_same f g (upfrom a (n - a)) (λ r m. let l = upfrom_in a (n - a) m in e r l.0 (omega arith))

pub and_same : (a b d : Bool) → (a ≡ true → b ≡ d) → (a && b) ≡ (a && d)
and_same true b d e = e refl
and_same false b d e = refl

pub any_keep : {A : Type 0} (q f : A → Bool) (xs : List A) → any f (keep q xs) ≡ any (λ x. q x && f x) xs
any_keep q f [] = refl
any_keep q f (x ∷ xs) = at (q x) (any_keep q f xs)
  where
    at : (b : Bool) → any f (keep q xs) ≡ any (λ x. q x && f x) xs → any f (if b then (x ∷ keep q xs) else keep q xs) ≡ ((b && f x) || any (λ x. q x && f x) xs)
    at true e = ap (λ (z : Bool). f x || z) e
    at false e = e

module _ (p : Lines) (log : Log) (comes place : List ℕ) (h : Held p log comes place) where
  -- tests over what of the log has its row from a up to before n
  module _ (list : Log) (a n : ℕ) (to : (x : Placed) → In x list → In x log × (a ≤ x.row) × (x.row < n))
      (back : (x : Placed) → In x log → a ≤ x.row → x.row < n → In x list) where
    pub any_rows : (f : Placed → Bool) → some (λ r. placed_by comes r && f (placed_at p comes place r)) a n ≡ any f list
    any_rows f =
        same_test _ _
        (λ e.
        let m = some_in _ a n e in
        let r : ℕ = m.0 in
        let b = both (placed_by comes r) _ m.3 in
        in_any f (back (placed_at p comes place r) (row_stands p log comes place h r b.0).0 m.1 m.2) b.1)
        (λ e.
        let m = any_in f list e in
        let x : Placed = m.0 in
        let t = to x m.1 in
        let s = stands_row p log comes place h x t.0 in
        in_some (λ r. placed_by comes r && f (placed_at p comes place r)) a n x.row t.1 t.2
        (join _ _ s.1 (sym (ap f s.0) ∙ m.2)))

    -- a test of two of them, the first of the lower row
    pub any_pairs : (f : Placed → Placed → Bool) → ((x y : Placed) → f x y ≡ true → x.row < y.row) →
        some (λ i. placed_by comes i && some (λ j. placed_by comes j && f (placed_at p comes place j) (placed_at p comes place i)) a i) a n ≡ any (λ x. any (f x) list) list
    any_pairs f lower =
        same_test _ _
        (λ e.
        let m = some_in _ a n e in
        let i : ℕ = m.0 in
        let b = both (placed_by comes i) _ m.3 in
        let k = some_in _ a i b.1 in
        let j : ℕ = k.0 in
        let d = both (placed_by comes j) _ k.3 in
        in_any (λ x. any (f x) list) (back (placed_at p comes place j) (row_stands p log comes place h j d.0).0 k.1 (omega (arith, k.2, m.2)))
        (in_any (f (placed_at p comes place j)) (back (placed_at p comes place i) (row_stands p log comes place h i b.0).0 m.1 m.2) d.1))
        (λ e.
        let m = any_in (λ x. any (f x) list) list e in
        let x : Placed = m.0 in
        let k = any_in (f x) list m.2 in
        let y : Placed = k.0 in
        let tx = to x m.1 in
        let ty = to y k.1 in
        let sx = stands_row p log comes place h x tx.0 in
        let sy = stands_row p log comes place h y ty.0 in
        in_some _ a n y.row ty.1 ty.2
        (join _ _ sy.1
        (in_some (λ j. placed_by comes j && f (placed_at p comes place j) (placed_at p comes place y.row)) a y.row x.row tx.1 (lower x y k.2)
        (join _ _ sx.1 ((λ i. f (sym sx.0 i) (sym sy.0 i)) ∙ k.2)))))
