-- The lines of an array that a count names: how many they are, what stands where, a column of them as an array of
-- numbers, and lines held at the front.
-- Assumes nothing.
use mathlib.Core.Path.{◌≡◌, refl, sym, ap, ◌∙◌}
use mathlib.Core.List.{List, [], ◌∷◌, ◌++◌, map}
use Prim.Native.Nat.{ℕ, ◌≤◌, ◌<◌}
use native.Mathlib.Omega.{arith}
use lib.ListN.{length, get_or, take, drop, length-map, get_or-append, get_or-eq_default}
use lib.Seq.{take_all}
use Rattle.lists.specs.Front.{front}
use Rattle.lists.specs.Lists.{below, fill}
use Rattle.lists.proofs.Keep.{length_upfrom, getD_upfrom, map_upfrom, map_map}
use Rattle.lists.proofs.Places.{list_below}
use Rattle.lists.proofs.Fill.{fill_each}
use Rattle.plan.specs.Memory.{counted}

module _ {A B : Type 0} (f : A → B) (d : A) (n : ℕ) (xs : List A) where
  pub counted_length : length (counted f d n xs) ≡ n
  unfolding counted
  counted_length = length-map (below n) (λ i. f (get_or xs i d)) ∙ length_upfrom 0 n

  pub counted_at : (i : ℕ) (e : B) → i < n → get_or (counted f d n xs) i e ≡ f (get_or xs i d)
  unfolding counted
  counted_at i e l = getD_upfrom (λ i. f (get_or xs i d)) 0 n i e l ∙ ap (λ (k : ℕ). f (get_or xs k d)) (omega arith)

-- Lines held at the front of an array that has room for them are the lines that their number names.
pub counted_front : {A B : Type 0} (f : A → B) (d : A) (hold : B → A) → ((y : B) → f (hold y) ≡ y) → (ys : List B) (room : ℕ) (xs : List A) → length ys ≤ room →
    counted f d (length ys) (front (take room (map hold ys)) xs) ≡ ys
unfolding counted front
counted_front {A} f d hold same ys room xs l =
    let n : length (map hold ys) ≡ length ys = length-map ys hold in
    ap (λ (zs : List A). map (λ i. f (get_or (zs ++ drop (length zs) xs) i d)) (below (length ys))) (take_all room (map hold ys) (omega (arith, n)))
    ∙ map_upfrom _ (λ i. f (get_or (map hold ys) i d)) 0 (length ys) (λ k u v. ap f (get_or-append (map hold ys) (drop (length (map hold ys)) xs) d k (omega (arith, n))))
    ∙ sym (map_map f (λ i. get_or (map hold ys) i d) (below (length ys)))
    ∙ ap (map f) (list_below d (map hold ys) (length ys) n)
    ∙ map_map f hold ys
    ∙ back ys
  where
    back : (zs : List _) → map (λ y. f (hold y)) zs ≡ zs
    back [] = refl
    back (z ∷ zs) = λ i. same z i ∷ back zs i

-- One number of each line, in an array that holds 0 past the lines, is that number of the line everywhere, if the empty
-- line has 0 there.
pub in_column : {A : Type 0} (h : A → ℕ) (d : A) (xs : List A) (size : ℕ) → h d ≡ 0 → length xs ≤ size → (i : ℕ) →
    get_or (fill size (λ k. h (get_or xs k d)) (length xs)) i 0 ≡ h (get_or xs i d)
in_column h d xs size z u =
    fill_each (λ k x. x ≡ h (get_or xs k d)) size (λ k. h (get_or xs k d)) (length xs) u (λ k l. refl) (λ k l. sym (ap h (get_or-eq_default xs d l) ∙ z))
