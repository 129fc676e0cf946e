-- A list by its places: a test over its members, and a number that stands twice, are those over the numbers below its
-- length.
-- Assumes nothing.
use mathlib.Core.Path.{◌≡◌, sym, ap, ◌∙◌}
use mathlib.Core.Bool.{Bool}
use mathlib.Core.List.{List, map}
use Prim.Native.Nat.{ℕ, ◌<◌}
use native.Mathlib.Omega.{arith}
use lib.ListN.{length, get_or, length-map}
use lib.Seq.{ext_get_or}
use Rattle.lists.specs.Lists.{any, below, repeated, earlier}
use Rattle.lists.proofs.Members.{any_same, any_of_map, below_in}
use Rattle.lists.proofs.Keep.{length_upfrom, getD_upfrom, map_upfrom, map_map}
use Rattle.lists.proofs.Marks.{repeated_earlier}

module _ {A : Type 0} (d : A) (xs : List A) (n : ℕ) (l : length xs ≡ n) where
  pub list_below : map (λ i. get_or xs i d) (below n) ≡ xs
  list_below =
      let k : length (map (λ i. get_or xs i d) (below n)) ≡ n = length-map (below n) (λ i. get_or xs i d) ∙ length_upfrom 0 n in
      ext_get_or d (map (λ i. get_or xs i d) (below n)) xs (k ∙ sym l)
      (λ i u. getD_upfrom (λ i. get_or xs i d) 0 n i d (omega (arith, k)) ∙ ap (λ (k : ℕ). get_or xs k d) (omega arith))

  pub any_places : (f : A → Bool) (g : ℕ → Bool) → ((i : ℕ) → i < n → g i ≡ f (get_or xs i d)) → any g (below n) ≡ any f xs
  any_places f g e =
      any_same g (λ i. f (get_or xs i d)) (below n) (λ i m. e i (below_in n m)) ∙ sym (any_of_map f (λ i. get_or xs i d) (below n)) ∙ ap (any f) list_below

  pub repeated_places : (f : A → ℕ) (g : ℕ → ℕ) → ((i : ℕ) → i < n → g i ≡ f (get_or xs i d)) → any (earlier g) (below n) ≡ repeated (map f xs)
  repeated_places f g e =
      sym (repeated_earlier g n)
      ∙ ap repeated (map_upfrom g (λ i. f (get_or xs i d)) 0 n (λ k u v. e k (omega arith)) ∙ sym (map_map f (λ i. get_or xs i d) (below n)) ∙ ap (map f) list_below)
