-- The combinations of a plan are the lists of as many values as it has conditions.
-- Assumes nothing.
use mathlib.Core.Path.{◌≡◌, refl, ap, ◌∙◌}
use mathlib.Core.Logic.{◌↔◌}
use mathlib.Core.Bool.{Bool, true, false}
use mathlib.Core.List.Memᴰ.{head as here}
use mathlib.Core.List.Memᴰ.{not-nil as in_none}
use mathlib.Core.List.Memᴰ.{tail as there}
use mathlib.Core.List.{List, [], ◌∷◌, Memᴰ as In}
use Prim.Native.Nat.{ℕ, zero, suc, ◌^◌, ◌≤◌}
use native.Mathlib.Nat.{pow-suc, pow-le-pow_right}
use native.Mathlib.Omega.{arith}
use lib.ListN.{length}
use Rattle.lists.proofs.Members.{each_in, in_each, none_in, any_false}
use Rattle.lists.proofs.Sums.{length_each}
use Rattle.model.specs.Plan.{Lines}
use Rattle.model.specs.Activity.{combinations_of, combinations}
use Rattle.model.specs.Checking.{in_some}
use Rattle.laws.proofs.Good.{Good}

every_list : (n : ℕ) (c : List Bool) → length c ≡ n → In c (combinations_of n)
every_list zero [] l = here refl
every_list zero (v ∷ c) l = absurd (omega arith)
every_list (suc n) [] l = absurd (omega arith)
every_list (suc n) (v ∷ c) l = in_each (λ c. (false ∷ c) ∷ (true ∷ c) ∷ []) {x = c} (every_list n c (omega arith)) (at v)
  where
    at : (v : Bool) → In (v ∷ c) ((false ∷ c) ∷ (true ∷ c) ∷ [])
    at false = here refl
    at true = there (here refl)

list_length : (n : ℕ) (c : List Bool) → In c (combinations_of n) → length c ≡ n
list_length zero c (here q) = ap length q
list_length zero c (there m) = absurd (in_none m)
list_length (suc n) c m = let r = each_in (λ c. (false ∷ c) ∷ (true ∷ c) ∷ []) (combinations_of n) m in at r.0 (list_length n r.0 r.1) r.2
  where
    at : (d : List Bool) → length d ≡ n → In c ((false ∷ d) ∷ (true ∷ d) ∷ []) → length c ≡ suc n
    at d l (here q) = ap length q ∙ ap suc l
    at d l (there (here q)) = ap length q ∙ ap suc l
    at d l (there (there k)) = absurd (in_none k)

few_lists : (n : ℕ) → length (combinations_of n) ≤ 2 ^ n
few_lists zero = omega arith
few_lists (suc n) = omega (arith, few_lists n, pow-suc 2 n, length_each (λ (c : List Bool). (false ∷ c) ∷ (true ∷ c) ∷ []) (combinations_of n) 2 (λ c m. omega arith))

module _ (p : Lines) where
  pub few_combinations : Good p → length (combinations p) ≤ 64
  few_combinations g =
      let q : 2 ^ length p.conditions ≤ 2 ^ 6 = pow-le-pow_right (omega arith) g.few_conditions in
      omega (arith, few_lists (length p.conditions))

  pub in_combinations : (c : List Bool) → length c ≡ length p.conditions → In c (combinations p)
  in_combinations c l = every_list (length p.conditions) c l

  pub combination_length : (c : List Bool) → In c (combinations p) → length c ≡ length p.conditions
  combination_length c m = list_length (length p.conditions) c m

  -- a test holds in no combination
  pub in_no : (f : List Bool → Bool) → (in_some p f ≡ false) ↔ ((c : List Bool) → length c ≡ length p.conditions → f c ≡ false)
  unfolding in_some
  in_no f = (λ h c l. none_in f h (in_combinations c l), λ h. any_false f (combinations p) (λ c m. h c (combination_length c m)))
