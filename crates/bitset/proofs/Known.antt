-- The words of a table entry's column are masks: that of the conditions known, and its bits of the combination's
-- number.
-- Assumes nothing.
use Rattle.std.specs.Prelude.{if◌then◌else◌}
use mathlib.Core.Path.{◌≡◌, refl, sym, ap, ap₂, ◌∙◌}
use mathlib.Core.Bool.{Bool, true, false}
use mathlib.Core.List.{List, ◌∷◌, map}
use Prim.Native.Nat.{ℕ, zero, suc, ◌+◌, ◌*◌, ◌%◌, min}
use native.Mathlib.Omega.{arith}
use lib.Bits.{bit_and, and_step}
use lib.ListN.{length, get_or}
use Rattle.lists.specs.Lists.{upfrom}
use Rattle.model.specs.Plan.{Lines}
use Rattle.model.specs.Activity.{Heard, unheard, heard}
use Rattle.model.specs.Bus.{condition_row}
use Rattle.model.specs.Log.{known}
use Rattle.model.specs.Table.{known_bits, value_bits}
use Rattle.bitset.specs.Masks.{under, mask_from, number_of}
use Rattle.bitset.proofs.Built.{under_low, under_rest}

-- what two masks share, bit by bit
under_both : (b d : Bool) (m n : ℕ) → bit_and (under b m) (under d n) ≡ min (if b then 1 else 0) (if d then 1 else 0) + 2 * bit_and m n
under_both b d m n =
    and_step (under b m) (under d n)
    ∙ ap₂ (λ (x y : ℕ). bit_and x y * 2 + min (under b m % 2) (under d n % 2)) (under_rest b m) (under_rest d n)
    ∙ ap₂ (λ (x y : ℕ). bit_and m n * 2 + min x y) (under_low b m) (under_low d n)
    ∙ omega arith

module _ (f g : ℕ → Bool) where
  -- what is known of condition k where f says whether it is known, and g has its value
  abbrev told : ℕ → Heard
  told k = if f k then heard (g k) else unheard

  known_mask : (a n : ℕ) → known_bits (map told (upfrom a n)) ≡ mask_from f a n
  known_mask a zero = refl
  known_mask a (suc n) = at (f a) ∙ ap (under (f a)) (known_mask (suc a) n)
    where
      at : (b : Bool) → known_bits ((if b then heard (g a) else unheard) ∷ map told (upfrom (suc a) n)) ≡ under b (known_bits (map told (upfrom (suc a) n)))
      at true = refl
      at false = omega arith

  value_mask : (a n : ℕ) → value_bits (map told (upfrom a n)) ≡ bit_and (mask_from f a n) (mask_from g a n)
  value_mask a zero = refl
  value_mask a (suc n) =
      at (f a) (g a) ∙ ap (λ (x : ℕ). min (if f a then 1 else 0) (if g a then 1 else 0) + 2 * x) (value_mask (suc a) n)
      ∙ sym (under_both (f a) (g a) (mask_from f (suc a) n) (mask_from g (suc a) n))
    where
      at : (b d : Bool)
          → value_bits ((if b then heard d else unheard) ∷ map told (upfrom (suc a) n))
          ≡ min (if b then 1 else 0) (if d then 1 else 0) + 2 * value_bits (map told (upfrom (suc a) n))
      at true true = refl
      at true false = refl
      at false true = omega arith
      at false false = omega arith

module _ (p : Lines) (c : List Bool) (done : ℕ → Bool) where
  -- the mask of the conditions whose broadcasts have arrived
  pub known_built : known_bits (known p c done) ≡ mask_from (λ k. done (condition_row p k)) 0 (length p.conditions)
  unfolding known
  known_built = known_mask (λ k. done (condition_row p k)) (λ k. get_or c k false) 0 (length p.conditions)

  -- their values: that mask and the combination's number
  pub values_built : value_bits (known p c done) ≡ bit_and (known_bits (known p c done)) (number_of (length p.conditions) c)
  unfolding known
  values_built =
      value_mask (λ k. done (condition_row p k)) (λ k. get_or c k false) 0 (length p.conditions)
      ∙ ap (λ (x : ℕ). bit_and x (number_of (length p.conditions) c)) (sym known_built)
