-- The answer to the two parts of an input is the answer to the input.
-- Assumes nothing.
use Prim.Native.Nat.{ℕ, ◌+◌, ◌-◌, ◌≤◌}
use mathlib.Core.Path.{◌≡◌, sym, subst, ◌∙◌}
use mathlib.Core.List.{List}
use native.Mathlib.Omega.{arith}
use lib.ListN.{length, take, drop, length-drop, drop_of_length-le}
use lib.Seq.{take_all}
use Rattle.model.specs.ListingText.{plan_part, listing_part}
use Rattle.text_reader.specs.Parts.{Parted}
use Rattle.std.specs.Prelude.{Result}
use Rattle.refusals.specs.declared.Refusal.{Refusal}
use Rattle.check_program.specs.Answer.{Checks}

-- a part of a slice up to its end
to_end : (input : List ℕ) (from : ℕ) → take (length input - from) (drop from input) ≡ drop from input
to_end input from = take_all (length input - from) (drop from input) (omega (arith, length-drop from input))

module _ {input : List ℕ} {at : ℕ} (parts : Parted input at) {r : Result (Unit {0}) Refusal} where
  -- an empty line was found
  pub both_parts : Checks (take at input) (take (length input - (at + 1)) (drop (at + 1) input)) r → Checks (plan_part input) (listing_part input) r
  both_parts c =
      subst (λ (t : List ℕ). Checks t (listing_part input) r) parts.first
      (subst (λ (l : List ℕ). Checks (take at input) l r) (to_end input (at + 1) ∙ parts.second) c)

  -- there is none
  pub plan_alone : length input ≤ at → Checks input (take (length input - at) (drop at input)) r → Checks (plan_part input) (listing_part input) r
  plan_alone l c =
      let whole : input ≡ plan_part input = sym (take_all at input l) ∙ parts.first in
      let none : take (length input - at) (drop at input) ≡ listing_part input =
      to_end input at ∙ drop_of_length-le input {i = at} l ∙ sym (drop_of_length-le input {i = at + 1} (omega arith)) ∙ parts.second in
      subst (λ (t : List ℕ). Checks t (listing_part input) r) whole (subst (λ (z : List ℕ). Checks input z r) none c)
