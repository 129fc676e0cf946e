-- An input read byte by byte up to its first empty line: how that begins, what one byte more makes of it, and how it
-- ends.
-- Assumes nothing.
use Rattle.std.specs.Prelude.{if◌then◌else◌}
use Prim.Native.Nat.{ℕ, ◌+◌, ◌≤◌, ◌<◌}
use mathlib.Core.Path.{◌≡◌, refl, ap, sym, ◌∙◌}
use mathlib.Core.Bool.{Bool, true, false, ◌&&◌}
use mathlib.Core.List.{List, [], ◌∷◌, ◌++◌, append_assoc, append-nil}
use native.Mathlib.Numerals.{add-one}
use native.Mathlib.Omega.{arith}
use lib.Dec.{eqb}
use lib.ListN.{length, take, drop, get_or, drop_of_length-le}
use lib.Seq.{drop-cons, take-suc}
use Rattle.model.specs.ListingText.{before_empty, after_empty, plan_part, listing_part}
use Rattle.text_reader.specs.Parts.{Parted}

-- The bytes before byte i belong to the plan, and what follows is what is left of the input.
pub record Sofar (input : List ℕ) (before i : ℕ) : Type 0 where
  pub within : i ≤ length input
  pub first : plan_part input ≡ take i input ++ before_empty (eqb before 10) (drop i input)
  pub second : listing_part input ≡ after_empty (eqb before 10) (drop i input)

pub begun : (input : List ℕ) → Sofar input 10 0
unfolding plan_part listing_part
begun input = record { within = omega arith; first = refl; second = refl }

module _ {input : List ℕ} {before i : ℕ} (s : Sofar input before i) (l : i < length input) where
  abbrev b : ℕ
  b = get_or input i 0

  split : drop i input ≡ b ∷ drop (i + 1) input
  split = drop-cons input i 0 l ∙ ap (λ (k : ℕ). b ∷ drop k input) (sym (add-one i))

  pub next : (eqb b 10 && eqb before 10) ≡ false → Sofar input b (i + 1)
  unfolding before_empty after_empty
  next e =
      record {
        within = omega arith;
        first =
            s.first
            ∙ ap (λ (r : List ℕ). take i input ++ before_empty (eqb before 10) r) split
            ∙ ap (λ (x : Bool). take i input ++ (if x then [] else (b ∷ before_empty (eqb b 10) (drop (i + 1) input)))) e
            ∙ sym (append_assoc (take i input) (b ∷ []) (before_empty (eqb b 10) (drop (i + 1) input)))
            ∙ ap (λ (r : List ℕ). r ++ before_empty (eqb b 10) (drop (i + 1) input))
            (sym (take-suc input i 0 l) ∙ ap (λ (k : ℕ). take k input) (sym (add-one i)));
        second =
            s.second
            ∙ ap (λ (r : List ℕ). after_empty (eqb before 10) r) split
            ∙ ap (λ (x : Bool). if x then drop (i + 1) input else after_empty (eqb b 10) (drop (i + 1) input)) e;
      }

  pub found : (eqb b 10 && eqb before 10) ≡ true → Parted input i
  unfolding before_empty after_empty
  found e =
      record {
        within = s.within;
        first =
            sym (s.first
            ∙ ap (λ (r : List ℕ). take i input ++ before_empty (eqb before 10) r) split
            ∙ ap (λ (x : Bool). take i input ++ (if x then [] else (b ∷ before_empty (eqb b 10) (drop (i + 1) input)))) e
            ∙ append-nil (take i input));
        second =
            sym (s.second
            ∙ ap (λ (r : List ℕ). after_empty (eqb before 10) r) split
            ∙ ap (λ (x : Bool). if x then drop (i + 1) input else after_empty (eqb b 10) (drop (i + 1) input)) e);
      }

pub ended : {input : List ℕ} {before i : ℕ} → Sofar input before i → length input ≤ i → Parted input (length input)
unfolding before_empty after_empty
ended {input} {before} {i} s l =
    let none : drop i input ≡ [] = drop_of_length-le input {i = i} l in
    let end : i ≡ length input = omega (arith, s.within) in
    rw (← end) (record {
      within = s.within;
      first =
          sym (s.first
          ∙ ap (λ (r : List ℕ). take i input ++ before_empty (eqb before 10) r) none
          ∙ append-nil (take i input));
      second =
          drop_of_length-le input {i = i + 1} (omega arith)
          ∙ sym (s.second ∙ ap (λ (r : List ℕ). after_empty (eqb before 10) r) none);
    })
