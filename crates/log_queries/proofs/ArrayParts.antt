-- A part of an array by its first number, and tests over it that are passed or failed number by number.
-- Assumes nothing.
use mathlib.Core.Path.{◌≡◌, refl, ap, ◌∙◌}
use mathlib.Core.Bool.{Bool, true, false, ◌&&◌, ◌||◌}
use mathlib.Core.List.{List, [], ◌∷◌, map, Memᴰ as In}
use Prim.Native.Nat.{ℕ, ◌+◌, ◌-◌, ◌≤◌, ◌<◌}
use native.Mathlib.Omega.{arith}
use lib.ListN.{get_or}
use Rattle.lists.specs.Lists.{any, all, upfrom}
use Rattle.lists.proofs.Tests.{and_false, and_true, or_false, or_right}
use Rattle.lists.proofs.Members.{in_upfrom, upfrom_in, in_map, map_in}
use Rattle.lists.proofs.Loops.{upfrom_next, upfrom_end}
use Rattle.log_queries.specs.Reading.{part}

pub part_end : (xs : List ℕ) (j b : ℕ) → b ≤ j → part xs j b ≡ []
unfolding part
part_end xs j b l = ap (map (λ j. get_or xs j 0)) (upfrom_end b j l)

-- one number so far (s) or later passes f, and each later passes f or g
abbrev pub settled : (ℕ → Bool) → (ℕ → Bool) → Bool → List ℕ → Bool
settled f g s ys = (s || any f ys) && all (λ e. f e || g e) ys

module _ (xs : List ℕ) (j b : ℕ) (l : j < b) where
  pub part_next : part xs j b ≡ get_or xs j 0 ∷ part xs (j + 1) b
  unfolding part
  part_next = ap (map (λ j. get_or xs j 0)) (upfrom_next b j l)

  module _ (f : ℕ → Bool) where
    pub all_pass : f (get_or xs j 0) ≡ true → all f (part xs j b) ≡ all f (part xs (j + 1) b)
    all_pass e = ap (all f) part_next ∙ rw e

    pub all_fail : f (get_or xs j 0) ≡ false → all f (part xs j b) ≡ false
    all_fail e = ap (all f) part_next ∙ rw e

    pub any_pass : f (get_or xs j 0) ≡ true → any f (part xs j b) ≡ true
    any_pass e = ap (any f) part_next ∙ rw e

    pub any_fail : f (get_or xs j 0) ≡ false → any f (part xs j b) ≡ any f (part xs (j + 1) b)
    any_fail e = ap (any f) part_next ∙ rw e

    module _ (g : ℕ → Bool) (s : Bool) where
      pub settled_yes : f (get_or xs j 0) ≡ true → settled f g s (part xs j b) ≡ settled f g true (part xs (j + 1) b)
      settled_yes e = ap (settled f g s) part_next ∙ rw (e, or_right s true refl)

      pub settled_no : f (get_or xs j 0) ≡ false → g (get_or xs j 0) ≡ true → settled f g s (part xs j b) ≡ settled f g s (part xs (j + 1) b)
      settled_no e d = ap (settled f g s) part_next ∙ rw (e, d)

      pub settled_waits : f (get_or xs j 0) ≡ false → g (get_or xs j 0) ≡ false → settled f g s (part xs j b) ≡ false
      settled_waits e d = ap (settled f g s) part_next ∙ rw (e, d, and_false)

pub settled_end : (xs : List ℕ) (j b : ℕ) (f g : ℕ → Bool) (s : Bool) → b ≤ j → settled f g s (part xs j b) ≡ s
settled_end xs j b f g s l = ap (settled f g s) (part_end xs j b l) ∙ rw (or_false s, and_true s)

-- the numbers from place a to before place b are the members of the part
pub in_part : (xs : List ℕ) (a b j : ℕ) → a ≤ j → j < b → In (get_or xs j 0) (part xs a b)
unfolding part
in_part xs a b j lo hi = in_map (λ j. get_or xs j 0) (in_upfrom a (b - a) j lo (omega arith))

pub part_in : (xs : List ℕ) (a b : ℕ) {x : ℕ} → In x (part xs a b) → (j : ℕ) × (a ≤ j) × (j < b) × (x ≡ get_or xs j 0)
unfolding part
part_in xs a b m =
    let r = map_in (λ j. get_or xs j 0) (upfrom a (b - a)) m in
    let u = upfrom_in a (b - a) r.1 in
    (r.0, u.0, omega (arith, u.0, u.1), r.2)
