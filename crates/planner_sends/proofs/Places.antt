-- Numbers that stand in a part of an array: parts joined, one number more, a part moved down, and those of a queue that
-- a test keeps.
-- Assumes nothing.
use mathlib.Core.Path.{◌≡◌, refl, sym, ap, ◌∙◌, subst}
use mathlib.Core.Logic.{◌⊎◌, inl, inr}
use mathlib.Core.Bool.{Bool, true, false}
use mathlib.Core.List.{List, [], ◌∷◌, ◌++◌, map, append-nil, Memᴰ as In}
use Prim.Native.Nat.{ℕ, ◌+◌, ◌-◌, ◌≤◌, ◌<◌}
use native.Mathlib.Omega.{arith}
use lib.Dec.{ltb}
use lib.ListN.{length, get_or, set, length-set}
use lib.Seq.{get_or-set_same, get_or-set_other}
use borrow.Author.Tests.{ltb-true, ltb-false}
use Rattle.lists.specs.Lists.{keep, upfrom}
use Rattle.lists.proofs.Tests.{two}
use Rattle.lists.proofs.Keep.{map_upfrom, map_append, keep_append}
use Rattle.lists.proofs.Parts.{upfrom_append}
use Rattle.log_queries.specs.Reading.{part}
use Rattle.log_queries.proofs.ArrayParts.{part_end, part_next, in_part}
use Rattle.planner_sends.specs.Packing.{Listed}

pub part_same : (xs ys : List ℕ) (a b : ℕ) → ((i : ℕ) → a ≤ i → i < b → get_or xs i 0 ≡ get_or ys i 0) → part xs a b ≡ part ys a b
unfolding part
part_same xs ys a b h = map_upfrom (λ i. get_or xs i 0) (λ i. get_or ys i 0) a (b - a) (λ i l m. h i l (omega arith))

pub part_join : (xs : List ℕ) (a k r : ℕ) → a ≤ k → k ≤ r → part xs a r ≡ part xs a k ++ part xs k r
unfolding part
part_join xs a k r l m =
    let p : r - a ≡ (k - a) + (r - k) = omega arith in
    let q : a + (k - a) ≡ k = omega arith in
    ap (λ (n : ℕ). map (λ i. get_or xs i 0) (upfrom a n)) p
    ∙ ap (map (λ i. get_or xs i 0)) (upfrom_append a (k - a) (r - k))
    ∙ map_append (λ i. get_or xs i 0) (upfrom a (k - a)) (upfrom (a + (k - a)) (r - k))
    ∙ ap (λ (n : ℕ). map (λ i. get_or xs i 0) (upfrom a (k - a)) ++ map (λ i. get_or xs i 0) (upfrom n (r - k))) q

pub part_last : (xs : List ℕ) (a k : ℕ) → a ≤ k → part xs a (k + 1) ≡ part xs a k ++ (get_or xs k 0 ∷ [])
part_last xs a k l =
    part_join xs a k (k + 1) l (omega arith) ∙ ap (λ (ys : List ℕ). part xs a k ++ ys) (part_next xs k (k + 1) (omega arith) ∙ ap (λ (ys : List ℕ). get_or xs k 0 ∷ ys) (part_end xs (k + 1) (k + 1) (omega arith)))

-- one number more
pub listed_more : (before after : List ℕ) (a k : ℕ) (numbers : List ℕ) (x : ℕ) → k < length before → Listed before after a k numbers → Listed before (set after k x) a (k + 1) (numbers ++ (x ∷ []))
listed_more before after a k numbers x l h =
    let m : k < length after = omega (arith, h.long) in
    record {
      from = omega (arith, h.from);
      holds =
          part_last (set after k x) a k h.from
          ∙ (λ j. (part_same (set after k x) after a k (λ i lo hi. get_or-set_other after k i x 0 (λ q. omega arith)) ∙ h.holds) j ++ (get_or-set_same after k x 0 m j ∷ []));
      under = λ i lo. get_or-set_other after k i x 0 (λ q. omega (arith, h.from)) ∙ h.under i lo;
      past = λ i hi. get_or-set_other after k i x 0 (λ q. omega arith) ∙ h.past i (omega arith);
      long = length-set after k x ∙ h.long;
    }

pub listed_none : (before : List ℕ) (a : ℕ) → Listed before before a a []
listed_none before a =
    record { from = omega arith; holds = part_end before a a (omega arith); under = λ i l. refl; past = λ i l. refl; long = refl }

-- numbers behind those that stand there already
pub listed_join : (before middle after : List ℕ) (a k r : ℕ) (xs ys : List ℕ) → Listed before middle a k xs → Listed middle after k r ys → Listed before after a r (xs ++ ys)
listed_join before middle after a k r xs ys g h =
    record {
      from = omega (arith, g.from, h.from);
      holds = part_join after a k r g.from h.from ∙ (λ j. (part_same after middle a k (λ i lo hi. h.under i hi) ∙ g.holds) j ++ h.holds j);
      under = λ i l. h.under i (omega (arith, g.from)) ∙ g.under i l;
      past = λ i l. h.past i l ∙ g.past i (omega (arith, h.from));
      long = h.long ∙ g.long;
    }

-- the same from an equal place on
pub listed_from : {before after : List ℕ} {k r i j : ℕ} (z : ℕ) → i ≡ j → Listed before after k r (part before i z) → Listed before after k r (part before j z)
listed_from {before} {after} {k} {r} {i} {j} z q h = subst (λ (n : ℕ). Listed before after k r (part before n z)) q h

-- what bounds the numbers and the array bounds what stands there
pub listed_small : (before after : List ℕ) (a r : ℕ) (numbers : List ℕ) → Listed before after a r numbers → (bound : ℕ) → ((i : ℕ) → get_or before i 0 < bound) → ((x : ℕ) → In x numbers → x < bound) →
    (i : ℕ) → get_or after i 0 < bound
listed_small before after a r numbers h bound b n i = at (two (ltb i a)) (two (ltb i r))
  where
    at : (ltb i a ≡ true) ⊎ (ltb i a ≡ false) → (ltb i r ≡ true) ⊎ (ltb i r ≡ false) → get_or after i 0 < bound
    at (inl p) q = omega (arith, h.under i (ltb-true _ _ p), b i)
    at (inr p) (inr q) = omega (arith, h.past i (ltb-false _ _ q), b i)
    at (inr p) (inl q) = n (get_or after i 0) (subst (λ (xs : List ℕ). In (get_or after i 0) xs) h.holds (in_part after a r i (ltb-false _ _ p) (ltb-true _ _ q)))

-- a part that is moved down: so far
pub record Moving (before : List ℕ) (k j z : ℕ) (after : List ℕ) (to i : ℕ) : Type 0 where
  pub step : to ≡ k + (i - j)
  pub begun : j ≤ i
  pub upto : i ≤ z
  pub listed : Listed before after k to (part before j i)

module _ (before : List ℕ) (k j z : ℕ) (low : k ≤ j) where
  pub moving_start : j ≤ z → Moving before k j z before k j
  moving_start l = record { step = omega arith; begun = omega arith; upto = l; listed = subst (Listed before before k k) (sym (part_end before j j (omega arith))) (listed_none before k) }

  pub moving_next : (after : List ℕ) (to i : ℕ) → z ≤ length before → i < z → Moving before k j z after to i → Moving before k j z (set after to (get_or after i 0)) (to + 1) (i + 1)
  moving_next after to i l m h =
      record {
        step = omega (arith, h.step, h.begun);
        begun = omega (arith, h.begun);
        upto = omega arith;
        listed =
            subst (Listed before (set after to (get_or after i 0)) k (to + 1)) (ap (λ (x : ℕ). part before j i ++ (x ∷ [])) (h.listed.past i (omega (arith, h.step, h.begun))) ∙ sym (part_last before j i h.begun))
            (listed_more before after k to (part before j i) (get_or after i 0) (omega (arith, h.step, h.begun)) h.listed);
      }

  pub moving_end : (after : List ℕ) (to i : ℕ) → z ≤ i → Moving before k j z after to i → Listed before after k to (part before j z) × (to ≡ k + (z - j))
  moving_end after to i l h =
      let q : i ≡ z = omega (arith, h.upto) in
      (subst (λ (n : ℕ). Listed before after k to (part before j n)) q h.listed, omega (arith, h.step))

-- those of a queue that a test keeps: so far
pub record Finding (f : ℕ → Bool) (queue before : List ℕ) (a b : ℕ) (after : List ℕ) (k j : ℕ) : Type 0 where
  pub kept : k ≤ j
  pub begun : a ≤ j
  pub upto : j ≤ b
  pub listed : Listed before after a k (keep f (part queue a j))

module _ (f : ℕ → Bool) (queue before : List ℕ) (a b : ℕ) where
  pub finding_start : a ≤ b → Finding f queue before a b before a a
  finding_start l =
      record { kept = omega arith; begun = omega arith; upto = l; listed = subst (λ (xs : List ℕ). Listed before before a a (keep f xs)) (sym (part_end queue a a (omega arith))) (listed_none before a) }

  module _ (after : List ℕ) (k j : ℕ) (m : j < b) (h : Finding f queue before a b after k j) where
    next : keep f (part queue a (j + 1)) ≡ keep f (part queue a j) ++ keep f (get_or queue j 0 ∷ [])
    next = ap (keep f) (part_last queue a j h.begun) ∙ keep_append f (part queue a j) (get_or queue j 0 ∷ [])

    pub finding_yes : b ≤ length before → f (get_or queue j 0) ≡ true → Finding f queue before a b (set after k (get_or queue j 0)) (k + 1) (j + 1)
    finding_yes l e =
        record {
          kept = omega (arith, h.kept);
          begun = omega (arith, h.begun);
          upto = omega arith;
          listed =
              subst (Listed before (set after k (get_or queue j 0)) a (k + 1)) (sym (next ∙ rw e))
              (listed_more before after a k (keep f (part queue a j)) (get_or queue j 0) (omega (arith, h.kept)) h.listed);
        }

    pub finding_no : f (get_or queue j 0) ≡ false → Finding f queue before a b after k (j + 1)
    finding_no e =
        record {
          kept = omega (arith, h.kept);
          begun = omega (arith, h.begun);
          upto = omega arith;
          listed = subst (Listed before after a k) (sym (next ∙ (rw e (append-nil (keep f (part queue a j)))))) h.listed;
        }

  -- the same with equal names
  pub finding_as : (after after' : List ℕ) (k k' j : ℕ) → after' ≡ after → k' ≡ k → Finding f queue before a b after k j → Finding f queue before a b after' k' j
  finding_as after after' k k' j p q h =
      subst (λ (xs : List ℕ). Finding f queue before a b xs k' j) (sym p) (subst (λ (n : ℕ). Finding f queue before a b after n j) (sym q) h)

  pub finding_end : (after : List ℕ) (k j : ℕ) → b ≤ j → Finding f queue before a b after k j → Listed before after a k (keep f (part queue a b)) × (k ≤ b)
  finding_end after k j l h =
      let q : j ≡ b = omega (arith, h.upto) in
      (subst (λ (n : ℕ). Listed before after a k (keep f (part queue a n))) q h.listed, omega (arith, h.kept))
