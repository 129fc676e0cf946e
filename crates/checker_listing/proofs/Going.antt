-- The first n entries of a table: their items have their frames, and the frames that they fill, and no others, are
-- marked. After the last entry the marks tell whether all fits.
-- Assumes nothing.
use mathlib.Core.Path.{◌≡◌, sym, ap, ◌∙◌, subst}
use mathlib.Core.Logic.{◌⊎◌, inl, inr}
use mathlib.Core.List.{List}
use Prim.Native.Nat.{ℕ, ◌+◌, ◌*◌, ◌/◌, ◌%◌, ◌<◌, ◌≤◌}
use native.Mathlib.Omega.{arith}
use lib.ListN.{length, get_or, replicate, length-replicate}
use Rattle.limits.specs.Limits.{PRINTEDFRAMES}
use Rattle.lists.proofs.Tests.{below_suc}
use Rattle.lists.proofs.Fill.{zeros_at}
use Rattle.plan_index.specs.declared.PlanIndex.{PlanIndex}
use Rattle.checker_listing.specs.declared.frames.ItemFrame.{ItemFrame}
use Rattle.checker_listing.specs.FrameList.{AllMarked}
use Rattle.checker_listing.specs.Filling.{FramedIn, Fills, Marked, Item_at, item_at, Fitted}

module _ (b : PlanIndex) (table frames : List ℕ) where
  pub record Going (n : ℕ) (filled : List ℕ) : Type 0 where
    pub long : length filled ≡ PRINTEDFRAMES
    pub framed : (i : ℕ) → i < n → Item_at b table i → FramedIn frames (item_at b table i)
    pub marked : (i : ℕ) → i < n → Item_at b table i → (k : ℕ) → 3 * k < length frames → Fills frames k (item_at b table i) → get_or filled k 0 ≡ 1
    pub only : (k : ℕ) → get_or filled k 0 ≡ 1 → (i : ℕ) × (i < n) × Item_at b table i × Fills frames k (item_at b table i)

  pub going_start : {filled : List ℕ} → filled ≡ replicate PRINTEDFRAMES 0 → Going 0 filled
  going_start q =
      record {
        long = ap length q ∙ length-replicate {A = ℕ} PRINTEDFRAMES 0;
        framed = λ i l. absurd (omega arith);
        marked = λ i l. absurd (omega arith);
        only = λ k e. absurd (let z = zeros_at PRINTEDFRAMES k in let w = ap (λ (xs : List ℕ). get_or xs k 0) q in omega (arith, z, w, e));
      }

  -- what holds of the first n entries and of the next
  next : (P : ℕ → Type 0) (n : ℕ) → ((i : ℕ) → i < n → P i) → P n → (i : ℕ) → i < n + 1 → P i
  next P n f x i l = at (below_suc i n (omega arith))
    where
      at : (i < n) ⊎ (i ≡ n) → P i
      at (inl u) = f i u
      at (inr q) = subst P (sym q) x

  -- the next entry is a process's
  pub going_process : (n : ℕ) {filled : List ℕ} → get_or table (5 * n) 0 < b.processes → Going n filled → Going (n + 1) filled
  going_process n {filled} low g =
      record {
        long = g.long;
        framed = next (λ i. Item_at b table i → FramedIn frames (item_at b table i)) n g.framed (λ h. absurd (omega (arith, low, h.high)));
        marked = next (λ i. Item_at b table i → (k : ℕ) → 3 * k < length frames → Fills frames k (item_at b table i) → get_or filled k 0 ≡ 1) n g.marked
            (λ h k l f. absurd (omega (arith, low, h.high)));
        only = λ k e. let r = g.only k e in let l = r.1 in (r.0, omega arith, r.2, r.3);
      }

  -- it is an item's
  pub going_item : (n : ℕ) {f : ItemFrame} {old new : List ℕ} → f ≡ item_at b table n → Item_at b table n → FramedIn frames f → Marked frames f old new → Going n old → Going (n + 1) new
  going_item n {f} {old} {new} q a h m g =
      record {
        long = m.long ∙ g.long;
        framed = next (λ i. Item_at b table i → FramedIn frames (item_at b table i)) n g.framed (λ a. subst (FramedIn frames) q h);
        marked = next (λ i. Item_at b table i → (k : ℕ) → 3 * k < length frames → Fills frames k (item_at b table i) → get_or new k 0 ≡ 1) n
            (λ i l a k u e. m.keeps k (g.marked i l a k u e))
            (λ a k u e. m.marks k u (subst (Fills frames k) (sym q) e));
        only = λ k e. from k (m.only k e);
      }
    where
      from : (k : ℕ) → (get_or old k 0 ≡ 1) ⊎ Fills frames k f → (i : ℕ) × (i < n + 1) × Item_at b table i × Fills frames k (item_at b table i)
      from k (inl e) = let r = g.only k e in let l = r.1 in (r.0, omega arith, r.2, r.3)
      from k (inr e) = (n, omega arith, a, subst (Fills frames k) q e)

  -- after the last entry
  module _ (n : ℕ) (filled : List ℕ) (all : length table ≤ 5 * n) (g : Going n filled) where
    pub going_fits : length frames % 3 ≡ 0 → AllMarked filled (length frames / 3) → Fitted b table frames
    going_fits threes h =
        record {
          framed = λ i a. g.framed i (omega (arith, a.there)) a;
          filled = λ k l. let r = g.only k (h k (omega arith)) in (r.0, r.2, r.3);
        }

    pub fits_going : Fitted b table frames → AllMarked filled (length frames / 3)
    fits_going h k l =
        let r = h.filled k (omega arith) in
        let a : Item_at b table r.0 = r.1 in
        g.marked r.0 (omega (arith, a.there)) a k (omega arith) r.2
