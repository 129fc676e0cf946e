-- The marks after an item that a frame holds: the item fills that frame, or none.
-- Assumes nothing.
use mathlib.Core.Path.{◌≡◌, refl, sym, ap, ◌∙◌, subst}
use mathlib.Core.Logic.{◌⊎◌, inl, inr}
use mathlib.Core.Bool.{true, false}
use mathlib.Core.List.{List}
use Prim.Native.Nat.{ℕ, ◌+◌, ◌*◌, ◌<◌}
use lib.Dec.{eqb}
use lib.ListN.{length, get_or, set, length-set}
use lib.Seq.{get_or-set_same, get_or-set_other}
use borrow.Author.Tests.{eqb-true, eqb-false}
use Rattle.lists.proofs.Tests.{two}
use Rattle.checker_listing.specs.declared.frames.ItemFrame.{ItemFrame}
use Rattle.checker_listing.specs.FrameList.{Ascends, Before}
use Rattle.checker_listing.specs.Filling.{FramedIn, Fills, Marked}
use Rattle.checker_listing.proofs.TickTurns.{frame_found}

module _ (frames : List ℕ) (ascends : Ascends frames) (f : ItemFrame) (k : ℕ) (b : Before frames f.tick k) where
  -- the frame that holds the item, and the one that it fills, is the one found
  pub framed_at : (h : FramedIn frames f) → h.number ≡ k
  framed_at h = frame_found frames ascends f.tick k h.number b h.there h.tick

  fills_at : (n : ℕ) → 3 * n < length frames → Fills frames n f → n ≡ k
  fills_at n l h = frame_found frames ascends f.tick k n b l h.tick

  module _ (old : List ℕ) where
    -- it reaches as far as the frame
    pub marked_one : k < length old → Fills frames k f → Marked frames f old (set old k 1)
    marked_one l h =
        record {
          long = length-set old k 1;
          marks = λ n u g. ap (λ (j : ℕ). get_or (set old k 1) j 0) (fills_at n u g) ∙ get_or-set_same old k 1 0 l;
          keeps = λ n q. kept n q (two (eqb n k));
          only = λ n q. one n q (two (eqb n k));
        }
      where
        kept : (n : ℕ) → get_or old n 0 ≡ 1 → (eqb n k ≡ true) ⊎ (eqb n k ≡ false) → get_or (set old k 1) n 0 ≡ 1
        kept n q (inl e) = ap (λ (j : ℕ). get_or (set old k 1) j 0) (eqb-true n k e) ∙ get_or-set_same old k 1 0 l
        kept n q (inr e) = get_or-set_other old k n 1 0 (eqb-false n k e) ∙ q

        one : (n : ℕ) → get_or (set old k 1) n 0 ≡ 1 → (eqb n k ≡ true) ⊎ (eqb n k ≡ false) → (get_or old n 0 ≡ 1) ⊎ Fills frames n f
        one n q (inl e) = inr (subst (λ (j : ℕ). Fills frames j f) (sym (eqb-true n k e)) h)
        one n q (inr e) = inl (sym (get_or-set_other old k n 1 0 (eqb-false n k e)) ∙ q)

    -- it does not
    pub marked_none : (get_or frames (3 * k + 2) 0 ≡ f.used → ⊥) → Marked frames f old old
    marked_none d =
        record {
          long = refl;
          marks = λ n u g. absurd (d (ap (λ (j : ℕ). get_or frames (3 * j + 2) 0) (sym (fills_at n u g)) ∙ g.used));
          keeps = λ n q. q;
          only = λ n q. inl q;
        }
