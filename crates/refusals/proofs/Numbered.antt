-- An answer is known by what it is with the number in place of the refusal.
-- Assumes nothing.
use Prim.Native.Nat.{ℕ, ◌-◌}
use mathlib.Core.Path.{◌≡◌, refl, ap, sym, ◌∙◌}
use mathlib.Core.List.{List, [], ◌∷◌}
use lib.ListN.{get_or}
use Rattle.std.specs.Prelude.{Result, Ok, Err}
use Rattle.refusals.specs.declared.Refusal.{Refusal}
use Rattle.refusals.specs.declared.Refusal.TheVariants as refusal
use Rattle.refusals.specs.Numbers.{number_of, numbered}

-- the refusals in their order, and the refusal of a number from 1 to 22
abbrev all : List Refusal
all =
    refusal.PlanText ∷ refusal.Counts ∷ refusal.Sizes ∷ refusal.Nodes ∷ refusal.Deciders ∷ refusal.EdgeEnds ∷
    refusal.TwinEdges ∷ refusal.Whens ∷ refusal.LongMessage ∷ refusal.LentRoom ∷ refusal.FrameRoom ∷
    refusal.WordCount ∷ refusal.EntryForm ∷ refusal.DueRows ∷ refusal.UnknownValue ∷ refusal.EarlyStart ∷
    refusal.OffSlot ∷ refusal.Overlap ∷ refusal.SharedByte ∷ refusal.StatedDelay ∷ refusal.ListingText ∷
    refusal.ListedFrames ∷ []

abbrev refusal_at : ℕ → Refusal
refusal_at n = get_or all (n - 1) refusal.PlanText

named : (r : Refusal) → refusal_at (number_of r) ≡ r
named refusal.PlanText = refl
named refusal.Counts = refl
named refusal.Sizes = refl
named refusal.Nodes = refl
named refusal.Deciders = refl
named refusal.EdgeEnds = refl
named refusal.TwinEdges = refl
named refusal.Whens = refl
named refusal.LongMessage = refl
named refusal.LentRoom = refl
named refusal.FrameRoom = refl
named refusal.WordCount = refl
named refusal.EntryForm = refl
named refusal.DueRows = refl
named refusal.UnknownValue = refl
named refusal.EarlyStart = refl
named refusal.OffSlot = refl
named refusal.Overlap = refl
named refusal.SharedByte = refl
named refusal.StatedDelay = refl
named refusal.ListingText = refl
named refusal.ListedFrames = refl

-- numbers tell refusals apart
pub same_refusal : (r s : Refusal) → number_of r ≡ number_of s → r ≡ s
same_refusal r s e = sym (named r) ∙ ap refusal_at e ∙ named s

module _ {A : Type 0} where
  -- an answer that is no refusal
  pub is_ok : (r : Result A Refusal) (x : A) → numbered r ≡ Ok x → r ≡ Ok x
  is_ok (Ok y) x e = cc
  is_ok (Err s) x e = cc

  -- answers are told apart by their numbers
  pub same_answer : (r s : Result A Refusal) → numbered r ≡ numbered s → r ≡ s
  same_answer (Ok x) (Ok y) e = cc
  same_answer (Ok x) (Err k) e = cc
  same_answer (Err k) (Ok y) e = cc
  same_answer (Err k) (Err j) e = let n : number_of k ≡ number_of j = cc in ap Err (same_refusal k j n)
