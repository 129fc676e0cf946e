-- An entry that 13 lets pass, with a value word of 32 bits, may be listed.
-- Assumes nothing.
use mathlib.Core.Path.{◌≡◌}
use mathlib.Core.Bool.{true, false, not, ◌||◌}
use mathlib.Core.Logic.{◌⊎◌, inl, inr}
use Prim.Native.Nat.{ℕ, ◌^◌, ◌≤◌, ◌<◌}
use borrow.Author.Tests.{lt-ltb, eq-eqb}
use lib.Dec.{eqb, ltb}
use lib.ListN.{length}
use Rattle.lists.proofs.Tests.{two, join, is_not, or_left, or_right}
use Rattle.model.specs.Plan.{Lines}
use Rattle.model.specs.Bus.{rows, is_process}
use Rattle.model.specs.Table.{Entry, bits_within}
use Rattle.model.specs.ListingText.{listable}
use Rattle.laws.proofs.Formed.{Formed, within_small}

pub formed_listable : (p : Lines) (e : Entry) → length p.conditions ≤ 32 → e.values < 2 ^ 32 → Formed p e → listable p e ≡ true
unfolding listable
formed_listable p e few word f =
    let C : ℕ = length p.conditions in
    let w = within_small 32 C e.values e.known few f.known_in word f.values_in in
    join _ (not (is_process p e.row) || eqb e.place 0)
    (join _ (bits_within C e.values e.known)
    (join _ (ltb e.values (2 ^ C)) (join (ltb e.row (rows p)) (ltb e.known (2 ^ C)) (lt-ltb _ _ f.row_in) (lt-ltb _ _ f.known_in)) (lt-ltb _ _ w.0)) w.1)
    (at (two (is_process p e.row)))
  where
    at : (is_process p e.row ≡ true) ⊎ (is_process p e.row ≡ false) → (not (is_process p e.row) || eqb e.place 0) ≡ true
    at (inl q) = or_right (not (is_process p e.row)) (eqb e.place 0) (eq-eqb _ _ (f.no_place q))
    at (inr q) = or_left (not (is_process p e.row)) (eqb e.place 0) (is_not _ q)
