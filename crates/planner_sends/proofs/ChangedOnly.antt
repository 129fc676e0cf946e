-- Looking up the nodes for which something is new is looking up all nodes, where the others do not change.
-- Assumes nothing.
use Prim.Native.Nat.{ℕ, suc, ◌≤◌, ◌<◌}
use mathlib.Core.Path.{◌≡◌, refl, sym, ap, ◌∙◌}
use mathlib.Core.Logic.{◌⊎◌, inl, inr}
use mathlib.Core.Bool.{Bool, true, false, ◌||◌}
use mathlib.Core.List.{List, ◌∷◌, Memᴰ as In}
use native.Mathlib.Omega.{arith}
use lib.Dec.{eqb}
use lib.ListN.{get_or}
use borrow.Author.Tests.{lt-ltb, le-ltb, ne_eqb}
use Rattle.lists.specs.Lists.{below, repeated}
use Rattle.lists.proofs.Tests.{two, or_none}
use Rattle.lists.proofs.Members.{in_keep, in_below}
use Rattle.lists.proofs.Different.{keep_different, different_parts, different_upfrom}
use Rattle.model.specs.Listing.{bit}
use Rattle.bitset.specs.Masks.{nodes, steps}
use Rattle.bitset.proofs.Steps.{steps_kept}
use Rattle.planner_sends.specs.NextSends.{update_next_send, update_below, update_in}

module _ (broadcastend u : ℕ) (pending : ℕ → Bool) (busy : List ℕ) (round : ℕ) (offset : List ℕ) (slots : ℕ) where
  abbrev one : ℕ → List ℕ → List ℕ
  one = update_in broadcastend u pending busy round offset slots

  -- a number that is a node's, and one that is not
  pub in_node : (n : ℕ) (nextsend : List ℕ) → n < slots → one n nextsend ≡ update_next_send broadcastend u pending busy round offset n nextsend
  unfolding update_in
  in_node n nextsend l = rw (lt-ltb n slots l) refl

  pub in_none : (n : ℕ) (nextsend : List ℕ) → slots ≤ n → one n nextsend ≡ nextsend
  unfolding update_in
  in_none n nextsend l = rw (le-ltb n slots l) refl

  module _ (new : ℕ) (nothing_new : (n : ℕ) → n < slots → bit new n ≡ false → (broadcastend ≡ u → ⊥) × (get_or busy n 0 ≡ u → ⊥)) (nextsend : List ℕ) where
    abbrev after : ℕ → List ℕ
    after n = update_below broadcastend u pending busy round offset n nextsend

    old_node : (n : ℕ) → n < slots → bit new n ≡ false → after (suc n) ≡ after n
    unfolding update_below update_next_send
    old_node n l e = rw (or_none (ne_eqb broadcastend u (nothing_new n l e).0) (ne_eqb (get_or busy n 0) u (nothing_new n l e).1)) refl

    new_node : (n : ℕ) → n < slots → one n (after n) ≡ after (suc n)
    unfolding update_below
    new_node n l = in_node n (after n) l

    pub updates : slots ≤ 8 → steps one (nodes new) nextsend ≡ after slots
    unfolding update_below nodes
    updates l = steps_kept one (bit new) slots after new_node in_none old_node 8 l

-- a node that is not in the mask is not looked up, and each stands in it once
pub nothing_new_nodes : (broadcastend u : ℕ) (busy : List ℕ) (slots new : ℕ) → ((n : ℕ) → n < slots → bit new n ≡ false → (broadcastend ≡ u → ⊥) × (get_or busy n 0 ≡ u → ⊥)) → slots ≤ 8 →
    (i : ℕ) → i < slots → (In i (nodes new) → ⊥) → (eqb broadcastend u || eqb (get_or busy i 0) u) ≡ false
unfolding nodes
nothing_new_nodes broadcastend u busy slots new nothing_new few i l d = at (two (bit new i))
  where
    at : (bit new i ≡ true) ⊎ (bit new i ≡ false) → (eqb broadcastend u || eqb (get_or busy i 0) u) ≡ false
    at (inl e) = absurd (d (in_keep (bit new) (in_below 8 i (omega arith)) e))
    at (inr e) = let q = nothing_new i l e in or_none (ne_eqb broadcastend u q.0) (ne_eqb (get_or busy i 0) u q.1)

pub nodes_once : (left n : ℕ) (ns : List ℕ) → nodes left ≡ n ∷ ns → In n ns → ⊥
unfolding nodes
nodes_once left n ns q = (different_parts n ns (sym (ap repeated q) ∙ keep_different (bit left) (below 8) (different_upfrom 0 8))).0
