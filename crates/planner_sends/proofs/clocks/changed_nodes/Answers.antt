-- `planner_sends::changed_nodes` meets its contract: the bits of either of two masks are those of the nodes that
-- pass one of two tests.
use mathlib.Core.Path.{◌≡◌, sym, ap, ◌∙◌, subst}
use mathlib.Core.Bool.{Bool, ◌||◌}
use Prim.Native.Nat.{ℕ, ◌+◌, ◌<◌}
use native.Mathlib.Nat.{zero-add}
use native.Mathlib.Omega.{arith}
use lib.Bits.{bit_or}
use lib.Dec.{eqb}
use lib.ListN.{get_or}
use Rattle.model.specs.Listing.{bit}
use Rattle.bitset.specs.Masks.{mask_from}
use Rattle.bitset.proofs.Built.{built_bit, built_small, built_either}
use Rattle.planner_nodes.specs.Nodes.{nodes_of}
use Rattle.lists.proofs.Cutting.{at_field}
use Rattle.planner_sends.specs.Clocks.{new_at}
use Rattle.planner_sends.proofs.clocks.changed_nodes.Goals as goal

pub returns : goal.returns
unfolding new_at nodes_of
returns c =
    let a = c.args in
    let s = a.nodes.now in
    let f : ℕ → Bool = λ k. eqb (get_or s (24 + k) 0) a.u in
    let g : ℕ → Bool = λ k. eqb (get_or s (0 + k) 0) a.u in
    let p = c.at_clock-items.ensures in
    let q = c.at_clock-ends.ensures in
    let e : bit_or c.at_clock-items.result c.at_clock-ends.result ≡ mask_from (λ k. f k || g k) 0 8 = (λ i. bit_or (p i) (q i)) ∙ built_either f g 0 8 in (
      subst (λ (x : ℕ). x < 256) (sym e) (built_small (λ k. f k || g k) 0 8 8 (omega arith)),
      λ n l.
          ap (λ (x : ℕ). bit x n) e
          ∙ built_bit (λ k. f k || g k) 0 8 n l
          ∙ ap (λ (k : ℕ). f k || g k) (zero-add n)
          ∙ (λ i. eqb (at_field s 24 8 n l i) a.u || eqb (at_field s 0 8 n l i) a.u),
    )
