-- The processes that stand in the dispatch order of a node are processes of the plan and the node's own, so that no
-- process stands in the turns of two nodes.
-- Assumes nothing.
use mathlib.Core.Path.{◌≡◌, sym, ap, ◌∙◌, subst}
use mathlib.Core.List.{List, Memᴰ as In}
use Prim.Native.Nat.{ℕ, ◌+◌, ◌≤◌, ◌<◌}
use lib.Dec.{eqb}
use lib.ListN.{length, get_or}
use borrow.Author.Tests.{eqb-true}
use Rattle.lists.specs.Lists.{keep}
use Rattle.lists.proofs.Members.{keep_in}
use Rattle.model.specs.Plan.{Lines, unit}
use Rattle.model.specs.Planning.{dispatch_order}
use Rattle.planner_dispatch.specs.Busy.{DispatchOrders}
use Rattle.log_queries.proofs.ArrayParts.{in_part}
use Rattle.planner_dispatch.proofs.Rows.{dispatch_in}

module _ (p : Lines) (dispatchfirst dispatch : List ℕ) (o : DispatchOrders p dispatchfirst dispatch) where
  module _ (n j : ℕ) (l : n < length p.slots) (a : get_or dispatchfirst n 0 ≤ j) (b : j < get_or dispatchfirst (n + 1) 0) where
    kept : In (get_or dispatch j 0) (keep (λ i. eqb (unit p i) n) (dispatch_order p))
    kept = subst (λ (xs : List ℕ). In (get_or dispatch j 0) xs) (o n l) (in_part dispatch (get_or dispatchfirst n 0) (get_or dispatchfirst (n + 1) 0) j a b)

    pub dispatch_member : get_or dispatch j 0 < length p.processes
    dispatch_member = dispatch_in p (keep_in (λ i. eqb (unit p i) n) (dispatch_order p) kept).0

    pub dispatch_unit : unit p (get_or dispatch j 0) ≡ n
    dispatch_unit = eqb-true (unit p (get_or dispatch j 0)) n (keep_in (λ i. eqb (unit p i) n) (dispatch_order p) kept).1

  pub dispatch_own : (n m j k : ℕ) → n < length p.slots → m < length p.slots →
      get_or dispatchfirst n 0 ≤ j → j < get_or dispatchfirst (n + 1) 0 → get_or dispatchfirst m 0 ≤ k → k < get_or dispatchfirst (m + 1) 0 →
      get_or dispatch j 0 ≡ get_or dispatch k 0 → n ≡ m
  dispatch_own n m j k l r a b c d e = sym (dispatch_unit n j l a b) ∙ ap (unit p) e ∙ dispatch_unit m k r c d
