-- `planner_sends::sending_node` meets its contract: where no slot is due there is no node, and elsewhere it is
-- looked up.
use mathlib.Core.Path.{◌≡◌, sym, ◌∙◌}
use mathlib.Core.Bool.{false}
use mathlib.Core.List.{List}
use Prim.Native.Nat.{ℕ, ◌≤◌}
use native.Mathlib.Omega.{arith}
use lib.Dec.{eqb}
use lib.ListN.{get_or}
use Rattle.lists.specs.Lists.{any, below}
use Rattle.lists.proofs.Tests.{clash}
use Rattle.lists.proofs.Members.{none_in, in_below}
use Rattle.planner_nodes.specs.Nodes.{nodes_of}
use Rattle.planner_sends.specs.Clocks.{sending_node_by}
use Rattle.planner_sends.proofs.Firsts.{First, found, missing, first_below}
use Rattle.planner_sends.proofs.clocks.sending_node.Goals as goal

-- no slot is due
none : (nextsend : List ℕ) (u slots : ℕ) → slots ≤ 8 → any (λ n. eqb (get_or nextsend n 0) u) (below 8) ≡ false → slots ≡ sending_node_by nextsend u slots
unfolding sending_node_by
none nextsend u slots l h = at (first_below slots (λ n. eqb (get_or nextsend n 0) u))
  where
    at : First slots (λ n. eqb (get_or nextsend n 0) u) → slots ≡ sending_node_by nextsend u slots
    at (missing g e) = sym e
    at (found k m t e) = clash t (none_in (λ n. eqb (get_or nextsend n 0) u) h (in_below 8 k (omega arith)))

pub returns-else-any_sends-clause-first : goal.returns-else-any_sends-clause-first
returns-else-any_sends-clause-first c =
    none (nodes_of c.args.nodes.now).nextsend c.args.u c.args.slots c.requires (sym c.any_sends.ensures ∙ c.if-any_sends.false)
