-- `planner_prefix::store_notes` meets its contract: what was noted and the last counts are stored in their parts.
use mathlib.Core.Path.{sym, ap, ◌∙◌}
use Prim.Native.Nat.{◌+◌, ◌*◌}
use native.Mathlib.Omega.{arith}
use lib.Seq.{sets}
use Rattle.lists.proofs.Parts.{slice_taken}
use Rattle.lists.specs.Cut.{cut}
use Rattle.planner_nodes.specs.Nodes.{nodes_of}
use Rattle.planner_prefix.proofs.stored_plans.store_notes.Goals as goal

pub returns : goal.returns
unfolding nodes_of cut
returns c =
    let a = c.args in
    let xs = a.nodes.now in
    c.copy_numbers-2.ensures
    ∙ (λ i.
    sets ((c.copy_numbers.ensures ∙ ap (sets a.notes.now (a.c * 56)) (sym (slice_taken xs 40 48 (omega arith)))) i) (a.c * 56 + 48)
    (sym (slice_taken xs 8 8 (omega arith)) i))
