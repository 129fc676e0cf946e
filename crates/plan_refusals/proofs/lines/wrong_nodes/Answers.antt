-- `plan_refusals::wrong_nodes` meets its contract.
use mathlib.Core.Path.{◌≡◌, refl, sym, ◌∙◌}
use mathlib.Core.Bool.{◌||◌}
use lib.Dec.{leb}
use Rattle.std.proofs.Common.{rules, tests}
use Rattle.std.proofs.lemmas.Iterator.{YieldsList-from_slice}
use Rattle.std.proofs.lemmas.Iterator.Search.{any_from_yields_List}
use Rattle.lists.specs.Lists.{any}
use Rattle.model.specs.Refusals.{no_node, wrong_nodes}
use Rattle.plan.specs.Memory.{slot_of, process_of, lines}
use Rattle.plan.proofs.Taken.{any_shown}
use Rattle.plan.proofs.TestsOnLines.{slots_length}
use Rattle.plan_refusals.proofs.Joins.{first_holds, second_tells}
use Rattle.plan_refusals.proofs.lines.wrong_nodes.Goals as goal
use Rattle.plan_refusals.proofs.lines.wrong_nodes.Goals.{Joined-any, then-any, else-any}

-- what has been found of the slots, and of the processes besides
slots : (c : Joined-any) → let p = lines c.args.p.now in c.any.result ≡ any (λ s. no_node p s.node) p.slots
unfolding no_node
slots c =
    let p = c.args.p.now in
    let ss = c.slot_lines.result.now in
    any_from_yields_List (λ s. leb p.slots s.node) _ _ _ c.any.ensures.ran (YieldsList-from_slice ss cc) (λ x b q k. search (rules, tests))
    ∙ any_shown slot_of (λ s. leb p.slots s.node) ss c.slot_lines.ensures
    ∙ λ j. any (λ s. leb (sym (slots_length p) j) s.node) (lines p).slots

processes : (c : Joined-any) → let p = lines c.args.p.now in c.if-any.value ≡ (any (λ s. no_node p s.node) p.slots || any (λ q. no_node p q.node) p.processes)
unfolding no_node
processes c =
    let p = c.args.p.now in
    elim c.if-any.branch [
      | then-any w ↦ first_holds _ w.value-is w.if-any.true (slots c)
      | else-any w ↦
          let qs = w.process_lines.result.now in
          second_tells
          (w.value-is ∙ any_from_yields_List (λ q. leb p.slots q.node) _ _ _ w.any-else-any.ensures.ran (YieldsList-from_slice qs cc) (λ x b q k. search (rules, tests))
          ∙ any_shown process_of (λ q. leb p.slots q.node) qs w.process_lines.ensures
          ∙ λ j. any (λ q. leb (sym (slots_length p) j) q.node) (lines p).processes)
          w.if-any.false (slots c)
    ]

pub returns-then-any-2 : goal.returns-then-any-2
unfolding wrong_nodes
returns-then-any-2 c = first_holds _ refl c.if-any-2.true (processes (goal.at.returns-then-any-2 c).Joined-any)

pub returns-else-any-2 : goal.returns-else-any-2
unfolding wrong_nodes
returns-else-any-2 c = second_tells c.shared_node.ensures c.if-any-2.false (processes (goal.at.returns-else-any-2 c).Joined-any)
