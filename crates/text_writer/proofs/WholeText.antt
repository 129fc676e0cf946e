-- The text of a plan that passes refusals 2 to 9, as the runs of lines that are put; and what the plan writer answers
-- in each case.
-- Assumes nothing.
use mathlib.Core.Path.{◌≡◌, ◌∙◌}
use mathlib.Core.Bool.{true, false}
use mathlib.Core.List.{◌++◌, append_assoc}
use Prim.Native.Nat.{ℕ}
use native.Mathlib.Omega.{arith}
use lib.Dec.{ltb}
use lib.ListN.{length}
use Rattle.lists.specs.Lists.{each}
use Rattle.lists.proofs.Tests.{is_false}
use Rattle.model.specs.Plan.{Lines}
use Rattle.model.specs.Refusals.{nothing, refused, wrong_counts, or_else, plan_refusal}
use Rattle.model.specs.Text.{slot_line, process_line, condition_line, edge_line, plan_line, print, wrote, not_written, unless_refused, fitting, write_plan}
use Rattle.text_grammar.proofs.Bounds.{print_length}
use Rattle.plan.specs.declared.Plan.{Plan}
use Rattle.plan.specs.Memory.{lines}
use Rattle.plan.proofs.TestsOnLines.{Few, few, counts_same}
use Rattle.plan.proofs.RefusalOrder.{first_stops}
use Rattle.text_lines.specs.Put.{Counts}

pub print_parts : (p : Lines) →
    print p
    ≡ plan_line p.plan ++ (each slot_line p.slots ++ (each process_line p.processes ++ (each condition_line p.conditions ++ each edge_line p.edges)))
unfolding print
print_parts p = simp append_assoc

pub counts_plan : (p : Plan) → plan_refusal (lines p) ≡ nothing →
    Counts 0 (
    plan_line (lines p).plan
    ++ (each slot_line (lines p).slots ++ (each process_line (lines p).processes ++ (each condition_line (lines p).conditions ++ each edge_line (lines p).edges)))
    )
counts_plan p h = rw print_parts at (let c : Counts 0 (print (lines p)) = record { fits = omega (arith, print_length (lines p) h) } in c)

pub few_lines : (p : Plan) → plan_refusal (lines p) ≡ nothing → Few p
few_lines p h =
    few p (counts_same p ∙ is_false (wrong_counts (lines p)) (λ e.
    let s = first_stops (lines p) e in
    let z : ◌≡◌ {A = ℕ} 0 1 = cc in
    omega arith))

module _ (p : Lines) (lent : ℕ) where
  pub is_refused : {n : ℕ} → plan_refusal p ≡ refused n → write_plan p lent ≡ not_written n
  unfolding write_plan or_else unless_refused
  is_refused h = rw h

  pub lent_less : plan_refusal p ≡ nothing → ltb lent (length (print p)) ≡ true → write_plan p lent ≡ not_written 10
  unfolding write_plan or_else unless_refused fitting
  lent_less h l = rw (h, l)

  pub lent_enough : plan_refusal p ≡ nothing → ltb lent (length (print p)) ≡ false → write_plan p lent ≡ wrote (print p)
  unfolding write_plan or_else unless_refused fitting
  lent_enough h l = rw (h, l)
