-- The entries that are listed from the logs of all combinations are those of the plan's table.
-- Assumes nothing.
use mathlib.Core.Path.{◌≡◌, refl, sym, ap, ◌∙◌, transport}
use mathlib.Core.List.{List, [], ◌∷◌, map}
use Prim.Native.Nat.{ℕ, ◌+◌, ◌^◌, ◌<◌}
use native.Mathlib.Omega.{arith}
use lib.ListN.{length}
use Rattle.model.specs.Plan.{Lines}
use Rattle.model.specs.Bus.{rows}
use Rattle.model.specs.Refusals.{nothing, plan_refusal}
use Rattle.plan_index.specs.declared.PlanIndex.{PlanIndex}
use Rattle.plan_layout.specs.Indexed.{Indexed}
use Rattle.table_entries.specs.Numbers.{row_numbers, numbers_of, Readable}
use Rattle.table_entries.specs.Listed.{Listed}
use Rattle.table_entries.specs.Logs.{entry_from, Logs}
use Rattle.table_entries.proofs.EntriesOfModel.{readable, row_link, words_link, words_count}
use Rattle.table_entries.proofs.Keys.{number_back}
use Rattle.table_frames.specs.Packed.{packed_entry}
use Rattle.planner_combinations.specs.declared.Totals.{Totals}
use Rattle.planner_combinations.specs.Combinations.{PlannedAll}
use Rattle.planner_table.specs.Planner.{SomeLogs, Entered}

-- the arrays that planning all combinations fills hold their logs
pub logs : (p : Lines) (b : PlanIndex) → Indexed p b → (t : Totals) (comes place since : List ℕ) → PlannedAll p b.span t comes place since → Logs p comes place since b.span
logs p b o t comes place since a = record { held = a.held; spans = o.spans; taken_over = a.taken_over }

-- the arrays can be read
pub all_readable : (b : PlanIndex) (comes place since : List ℕ) → SomeLogs b comes place since → (combinations : ℕ) → combinations ≡ 2 ^ b.conditions →
    (r c : ℕ) → r < b.rows → c < combinations → Readable comes place b.span r c
all_readable b comes place since s n q r c l h =
    let p : Lines = s.plan in
    let o : Indexed p b = s.indexed in
    let w : n ≡ 2 ^ length p.conditions = q ∙ ap (λ (k : ℕ). 2 ^ k) o.conditions_count in
    readable p s.passes comes place since b.span s.logged r c (omega (arith, o.row_count)) (omega arith)

-- an entry made from a number has that number
numbers_back : (r : ℕ) (xs : List ℕ) → map packed_entry (map (entry_from r) xs) ≡ xs
unfolding packed_entry
numbers_back r [] = refl
numbers_back r (x ∷ xs) = λ i. number_back r x i ∷ numbers_back r xs i

pub entered : (b : PlanIndex) (comes place since : List ℕ) (combinations : ℕ) → combinations ≡ 2 ^ b.conditions → (list ends : List ℕ) (count : ℕ) →
    Listed (numbers_of b comes place since combinations) list ends b.rows count →
    (p : Lines) → plan_refusal p ≡ nothing → Indexed p b → Logs p comes place since b.span → Entered p list ends count
entered b comes place since n q list ends count listed p fine o L =
    let conditionrow : b.conditionrow ≡ length p.processes + length p.edges = o.first_condition_row ∙ (λ i. o.processes_count i + o.edges_count i) in
    let k : b.conditions ≡ length p.conditions = o.conditions_count in
    let w : n ≡ 2 ^ length p.conditions = q ∙ ap (λ (k : ℕ). 2 ^ k) k in
    let x : Listed (row_numbers comes place (length p.processes + length p.edges) (length p.conditions) since b.span (2 ^ length p.conditions)) list ends (rows p) count =
    transport (λ i. Listed (row_numbers comes place (conditionrow i) (k i) since b.span (w i)) list ends (o.row_count i) count) listed in
    record {
      laid = x.laid;
      last = x.last;
      words = words_link p fine comes place since b.span L list ends count x;
      counted = words_count p fine comes place since b.span L list ends count x;
      parts = λ r l. x.parts r l ∙ sym (ap (map packed_entry) (row_link p fine comes place since b.span L r l) ∙ numbers_back r _);
    }
