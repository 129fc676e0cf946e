-- What is found in one combination and in all, in the words of a plan's plan index and of the rows of a combination.
-- Assumes nothing.
use Rattle.std.specs.Prelude.{◌≡◌, false, List, [], ◌∷◌, map, ℕ, ◌%◌, min, length, if◌then◌else◌}
use Rattle.lists.specs.Lists.{any, below, greatest}
use Rattle.model.specs.Plan.{Lines}
use Rattle.model.specs.Refusals.{nothing, plan_refusal}
use Rattle.model.specs.Table.{entries_of}
use Rattle.model.specs.Checking.{ill_formed}
use Rattle.log_rows.specs.Rows.{Rows, no_rows}
use Rattle.plan_index.specs.declared.PlanIndex.{PlanIndex}
use Rattle.plan_layout.specs.Indexed.{Indexed}
use Rattle.checker_rows.specs.declared.met.MetRows.{MetRows}
use Rattle.checker_rows.specs.MetRows.{met_rows, with_met, Small}
use Rattle.checker_rows.specs.Due.{due_of, with_active, miscounted_by}
use Rattle.log_queries.specs.Reading.{last_end_by}
use Rattle.checker_table.specs.FirstRefusal.{first_in}
use Rattle.checker_table.specs.Finding.{Finding}

-- the rows of the combination with number c: its met entries, its active processes and its unmet `when`s
abbrev pub rows_in : PlanIndex → List ℕ → ℕ → Rows
rows_in b words c = with_met words c b.span (with_active b c no_rows)

-- what is found in the combination with number c: 14 to 19, and the delay where 14 finds nothing
unfoldable pub found_by : PlanIndex → List ℕ → ℕ → Finding
found_by b words c =
    let m : MetRows = met_rows words c in
    if miscounted_by m.count (due_of b c) b.rows
    then record { first = 14; delay = 0 }
    else record { first = first_in b (rows_in b words c) m.known; delay = last_end_by (rows_in b words c).comes b.processes }

-- the least of a number over a list, at most 20
module _ {A : Type 0} where
  abbrev pub least : (A → ℕ) → List A → ℕ
  least f [] = 20
  least f (x ∷ xs) = min (f x) (least f xs)

-- what is found in the first n combinations
unfoldable pub found_all : PlanIndex → List ℕ → ℕ → Finding
found_all b words n =
    record { first = least (λ c. (found_by b words c).first) (below n); delay = greatest (map (λ c. (found_by b words c).delay) (below n)) }

-- a plan index of some plan in which refusals 2 to 9 find nothing, and a table for it in which 12 and 13 find nothing
pub record Tabled (b : PlanIndex) (words : List ℕ) : Type 0 where
  pub plan : Lines
  pub passes : plan_refusal plan ≡ nothing
  pub indexed : Indexed plan b
  pub fives : length words % 5 ≡ 0
  pub formed : any (ill_formed plan) (entries_of words) ≡ false
  pub small : Small words
