-- What is found in one combination, from what the functions that it is put together of give.
-- Assumes nothing.
use mathlib.Core.Path.{◌≡◌, sym, ap, ◌∙◌}
use mathlib.Core.Bool.{true, false}
use mathlib.Core.List.{List}
use Prim.Native.Nat.{ℕ, ◌≤◌}
use native.Mathlib.Omega.{arith}
use Rattle.std.specs.Prelude.{Option, None, Some}
use Rattle.log_rows.specs.Rows.{Rows, no_rows}
use Rattle.log_queries.specs.Reading.{last_end_by}
use Rattle.plan_index.specs.declared.PlanIndex.{PlanIndex}
use Rattle.checker_rows.specs.Due.{due_of, with_active, miscounted_by}
use Rattle.checker_rows.specs.declared.met.MetRows.{MetRows}
use Rattle.checker_rows.specs.MetRows.{met_rows, with_met}
use Rattle.checker_table.specs.FirstRefusal.{first_in}
use Rattle.refusals.specs.declared.Refusal.{Refusal}
use Rattle.checker_table.specs.Finding.{Finding, first_number, Early}
use Rattle.checker_table.specs.Combinations.{rows_in, found_by}

-- the rows of a combination, made one after another
pub rows_made : (b : PlanIndex) (words : List ℕ) (c : ℕ) {none active rows : Rows} → none ≡ no_rows → active ≡ with_active b c none → rows ≡ with_met words c b.span active →
    rows ≡ rows_in b words c
rows_made b words c n a r = r ∙ ap (with_met words c b.span) (a ∙ ap (with_active b c) n)

-- a refusal that is tried before 20, or none, has a number of at most 20
pub early_most : (r : Option Refusal) → Early r → first_number r ≤ 20
early_most None e = omega arith
early_most (Some r) e = omega (arith, e)

module _ (b : PlanIndex) (words : List ℕ) (c : ℕ) {m : MetRows} {due : List ℕ} (mq : m ≡ met_rows words c) (dq : due ≡ due_of b c) {n : ℕ} (nq : n ≡ b.rows) where
  same_count : miscounted_by m.count due n ≡ miscounted_by (met_rows words c).count (due_of b c) b.rows
  same_count = λ i. miscounted_by (mq i).count (dq i) (nq i)

  pub found_counted : miscounted_by m.count due n ≡ false → miscounted_by (met_rows words c).count (due_of b c) b.rows ≡ false
  found_counted e = sym same_count ∙ e

  pub found_14 : miscounted_by m.count due n ≡ true → ◌≡◌ {A = Finding} (record { first = 14; delay = 0 }) (found_by b words c)
  unfolding found_by
  found_14 e = rw (sym same_count ∙ e)

  pub found_later : miscounted_by m.count due n ≡ false → {s : Rows} {processes first delay : ℕ} → s ≡ rows_in b words c → processes ≡ b.processes →
      first ≡ first_in b s m.known → delay ≡ last_end_by s.comes processes → ◌≡◌ {A = Finding} (record { first = first; delay = delay }) (found_by b words c)
  unfolding found_by
  found_later e sq pq f d =
      rw (sym same_count ∙ e)
      (λ i. record {
        first = (f ∙ (λ j. first_in b (sq j) (mq j).known)) i;
        delay = (d ∙ (λ j. last_end_by (sq j).comes (pq j))) i;
      })
