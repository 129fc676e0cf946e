-- The due rows of a plan index, put together from what may run and what is unmet; and the rows made over one by one.
-- Assumes nothing.
use mathlib.Core.Path.{◌≡◌, ap, ◌∙◌}
use mathlib.Core.List.{List, ◌++◌, append-nil}
use Prim.Native.Nat.{ℕ, ◌+◌, ◌≤◌, ◌<◌}
use native.Mathlib.Omega.{arith}
use lib.ListN.{length, drop, replicate, set, length-take, length-drop, drop_of_length-le}
use borrow.Author.Fill.{fill_more}
use Rattle.model.specs.Plan.{Lines}
use Rattle.lists.specs.Cut.{cut}
use Rattle.log_rows.specs.Rows.{Rows, rows_of, with_run, with_unmet, with_comes, put_comes}
use Rattle.log_rows.proofs.Stores.{stored_comes}
use Rattle.log_queries.specs.Queries.{running}
use Rattle.plan_index.specs.declared.PlanIndex.{PlanIndex}
use Rattle.plan_layout.specs.Unmet.{unmet_in}
use Rattle.plan_layout.specs.Indexed.{Indexed}
use Rattle.checker_rows.specs.RowOrder.{RowOrder}
use Rattle.checker_rows.specs.Due.{due_in, active_by, due_of, with_active}

-- the rows of the conditions begin behind those of the edges, and are at most six
pub row_order : (p : Lines) (b : PlanIndex) → Indexed p b → RowOrder b
row_order p b h =
    record {
      edge_rows = omega (arith, h.first_condition_row, h.few_edges);
      condition_rows = omega (arith, h.first_condition_row, h.row_count, h.processes_count, h.edges_count, h.conditions_count, h.few_conditions);
    }

-- the first n rows are over at a clock
abbrev pub over_first : ℕ → ℕ → Rows → Rows
over_first clock n s = with_comes (replicate n clock ++ drop n s.comes) s

comes_long : (d : List ℕ) → 390 ≤ length d → length (rows_of d).comes ≡ 198
unfolding rows_of cut
comes_long d l = length-take 198 (drop 192 d) ∙ (let q = length-drop 192 d in omega (arith, q))

module _ (d : List ℕ) (l : 390 ≤ length d) (clock : ℕ) where
  pub over_next : (n : ℕ) (z : List ℕ) → n < 198 → rows_of z ≡ over_first clock n (rows_of d) → rows_of (set z (192 + n) clock) ≡ over_first clock (n + 1) (rows_of d)
  over_next n z u e =
      stored_comes z n clock u
      ∙ ap (put_comes n clock) e
      ∙ ap (λ (xs : List ℕ). with_comes xs (rows_of d)) (fill_more n clock (rows_of d).comes (omega (arith, u, comes_long d l)))

  pub over_all : (n : ℕ) (z : List ℕ) → n ≡ 198 → rows_of z ≡ over_first clock n (rows_of d) → rows_of z ≡ with_comes (replicate 198 clock) (rows_of d)
  over_all n z q e =
      e ∙ ap (λ (k : ℕ). over_first clock k (rows_of d)) q
      ∙ ap (λ (xs : List ℕ). with_comes xs (rows_of d))
      (ap (λ (ys : List ℕ). replicate 198 clock ++ ys) (drop_of_length-le (rows_of d).comes {i = 198} (omega (arith, comes_long d l))) ∙ append-nil (replicate 198 clock))

module _ (b : PlanIndex) (c : ℕ) (s : Rows) where
  pub active_made : {over missed run rest : Rows} → over ≡ with_comes (replicate 198 1) s → missed ≡ with_unmet (unmet_in b c) over →
      run ≡ with_run (running b missed 1) missed → rest ≡ with_comes (replicate 198 0) run → rest ≡ with_active b c s
  unfolding active_by
  active_made o m r e =
      e
      ∙ ap (with_comes (replicate 198 0))
      (r ∙ ap (λ (x : Rows). with_run (running b x 1) x) (m ∙ ap (with_unmet (unmet_in b c)) o))

  pub due_made : {rest : Rows} {due : List ℕ} → rest ≡ with_active b c s → due ≡ due_in b rest → due ≡ due_of b c
  unfolding due_of
  due_made q d = d ∙ ap (due_in b) q
