-- A plan is answered by what the text reads as and what is put into the lent bytes, in both cases of the reader's
-- answer.
-- Assumes nothing.
use mathlib.Core.Path.{◌≡◌, refl, ap, ◌∙◌}
use mathlib.Core.List.{List}
use Prim.Native.Nat.{ℕ, ◌-◌, ◌/◌}
use lib.ListN.{length}
use Rattle.std.specs.Prelude.{Result}
use Rattle.model.specs.Plan.{Lines}
use Rattle.model.specs.Table.{Answer, turned_down, made, plan_answer}
use Rattle.model.specs.Text.{reads, not_read, AnswersText}
use Rattle.c_words.specs.Numbers.{answer_number}
use Rattle.c_plan.specs.Filled.{put_of, Filled}
use Rattle.c_plan.proofs.Putting.{nothing_filled}
use Rattle.c_interface.specs.Tables.{planned_of, table_number, Tables}

same_number : (a : Answer) → answer_number (put_of a) ≡ table_number a
unfolding put_of table_number
same_number (turned_down n) = refl
same_number (made r) = refl

module _ {text : List ℕ} (table frames totals : List ℕ) (answer : ℕ) where
  pub refused_tables : (n : ℕ) → AnswersText text (not_read n) → answer ≡ 18446744073709551615 - n → Tables text table frames totals table frames totals answer
  unfolding planned_of table_number
  refused_tables n told q =
      record { reading = not_read n; of_text = told; puts = record { number = q; bytes = nothing_filled n table frames totals } }

  pub read_tables : (p : Lines) (table-now frames-now totals-now : List ℕ) (r : Result ℕ ℕ) → AnswersText text (reads p) →
      r ≡ put_of (plan_answer p (length table / 4) (length frames / 4)) →
      Filled (plan_answer p (length table / 4) (length frames / 4)) table frames totals table-now frames-now totals-now → answer ≡ answer_number r →
      Tables text table frames totals table-now frames-now totals-now answer
  unfolding planned_of
  read_tables p table-now frames-now totals-now r told q f a =
      record {
        reading = reads p;
        of_text = told;
        puts = record { number = a ∙ ap answer_number q ∙ same_number (plan_answer p (length table / 4) (length frames / 4)); bytes = f };
      }
