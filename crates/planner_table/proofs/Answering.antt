-- The planner's answer: a refusal of the plan, 10 or 11 where the lent words do not suffice, or else what it made; and
-- what the lent words hold after each.
-- Assumes nothing.
use mathlib.Core.Path.{◌≡◌, sym, ap, ◌∙◌}
use mathlib.Core.List.{List}
use Prim.Native.Nat.{ℕ, ◌≤◌, ◌<◌}
use lib.ListN.{length}
use borrow.Author.Tests.{lt-ltb, le-ltb}
use Rattle.lists.specs.Front.{front}
use Rattle.model.specs.Plan.{Lines}
use Rattle.model.specs.Refusals.{nothing, refused, or_else, plan_refusal}
use Rattle.model.specs.Table.{Answer, turned_down, made, result, entry_words, frame_words, answered, room_refusal, plan_answer, table_after, frames_after, counts_after}
use Rattle.std.specs.Prelude.{Ok, Err}
use Rattle.refusals.specs.declared.Refusal.{Refusal}
use Rattle.refusals.specs.Numbers.{number_of}
use Rattle.planner_table.specs.Planner.{answer_of, Answers}

module _ (p : Lines) (words room : ℕ) where
  pub answer_refused : (n : ℕ) → plan_refusal p ≡ refused n → plan_answer p words room ≡ turned_down n
  unfolding plan_answer or_else answered
  answer_refused n e = rw e

  module _ (fine : plan_refusal p ≡ nothing) where
    pub answer_ten : words < length (entry_words (result p).entries) → plan_answer p words room ≡ turned_down 10
    unfolding plan_answer or_else answered room_refusal
    answer_ten l = rw (fine, lt-ltb words (length (entry_words (result p).entries)) l)

    module _ (enough : length (entry_words (result p).entries) ≤ words) where
      pub answer_eleven : room < length (frame_words (result p).frames) → plan_answer p words room ≡ turned_down 11
      unfolding plan_answer or_else answered room_refusal
      answer_eleven l = rw (fine, le-ltb words (length (entry_words (result p).entries)) enough, lt-ltb room (length (frame_words (result p).frames)) l)

      pub answer_made : length (frame_words (result p).frames) ≤ room → plan_answer p words room ≡ made (result p)
      unfolding plan_answer or_else answered room_refusal
      answer_made l = rw (fine, le-ltb words (length (entry_words (result p).entries)) enough, le-ltb room (length (frame_words (result p).frames)) l)

module _ (p : Lines) (table frames passed : List ℕ) where
  -- A refusal leaves the lent words as they were.
  pub refused_answers : (r : Refusal) → plan_answer p (length table) (length frames) ≡ turned_down (number_of r) → {table-now frames-now passed-now : List ℕ} →
      table-now ≡ table → frames-now ≡ frames → passed-now ≡ passed → Answers p (Err r) table frames passed table-now frames-now passed-now
  unfolding answer_of table_after frames_after counts_after
  refused_answers r e t f k =
      record {
        answer = sym (ap answer_of e);
        words = t ∙ sym (ap (λ (a : Answer). table_after a table) e);
        frame_words = f ∙ sym (ap (λ (a : Answer). frames_after a frames) e);
        counts = k ∙ sym (ap (λ (a : Answer). counts_after a passed) e);
      }

  -- Where nothing is refused the table, the frame list and the counts of the nodes stand at the front.
  pub made_answers : plan_answer p (length table) (length frames) ≡ made (result p) → {words room delay : ℕ} → words ≡ length (entry_words (result p).entries) →
      room ≡ length (frame_words (result p).frames) → delay ≡ (result p).delay → {table-now frames-now passed-now : List ℕ} →
      table-now ≡ front (entry_words (result p).entries) table → frames-now ≡ front (frame_words (result p).frames) frames → passed-now ≡ front (result p).passed passed →
      Answers p (Ok (record { words = words; framewords = room; delay = delay })) table frames passed table-now frames-now passed-now
  unfolding answer_of table_after frames_after counts_after
  made_answers e a b c t f k =
      record {
        answer = (λ i. Ok (record { words = a i; framewords = b i; delay = c i })) ∙ sym (ap answer_of e);
        words = t ∙ sym (ap (λ (a : Answer). table_after a table) e);
        frame_words = f ∙ sym (ap (λ (a : Answer). frames_after a frames) e);
        counts = k ∙ sym (ap (λ (a : Answer). counts_after a passed) e);
      }
