-- The answer for a whole text: what its parts say of the lines that it means, and that lost lines change no answer.
-- Assumes nothing.
use Prim.Native.Nat.{ℕ, ◌≤◌, ◌<◌}
use mathlib.Core.Path.{◌≡◌, refl, ap, sym, ◌∙◌}
use mathlib.Core.Bool.{Bool, true, false}
use mathlib.Core.List.{List}
use borrow.Author.Tests.{ltb-false}
use lib.ListN.{length, drop, drop_of_length-le}
use lib.Seq.{drop-cons}
use Rattle.lists.proofs.Tests.{neither}
use Rattle.model.specs.Plan.{Lines}
use Rattle.model.specs.Refusals.{wrong_counts, plan_refusal}
use Rattle.model.specs.Text.{Reading, not_read, after_refusal, AnswersText, too_long, of_no_form, of_form}
use Rattle.laws.proofs.Good.{inside}
use Rattle.text_grammar.specs.Parse.{none, got, plan_at, lines_at, no_lines, got_lines, to_end, read_lines}
use Rattle.text_grammar.proofs.Parsed.{not_lines}
use Rattle.text_grammar.proofs.Whole.{read_means, means_read}
use Rattle.plan.specs.Memory.{line_of, slot_of, process_of, edge_of, held_slot, held_process, held_edge, no_slot, no_process, no_edge, lines, empty_plan}
use Rattle.plan.specs.declared.PlanLine.{PlanLine}
use Rattle.plan.specs.declared.Plan.{Plan}
use Rattle.plan.proofs.HeldLines.{held_process_of, held_edge_of}
use Rattle.plan.proofs.Counted.{counted_length, counted_front}
use Rattle.text_reader.specs.declared.line_runs.Filled.{Filled}
use Rattle.text_reader.specs.Run.{Run, with_line, filled}
use Rattle.text_reader.specs.Run as kinds

-- refusal 1
module _ {text : List ℕ} {r : Reading} (e : r ≡ not_read 1) where
  pub long_text : 16384 < length text → AnswersText text r
  long_text h = rw e (too_long h)

  pub no_form_text : read_lines text ≡ no_lines → AnswersText text r
  no_form_text h = rw e (of_no_form (λ p m. not_lines (sym h ∙ means_read m)))

pub no_plan_line : (text : List ℕ) → plan_at text ≡ none → read_lines text ≡ no_lines
unfolding read_lines to_end lines_at
no_plan_line text h = rw h

-- The parts of a text that begins with a plan line: its runs, read into the plan that started empty, and where they
-- end.
module _ {text : List ℕ} (line : PlanLine) {i : ℕ} {start : Plan} {s q c e : Filled}
    (first : plan_at text ≡ got (line_of line) (drop i text)) (begins : start ≡ with_line empty_plan line)
    (slots : Run kinds.slots text i start s) (processes : Run kinds.processes text s.next s.plan q)
    (conditions : Run kinds.conditions text q.next q.plan c) (edges : Run kinds.edges text c.next c.plan e) where
  abbrev said : Lines
  said =
      record {
        plan = line_of line;
        slots = slots.lines;
        processes = processes.lines;
        conditions = conditions.lines;
        edges = edges.lines;
      }

  abbrev kept : Plan
  kept =
      record {
        line = line;
        slots = length slots.lines;
        slot = filled kinds.slots slots.lines empty_plan.slot;
        processes = length processes.lines;
        process = filled kinds.processes processes.lines empty_plan.process;
        conditions = length conditions.lines;
        condition = filled kinds.conditions conditions.lines empty_plan.condition;
        edges = length edges.lines;
        edge = filled kinds.edges edges.lines empty_plan.edge;
      }

  plan_is : e.plan ≡ kept
  plan_is = rw (edges.plan, conditions.plan, processes.plan, slots.plan, begins)

  to_last : lines_at text ≡ got said (drop e.next text)
  unfolding lines_at
  to_last = rw (first, slots.read, processes.read, conditions.read, edges.read)

  pub more_follows : e.next < length text → read_lines text ≡ no_lines
  unfolding read_lines to_end
  more_follows h = rw (to_last, drop-cons text e.next 0 h)

  all_read : length text ≤ e.next → read_lines text ≡ got_lines said
  unfolding read_lines to_end
  all_read h = rw (to_last, drop_of_length-le text {i = e.next} h)

  same_counts : wrong_counts (lines kept) ≡ wrong_counts said
  unfolding wrong_counts lines
  same_counts =
      rw (
        counted_length slot_of no_slot kept.slots kept.slot,
        counted_length process_of no_process kept.processes kept.process,
        counted_length (λ i. i) 0 kept.conditions kept.condition,
        counted_length edge_of no_edge kept.edges kept.edge,
      )

  nothing_lost : wrong_counts said ≡ false → said ≡ lines kept
  unfolding wrong_counts lines
  nothing_lost h =
      let u = neither _ _ h in
      let v = neither _ _ u.0 in
      let w = neither _ _ v.0 in
      rw (
        counted_front slot_of no_slot held_slot (λ x. refl) slots.lines 8 empty_plan.slot (inside 1 8 (length slots.lines) w.0).1,
        counted_front process_of no_process held_process held_process_of processes.lines 64 empty_plan.process
            (inside 1 64 (length processes.lines) w.1).1,
        counted_front (λ i. i) 0 (λ i. i) (λ x. refl) conditions.lines 6 empty_plan.condition (ltb-false 6 (length conditions.lines) v.1),
        counted_front edge_of no_edge held_edge held_edge_of edges.lines 128 empty_plan.edge (ltb-false 128 (length edges.lines) u.1),
      )

  same_answer : after_refusal (plan_refusal said) said ≡ after_refusal (plan_refusal (lines kept)) (lines kept)
  unfolding plan_refusal after_refusal
  same_answer = at (wrong_counts said) refl
    where
      at : (b : Bool) → wrong_counts said ≡ b → after_refusal (plan_refusal said) said ≡ after_refusal (plan_refusal (lines kept)) (lines kept)
      at true h = rw (h, same_counts, h)
      at false h = ap (λ (p : Lines). after_refusal (plan_refusal p) p) (nothing_lost h)

  pub whole_text : length text ≤ e.next → length text ≤ 16384 → {r : Reading} → r ≡ after_refusal (plan_refusal (lines e.plan)) (lines e.plan) → AnswersText text r
  whole_text h short {r} f = rw (f, plan_is, ← same_answer) (of_form said (read_means (all_read h)) short)
