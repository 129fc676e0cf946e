-- The table that the planner writes is sound with the delay that it gives, and stands at the front of the lent words.
-- Assumes nothing.
use mathlib.Core.Path.{◌≡◌, refl, sym, ap, ◌∙◌, subst}
use mathlib.Core.List.{List}
use Prim.Native.Nat.{ℕ}
use Rattle.std.specs.Prelude.{Ok, Err}
use Rattle.std.specs.Prelude as std
use lib.ListN.{length, take}
use Rattle.lists.proofs.Front.{front_written}
use Rattle.model.specs.Checking.{Sound}
use Rattle.model.specs.Plan.{Lines}
use Rattle.model.specs.Refusals.{Refusal, nothing, refused, or_else, plan_refusal}
use Rattle.model.specs.Table.{Answer, turned_down, made, Result, result, entry_words, answered, room_refusal, plan_answer, table_after}
use Rattle.laws.proofs.OwnTable.{own_table_sound}
use Rattle.plan.specs.declared.Plan.{Plan}
use Rattle.plan.specs.Memory.{lines}
use Rattle.planner_table.specs.declared.Made.{Made}
use Rattle.planner_table.specs.Planner.{answer_of}

abbrev is_made : Answer → Type 0
is_made (turned_down n) = ⊥
is_made (made r) = Unit {0}

-- what an answer has made, or something else
abbrev made_or : Result → Answer → Result
made_or s (turned_down n) = s
made_or s (made r) = r

-- What is made is the result of a plan in which refusals 2 to 9 find nothing.
pub made_fine : (p : Lines) (words room : ℕ) (r : Result) → plan_answer p words room ≡ made r → (plan_refusal p ≡ nothing) × (r ≡ result p)
unfolding plan_answer answered or_else
made_fine p words room r = from (plan_refusal p) refl (room_refusal (result p) words room)
  where
    from : (q : Refusal) → plan_refusal p ≡ q → (s : Refusal) → answered (or_else q s) (result p) ≡ made r → (plan_refusal p ≡ nothing) × (r ≡ result p)
    from nothing e nothing h = (e, ap (made_or r) (sym h))
    from nothing e (refused n) h = absurd (subst is_made (sym h) tt)
    from (refused n) e s h = absurd (subst is_made (sym h) tt)

-- For every plan in memory and all words lent: where the planner's answer is a result, its table is sound with its
-- delay, and the first words of what stands in the lent words afterwards are that table.
pub planned_sound : (p : Plan) (table frames : List ℕ) (r : Result) → plan_answer (lines p) (length table) (length frames) ≡ made r →
    Sound (lines p) (entry_words r.entries) r.delay
    × (take (length (entry_words r.entries)) (table_after (plan_answer (lines p) (length table) (length frames)) table) ≡ entry_words r.entries)
unfolding table_after
planned_sound p table frames r e =
    let f = made_fine (lines p) (length table) (length frames) r e in (
      subst (λ (s : Result). Sound (lines p) (entry_words s.entries) s.delay) (sym f.1) (own_table_sound (lines p) f.0),
      ap (λ (a : Answer). take (length (entry_words r.entries)) (table_after a table)) e ∙ front_written (entry_words r.entries) table,
    )

abbrev is_given : std.Result Made ℕ → Type 0
is_given (Ok m) = Unit {0}
is_given (Err n) = ⊥

abbrev given_or : Made → std.Result Made ℕ → Made
given_or d (Ok m) = m
given_or d (Err n) = d

-- The same of what `plan_table` gives back: where its answer is `Ok(m)`, the first `m.words` words of the table are
-- sound with the delay `m.delay`.
pub given_sound : (p : Plan) (table frames : List ℕ) (m : Made) → Ok m ≡ answer_of (plan_answer (lines p) (length table) (length frames)) →
    Sound (lines p) (take m.words (table_after (plan_answer (lines p) (length table) (length frames)) table)) m.delay
unfolding answer_of
given_sound p table frames m = from (plan_answer (lines p) (length table) (length frames)) refl
  where
    from : (a : Answer) → plan_answer (lines p) (length table) (length frames) ≡ a → Ok m ≡ answer_of a →
        Sound (lines p) (take m.words (table_after (plan_answer (lines p) (length table) (length frames)) table)) m.delay
    from (turned_down n) e q = absurd (subst is_given q tt)
    from (made r) e q =
        let s = planned_sound p table frames r e in
        let w : m.words ≡ length (entry_words r.entries) = ap (λ (x : std.Result Made ℕ). (given_or m x).words) q in
        let d : m.delay ≡ r.delay = ap (λ (x : std.Result Made ℕ). (given_or m x).delay) q in
        rw (w, d, s.1) s.0
