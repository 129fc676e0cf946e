-- Document 02, point 1, as a theorem: see specs/PointOne.antt.
-- Assumes nothing.
use Prim.Native.Nat.{ℕ}
use mathlib.Core.Path.{◌≡◌, refl, sym, ◌∙◌}
use mathlib.Core.Bool.{true}
use mathlib.Core.List.{List, ◌++◌}
use native.Mathlib.Omega.{arith}
use Rattle.model.specs.Plan.{Lines, Pick}
use Rattle.model.specs.Bus.{slot_ticks}
use Rattle.model.specs.Planning.{planned, bound}
use Rattle.model.specs.Refusals.{Refusal, refused}
use Rattle.model.specs.Text.{headless_line, short}
use Rattle.laws.proofs.Good.{good}
use Rattle.laws.proofs.Slots.{slot_ticks_most, round_most}
use Rattle.laws.proofs.Safety.{planning_keeps}
use Rattle.laws.proofs.Heads.{takes_alike, passes_alike, shares_alike, refused_alike, head_refused}
use Rattle.laws.proofs.Bound.{bound_small}
use Rattle.text_grammar.proofs.Headless.{headless_no_form}
use Rattle.planner_table.proofs.Most.{delay_bounded}
use Rattle.demands.specs.Sentences.{Sentence, FirstOfText, exceeds, not_of_the_form, of_lines}
use Rattle.demands.specs.PointOne.{Point1}
use Rattle.demands.proofs.Firsts.{plan_first}

headless_refused : (byte : ℕ) (pick : Pick) (rest : List ℕ) → short byte ≡ true → (on : Lines → List Sentence) (x : Refusal) →
    FirstOfText (headless_line byte pick ++ rest) on x → x ≡ refused 1
headless_refused byte pick rest h on x (exceeds l) = refl
headless_refused byte pick rest h on x (not_of_the_form f) = refl
headless_refused byte pick rest h on x (of_lines p m l) = absurd (headless_no_form byte pick rest p h m)

pub point_1 : Point1
unfolding slot_ticks planned
point_1 =
    record {
      slot_lasts = λ p s. refl;
      refused_alike = λ p head l k x f. plan_first _ ∙ refused_alike p head l k ∙ sym (plan_first p) ∙ f;
      above_refused = λ p c l. plan_first p ∙ head_refused p c l;
      takes_alike = takes_alike;
      passes_alike = passes_alike;
      within_data = λ p f c count x m high. (planning_keeps p c (sym (plan_first p) ∙ f) count (bound p)).in_frame x (record { member = m; high = high });
      shares_alike = shares_alike;
      headless_refused = headless_refused;
      slot_most = λ p f. slot_ticks_most p (good p (sym (plan_first p) ∙ f));
      round_most = λ p f. round_most p (good p (sym (plan_first p) ∙ f));
      delay_most = λ p f. let h = sym (plan_first p) ∙ f in omega (arith, delay_bounded p h, bound_small p (good p h));
    }
