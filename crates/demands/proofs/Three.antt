-- Demand 3 as a theorem over the contracts of the functions that are called: see specs/Three.antt.
-- Assumes nothing.
use Rattle.std.specs.Prelude.{Option, None, Some, Result, Ok, Err}
use Prim.Native.Nat.{ℕ, ◌*◌, ◌≤◌, ◌<◌}
use mathlib.Core.Path.{◌≡◌, refl, sym, ap, subst, ◌∙◌}
use mathlib.Core.List.{List, ◌++◌}
use native.Mathlib.Omega.{arith}
use borrow.Author.Tests.{ne_eqb, le-ltb}
use lib.Dec.{ltb}
use lib.ListN.{length, take}
use Rattle.model.specs.Plan.{Lines}
use Rattle.model.specs.Refusals.{Refusal, nothing, or_else, plan_refusal}
use Rattle.model.specs.Text.{Means, Reading, reads}
use Rattle.model.specs.Table.{entries_of}
use Rattle.model.specs.Checking.{table_refusal, check, Sound}
use Rattle.model.specs.Lookup.{Found, entry, none, refusal, unless, lookup}
use Rattle.model.specs.Firmware.{words_of, found_number, found_in}
use Rattle.model.specs.Demand.{RunsRight}
use Rattle.text_grammar.proofs.Whole.{means_unique}
use Rattle.laws.proofs.Demand.{sound_runs_right}
use Rattle.refusals.specs.Numbers.{numbered}
use Rattle.refusals.proofs.Numbered.{is_ok}
use Rattle.plan.specs.declared.Plan.{Plan}
use Rattle.plan.specs.Memory.{lines}
use Rattle.planner_table.specs.declared.Made.{Made}
use Rattle.checker_table.specs.Verdict.{answer_of}
use Rattle.checker_table.proofs.AcceptedSound.{accepted_sound}
use Rattle.agreement.proofs.Agreement.{planned_accepted}
use Rattle.kernel.specs.Finding.{found_of}
use Rattle.c_check.specs.Checks.{Checks}
use Rattle.demands.specs.Calls.{Outcome, PlanTable, CheckTable}
use Rattle.demands.specs.Kernel.{means, asked, Numbers, ByCLookup, number_means, asked_numbers}
use Rattle.demands.specs.Sentences.{Sentence, first, plan_sentences, table_sentences, FirstOfText, exceeds, not_of_the_form, of_lines}
use Rattle.demands.specs.Three.{SoundFor, Demand3}
use Rattle.demands.proofs.Firsts.{table_first, plan_then, text_some}
use Rattle.demands.proofs.Within.{twenty, Finds, finds_none, finds_one, found_within}
use Rattle.demands.proofs.OneC.{c_checking}
use Rattle.demands.proofs.Two.{none_applies, neither, reads_as}
use Rattle.demands.proofs.PlannedC.{c_planned_accepted, c_checked_once}
use Rattle.demands.proofs.Contracts.{plan_table_says, check_table_says, lookup_says, c_plan_table_says, c_check_table_says, c_lookup_says}

-- what was found, in memory and as a number
abbrev named : Result (Option ℕ) ℕ → Found
named (Ok (Some i)) = entry i
named (Ok None) = none
named (Err n) = refusal n

named_means : (r : Outcome (Option ℕ)) → named (numbered r) ≡ means r
named_means (Ok (Some i)) = refl
named_means (Ok None) = refl
named_means (Err k) = refl

named_back : (f : Found) → named (found_of f) ≡ f
named_back (entry i) = refl
named_back none = refl
named_back (refusal n) = refl

pub means_back : (r : Outcome (Option ℕ)) (f : Found) → numbered r ≡ found_of f → means r ≡ f
means_back r f e = sym (named_means r) ∙ ap named e ∙ named_back f

means_found : (f : Found) (count : ℕ) → Finds f 0 count → 20 * count < 18446744073709551616 → number_means (found_number f) ≡ f
unfolding number_means found_number
means_found f count (finds_none q) few = ap (λ (g : Found). number_means (found_number g)) q ∙ sym q
means_found f count (finds_one k q l i) few =
    ap (λ (g : Found). number_means (found_number g)) q
    ∙ (rw (ne_eqb k 18446744073709551615 (λ z. omega arith), le-ltb 18446744073709551592 k (omega arith)) (sym q))

-- in memory
module _ (p : Plan) (table : List ℕ) (delay : ℕ) where
  is_sound : CheckTable p table delay (Ok tt) → Sound (lines p) table delay
  is_sound c = (accepted_sound p table delay).0 (sym (check_table_says c))

made_accepted : (p : Plan) (table frames passed table-now frames-now passed-now : List ℕ) (m : Made) → PlanTable p table frames passed table-now frames-now passed-now (Ok m) → (r : Outcome (Unit {0})) →
    CheckTable p (take m.words table-now) m.delay r → r ≡ Ok tt
made_accepted p table frames passed table-now frames-now passed-now m c r k =
    let h = plan_table_says c in
    is_ok r tt (check_table_says k ∙ ap (λ (z : List ℕ). answer_of (check (lines p) (take m.words z) m.delay)) h.1 ∙ planned_accepted p table frames m h.0)

-- from C: the sentences on a table, for the lines that a text means
abbrev on : List ℕ → ℕ → Lines → List Sentence
on words delay p = plan_sentences p ++ table_sentences p words delay

sound_first : (p : Lines) (words : List ℕ) (delay : ℕ) → first (on words delay p) ≡ check p words delay
unfolding check
sound_first p words delay = plan_then p (table_sentences p words delay) ∙ ap (or_else (plan_refusal p)) (table_first p words delay)

sound_lines : (text words : List ℕ) (delay : ℕ) (x : Refusal) → FirstOfText text (on words delay) x → x ≡ nothing → SoundFor text words delay
sound_lines text words delay x (exceeds l) e = absurd (let z : ◌≡◌ {A = ℕ} 0 1 = cc in omega arith)
sound_lines text words delay x (not_of_the_form f) e = absurd (let z : ◌≡◌ {A = ℕ} 0 1 = cc in omega arith)
sound_lines text words delay x (of_lines p m l) e = record { plan = p; means = m; short = l; sound = sym (sound_first p words delay) ∙ e }

module _ (text table : List ℕ) (delay answer : ℕ) (c : Checks text table delay answer) where
  zero_sound : answer ≡ 0 → SoundFor text (words_of table) delay
  zero_sound e =
      let x = text_some text (on (words_of table) delay) in
      sound_lines text (words_of table) delay x.0 x.1
      (none_applies (c_checking text table delay answer c) (λ n h. (let a = h.0 in let b = h.1 in let d = h.2 in omega arith)) x.0 x.1)

  sound_zero : SoundFor text (words_of table) delay → answer ≡ 0
  sound_zero s =
      (c_checking text table delay answer c).otherwise
      (subst (FirstOfText text (on (words_of table) delay)) (sound_first s.plan (words_of table) delay ∙ s.sound) (of_lines s.plan s.means s.short))

-- a run of a sound table with the numbers of the lookup from C
bytes_run : (text table : List ℕ) (delay : ℕ) (p : Lines) → Means text p → length text ≤ 16384 → length table < 18446744073709551616 → Sound p (words_of table) delay →
    (answers : Numbers) → ByCLookup text table p answers → RunsRight p (words_of table) delay (asked_numbers answers)
unfolding check found_in lookup unless
bytes_run text table delay p m short few sound answers keeps =
    let fine : plan_refusal p ≡ nothing = (neither (plan_refusal p) (table_refusal p (words_of table) delay) sound).0 in
    sound_runs_right p (words_of table) delay (asked_numbers answers) sound (λ n t h v from a b c d e.
    (let k = c_lookup_says (keeps n t h v from a b c d e) in
    let q : k.reading ≡ reads p = reads_as text k.reading p k.of_text m short fine in
    ap number_means (k.is_found ∙ ap (λ (r : Reading). found_number (found_in r table n t h v from)) q)
    ∙ means_found (lookup p (words_of table) n t h v from) (length (entries_of (words_of table)))
    (rw fine (found_within p n t h v (ltb n (length p.slots)) (entries_of (words_of table)) from)) (omega (arith, twenty table))))

-- the lines that a text means are one
same_lines : (text table : List ℕ) (delay : ℕ) → SoundFor text (words_of table) delay → (p : Lines) → Means text p → Sound p (words_of table) delay
same_lines text table delay s p m = subst (λ (q : Lines). Sound q (words_of table) delay) (means_unique s.means m) s.sound

pub demand_three : Demand3
demand_three =
    record {
      accepts = λ p table delay r c.
          (λ e. (accepted_sound p table delay).0 (sym (check_table_says c) ∙ ap numbered e), λ s. is_ok r tt (check_table_says c ∙ (accepted_sound p table delay).1 s));
      planned_accepted = made_accepted;
      runs_right = λ p table delay c answers keeps.
          sound_runs_right (lines p) table delay (asked answers) (is_sound p table delay c)
          (λ n t h v from a b d e f. means_back (answers n t h v from) (lookup (lines p) table n t h v from) (lookup_says (keeps n t h v from a b d e f)));
      c_accepts = λ text table delay answer c. (zero_sound text table delay answer (c_check_table_says c), sound_zero text table delay answer (c_check_table_says c));
      c_planned_accepted = λ text table frames totals table-now frames-now totals-now count c not l answer k.
          c_checked_once text _ _ answer 0 (c_check_table_says k)
          (c_planned_accepted text table frames totals table-now frames-now totals-now count (c_plan_table_says c) not l);
      c_runs_right = λ text table delay few c p m answers keeps.
          (let s = zero_sound text table delay 0 (c_check_table_says c) refl in
          bytes_run text table delay p m s.short few (same_lines text table delay s p m) answers keeps);
      words_as_bytes = λ p table delay c text bytes m short w few answers keeps.
          subst (λ (ws : List ℕ). RunsRight (lines p) ws delay (asked_numbers answers)) w
          (bytes_run text bytes delay (lines p) m short few (subst (λ (ws : List ℕ). Sound (lines p) ws delay) (sym w) (is_sound p table delay c)) answers keeps);
    }
