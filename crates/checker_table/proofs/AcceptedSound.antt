-- What the checker's answers mean: it accepts exactly the sound tables, which are the lawful ones, it refuses with the
-- number of the first refusal that applies, and it accepts the table that the definition of planning gives.
-- Assumes nothing.
use mathlib.Core.Path.{◌≡◌, refl, sym, ap, subst}
use mathlib.Core.Logic.{◌↔◌}
use mathlib.Core.List.{List}
use Prim.Native.Nat.{ℕ, ◌%◌}
use Rattle.std.specs.Prelude.{Result, Ok, Err}
use lib.ListN.{length}
use Rattle.model.specs.Refusals.{Refusal, nothing, refused, plan_refusal}
use Rattle.model.specs.Table.{entries_of, result, entry_words}
use Rattle.model.specs.Checking.{check, Sound}
use Rattle.laws.proofs.Rules.{Lawful}
use Rattle.laws.proofs.Sound.{sound_iff}
use Rattle.laws.proofs.OwnTable.{own_table_sound}
use Rattle.plan.specs.declared.Plan.{Plan}
use Rattle.plan.specs.Memory.{lines}
use Rattle.checker_table.specs.Verdict.{answer_of}

abbrev is_accepted : Result (Unit {0}) ℕ → Type 0
is_accepted (Ok x) = Unit {0}
is_accepted (Err n) = ⊥

abbrev number_or : ℕ → Result (Unit {0}) ℕ → ℕ
number_or d (Ok x) = d
number_or d (Err n) = n

-- An answer stands for one refusal only.
pub accepted_nothing : (r : Refusal) → (answer_of r ≡ Ok tt) ↔ (r ≡ nothing)
unfolding answer_of
accepted_nothing nothing = (λ e. refl, λ e. refl)
accepted_nothing (refused n) = (λ e. absurd (subst is_accepted (sym e) tt), λ e. ap answer_of e)

pub refused_number : (r : Refusal) (n : ℕ) → (answer_of r ≡ Err n) ↔ (r ≡ refused n)
unfolding answer_of
refused_number nothing n = (λ e. absurd (subst is_accepted e tt), λ e. ap answer_of e)
refused_number (refused m) n = (λ e. ap (λ (a : Result (Unit {0}) ℕ). refused (number_or m a)) e, λ e. ap answer_of e)

module _ (p : Plan) (words : List ℕ) (stated : ℕ) where
  -- The checker accepts exactly the sound tables.
  pub accepted_sound : (answer_of (check (lines p) words stated) ≡ Ok tt) ↔ Sound (lines p) words stated
  accepted_sound = accepted_nothing (check (lines p) words stated)

  -- It refuses exactly with the number of the first refusal that applies.
  pub refused_first : (n : ℕ) → (answer_of (check (lines p) words stated) ≡ Err n) ↔ (check (lines p) words stated ≡ refused n)
  refused_first n = refused_number (check (lines p) words stated) n

  -- What it accepts: refusals 2 to 9 find nothing in the plan, the words come in fives, and the table is lawful.
  pub accepted_lawful : (answer_of (check (lines p) words stated) ≡ Ok tt)
      ↔ ((plan_refusal (lines p) ≡ nothing) × (length words % 5 ≡ 0) × Lawful (lines p) (entries_of words) stated)
  accepted_lawful = (
    λ e. (sound_iff (lines p) words stated).0 (accepted_sound.0 e),
    λ h. accepted_sound.1 ((sound_iff (lines p) words stated).1 h),
  )

-- It accepts the planned table of any plan in which refusals 2 to 9 find nothing, with its delay.
pub own_accepted : (p : Plan) → plan_refusal (lines p) ≡ nothing →
    answer_of (check (lines p) (entry_words (result (lines p)).entries) (result (lines p)).delay) ≡ Ok tt
own_accepted p fine = (accepted_sound p (entry_words (result (lines p)).entries) (result (lines p)).delay).1 (own_table_sound (lines p) fine)
