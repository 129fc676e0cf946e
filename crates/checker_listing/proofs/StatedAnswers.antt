-- The answer to what a listing states, by its tests: a refusal of the table, or else 22 or nothing; and the counts of the
-- plan as they stand in memory.
-- Assumes nothing.
use mathlib.Core.Path.{◌≡◌, refl, sym, ap, ◌∙◌}
use mathlib.Core.Bool.{Bool, true, false, not, ◌||◌}
use mathlib.Core.List.{List}
use Prim.Native.Nat.{ℕ, ◌%◌}
use native.Mathlib.Omega.{arith}
use lib.ListN.{length, take}
use Rattle.limits.specs.Limits.{NODES}
use Rattle.lists.specs.Lists.{same_numbers}
use Rattle.lists.specs.Front.{front}
use Rattle.lists.proofs.Front.{front_length, front_written}
use Rattle.model.specs.Plan.{Lines}
use Rattle.model.specs.Refusals.{Refusal, nothing, refused, sentence, or_else, plan_refusal}
use Rattle.model.specs.Table.{result}
use Rattle.model.specs.Checking.{table_refusal, check, Sound}
use Rattle.model.specs.ListingText.{other_frames, other_counts, stated_refusal}
use Rattle.laws.proofs.Good.{good, or_nothing}
use Rattle.laws.proofs.Words.{words_back, frame_words_back, counts_each}
use Rattle.std.specs.Prelude.{Ok, Err}
use Rattle.checker_table.specs.Verdict.{answer_of}
use Rattle.checker_listing.specs.Filling.{frames_given}
use Rattle.checker_listing.specs.Stated.{stated_in}

-- a table that 12 to 20 find nothing in
pub is_sound : (p : Lines) (table : List ℕ) (delay : ℕ) → plan_refusal p ≡ nothing → table_refusal p table delay ≡ nothing → Sound p table delay
unfolding check or_else
is_sound p table delay fine e = rw fine e

-- the counts of the plan's own planning, one for each node, at the front of an array
module _ (p : Lines) {slots : ℕ} (lent : List ℕ) {counts : List ℕ} (many : slots ≡ length p.slots) (held : counts ≡ front (result p).passed lent) where
  -- as many as nodes, they are the model's
  pub plan_counts : take slots counts ≡ (result p).passed
  plan_counts = (λ i. take (n i) (held i)) ∙ front_written (result p).passed lent
    where
      n : slots ≡ length (result p).passed
      n = many ∙ sym (counts_each p)

  -- and the array is as long as it was
  pub plan_counts_long : plan_refusal p ≡ nothing → length lent ≡ NODES → length counts ≡ NODES
  plan_counts_long fine l = ap length held ∙ front_length (result p).passed lent (omega (arith, counts_each p, (good p fine).few_slots, l)) ∙ l

module _ (p : Lines) (table ws : List ℕ) (delay : ℕ) (passed : List ℕ) (fives : length table % 5 ≡ 0) (threes : length ws % 3 ≡ 0) where
  -- 12 to 20, then 22 by its two tests
  abbrev by_tests : Bool → Bool → Refusal
  by_tests given counted = or_else (table_refusal p table delay) (sentence 22 (not given || not counted) nothing)

  tests : stated_refusal p (stated_in table ws delay passed) ≡ by_tests (same_numbers ws (frames_given p table)) (same_numbers passed (result p).passed)
  unfolding stated_refusal other_frames other_counts stated_in
  tests =
      λ i. or_else (table_refusal p (words_back table fives i) delay)
      (sentence 22 (not (same_numbers (frame_words_back ws threes i) (frames_given p table)) || not (same_numbers passed (result p).passed)) nothing)

  -- what they find
  found : {t : Refusal} {given counted : Bool} → table_refusal p table delay ≡ t → same_numbers ws (frames_given p table) ≡ given → same_numbers passed (result p).passed ≡ counted →
      stated_refusal p (stated_in table ws delay passed) ≡ or_else t (sentence 22 (not given || not counted) nothing)
  found a b c = tests ∙ (λ i. or_else (a i) (sentence 22 (not (b i) || not (c i)) nothing))

  -- a refusal of the table comes first
  pub answer_table : (n : ℕ) → table_refusal p table delay ≡ refused n → Err n ≡ answer_of (stated_refusal p (stated_in table ws delay passed))
  unfolding answer_of or_else
  answer_table n e = sym (ap answer_of (found e refl refl))

  -- a sound table
  module _ (sound : Sound p table delay) where
    no_refusal : table_refusal p table delay ≡ nothing
    unfolding check
    no_refusal = (or_nothing (plan_refusal p) (table_refusal p table delay) sound).1

    pub answer_frames : same_numbers ws (frames_given p table) ≡ false → Err 22 ≡ answer_of (stated_refusal p (stated_in table ws delay passed))
    unfolding answer_of or_else
    answer_frames e = sym (ap answer_of (found no_refusal e refl))

    -- 22 by the counts
    pub answer_counts : same_numbers ws (frames_given p table) ≡ true → same_numbers passed (result p).passed ≡ false →
        Err 22 ≡ answer_of (stated_refusal p (stated_in table ws delay passed))
    unfolding answer_of or_else
    answer_counts e d = sym (ap answer_of (found no_refusal e d))

    -- nothing by both tests
    pub answer_accepted : same_numbers ws (frames_given p table) ≡ true → same_numbers passed (result p).passed ≡ true →
        Ok tt ≡ answer_of (stated_refusal p (stated_in table ws delay passed))
    unfolding answer_of or_else
    answer_accepted e d = sym (ap answer_of (found no_refusal e d))
