-- Lending the planner more words than any table or frame list has changes nothing, and as many words as the lent bytes
-- hold are lent.
-- Assumes nothing.
use mathlib.Core.Path.{◌≡◌, refl, sym, ◌∙◌}
use mathlib.Core.Bool.{true, false}
use mathlib.Core.Logic.{◌⊎◌, inl, inr}
use mathlib.Core.List.{List}
use Prim.Native.Nat.{ℕ, ◌*◌, ◌/◌, ◌≤◌, min}
use native.Mathlib.Omega.{arith}
use borrow.Author.Tests.{ltb-true, ltb-false, lt-ltb, le-ltb}
use lib.Dec.{ltb}
use lib.ListN.{length, take}
use lib.Seq.{length-take-le}
use Rattle.lists.proofs.Tests.{two}
use Rattle.model.specs.Plan.{Lines}
use Rattle.model.specs.Refusals.{Refusal, nothing, refused, sentence, or_else, plan_refusal}
use Rattle.model.specs.Table.{Result, result, entry_words, frame_words, answered, room_refusal, plan_answer}
use Rattle.model.specs.Firmware.{words_of}
use Rattle.planner_table.proofs.Most.{entries_cap, frames_cap}
use Rattle.c_words.proofs.Reading.{words_count}

-- the test for too few words is the same where no more are needed than the most
capped : (words most needed : ℕ) → needed ≤ most → ltb (min words most) needed ≡ ltb words needed
capped words most needed l = at (two (ltb words needed))
  where
    at : (ltb words needed ≡ true) ⊎ (ltb words needed ≡ false) → ltb (min words most) needed ≡ ltb words needed
    at (inl e) = let h = ltb-true words needed e in lt-ltb (min words most) needed (omega arith) ∙ sym e
    at (inr e) = let h = ltb-false words needed e in le-ltb (min words most) needed (omega arith) ∙ sym e

same_answer : (x : Refusal) (q : Result) (words room : ℕ) → (x ≡ nothing → (length (entry_words q.entries) ≤ 63360) × (length (frame_words q.frames) ≤ 25728)) →
    answered (or_else x (room_refusal q (min words 63360) (min room 25728))) q ≡ answered (or_else x (room_refusal q words room)) q
unfolding or_else room_refusal
same_answer nothing q words room h =
    let l = h refl in
    λ i. answered (sentence 10 (capped words 63360 (length (entry_words q.entries)) l.0 i)
    (sentence 11 (capped room 25728 (length (frame_words q.frames)) l.1 i) nothing)) q
same_answer (refused n) q words room h = refl

pub more_words : (p : Lines) (words room : ℕ) → plan_answer p (min words 63360) (min room 25728) ≡ plan_answer p words room
unfolding plan_answer
more_words p words room = same_answer (plan_refusal p) (result p) words room (λ e. (entries_cap p e, frames_cap p e))

-- as many words of an array as the lent bytes hold, and no more than a number that the array has
pub lent_words : (array bytes : List ℕ) (n many most long : ℕ) → length array ≡ long → most ≤ long → n ≡ min many most → many ≡ length (words_of bytes) →
    length (take n array) ≡ min (length bytes / 4) most
lent_words array bytes n many most long a l b c = omega (arith, length-take-le n array (omega arith), words_count bytes)

pub lent_enough : (n : ℕ) (bytes : List ℕ) (most long : ℕ) → most ≤ long → n ≡ min (length bytes / 4) most → (n ≤ long) × (4 * n ≤ length bytes)
lent_enough n bytes most long l e = (omega arith, omega arith)
