-- What the planner made stands at the front of what was lent: its answer in memory is one of the model, the lent words
-- suffice, and the first of them are the table's, the frame list's and the counts of the nodes.
-- Assumes nothing.
use mathlib.Core.Path.{◌≡◌, refl, ap, sym, ◌∙◌}
use mathlib.Core.Bool.{Bool, true, false}
use mathlib.Core.List.{List}
use Prim.Native.Nat.{ℕ, ◌≤◌}
use Rattle.std.specs.Prelude.{Ok, Err}
use native.Mathlib.Omega.{arith}
use borrow.Author.Tests.{ltb-false}
use lib.ListN.{length, take}
use Rattle.limits.specs.Limits.{NODES}
use Rattle.lists.specs.Front.{front}
use Rattle.lists.proofs.Front.{front_length, front_written}
use Rattle.model.specs.Plan.{Lines}
use Rattle.model.specs.Refusals.{Refusal, nothing, refused, sentence, or_else, plan_refusal}
use Rattle.model.specs.Table.{
  Answer,
  turned_down,
  made,
  Result,
  result,
  entry_words,
  frame_words,
  answered,
  room_refusal,
  plan_answer,
  table_after,
  frames_after,
  counts_after,
}
use Rattle.laws.proofs.Good.{good}
use Rattle.laws.proofs.Words.{counts_each}
use Rattle.planner_table.specs.declared.Made.{Made}
use Rattle.planner_table.specs.Planner.{answer_of}

-- an answer that is a result is of a plan that passes refusals 2 to 9, and the lent words suffice
pub record Suffice (x : Refusal) (q r : Result) (words room : ℕ) : Type 0 where
  pub passes : x ≡ nothing
  pub same : r ≡ q
  pub enough : length (entry_words q.entries) ≤ words
  pub frames_enough : length (frame_words q.frames) ≤ room

two_tests : (a b : Bool) (q r : Result) → answered (sentence 10 a (sentence 11 b nothing)) q ≡ made r → (a ≡ false) × (b ≡ false) × (r ≡ q)
unfolding answered
two_tests true b q r e = absurd (let z : ◌≡◌ {A = ℕ} 0 1 = cc in omega arith)
two_tests false true q r e = absurd (let z : ◌≡◌ {A = ℕ} 0 1 = cc in omega arith)
two_tests false false q r e = (refl, refl, cc)

suffice : (x : Refusal) (q r : Result) (words room : ℕ) → answered (or_else x (room_refusal q words room)) q ≡ made r → Suffice x q r words room
unfolding or_else room_refusal answered
suffice nothing q r words room e =
    let t = two_tests _ _ q r e in
    record { passes = refl; same = t.2; enough = ltb-false words (length (entry_words q.entries)) t.0; frames_enough = ltb-false room (length (frame_words q.frames)) t.1 }
suffice (refused n) q r words room e = absurd (let z : ◌≡◌ {A = ℕ} 0 1 = cc in omega arith)

pub made_suffice : (p : Lines) (words room : ℕ) (r : Result) → plan_answer p words room ≡ made r → Suffice (plan_refusal p) (result p) r words room
unfolding plan_answer
made_suffice p words room r e = suffice (plan_refusal p) (result p) r words room e

-- a refusal in memory is one of the model
pub turned : (a : Answer) (n : ℕ) → Err n ≡ answer_of a → a ≡ turned_down n
unfolding answer_of
turned (turned_down m) n e = cc
turned (made r) n e = absurd (let z : ◌≡◌ {A = ℕ} 0 1 = cc in omega arith)

-- what was made in memory is a result of the model
pub record WasMade (a : Answer) (m : Made) : Type 0 where
  pub result : Result
  pub is_made : a ≡ made result
  pub words : m.words ≡ length (entry_words result.entries)
  pub framewords : m.framewords ≡ length (frame_words result.frames)
  pub delay : m.delay ≡ result.delay

pub was_made : (a : Answer) (m : Made) → Ok m ≡ answer_of a → WasMade a m
unfolding answer_of
was_made (turned_down n) m e = absurd (let z : ◌≡◌ {A = ℕ} 0 1 = cc in omega arith)
was_made (made r) m e = record { result = r; is_made = refl; words = cc; framewords = cc; delay = cc }

-- the words that were made were lent, and stand at the front of what was lent; and so do the counts, one for each node
pub record Stands (p : Lines) (a : Answer) (m : Made) (table frames passed table-now frames-now passed-now : List ℕ) : Type 0 where
  pub was : WasMade a m
  pub lent : m.words ≤ length table
  pub frames_lent : m.framewords ≤ length frames
  pub within : m.words ≤ length table-now
  pub frames_within : m.framewords ≤ length frames-now
  pub table_words : take m.words table-now ≡ entry_words was.result.entries
  pub frames_words : take m.framewords frames-now ≡ frame_words was.result.frames
  pub counts : passed-now ≡ front was.result.passed passed
  pub counts_many : length was.result.passed ≡ length p.slots
  pub counts_few : length p.slots ≤ NODES
  pub counts_words : take (length p.slots) passed-now ≡ was.result.passed

front_within : (words lent now : List ℕ) → now ≡ front words lent → length words ≤ length lent → length words ≤ length now
front_within words lent now e l = omega (arith, ap length e, front_length words lent l)

module _ (p : Lines) (table frames passed table-now frames-now passed-now : List ℕ) (m : Made) where
  pub stands : Ok m ≡ answer_of (plan_answer p (length table) (length frames)) →
      table-now ≡ table_after (plan_answer p (length table) (length frames)) table →
      frames-now ≡ frames_after (plan_answer p (length table) (length frames)) frames →
      passed-now ≡ counts_after (plan_answer p (length table) (length frames)) passed →
      Stands p (plan_answer p (length table) (length frames)) m table frames passed table-now frames-now passed-now
  unfolding table_after frames_after counts_after
  stands e t f c =
      let a : Answer = plan_answer p (length table) (length frames) in
      let w = was_made a m e in
      let s = made_suffice p (length table) (length frames) w.result w.is_made in
      let es : List ℕ = entry_words w.result.entries in
      let fs : List ℕ = frame_words w.result.frames in
      let cs : List ℕ = w.result.passed in
      let t' : table-now ≡ front es table = t ∙ ap (λ (x : Answer). table_after x table) w.is_made in
      let f' : frames-now ≡ front fs frames = f ∙ ap (λ (x : Answer). frames_after x frames) w.is_made in
      let c' : passed-now ≡ front cs passed = c ∙ ap (λ (x : Answer). counts_after x passed) w.is_made in
      let l : length es ≤ length table = omega (arith, ap (λ (r : Result). length (entry_words r.entries)) s.same, s.enough) in
      let k : length fs ≤ length frames = omega (arith, ap (λ (r : Result). length (frame_words r.frames)) s.same, s.frames_enough) in
      let few : length p.slots ≤ NODES = (good p s.passes).few_slots in
      let many : length cs ≡ length p.slots = ap (λ (r : Result). length r.passed) s.same ∙ counts_each p in
      let first : take m.words table-now ≡ es = ap (λ (n : ℕ). take n table-now) w.words ∙ ap (take (length es)) t' ∙ front_written es table in
      let second : take m.framewords frames-now ≡ fs = ap (λ (n : ℕ). take n frames-now) w.framewords ∙ ap (take (length fs)) f' ∙ front_written fs frames in
      let third : take (length p.slots) passed-now ≡ cs = ap (λ (n : ℕ). take n passed-now) (sym many) ∙ ap (take (length cs)) c' ∙ front_written cs passed in
      record {
        was = w;
        lent = omega (arith, w.words);
        frames_lent = omega (arith, w.framewords);
        within = omega (arith, w.words, front_within es table table-now t' l);
        frames_within = omega (arith, w.framewords, front_within fs frames frames-now f' k);
        table_words = first;
        frames_words = second;
        counts = c';
        counts_many = many;
        counts_few = few;
        counts_words = third;
      }

-- an array with a place for each node, lent for the counts, is as long afterwards
pub counts_long : {p : Lines} {a : Answer} {m : Made} {table frames passed table-now frames-now passed-now : List ℕ} →
    Stands p a m table frames passed table-now frames-now passed-now → length passed ≡ NODES → length passed-now ≡ NODES
counts_long {passed = passed} s long = ap length s.counts ∙ front_length s.was.result.passed passed (omega (arith, s.counts_many, s.counts_few, long)) ∙ long
