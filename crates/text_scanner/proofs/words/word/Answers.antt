-- `word` gives what the grammar reads: a word that stands in front of the text from `at` on, or nothing.
use mathlib.Core.Path.{◌≡◌, refl, sym}
use Prim.Native.Nat.{◌-◌, ℕ}
use native.Mathlib.Omega.{arith}
use lib.ListN.{length, drop, take, length-drop}
use lib.Seq.{take_all}
use Rattle.std.proofs.lemmas.List.{drop-drop}
use Rattle.text_scanner.proofs.WordSteps.{word_in_front, word_not_in_front}
use Rattle.text_scanner.proofs.words.word.Goals as goal

pub returns-then-starts_with : goal.returns-then-starts_with
returns-then-starts_with c =
    let a = c.args in
    let found = c.if-starts_with.ensures in
    let whole : take (length a.text.now - a.at) (drop a.at a.text.now) ≡ drop a.at a.text.now = take_all _ _ (omega (arith, length-drop {A = ℕ})) in
    record {
      within = omega (arith, rw whole at (found.bound refl), length-drop {A = ℕ});
      same = sym (rw drop-drop at (word_in_front a.w.now (drop a.at a.text.now) (sym (rw whole at found.value))));
    }

pub returns : goal.returns
returns c =
    let a = c.args in
    let whole : take (length a.text.now - a.at) (drop a.at a.text.now) ≡ drop a.at a.text.now = take_all _ _ (omega (arith, length-drop {A = ℕ})) in
    record { within = tt; same = sym (word_not_in_front a.w.now (drop a.at a.text.now) (sym (rw whole at c.if-starts_with.ensures.value))) }
