-- `c_words::read_words` meets its contract: before turn i the first i words from place `from` on are stored.
use mathlib.Core.Path.{◌≡◌, refl, sym, ap, ap₂, ◌∙◌}
use mathlib.Core.List.{List}
use Prim.Native.Nat.{ℕ, ◌<◌}
use native.Mathlib.Omega.{arith}
use lib.ListN.{length, set, take, drop, length-drop, length-set}
use lib.Seq.{sets, get_or-drop, length-take-le}
use Rattle.lists.proofs.Stores.{sets_whole}
use Rattle.model.specs.Firmware.{words_of}
use Rattle.c_words.proofs.Reading.{words_count}
use Rattle.c_words.proofs.Writing.{store_byte}
use Rattle.c_words.proofs.words.read_words.Goals as goal

pub loop-i-init : goal.loop-i-init
loop-i-init c = (omega arith, refl, refl)

pub overflow_add-at : goal.overflow_add-at
overflow_add-at c =
    omega (arith, words_count c.args.bytes.now)

pub loop-i-preserved : goal.loop-i-preserved
loop-i-preserved c =
    let a = c.args in
    let read = drop a.from (words_of a.bytes.now) in
    let h : c.loop-i.i < length read = omega (arith, length-drop a.from (words_of a.bytes.now), c.loop-i-test.true, c.requires, c.loop-i.invariant) in (
      omega (arith, c.loop-i-test.true, c.loop-i.invariant),
      simp length-set c.loop-i.invariant.1,
      ap₂ (λ (m : List ℕ) (w : ℕ). set m c.loop-i.i w) c.loop-i.invariant.2 (c.word_at.ensures ∙ sym (get_or-drop a.from (words_of a.bytes.now) c.loop-i.i 0))
          ∙ store_byte read a.out.now c.loop-i.i h,
    )

pub shape_of-out : goal.shape_of-out
shape_of-out c = c.loop-i.invariant.1

pub returns : goal.returns
returns c =
    let a = c.args in
    let read = drop a.from (words_of a.bytes.now) in
    let lent = a.out.now in
    let e : c.loop-i.i ≡ length lent = omega (arith, c.loop-i-test.false, c.loop-i.invariant) in
    let n : length (take (length lent) read) ≡ length lent = length-take-le (length lent) read (omega (arith, length-drop a.from (words_of a.bytes.now), c.requires)) in
    c.loop-i.invariant.2
    ∙ ap (λ (n : ℕ). sets lent 0 (take n read)) e
    ∙ sets_whole (take (length lent) read) lent n
