-- `c_words::put_words` meets its contract: before turn i the first i words are stored.
use mathlib.Core.Path.{◌≡◌, refl, ap, ◌∙◌}
use Prim.Native.Nat.{ℕ, ◌<◌, ◌*◌}
use mathlib.Core.List.{List}
use native.Mathlib.Omega.{arith}
use lib.ListN.{length, get_or, take}
use lib.Seq.{sets, length-sets, take_all}
use Rattle.lists.proofs.Stores.{sets_front}
use Rattle.c_words.specs.Bytes.{word_bytes, bytes_of}
use Rattle.c_words.proofs.Writing.{bytes_count, store_next}
use Rattle.c_words.proofs.words_out.put_words.Goals as goal

pub loop-i-init : goal.loop-i-init
unfolding bytes_of
loop-i-init c = (omega arith, refl)

pub put_word-requires : goal.put_word-requires
put_word-requires c =
    let l = c.loop-i in
    omega (arith, ap length l.invariant.1 ∙ length-sets c.args.out.now 0 (bytes_of (take l.i c.args.words.now)))

pub loop-i-preserved : goal.loop-i-preserved
loop-i-preserved c =
    let l = c.loop-i in
    let h : l.i < length c.args.words.now = omega arith in (
      omega arith,
      c.put_word.ensures
          ∙ ap (λ (m : List ℕ). sets m (l.i * 4) (word_bytes (get_or c.args.words.now l.i 0))) l.invariant.1
          ∙ store_next c.args.words.now c.args.out.now l.i h,
    )

pub shape_of-out : goal.shape_of-out
shape_of-out c = ap length c.loop-i.invariant.1 ∙ simp length-sets

pub returns : goal.returns
returns c =
    let l = c.loop-i in
    let words = c.args.words.now in
    let e : take l.i words ≡ words = take_all l.i words (omega arith) in
    l.invariant.1
    ∙ ap (λ (m : List ℕ). sets c.args.out.now 0 (bytes_of m)) e
    ∙ sets_front (bytes_of words) c.args.out.now (omega (arith, bytes_count words))
