-- `c_words::put_some` meets its contract: before turn i the first i bytes of the words are stored.
use mathlib.Core.Path.{◌≡◌, refl, ap, ap₂, ◌∙◌}
use mathlib.Core.List.{List}
use Prim.Native.Nat.{ℕ, ◌≤◌, ◌<◌, min}
use native.Mathlib.Omega.{arith}
use lib.ListN.{length, set, take, length-take}
use lib.Seq.{sets, length-sets}
use Rattle.lists.proofs.Stores.{sets_front}
use Rattle.c_words.specs.Bytes.{bytes_of}
use Rattle.c_words.proofs.Writing.{bytes_count, store_byte, take_within}
use Rattle.c_words.proofs.words_out.put_some.Goals as goal

pub loop-i-init : goal.loop-i-init
loop-i-init c = (omega arith, refl)

pub byte_at-requires : goal.byte_at-requires
byte_at-requires c = omega (arith, c.min-end.ensures)

pub bounds-out-i : goal.bounds-out-i
bounds-out-i c =
    let l = c.loop-i in
    let k : length l.out ≡ length c.args.out.now = ap length l.invariant.1 ∙ simp length-sets in
    omega (arith, k, c.min-end.ensures)

pub loop-i-preserved : goal.loop-i-preserved
loop-i-preserved c =
    let l = c.loop-i in
    let words = c.args.words.now in
    let h : l.i < length (bytes_of words) = omega (arith, bytes_count words, c.min-end.ensures) in
    (omega arith, ap₂ (λ (m : List ℕ) (b : ℕ). set m l.i b) l.invariant.1 c.byte_at.ensures ∙ store_byte (bytes_of words) c.args.out.now l.i h)

pub shape_of-out : goal.shape_of-out
shape_of-out c = ap length c.loop-i.invariant.1 ∙ simp length-sets

pub returns : goal.returns
returns c =
    let l = c.loop-i in
    let bytes = bytes_of c.args.words.now in
    let lent = c.args.out.now in
    let e : l.i ≡ min (length lent) (length bytes) = omega (arith, bytes_count c.args.words.now, c.min-end.ensures) in
    let short : length (take (length lent) bytes) ≤ length lent = omega (arith, length-take (length lent) bytes) in
    l.invariant.1 ∙ ap (λ (n : ℕ). sets lent 0 (take n bytes)) e ∙ ap (sets lent 0) (take_within (length lent) bytes) ∙ sets_front (take (length lent) bytes) lent short
