-- `text_lines::put_word` meets its contract: before turn i the first i bytes of the word are put.
use Prim.Native.Nat.{◌<◌}
use native.Mathlib.Numerals.{add-one}
use native.Mathlib.Omega.{arith}
use lib.ListN.{length}
use lib.Seq.{take-suc, take_all, length-take-le}
use Rattle.text_lines.proofs.Puts.{put_none, put_then, put_length}
use Rattle.text_lines.proofs.put_word.Goals as goal

pub loop-b-init : goal.loop-b-init
loop-b-init c = (omega arith, put_none _ _)

pub put_byte-end-requires : goal.put_byte-end-requires
put_byte-end-requires c =
    let l = c.loop-b in
    record { fits = omega (arith, c.requires.fits, l.invariant.1.count, length-take-le l.b-index c.args.word.now l.invariant.0) }

pub loop-b-preserved : goal.loop-b-preserved
loop-b-preserved c =
    let word = c.args.word.now in
    let l = c.loop-b in
    let h : l.b-index < length word = omega arith in
    (omega arith, rw (add-one l.b-index, take-suc word l.b-index 0 h) (put_then l.invariant.1 c.put_byte-end.ensures))

pub shape_of-out : goal.shape_of-out
shape_of-out c = put_length c.loop-b.invariant.1

pub returns : goal.returns
returns c = rw (take_all c.loop-b.b-index c.args.word.now (omega arith)) at c.loop-b.invariant.1
