-- `listing_bytes::put_word` meets its contract: before turn i the first i bytes of the word are stored.
use mathlib.Core.Path.{refl}
use native.Mathlib.Omega.{arith}
use native.Mathlib.Numerals.{add-one}
use lib.Seq.{take-suc}
use Rattle.text_lines.proofs.Puts.{put_then, put_length}
use Rattle.listing_bytes.proofs.words.put_word.Goals as goal

pub bounds-out-at : goal.bounds-out-at
bounds-out-at c = omega (arith, put_length c.loop-i.invariant, c.requires.within)

pub loop-i-preserved : goal.loop-i-preserved
loop-i-preserved c =
    let l = c.loop-i in
    rw (add-one l.i, take-suc c.args.word.now l.i 0 (omega arith)) (put_then l.invariant (record { count = omega arith; holds = refl }))

pub shape_of-out : goal.shape_of-out
shape_of-out c = put_length c.loop-i.invariant
