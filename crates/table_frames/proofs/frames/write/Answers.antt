-- `table_frames::write` meets its contract: what is left to write gives the whole.
use native.Mathlib.Omega.{arith}
use lib.ListN.{length-set}
use Rattle.table_frames.proofs.Writing.{written_start, written_next, written_end}
use Rattle.table_frames.proofs.frames.write.Goals as goal

pub loop-i-init : goal.loop-i-init
loop-i-init c =
    let a = c.args in
    let p = c.requires in
    written_start a.list.now a.words.now a.n (omega arith) p.2

pub word-requires : goal.word-requires
word-requires c =
    omega (arith, c.requires.3 c.loop-i.i c.loop-i-test.true)

pub bounds-words-k-in-loop-i : goal.bounds-words-k-in-loop-i
bounds-words-k-in-loop-i c =
    let p = c.requires in
    let v = c.loop-i.invariant in
    let t = c.loop-i-test.true in
    simp length-set (omega (arith, v.long, p.2))

pub bounds-words-k-in-loop-i-2 : goal.bounds-words-k-in-loop-i-2
bounds-words-k-in-loop-i-2 c =
    let p = c.requires in
    let v = c.loop-i.invariant in
    let t = c.loop-i-test.true in
    simp length-set (omega (arith, v.long, p.2))

pub loop-i-preserved : goal.loop-i-preserved
loop-i-preserved c =
    let a = c.args in
    let p = c.requires in
    written_next a.list.now a.words.now a.n (omega arith) c.loop-i-test.true c.loop-i.invariant
    c.word.ensures c.word-in-loop-i.ensures c.word-in-loop-i-2.ensures

pub returns : goal.returns
returns c =
    let a = c.args in
    let p = c.requires in
    written_end a.list.now a.words.now a.n (omega arith) c.loop-i-test.false c.loop-i.invariant
