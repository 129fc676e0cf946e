-- `c_words::word_at` meets its contract: word i stands in the four bytes from i * 4 on.
use Prim.Native.Nat.{◌+◌, ◌*◌, ◌≤◌}
use native.Mathlib.Omega.{arith}
use lib.ListN.{length}
use Rattle.c_words.proofs.Reading.{words_count, words_at}
use Rattle.c_words.proofs.words.word_at.Goals as goal
use Rattle.c_words.proofs.words.word_at.Goals.{Start}

-- the four bytes of word i lie within
room : (c : Start) → c.args.i * 4 + 4 ≤ length c.args.bytes.now
room c = omega (arith, words_count c.args.bytes.now)

pub overflow_mul-at : goal.overflow_mul-at
overflow_mul-at c = omega (arith, room (goal.at.overflow_mul-at c).Start)

pub bounds-bytes-at : goal.bounds-bytes-at
bounds-bytes-at c = omega (arith, room (goal.at.bounds-bytes-at c).Start)

pub overflow_add-at : goal.overflow_add-at
overflow_add-at c = omega (arith, room (goal.at.overflow_add-at c).Start)

pub bounds-bytes-at-2 : goal.bounds-bytes-at-2
bounds-bytes-at-2 c = omega (arith, room (goal.at.bounds-bytes-at-2 c).Start)

pub overflow_add-at-2 : goal.overflow_add-at-2
overflow_add-at-2 c = omega (arith, room (goal.at.overflow_add-at-2 c).Start)

pub bounds-bytes-at-3 : goal.bounds-bytes-at-3
bounds-bytes-at-3 c = omega (arith, room (goal.at.bounds-bytes-at-3 c).Start)

pub overflow_add-at-3 : goal.overflow_add-at-3
overflow_add-at-3 c = omega (arith, room (goal.at.overflow_add-at-3 c).Start)

pub bounds-bytes-at-4 : goal.bounds-bytes-at-4
bounds-bytes-at-4 c = omega (arith, room (goal.at.bounds-bytes-at-4 c).Start)

pub returns : goal.returns
returns c = omega (arith, c.from_le_bytes.ensures, words_at c.args.bytes.now c.args.i c.requires)
