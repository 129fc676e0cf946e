-- `listing_bytes::put_word` meets its contract: before turn i the first i bytes of the word are stored.
use Prim.Native.Nat.{◌+◌}
use lib.ListN.{take}
use Rattle.text_lines.specs.Put.{Put}
use Rattle.listing_bytes.proofs.words.put_word.Given as goal

abbrev pub invariant-loop-i : goal.invariant-loop-i
invariant-loop-i l = Put l.initial.out l.out l.at (l.at + l.i) (take l.i l.word)
