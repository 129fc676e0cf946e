-- `text_lines::put_word` meets its contract: before turn i the first i bytes of the word are put.
use Prim.Native.Nat.{◌≤◌}
use lib.ListN.{length, take}
use Rattle.text_lines.specs.Put.{Put}
use Rattle.text_lines.proofs.put_word.Given as goal

abbrev pub invariant-loop-b : goal.invariant-loop-b
invariant-loop-b l = (l.b-index ≤ length l.word) × Put l.initial.out l.out l.at l.end (take l.b-index l.word)
