-- `c_words::put_some` meets its contract: before turn i the first i bytes of the words are stored.
use mathlib.Core.Path.{◌≡◌}
use Prim.Native.Nat.{◌≤◌}
use lib.ListN.{take}
use lib.Seq.{sets}
use Rattle.c_words.specs.Bytes.{bytes_of}
use Rattle.c_words.proofs.words_out.put_some.Given as goal

abbrev pub invariant-loop-i : goal.invariant-loop-i
invariant-loop-i l = (l.i ≤ l.end) × (l.out ≡ sets l.initial.out 0 (take l.i (bytes_of l.words)))
