-- `c_words::put_words` meets its contract: before turn i the first i words are stored.
use mathlib.Core.Path.{◌≡◌}
use Prim.Native.Nat.{◌≤◌}
use lib.ListN.{length, take}
use lib.Seq.{sets}
use Rattle.c_words.specs.Bytes.{bytes_of}
use Rattle.c_words.proofs.words_out.put_words.Given as goal

abbrev pub invariant-loop-i : goal.invariant-loop-i
invariant-loop-i l = (l.i ≤ length l.words) × (l.out ≡ sets l.initial.out 0 (bytes_of (take l.i l.words)))
