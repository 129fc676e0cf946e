-- `c_words::read_words` meets its contract: before turn i the first i words from place `from` on are stored.
use mathlib.Core.Path.{◌≡◌}
use Prim.Native.Nat.{◌≤◌}
use lib.ListN.{length, take, drop}
use lib.Seq.{sets}
use Rattle.model.specs.Firmware.{words_of}
use Rattle.c_words.proofs.words.read_words.Given as goal

abbrev pub invariant-loop-i : goal.invariant-loop-i
invariant-loop-i l = (l.i ≤ length l.initial.out) × (length l.out ≡ length l.initial.out) × (l.out ≡ sets l.initial.out 0 (take l.i (drop l.from (words_of l.bytes))))
