-- `arrays::copy_at` meets its contract: before turn i what is left to store gives the whole.
use Rattle.std.proofs.Common.{◌≡◌, ◌+◌, ◌≤◌, length, drop}
use lib.Seq.{sets}
use Rattle.arrays.proofs.copying.copy_at.Given as goal

abbrev pub invariant-loop-i : goal.invariant-loop-i
invariant-loop-i l = (l.i ≤ length l.from) × (length l.to ≡ length l.initial.to) × (sets l.to (l.at + l.i) (drop l.i l.from) ≡ sets l.initial.to l.at l.from)
