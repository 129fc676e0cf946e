-- `read_run` reads lines one after another: those up to `next` are counted, and stored where there is room.
use Prim.Native.Nat.{◌-◌}
use lib.ListN.{length}
use Rattle.text_reader.specs.Chain.{Answers}
use Rattle.text_reader.proofs.ChainSoFar.{Sofar}
use Rattle.text_reader.proofs.line_runs.read_run.Given as goal

abbrev pub invariant-loop-x : goal.invariant-loop-x
invariant-loop-x g l = Sofar (Answers (goal.F-post g l.line) l.text) (length l.text) l.at l.initial.kept l.kept l.count l.next

abbrev pub decreases-loop-x : goal.decreases-loop-x
decreases-loop-x g l = length l.text - l.next
