-- `plan_length` gives where the plan of an input ends: the bytes before `i` belong to it as long as none of them is the
-- line feed of an empty line.
use Rattle.text_reader.proofs.PartsSoFar.{Sofar}
use Rattle.text_reader.proofs.parts.plan_length.Given as goal

abbrev pub invariant-loop-i : goal.invariant-loop-i
invariant-loop-i l = Sofar l.input l.before l.i
