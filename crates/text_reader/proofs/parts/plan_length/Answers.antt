-- `plan_length` gives where the plan of an input ends: the bytes before `i` belong to it as long as none of them is the
-- line feed of an empty line.
use mathlib.Core.Path.{sym, ◌∙◌}
use native.Mathlib.Omega.{arith}
use Rattle.text_reader.proofs.PartsSoFar.{begun, next, found, ended}
use Rattle.text_reader.proofs.parts.plan_length.Goals as goal

pub loop-i-init : goal.loop-i-init
loop-i-init c = begun _

pub returns-then-is_empty_line : goal.returns-then-is_empty_line
returns-then-is_empty_line c =
    let l = c.loop-i in
    found l.invariant (omega arith) (sym c.is_empty_line.ensures ∙ c.if-is_empty_line.true)

pub loop-i-preserved : goal.loop-i-preserved
loop-i-preserved c =
    let l = c.loop-i in
    next l.invariant (omega arith) (sym c.is_empty_line.ensures ∙ c.if-is_empty_line.false)

pub returns : goal.returns
returns c = ended c.loop-i.invariant c.loop-i-test.false
