-- `planner_sends::next_round` meets its contract.
use mathlib.Core.Path.{refl}
use Rattle.planner_sends.specs.NextSends.{next_round}
use Rattle.planner_sends.proofs.next_sends.next_round.Goals as goal

pub returns-then-left : goal.returns-then-left
unfolding next_round
returns-then-left c = rw c.if-left.true refl

pub returns-else-left : goal.returns-else-left
unfolding next_round
returns-else-left c = rw c.if-left.false refl
