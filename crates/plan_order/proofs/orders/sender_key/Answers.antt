-- `plan_order::sender_key` meets its contract.
use borrow.Author.Tests.{eq-eqb, ne_eqb}
use Rattle.plan_order.proofs.orders.sender_key.Goals as goal

pub returns-then-sender-receiver : goal.returns-then-sender-receiver
returns-then-sender-receiver c = rw (eq-eqb _ _ c.if-sender-receiver.true)

pub returns : goal.returns
returns c = rw (ne_eqb _ _ c.if-sender-receiver.false)
