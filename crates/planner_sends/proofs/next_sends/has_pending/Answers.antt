-- `planner_sends::has_pending` meets its contract: the messages that wait are listed anew; some item is pending
-- where one is listed or a broadcast waits.
use mathlib.Core.Path.{sym, ap, ◌∙◌}
use mathlib.Core.Bool.{Bool, ◌||◌}
use Prim.Native.Nat.{ℕ}
use native.Mathlib.Omega.{arith}
use borrow.Author.Tests.{lt-ltb}
use Rattle.lists.specs.Lists.{any, below}
use Rattle.log_queries.specs.Reading.{part}
use Rattle.plan_index.specs.declared.PlanIndex.{PlanIndex}
use Rattle.plan_index.specs.Index.{laid}
use Rattle.log_rows.specs.Rows.{rows_of}
use Rattle.planner_nodes.specs.Nodes.{nodes_of}
use Rattle.planner_sends.specs.Packing.{pending_by}
use Rattle.planner_sends.specs.Pending.{waits_to_send, waits_to_broadcast}
use Rattle.planner_sends.specs.NextSends.{pending_in}
use Rattle.planner_sends.proofs.Rests.{relists}
use Rattle.planner_sends.proofs.Waits.{some_waits, none_waits}
use Rattle.planner_sends.proofs.next_sends.has_pending.Goals as goal
use Rattle.planner_sends.proofs.next_sends.has_pending.Goals.{Start}

pub queuefirst_of-a-requires : goal.queuefirst_of-a-requires
queuefirst_of-a-requires c = (omega (arith, c.requires.0, c.requires.1.few_slots), c.requires.1)

pub overflow_add-n : goal.overflow_add-n
overflow_add-n c = omega (arith, c.requires.0, c.requires.1.few_slots)

pub queuefirst_of-b-requires : goal.queuefirst_of-b-requires
queuefirst_of-b-requires c = (omega (arith, c.requires.0, c.requires.1.few_slots), c.requires.1)

pub find_waiting-z-requires : goal.find_waiting-z-requires
find_waiting-z-requires c =
    (omega (arith, c.queuefirst_of-a.ensures.0, c.queuefirst_of-b.ensures.0, c.requires.2.queue_rising c.args.n c.requires.0), c.queuefirst_of-b.ensures.1, c.requires.1, c.requires.3)

pub put_waitend-requires : goal.put_waitend-requires
put_waitend-requires c = omega (arith, c.requires.0, c.requires.1.few_slots)

-- the test that the messages pass, and the broadcasts
abbrev waits : Start → ℕ → Bool
waits s = let a = s.args in waits_to_send (laid a.index.now) (rows_of a.rows.now) a.u

abbrev pending_broadcasts : Start → Bool
pending_broadcasts s = let a = s.args in any (waits_to_broadcast (laid a.index.now) (rows_of a.rows.now) a.n a.u) (below (laid a.index.now).conditions)

pub returns-then-a-z : goal.returns-then-a-z
unfolding pending_in pending_by
returns-then-a-z c =
    let a = c.args in
    let b : PlanIndex = laid a.index.now in
    let e = c.find_waiting-z.ensures in
    let qx = c.queuefirst_of-a.ensures.0 in
    let qy = c.queuefirst_of-b.ensures.0 in
    let some = some_waits (waits c.before.before.before.before.before.before.before) (part b.queue c.queuefirst_of-a.result c.queuefirst_of-b.result) (nodes_of a.nodes.now).wait _ _ _ e.listed c.if-a-z.true in record { pending = lt-ltb _ _ c.if-a-z.true ∙ sym ((λ i. any (waits c.before.before.before.before.before.before.before) (part b.queue (sym qx i) (sym qy i)) || pending_broadcasts c.before.before.before.before.before.before.before) ∙ ap (λ (t : Bool). t || pending_broadcasts c.before.before.before.before.before.before.before) some); waits = relists b (rows_of a.rows.now) a.u a.n (nodes_of a.nodes.now) _ _ _ _ _ qx qy e.listed e.upto e.rest c.put_waitend.ensures }

pub returns-else-a-z : goal.returns-else-a-z
unfolding pending_in pending_by
returns-else-a-z c =
    let a = c.args in
    let b : PlanIndex = laid a.index.now in
    let e = c.find_waiting-z.ensures in
    let qx = c.queuefirst_of-a.ensures.0 in
    let qy = c.queuefirst_of-b.ensures.0 in
    let none = none_waits (waits c.before.before.before.before.before.before.before.before) (part b.queue c.queuefirst_of-a.result c.queuefirst_of-b.result) (nodes_of a.nodes.now).wait _ _ _ e.listed (omega (arith, c.if-a-z.false)) in record { pending = c.has_broadcast.ensures ∙ sym ((λ i. any (waits c.before.before.before.before.before.before.before.before) (part b.queue (sym qx i) (sym qy i)) || pending_broadcasts c.before.before.before.before.before.before.before.before) ∙ ap (λ (t : Bool). t || pending_broadcasts c.before.before.before.before.before.before.before.before) none); waits = relists b (rows_of a.rows.now) a.u a.n (nodes_of a.nodes.now) _ _ _ _ _ qx qy e.listed e.upto e.rest c.put_waitend.ensures }
