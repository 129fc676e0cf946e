-- The fixed orders of planning, in the words of the model.
-- Assumes nothing.
use Rattle.std.specs.Prelude.{ℕ, not, ◌&&◌, List, eqb, length}
use Rattle.lists.specs.Lists.{keep}
use Rattle.model.specs.Plan.{Lines, process, edge, into, local, unit}
use Rattle.model.specs.Planning.{dispatch_order, queue}
use Rattle.plan_order.specs.declared.orders.Orders.{Orders}
use Rattle.plan_order.specs.Groups.{places, numbers}

-- the processes of a node in dispatch order
abbrev pub dispatch_at : Lines → ℕ → List ℕ
dispatch_at p u = keep (λ i. eqb (unit p i) u) (dispatch_order p)

-- the messages of a node in the order of the queue
abbrev pub queue_at : Lines → ℕ → List ℕ
queue_at p n = keep (λ e. eqb (process p (edge p e).from).node n && not (local p e)) (queue p)

-- the edges into each process, and the processes and the messages of each node in their order
unfoldable pub orders_of : Lines → Orders
orders_of p =
    record {
      intofirst = places (into p) (length p.processes);
      into = numbers (into p) (length p.processes);
      dispatchfirst = places (dispatch_at p) (length p.slots);
      dispatch = numbers (dispatch_at p) (length p.slots);
      queuefirst = places (queue_at p) (length p.slots);
      queue = numbers (queue_at p) (length p.slots);
    }
