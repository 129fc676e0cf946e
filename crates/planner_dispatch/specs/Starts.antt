-- The starts at one event, in the words of the arrays that hold the plan and a log (those of log_queries), the processes
-- of each node in dispatch order, and their ticks. `busy`, by node, has the clock at which its last process ends, 0 if
-- it has started none: the node is free where that is not after the clock `u`. The processes of node n are those of
-- `dispatch` from place dispatchfirst[n] to dispatchfirst[n + 1].
-- Assumes nothing.
use Rattle.std.specs.Prelude.{ℕ, zero, suc, ◌+◌, Bool, ◌&&◌, List, [], ◌∷◌, eqb, leb, get_or, set, if◌then◌else◌}
use Rattle.log_queries.specs.Reading.{part, ready_by}

-- the ends of the nodes' last processes, and the rows
pub record Ends : Type 0 where
  pub busy : List ℕ
  pub comes : List ℕ

-- the first of some processes that passes a test, or 64, which is no process
unfoldable pub first_of : (ℕ → Bool) → List ℕ → ℕ
first_of f [] = 64
first_of f (x ∷ xs) = if f x then x else first_of f xs

-- after the start of process x, or of none: the end of the node's last process, and the rows
unfoldable pub end_after : ℕ → ℕ → List ℕ → ℕ → ℕ
end_after x u ticks last = if eqb x 64 then last else u + get_or ticks x 0

unfoldable pub rows_after : ℕ → ℕ → List ℕ → List ℕ → List ℕ
rows_after x u ticks comes = if eqb x 64 then comes else set comes x (u + get_or ticks x 0)

module _ (processes : ℕ) (remote from knownby unmet run asany intofirst into : List ℕ) (u : ℕ) where
  -- a process has not started, and it is ready
  unfoldable pub can_start : List ℕ → ℕ → Bool
  can_start comes i = eqb (get_or comes i 0) 0 && ready_by from knownby unmet comes u processes remote run asany intofirst into i

  module _ (dispatchfirst dispatch ticks : List ℕ) where
    -- the process that a node starts, or 64
    unfoldable pub choice : ℕ → List ℕ → ℕ
    choice n comes = first_of (can_start comes) (part dispatch (get_or dispatchfirst n 0) (get_or dispatchfirst (n + 1) 0))

    -- a node starts, if it is free
    unfoldable pub start_by : ℕ → Ends → Ends
    start_by n s =
        if leb (get_or s.busy n 0) u
        then record {
          busy = set s.busy n (end_after (choice n s.comes) u ticks (get_or s.busy n 0));
          comes = rows_after (choice n s.comes) u ticks s.comes;
        }
        else s

    -- the nodes below n start, one after another
    unfoldable pub starts_by : ℕ → Ends → Ends
    starts_by zero s = s
    starts_by (suc n) s = start_by n (starts_by n s)
