-- Document 01, "The bus": slots, rounds, and the rows of what is placed on units and on the bus. Document 02, points 1
-- and 4: slots with a head, and the slot search.
-- Assumes nothing.
use Rattle.std.specs.Prelude.{ℕ, ◌+◌, ◌-◌, ◌*◌, ◌%◌, Bool, List, [], ◌∷◌, map, eqb, leb, ltb, length, if◌then◌else◌}
use Rattle.lists.specs.Lists.{sum, keep}
use Rattle.model.specs.Plan.{Lines, Slot, process, edge, decider}

-- Document 02, point 1: "a slot lasts (bytes + head) × byte ticks"
unfoldable pub slot_ticks : Lines → Slot → ℕ
slot_ticks p s = (s.bytes + p.plan.head) * p.plan.byte

-- "a round is the sum of its slots"
abbrev pub round : Lines → ℕ
round p = sum (map (slot_ticks p) p.slots)

-- the slot of a node, and the ticks from the beginning of a round to it
unfoldable pub slot_among : List Slot → ℕ → Slot
slot_among [] n = record { node = n; bytes = 0 }
slot_among (s ∷ ss) n = if eqb s.node n then s else slot_among ss n

unfoldable pub slot_of : Lines → ℕ → Slot
slot_of p n = slot_among p.slots n

unfoldable pub offset_among : Lines → List Slot → ℕ → ℕ
offset_among p [] n = 0
offset_among p (s ∷ ss) n = if eqb s.node n then 0 else slot_ticks p s + offset_among p ss n

unfoldable pub offset : Lines → ℕ → ℕ
offset p n = offset_among p p.slots n

-- Document 02, point 4: "the beginning of the current round", the one that tick t lies in; "round 0 begins at tick 0"
abbrev pub round_beginning : Lines → ℕ → ℕ
round_beginning p t = t - t % round p

-- Document 02, point 4: "The search gives the first beginning of a node's slot at or after a tick": in the round of the
-- tick if that is not past, or else in the next.
unfoldable pub first_beginning : Lines → ℕ → ℕ → ℕ
first_beginning p n t = round_beginning p t + (if leb (t % round p) (offset p n) then offset p n else round p + offset p n)

-- a node's slot begins at a tick; the slots that begin at it
unfoldable pub begins : Lines → ℕ → ℕ → Bool
begins p n t = eqb (first_beginning p n t) t

unfoldable pub beginning : Lines → ℕ → List Slot
beginning p t = keep (λ s. begins p s.node t) p.slots

-- "Rows: processes, then edges, then conditions."
abbrev pub edge_row : Lines → ℕ → ℕ
edge_row p e = length p.processes + e

abbrev pub condition_row : Lines → ℕ → ℕ
condition_row p k = length p.processes + length p.edges + k

abbrev pub rows : Lines → ℕ
rows p = length p.processes + length p.edges + length p.conditions

-- a row is a process's; it is a process's or an edge's
abbrev pub is_process : Lines → ℕ → Bool
is_process p r = ltb r (length p.processes)

abbrev pub is_edge : Lines → ℕ → Bool
is_edge p r = ltb r (length p.processes + length p.edges)

-- the edge and the condition of a row
abbrev pub row_edge : Lines → ℕ → ℕ
row_edge p r = r - length p.processes

abbrev pub row_condition : Lines → ℕ → ℕ
row_condition p r = r - (length p.processes + length p.edges)

-- The process that a row belongs to: itself; "an edge or broadcast counts to its sender".
unfoldable pub sender : Lines → ℕ → ℕ
sender p r = if is_process p r then r else if is_edge p r then (edge p (row_edge p r)).from else decider p (row_condition p r)

unfoldable pub row_node : Lines → ℕ → ℕ
row_node p r = (process p (sender p r)).node

-- the bytes of an item: a message's, and 1 of a broadcast
unfoldable pub row_bytes : Lines → ℕ → ℕ
row_bytes p r = if is_edge p r then (edge p (row_edge p r)).bytes else 1

-- From an item's tick until it has arrived: one slot length.
unfoldable pub transit : Lines → ℕ → ℕ
transit p r = slot_ticks p (slot_of p (row_node p r))
