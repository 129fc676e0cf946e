-- Document 01, "Planning": one combination, tick by tick.
-- Assumes nothing.
use Rattle.std.specs.Prelude.{ℕ, zero, suc, ◌+◌, ◌-◌, ◌*◌, Bool, true, false, not, ◌&&◌, ◌||◌, List, [], ◌∷◌, ◌++◌, map, eqb, leb, ltb, length, get_or, if◌then◌else◌}
use Rattle.lists.specs.Lists.{any, all, keep, first, each, sum, greatest}
use Rattle.lists.specs.Ordered.{sort}
use Rattle.model.specs.Plan.{Lines, Slot, Pick, by_urgency, by_number, process, edge, decider, processes, edges, conditions, into, out_of, local, unit, units}
use Rattle.model.specs.Activity.{Heard, may_meet, conjunction, may_run}
use Rattle.model.specs.Bus.{beginning, edge_row, condition_row, row_bytes, round}
use Rattle.model.specs.Log.{Placed, Log, placed, full_ticks, over, known, message_ready, broadcast_ready, delivered}

-- "Urgency of a process: its ticks plus the greatest urgency among those its edges lead to, 0 if none." Edges lead
-- upward, so the list is worked out from its end: the urgencies of n processes from process i on.
unfoldable pub urgencies_from : Lines → ℕ → ℕ → List ℕ
urgencies_from p i zero = []
urgencies_from p i (suc n) =
    let later : List ℕ = urgencies_from p (suc i) n in
    ((process p i).ticks + greatest (map (λ e. get_or later ((edge p e).to - suc i) 0) (out_of p i))) ∷ later

unfoldable pub urgencies : Lines → List ℕ
urgencies p = urgencies_from p 0 (length p.processes)

-- What the pick goes by, highest first, ties to the lower number: the urgency, or for pick number nothing, which leaves
-- the number.
unfoldable pub weights_by : Lines → Pick → List ℕ
weights_by p by_urgency = urgencies p
weights_by p by_number = []

unfoldable pub weights : Lines → List ℕ
weights p = weights_by p p.plan.pick

-- the processes in the order in which a free node picks, and the edges in the order in which a slot takes their
-- messages: "by urgency of the receiver, highest first, ties to the lower edge number (pick number: edge number alone)"
unfoldable pub dispatch_order : Lines → List ℕ
dispatch_order p = let w : List ℕ = weights p in sort (λ i. get_or w i 0) (processes p)

unfoldable pub queue : Lines → List ℕ
queue p = let w : List ℕ = weights p in sort (λ e. get_or w (edge p e).to 0) (edges p)

-- All that planning goes by at a tick, "arrivals first": the values heard, which processes may still run given these,
-- the rows that are over ("'By' and 'ready' include equality throughout"), and the rows placed. Nothing else of the
-- combination is seen.
pub record View : Type 0 where
  pub heard : List Heard
  pub runs : List Bool
  pub over : ℕ → Bool
  pub placed : ℕ → Bool

unfoldable pub view : Lines → List Bool → Log → ℕ → View
view p c log t =
    let done : ℕ → Bool = over p (full_ticks p) log t in
    let h : List Heard = known p c done in
    record { heard = h; runs = may_run p h; over = done; placed = placed log }

-- An edge "is known never to" deliver: "its `when` is known unmet, or its from process is known inactive".
unfoldable pub never : Lines → View → ℕ → Bool
never p v e = not (may_meet v.heard (edge p e).when) || not (get_or v.runs (edge p e).from false)

unfoldable pub comes : Lines → View → ℕ → Bool
comes p v e = delivered p v.heard v.over e

-- "An `all` process is ready when every edge into it has delivered. An `any` process is ready when at least one has and
-- each that has not is known never to".
unfoldable pub ready : Lines → View → ℕ → Bool
ready p v i =
    if conjunction p i
    then any (comes p v) (into p i) && all (λ e. comes p v e || never p v e) (into p i)
    else all (comes p v) (into p i)

-- a process of the unit has started and not ended; a unit is free
unfoldable pub occupies : Lines → View → ℕ → ℕ → Bool
occupies p v u i = eqb (unit p i) u && v.placed i && not (v.over i)

unfoldable pub free : Lines → View → ℕ → Bool
free p v u = not (any (occupies p v u) (processes p))

-- "Each free node starts its ready process of highest urgency, ties to the lower number."
unfoldable pub candidate : Lines → View → ℕ → ℕ → Bool
candidate p v u i = eqb (unit p i) u && not (v.placed i) && ready p v i

abbrev pub start_at : ℕ → ℕ → Placed
start_at t i = record { row = i; tick = t; place = 0 }

unfoldable pub unit_starts : Lines → View → ℕ → ℕ → Log
unit_starts p v t u = if free p v u then map (start_at t) (first (candidate p v u) (dispatch_order p)) else []

unfoldable pub starts : Lines → View → ℕ → Log
starts p v t = each (unit_starts p v t) (units p)

-- "At its beginning a slot takes items of its node ready by that tick": a broadcast of the node that waits, and a
-- message.
unfoldable pub waits_to_broadcast : Lines → View → ℕ → ℕ → Bool
waits_to_broadcast p v n k = eqb (process p (decider p k)).node n && not (v.placed (condition_row p k)) && broadcast_ready p v.over k

unfoldable pub waits_to_send : Lines → View → ℕ → ℕ → Bool
waits_to_send p v n e =
    eqb (process p (edge p e).from).node n && not (local p e) && not (v.placed (edge_row p e)) && message_ready p v.heard v.over e

-- "A slot takes pending broadcasts first, lowest condition number first; then messages".
unfoldable pub pending : Lines → View → ℕ → List ℕ
pending p v n =
    map (condition_row p) (keep (waits_to_broadcast p v n) (conditions p)) ++ map (edge_row p) (keep (waits_to_send p v n) (queue p))

-- "An item that does not fit the bytes left is passed over and the next is tried. Items lie side by side from byte 0."
-- `at` is the first byte that is left.
unfoldable pub pack : Lines → ℕ → ℕ → ℕ → List ℕ → Log
pack p size t at [] = []
pack p size t at (r ∷ rs) =
    elim (leb (at + row_bytes p r) size) [ true ↦ record { row = r; tick = t; place = at } ∷ pack p size t (at + row_bytes p r) rs | false ↦ pack p size t at rs ]

-- what a slot that begins takes. Document 02, point 1: "Capacity and places still count data only."
unfoldable pub takes : Lines → View → ℕ → Slot → Log
takes p v t s = pack p s.bytes t 0 (pending p v s.node)

-- a slot "in which a ready item of its node was not taken"
unfoldable pub passes_over : Lines → View → ℕ → Slot → Bool
passes_over p v t s = ltb (length (takes p v t s)) (length (pending p v s.node))

-- The log so far, and the sending nodes of the slots so far that passed a ready item over.
pub record State : Type 0 where
  pub log : Log
  pub passed : List ℕ

-- "arrivals first, then starts, then slots that begin". A process takes at least one tick, so that one started at this
-- tick has nothing to send at it: starts and slots go by the same view.
unfoldable pub sends : Lines → View → ℕ → Log
sends p v t = each (takes p v t) (beginning p t)

unfoldable pub step : Lines → View → ℕ → State → State
step p v t s =
    record { log = sends p v t ++ starts p v t ++ s.log; passed = map (λ b. b.node) (keep (passes_over p v t) (beginning p t)) ++ s.passed }

-- the state before a tick
unfoldable pub before : Lines → List Bool → ℕ → State
before p c zero = record { log = []; passed = [] }
before p c (suc t) = let s : State = before p c t in step p (view p c s.log t) t s

-- "No delay exceeds all ticks added up plus 2 × round × (edges + conditions)." By then everything due is placed and
-- over (laws), so that planning ends there.
abbrev pub bound : Lines → ℕ
bound p = sum (full_ticks p) + 2 * round p * (length p.edges + length p.conditions)

unfoldable pub planned : Lines → List Bool → State
planned p c = before p c (bound p)
