-- A log: "all starts and items so far with their ticks, items also with their place in the frame". Planning makes one,
-- the entries of a table that a combination meets are one, and a run makes one. What has ended, arrived, become known
-- or been delivered by a tick is read off a log here, once for all three. `times` has the running time of each process.
-- Assumes nothing.
use Rattle.std.specs.Prelude.{ℕ, ◌+◌, Bool, false, ◌&&◌, List, map, eqb, leb, get_or, if◌then◌else◌}
use Rattle.lists.specs.Lists.{keep, any, greatest}
use Rattle.model.specs.Plan.{Lines, edge, decider, conditions, local}
use Rattle.model.specs.Activity.{Heard, unheard, heard, meets}
use Rattle.model.specs.Bus.{is_process, edge_row, condition_row, transit}

-- a start of a process, or an item in a frame
pub record Placed : Type 0 where
  pub row : ℕ
  pub tick : ℕ
  pub place : ℕ

abbrev pub Log : Type 0
Log = List Placed

-- the starts or items of a row; a row has one
abbrev pub of_row : Log → ℕ → Log
of_row log r = keep (λ x. eqb x.row r) log

abbrev pub placed : Log → ℕ → Bool
placed log r = any (λ x. eqb x.row r) log

-- each process takes its full ticks
abbrev pub full_ticks : Lines → List ℕ
full_ticks p = map (λ q. q.ticks) p.processes

-- how long a row lasts: a process its running time, an item from its tick until it has arrived
unfoldable pub span : Lines → List ℕ → ℕ → ℕ
span p times r = if is_process p r then get_or times r 0 else transit p r

-- by tick t a row is over: the process has ended, the item has arrived
unfoldable pub over : Lines → List ℕ → Log → ℕ → ℕ → Bool
over p times log t r = any (λ x. eqb x.row r && leb (x.tick + span p times r) t) log

-- "on arrival the value is known at every node, the deciding one included, and not before". `done` says which rows are
-- over.
unfoldable pub known : Lines → List Bool → (ℕ → Bool) → List Heard
known p c done = map (λ k. if done (condition_row p k) then heard (get_or c k false) else unheard) (conditions p)

-- "A message that does not depend on a condition is ready at the sender's end, a conditional one when sender's end and
-- known value have both come."
unfoldable pub message_ready : Lines → List Heard → (ℕ → Bool) → ℕ → Bool
message_ready p h done e = done (edge p e).from && meets h (edge p e).when

-- a broadcast is "ready at the process's end"
unfoldable pub broadcast_ready : Lines → (ℕ → Bool) → ℕ → Bool
broadcast_ready p done k = done (decider p k)

-- "A local edge delivers at the tick it would be ready", another when its message has arrived.
unfoldable pub delivered : Lines → List Heard → (ℕ → Bool) → ℕ → Bool
delivered p h done e = if local p e then message_ready p h done e else done (edge_row p e)

-- "Delay of a combination is the last end of a process."
unfoldable pub process_end : Lines → List ℕ → Placed → ℕ
process_end p times x = if is_process p x.row then x.tick + get_or times x.row 0 else 0

unfoldable pub delay : Lines → List ℕ → Log → ℕ
delay p times log = greatest (map (process_end p times) log)
