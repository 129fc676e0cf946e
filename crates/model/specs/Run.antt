-- Document 01, "A run": the log that units make by a table and the lookup's answers.
-- Assumes nothing.
use Rattle.std.specs.Prelude.{ℕ, zero, suc, Bool, not, ◌||◌, List, [], ◌∷◌, ◌++◌, map, length, get_or}
use Rattle.lists.specs.Lists.{keep, each, below}
use Rattle.model.specs.Plan.{Lines}
use Rattle.model.specs.Activity.{Heard}
use Rattle.model.specs.Bus.{is_process, is_edge, row_edge, row_condition}
use Rattle.model.specs.Log.{Placed, Log, over, known, message_ready, broadcast_ready}
use Rattle.model.specs.Table.{Entry, entries_of, known_bits, value_bits}
use Rattle.model.specs.Lookup.{Found, entry, none, refusal}

-- "A run is fed [..] the lookup's answers": to a node, a tick, heard bits, heard values and the entry to begin at.
abbrev pub Ask : Type 0
Ask = ℕ → ℕ → ℕ → ℕ → ℕ → Found

-- "beginning at entry 0, then one past each entry given, until it gives none or refuses". (As many calls as there are
-- entries, and one more, are always enough: laws.)
unfoldable pub calls : ℕ → (ℕ → Found) → ℕ → List ℕ
calls zero ask from = []
calls (suc left) ask from = elim (ask from) [ entry i ↦ i ∷ calls left ask (suc i) | none ↦ [] | refusal r ↦ [] ]

-- "one sent before it is ready, by this run's ends, counts for nothing": a broadcast before its decider's end, a
-- message before its sender's end or its known value. (`is_edge` holds of processes' rows too.)
unfoldable pub told_when_ready : Lines → List ℕ → Log → Placed → Bool
told_when_ready p times log x = is_edge p x.row || broadcast_ready p (over p times log x.tick) (row_condition p x.row)

unfoldable pub told : Lines → List ℕ → Log → Log
told p times log = keep (told_when_ready p times log) log

unfoldable pub sent_when_ready : Lines → List Bool → List ℕ → Log → Placed → Bool
sent_when_ready p c times log x =
    is_process p x.row || not (is_edge p x.row)
    || message_ready p (known p c (over p times (told p times log) x.tick)) (over p times log x.tick) (row_edge p x.row)

unfoldable pub counting : Lines → List Bool → List ℕ → Log → Log
counting p c times log = keep (sent_when_ready p c times log) (told p times log)

-- "A broadcast that arrives makes the combination's value heard", "the same at every unit".
unfoldable pub hears : Lines → List Bool → List ℕ → Log → ℕ → List Heard
hears p c times log t = known p c (over p times (counting p c times log) t)

-- "A process's entry starts it [..]; any other entry sends its item."
abbrev pub stamp : ℕ → Entry → Placed
stamp t e = record { row = e.row; tick = t; place = e.place }

abbrev pub entry_at : List ℕ → ℕ → Entry
entry_at words i = get_or (entries_of words) i (record { row = 0; known = 0; values = 0; tick = 0; place = 0 })

-- the entries given to a node at a tick
unfoldable pub given : List ℕ → Ask → ℕ → List Heard → ℕ → List ℕ
given words ask t h n = calls (suc (length (entries_of words))) (ask n t (known_bits h) (value_bits h)) 0

-- the log after one tick: "ends and arrivals first, then each unit calls the lookup with its node, the tick and the
-- values heard"
unfoldable pub tick_log : Lines → List ℕ → Ask → List Bool → List ℕ → ℕ → Log → Log
tick_log p words ask c times t log =
    let h : List Heard = hears p c times log t in
    each (λ n. map (λ i. stamp t (entry_at words i)) (given words ask t h n)) (below (length p.slots)) ++ log

-- the run before a tick: "at first there are none"
unfoldable pub run_before : Lines → List ℕ → Ask → List Bool → List ℕ → ℕ → Log
run_before p words ask c times zero = []
run_before p words ask c times (suc t) = tick_log p words ask c times t (run_before p words ask c times t)

-- "It takes each tick from 0 to 999,999,999 in turn". (`run_before` stays shut where this unfolds, so that nothing
-- computes it.)
unfoldable pub whole_run : Lines → List ℕ → Ask → List Bool → List ℕ → Log
whole_run p words ask c times = run_before p words ask c times 1000000000
