-- The clocks of an event, in the words of the arrays: for which nodes something is new, whose slot takes an item, when
-- a process next ends, and when the next event is. By node, `lastarrival` has the last clock at which an item arrives
-- at it, `busy` the end of its last process, and `nextsend` the clock at which its slot next takes an item, `no_event`
-- where it has none pending.
-- Assumes nothing.
use Rattle.std.specs.Prelude.{ℕ, zero, suc, min, Bool, ◌||◌, List, [], ◌∷◌, eqb, ltb, get_or, if◌then◌else◌}
use Rattle.limits.specs.Limits.{NEVER}
use Rattle.lists.specs.Lists.{below}

-- a clock that no event has: the answer where no event is left
abbrev pub no_event : ℕ
no_event = NEVER

-- an item arrives at node n at the clock, or its last process ends
unfoldable pub new_at : List ℕ → List ℕ → ℕ → ℕ → Bool
new_at lastarrival busy u n = eqb (get_or lastarrival n 0) u || eqb (get_or busy n 0) u

-- the first of some numbers that passes a test, or another
unfoldable pub first_or : ℕ → (ℕ → Bool) → List ℕ → ℕ
first_or d f [] = d
first_or d f (x ∷ xs) = if f x then x else first_or d f xs

-- the first node whose slot takes an item at the clock, or the number of slots
unfoldable pub sending_node_by : List ℕ → ℕ → ℕ → ℕ
sending_node_by nextsend u slots = first_or slots (λ n. eqb (get_or nextsend n 0) u) (below slots)

-- x where it lies after the clock and before the least so far, or else that
unfoldable pub sooner_by : ℕ → ℕ → ℕ → ℕ
sooner_by least x u = if ltb u x then if ltb x least then x else least else least

-- the next clock at which the slot under way ends or a process does, of the nodes below n
unfoldable pub come_by : ℕ → List ℕ → ℕ → ℕ → ℕ
come_by slotend busy u zero = sooner_by no_event slotend u
come_by slotend busy u (suc n) = sooner_by (come_by slotend busy u n) (get_or busy n 0) u

-- the next clock after u at which a process ends: worked out again where one ends at u; elsewhere at most one that
-- starts ends sooner, and `first` is the first end of those
unfoldable pub ends_now : ℕ → ℕ → List ℕ → ℕ → ℕ → ℕ
ends_now ends first busy u slots = if eqb ends u then come_by 0 busy u slots else min ends first

-- the clock at which the items that a node has pending may next change: the clock u where a broadcast arrives at it, or
-- else the next end of a process
unfoldable pub changes_at : ℕ → ℕ → ℕ → ℕ
changes_at broadcastend ends u = if eqb broadcastend u then u else ends

-- the next event: `come`, or when the slot of a node below n takes an item
unfoldable pub event_now : List ℕ → ℕ → ℕ → ℕ
event_now nextsend come zero = come
event_now nextsend come (suc n) = min (event_now nextsend come n) (get_or nextsend n 0)
