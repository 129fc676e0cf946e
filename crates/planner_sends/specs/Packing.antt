-- What a slot takes, in the words of the arrays: `comes` and `place` by row, `decider` by condition, `node` by process,
-- `from`, `knownby`, `unmet` and `bytes` by edge. Condition k's row is conditionrow + k, edge e's is processes + e, and
-- the messages of the slot's node are those of `queue` from place a to before place b. The clock u is the tick plus 1.
-- Assumes nothing.
use Rattle.std.specs.Prelude.{ℕ, zero, suc, ◌+◌, ◌-◌, ◌≤◌, ◌<◌, Bool, true, not, ◌&&◌, ◌||◌, ◌≡◌, List, [], ◌∷◌, eqb, leb, ltb, length, get_or, set, if◌then◌else◌}
use Rattle.lists.specs.Lists.{any, below}
use Rattle.bitset.specs.Masks.{members, mask_from}
use Rattle.log_queries.specs.Reading.{came_by, placed_by, part, message_by}

-- the broadcast of a condition is ready and not sent
module _ (conditionrow : ℕ) (decider comes : List ℕ) (u : ℕ) where
  unfoldable pub ready_by : ℕ → Bool
  ready_by k = not (placed_by comes (conditionrow + k)) && came_by comes u (get_or decider k 0)

-- the same, and it is one of node n
module _ (conditionrow : ℕ) (decider node comes : List ℕ) (n u : ℕ) where
  unfoldable pub broadcasts_by : ℕ → Bool
  broadcasts_by k = (eqb (get_or node (get_or decider k 0) 0) n && not (placed_by comes (conditionrow + k))) && came_by comes u (get_or decider k 0)

-- the message of an edge is ready and not sent
module _ (processes : ℕ) (from knownby unmet comes : List ℕ) (u : ℕ) where
  unfoldable pub waits_by : ℕ → Bool
  waits_by e = not (placed_by comes (processes + e)) && message_by from knownby unmet comes u e

-- a node has an item that is ready and not sent
unfoldable pub pending_by : ℕ → ℕ → ℕ → List ℕ → List ℕ → List ℕ → List ℕ → List ℕ → List ℕ → List ℕ → ℕ → ℕ → ℕ → ℕ → Bool
pending_by processes conditionrow conditions decider node queue from knownby unmet comes n a b u =
    any (waits_by processes from knownby unmet comes u) (part queue a b) || any (broadcasts_by conditionrow decider node comes n u) (below conditions)

-- What a slot has taken: the bytes used, whether a ready item was not taken, and the two arrays by row.
pub record Load : Type 0 where
  pub used : ℕ
  pub short : Bool
  pub comes : List ℕ
  pub place : List ℕ

abbrev pub load : ℕ → Bool → List ℕ → List ℕ → Load
load used short comes place = record { used = used; short = short; comes = comes; place = place }

-- an item of some bytes is laid at the first byte that is free, and arrives at the slot's end
unfoldable pub laid : ℕ → ℕ → ℕ → Load → Load
laid end row bytes s = load (s.used + bytes) s.short (set s.comes row end) (set s.place row s.used)

-- a ready item is not taken
unfoldable pub passed : Load → Load
passed s = load s.used true s.comes s.place

-- an item is taken if a byte is left and the bytes left are enough
unfoldable pub tried : ℕ → ℕ → ℕ → ℕ → Load → Load
tried room end row bytes s = if ltb s.used room && leb (s.used + bytes) room then laid end row bytes s else passed s

-- the broadcasts of some conditions, one byte each, are laid as long as one of n bytes is left
unfoldable pub broadcast_all : ℕ → ℕ → ℕ → List ℕ → Load → Load
broadcast_all conditionrow end n [] s = s
broadcast_all conditionrow end zero (k ∷ ks) s = s
broadcast_all conditionrow end (suc n) (k ∷ ks) s = broadcast_all conditionrow end n ks (laid end (conditionrow + k) 1 s)

-- the broadcasts of a mask in an empty slot
unfoldable pub all_broadcast : ℕ → ℕ → ℕ → ℕ → List ℕ → List ℕ → Load
all_broadcast conditionrow room end mask comes place = broadcast_all conditionrow end room (members mask) (load 0 (ltb room (length (members mask))) comes place)

module _ (processes : ℕ) (from knownby unmet bytes : List ℕ) (room u end : ℕ) where
  -- a message is tried if it waits
  unfoldable pub try_send : ℕ → Load → Load
  try_send e s = if waits_by processes from knownby unmet s.comes u e then tried room end (processes + e) (get_or bytes e 0) s else s

  unfoldable pub send_all : List ℕ → Load → Load
  send_all [] s = s
  send_all (e ∷ es) s = send_all es (try_send e s)

-- Messages that wait are tried one after another; those that are not taken are left; and the nodes that receive those
-- that are taken are reached at the slot's end.
module _ (processes : ℕ) (bytes : List ℕ) (room end : ℕ) where
  abbrev pub fits_in : ℕ → Load → Bool
  fits_in e s = ltb s.used room && leb (s.used + get_or bytes e 0) room

  abbrev pub try_one : ℕ → Load → Load
  try_one e s = tried room end (processes + e) (get_or bytes e 0) s

  unfoldable pub take_all : List ℕ → Load → Load
  take_all [] s = s
  take_all (e ∷ es) s = take_all es (try_one e s)

  unfoldable pub left_of : List ℕ → Load → List ℕ
  left_of [] s = []
  left_of (e ∷ es) s = if fits_in e s then left_of es (try_one e s) else e ∷ left_of es (try_one e s)

  unfoldable pub arrive_taken : List ℕ → List ℕ → Load → List ℕ → List ℕ
  arrive_taken remote [] s lastarrival = lastarrival
  arrive_taken remote (e ∷ es) s lastarrival = arrive_taken remote es (try_one e s) (if fits_in e s then set lastarrival (get_or remote e 0 - 1) end else lastarrival)

-- the nodes below n are reached at a slot's end
unfoldable pub arrive_all : ℕ → ℕ → List ℕ → List ℕ
arrive_all end zero lastarrival = lastarrival
arrive_all end (suc n) lastarrival = set (arrive_all end n lastarrival) n end

-- a message that arrives at `end` is noted at the node that receives it, whose number is one less than `to`
unfoldable pub arrive_one : ℕ → ℕ → ℕ → List ℕ → List ℕ
arrive_one come to end lastarrival = if eqb come end then set lastarrival (to - 1) end else lastarrival

module _ (processes : ℕ) (remote comes : List ℕ) (end : ℕ) where
  -- the messages of some edges; and a broadcast before them, which arrives at every node
  unfoldable pub arrive_each : List ℕ → List ℕ → List ℕ
  arrive_each [] lastarrival = lastarrival
  arrive_each (e ∷ es) lastarrival = arrive_each es (arrive_one (get_or comes (processes + e) 0) (get_or remote e 0) end lastarrival)

  unfoldable pub arrive_by : ℕ → ℕ → List ℕ → List ℕ → List ℕ
  arrive_by slots broadcastend es lastarrival = arrive_each es (if eqb broadcastend end then arrive_all end slots lastarrival else lastarrival)

-- Some numbers stand in an array from place a up to place r, and nothing else changed.
pub record Listed (before after : List ℕ) (a r : ℕ) (numbers : List ℕ) : Type 0 where
  pub from : a ≤ r
  pub holds : part after a r ≡ numbers
  pub under : (i : ℕ) → i < a → get_or after i 0 ≡ get_or before i 0
  pub past : (i : ℕ) → r ≤ i → get_or after i 0 ≡ get_or before i 0
  pub long : length after ≡ length before

-- the broadcasts that a slot takes
unfoldable pub broadcasts_sent : ℕ → ℕ → List ℕ → List ℕ → ℕ → ℕ → ℕ → ℕ → List ℕ → List ℕ → Load
broadcasts_sent conditionrow conditions decider node n room u end comes place =
    all_broadcast conditionrow room end (mask_from (broadcasts_by conditionrow decider node comes n u) 0 conditions) comes place

-- a broadcast is among what a slot takes
unfoldable pub with_broadcast : ℕ → ℕ → List ℕ → List ℕ → ℕ → ℕ → ℕ → ℕ → List ℕ → List ℕ → Bool
with_broadcast conditionrow conditions decider node n room u end comes place = ltb 0 (broadcasts_sent conditionrow conditions decider node n room u end comes place).used

-- all that a slot takes
unfoldable pub send_by : ℕ → ℕ → ℕ → List ℕ → List ℕ → List ℕ → List ℕ → List ℕ → List ℕ → List ℕ → ℕ → ℕ → ℕ → ℕ → ℕ → ℕ → List ℕ → List ℕ → Load
send_by processes conditionrow conditions decider node queue from knownby unmet bytes n a b room u end comes place =
    send_all processes from knownby unmet bytes room u end (part queue a b) (broadcasts_sent conditionrow conditions decider node n room u end comes place)
