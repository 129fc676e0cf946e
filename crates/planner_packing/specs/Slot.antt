-- What the slot of a node takes as it begins, in the words of the arrays, and what is kept by node of it: `lastarrival`
-- has the last clock at which an item arrives at the node. The clock is the tick plus 1.
-- Assumes nothing.
use Rattle.std.specs.Prelude.{ℕ, ◌+◌, ◌<◌, ◌≡◌, Bool, List, eqb, get_or, set, if◌then◌else◌}
use Rattle.planner_sends.specs.Packing.{Load, take_all, left_of, arrive_taken, arrive_all, broadcasts_sent, send_by, with_broadcast}
use Rattle.planner_sends.specs.NextSends.{Relisted}

-- what the bus leaves of an event
pub record Bus : Type 0 where
  pub slotend : ℕ
  pub broadcastend : ℕ
  pub comes : List ℕ
  pub place : List ℕ
  pub passed : List ℕ

abbrev pub bus : ℕ → ℕ → List ℕ → List ℕ → List ℕ → Bus
bus slotend broadcastend comes place passed = record { slotend = slotend; broadcastend = broadcastend; comes = comes; place = place; passed = passed }

-- the slot of node n, which ends at `end`, has taken its items, a broadcast among them or not
unfoldable pub filled : ℕ → ℕ → Load → Bool → Bus → Bus
filled n end l t s =
    bus (if eqb l.used 0 then s.slotend else end) (if t then end else s.broadcastend) l.comes l.place (if l.short then set s.passed n (get_or s.passed n 0 + 1) else s.passed)

-- what a slot takes first of all: its broadcasts; and then, of some messages that wait
module _ (processes conditionrow conditions : ℕ) (decider node bytes lasts rooms : List ℕ) (n u : ℕ) where
  abbrev pub broadcasts_in : List ℕ → List ℕ → Load
  broadcasts_in comes place = broadcasts_sent conditionrow conditions decider node n (get_or rooms n 0) u (u + get_or lasts n 0) comes place

  abbrev pub with_broadcast_in : List ℕ → List ℕ → Bool
  with_broadcast_in comes place = with_broadcast conditionrow conditions decider node n (get_or rooms n 0) u (u + get_or lasts n 0) comes place

  abbrev pub taken_in : List ℕ → List ℕ → List ℕ → Load
  taken_in messages comes place = take_all processes bytes (get_or rooms n 0) (u + get_or lasts n 0) messages (broadcasts_in comes place)

  -- the slot of node n takes its items, where these are the messages that wait
  unfoldable pub fill_with : List ℕ → Bus → Bus
  fill_with messages s = filled n (u + get_or lasts n 0) (taken_in messages s.comes s.place) (with_broadcast_in s.comes s.place) s

  -- the messages that are left, and the nodes that are reached
  unfoldable pub left_with : List ℕ → List ℕ → List ℕ → List ℕ
  left_with messages comes place = left_of processes bytes (get_or rooms n 0) (u + get_or lasts n 0) messages (broadcasts_in comes place)

  unfoldable pub arrive_with : List ℕ → ℕ → List ℕ → List ℕ → List ℕ → List ℕ → List ℕ
  arrive_with remote slots messages comes place lastarrival =
      arrive_taken processes bytes (get_or rooms n 0) (u + get_or lasts n 0) remote messages (broadcasts_in comes place) (if with_broadcast_in comes place then arrive_all (u + get_or lasts n 0) slots lastarrival else lastarrival)

module _ (processes conditionrow conditions : ℕ) (decider node queuefirst queue from knownby unmet bytes lasts rooms : List ℕ) where
  -- the slot of node n takes its items
  unfoldable pub fill_by : ℕ → ℕ → Bus → Bus
  fill_by n u s =
      let end : ℕ = u + get_or lasts n 0 in
      filled n end
      (send_by processes conditionrow conditions decider node queue from knownby unmet bytes n (get_or queuefirst n 0) (get_or queuefirst (n + 1) 0) (get_or rooms n 0) u end s.comes s.place)
      (with_broadcast conditionrow conditions decider node n (get_or rooms n 0) u end s.comes s.place) s

-- After a slot the messages that are left are listed anew; where none begins, nothing changed.
pub record SlotSent (slots n : ℕ) (queuefirst messages wait waitend wait' waitend' : List ℕ) : Type 0 where
  pub left : n < slots → Relisted queuefirst n messages wait waitend wait' waitend'
  pub kept : n ≡ slots → (wait' ≡ wait) × (waitend' ≡ waitend)
