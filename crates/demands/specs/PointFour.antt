-- Document 02, point 4: "Slot search without division." What the search gives, and what is carried along, in the
-- model's words; and that the two functions of `bus_timetable` by which planning and checking search give just that.
-- That nothing is divided by other than a fixed number is no statement about values: tests look at the sources and at
-- the machine code.
-- Assumes nothing.
use Rattle.std.specs.Prelude.{ℕ, ◌+◌, ◌*◌, ◌/◌, ◌≤◌, ◌<◌, ◌≡◌, true, false}
use mathlib.Core.List.{Memᴰ as In}
use Rattle.model.specs.Plan.{Lines, Slot}
use Rattle.model.specs.Bus.{round, offset, round_beginning, first_beginning, begins}
use Rattle.model.specs.Refusals.{nothing}
use Rattle.bus_timetable.proofs.first_beginning.Kinds as first-beginning-kinds
use Rattle.bus_timetable.proofs.first_beginning.Reads as first-beginning-reads
use Rattle.bus_timetable.proofs.round_beginning.Kinds as round-beginning-kinds
use Rattle.bus_timetable.proofs.round_beginning.Reads as round-beginning-reads
use Rattle.demands.specs.Calls.{Call}
use Rattle.demands.specs.Sentences.{plan_sentences, FirstOf}

-- `bus_timetable::first_beginning`: the ticks of a round, the beginning of the current round, the ticks from there to
-- the node's slot, a tick, and the answer
pub data FirstBeginning : (round begun offset tick answer : ℕ) → Type 0 where
  first_called : (c : Call first-beginning-kinds.ps first-beginning-kinds.r first-beginning-reads.Learnt) →
      FirstBeginning c.handed.0 c.handed.1.0 c.handed.1.1.0 c.handed.1.1.1.0 c.result

-- `bus_timetable::round_beginning`: the ticks of a round, their reciprocal, the beginning that is carried along, a tick,
-- and the answer
pub data RoundBeginning : (round reciprocal begun tick answer : ℕ) → Type 0 where
  round_called : (c : Call round-beginning-kinds.ps round-beginning-kinds.r round-beginning-reads.Learnt) →
      RoundBeginning c.handed.0 c.handed.1.0 c.handed.1.1.0 c.handed.1.1.1.0 c.result

pub record Point4 : Type 0 where
  -- "The search gives the first beginning of a node's slot at or after a tick": the slot begins there, not before the
  -- tick, and at no tick in between; and that is less than a round away
  pub begins_there : (p : Lines) → FirstOf (plan_sentences p) nothing → (s : Slot) → In s p.slots → (t : ℕ) →
      begins p s.node (first_beginning p s.node t) ≡ true
  pub at_or_after : (p : Lines) → FirstOf (plan_sentences p) nothing → (s : Slot) → In s p.slots → (t : ℕ) →
      t ≤ first_beginning p s.node t
  pub none_between : (p : Lines) → FirstOf (plan_sentences p) nothing → (s : Slot) → In s p.slots → (t u : ℕ) →
      t ≤ u → u < first_beginning p s.node t → begins p s.node u ≡ false
  pub within_a_round : (p : Lines) → FirstOf (plan_sentences p) nothing → (s : Slot) → In s p.slots → (t : ℕ) →
      first_beginning p s.node t < t + round p
  -- "carry the beginning of the current round along": rounds begin at the multiples of their ticks, and this is the
  -- last that is not after the tick
  pub multiple : (p : Lines) → FirstOf (plan_sentences p) nothing → (t : ℕ) → round_beginning p t ≡ t / round p * round p
  pub not_after : (p : Lines) → FirstOf (plan_sentences p) nothing → (t : ℕ) → round_beginning p t ≤ t
  pub the_last : (p : Lines) → FirstOf (plan_sentences p) nothing → (t : ℕ) → t < round_beginning p t + round p
  -- "Callers see the same contract": what the search of the code answers, and what it carries along
  pub searched : (p : Lines) (n t begun answer : ℕ) → FirstBeginning (round p) begun (offset p n) t answer →
      answer ≡ first_beginning p n t
  pub carried : (p : Lines) (t reciprocal begun answer : ℕ) → RoundBeginning (round p) reciprocal begun t answer →
      answer ≡ round_beginning p t
