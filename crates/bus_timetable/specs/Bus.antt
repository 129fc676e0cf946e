-- The bus of a plan as arrays of numbers by node: the timetable of a plan's lines, and what a search in it gives.
-- Assumes nothing.
use Rattle.std.specs.Prelude.{◌≡◌, ℕ, ◌+◌, ◌-◌, ◌*◌, ◌/◌, ◌%◌, ◌≤◌, leb, length, if◌then◌else◌}
use Rattle.limits.specs.Limits.{NODES, BYTE, HEAD}
use Rattle.lists.specs.Lists.{fill}
use Rattle.model.specs.Plan.{Lines}
use Rattle.model.specs.Bus.{slot_ticks, round, slot_of, offset}
use Rattle.plan.specs.declared.PlanLine.{PlanLine}
use Rattle.bus_timetable.specs.declared.reciprocal.Share.{Share}
use Rattle.bus_timetable.specs.declared.Timetable.{Timetable}

-- The first beginning at or after tick t of a slot that lies `offset` ticks into each round.
unfoldable pub beginning_at : ℕ → ℕ → ℕ → ℕ
beginning_at round offset t =
    let gone : ℕ = t % round in
    (t - gone) + (if leb gone offset then offset else round + offset)

-- The beginning of the round that tick t lies in.
unfoldable pub round_beginning_at : ℕ → ℕ → ℕ
round_beginning_at round t = t - t % round

-- a beginning that is carried along: that of a round, at or before tick t
pub record Carried (round begun t : ℕ) : Type 0 where
  pub beginning : begun % round ≡ 0
  pub by : begun ≤ t

-- 2 to the 31: all ticks are below it, and a product with a reciprocal is divided by it
abbrev pub SCALE : ℕ
SCALE = 2147483648

-- the reciprocal of a round: how often it lies in as many ticks, less 1
unfoldable pub reciprocal_of : ℕ → ℕ
reciprocal_of round = (SCALE - 1) / round

-- how often a round lies in v ticks, and what is left of them
pub record Shared (round v : ℕ) (s : Share) : Type 0 where
  pub whole : s.whole ≡ v / round
  pub rest : s.rest ≡ v % round

-- the ticks of a slot of so many bytes
abbrev pub ticks_of : PlanLine → ℕ → ℕ
ticks_of line bytes = (bytes + line.head) * line.byte

-- what refusal 3 leaves of the plan line
pub record Short (line : PlanLine) : Type 0 where
  pub byte : line.byte ≤ BYTE
  pub head : line.head ≤ HEAD

-- the timetable of a plan's bus
unfoldable pub timetable : Lines → Timetable
timetable p =
    record {
      round = round p;
      reciprocal = reciprocal_of (round p);
      offset = fill NODES (offset p) (length p.slots);
      ticks = fill NODES (λ n. slot_ticks p (slot_of p n)) (length p.slots);
      bytes = fill NODES (λ n. (slot_of p n).bytes) (length p.slots);
    }
