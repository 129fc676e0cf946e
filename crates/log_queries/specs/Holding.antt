-- Arrays that hold a plan's lines and a combination, and an array by row that holds a log. Past the plan's lines the
-- arrays have 0, as the model's empty line has, so that what is said of an edge or of a process holds of every number.
-- Assumes nothing.
use Rattle.std.specs.Prelude.{◌≡◌, Bool, true, false, not, List, [], ◌∷◌, ℕ, suc, ◌+◌, ◌<◌, eqb, length, get_or}
use Rattle.std.specs.Bool.{beq}
use Rattle.limits.specs.Limits.{ROWS}
use Rattle.model.specs.Plan.{Lines, When, always, on, edge, into, local}
use Rattle.model.specs.Activity.{conjunction}
use Rattle.model.specs.Bus.{condition_row}
use Rattle.model.specs.Log.{Log, of_row, placed, full_ticks, span, over}
use Rattle.log_queries.specs.Reading.{came_by, placed_by, edges_into}

-- the row that makes the `when` of an edge from process i known: its condition's, or the sender's own where it is
-- always met
abbrev pub known_row : Lines → ℕ → When → ℕ
known_row p i always = i
known_row p i (on v k) = condition_row p k

-- a `when` is met in a combination
abbrev pub met_in : List Bool → When → Bool
met_in c always = true
met_in c (on v k) = beq (get_or c k false) v

pub record Holds (p : Lines) (c : List Bool) (from knownby unmet remote asany first edges : List ℕ) : Type 0 where
  pub senders : (e : ℕ) → get_or from e 0 ≡ (edge p e).from
  pub known_rows : (e : ℕ) → get_or knownby e 0 ≡ known_row p (edge p e).from (edge p e).when
  pub met : (e : ℕ) → eqb (get_or unmet e 0) 0 ≡ met_in c (edge p e).when
  pub locals : (e : ℕ) → eqb (get_or remote e 0) 0 ≡ local p e
  pub conjunctions : (i : ℕ) → not (eqb (get_or asany i 0) 0) ≡ conjunction p i
  pub leading : (i : ℕ) → i < length p.processes → edges_into first edges i ≡ into p i

pub record Logged (p : Lines) (log : Log) (comes : List ℕ) : Type 0 where
  pub over_by : (t : ℕ) → over p (full_ticks p) log t ≡ came_by comes (suc t)
  pub put_by : placed log ≡ placed_by comes

-- What two arrays by row hold of a row of a log: 0 where it is not placed, else the tick by which it is over, plus 1,
-- and its place.
pub data Row (p : Lines) (log : Log) (r come at : ℕ) : Type 0 where
  absent : of_row log r ≡ [] → come ≡ 0 → Row p log r come at
  stands : (t : ℕ) → of_row log r ≡ record { row = r; tick = t; place = at } ∷ [] → come ≡ suc (t + span p (full_ticks p) r) → Row p log r come at

-- Two arrays by row hold a log, each row of it once. A process has place 0 throughout.
pub record Held (p : Lines) (log : Log) (comes place : List ℕ) : Type 0 where
  pub row : (r : ℕ) → Row p log r (get_or comes r 0) (get_or place r 0)
  pub no_place : (i : ℕ) → i < length p.processes → get_or place i 0 ≡ 0
  pub comes_long : length comes ≡ ROWS
  pub place_long : length place ≡ ROWS

-- an array by process says what may run
abbrev pub Runs : List ℕ → List Bool → Type 0
Runs run may = (i : ℕ) → eqb (get_or run i 0) 0 ≡ not (get_or may i false)
