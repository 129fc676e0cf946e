-- Demand 3 as one statement about whole runs (DEMANDS.md; document 01, "A run").
-- Assumes nothing.
use Rattle.std.specs.Prelude.{ℕ, ◌+◌, ◌≤◌, ◌<◌, ◌≡◌, ◌⊎◌, Bool, true, false, length, get_or}
use mathlib.Core.List.{List, [], ◌∷◌, map, Memᴰ as In}
use Rattle.model.specs.Plan.{Lines, process, edge, unit}
use Rattle.model.specs.Activity.{active, carries}
use Rattle.model.specs.Log.{Log, of_row, full_ticks, over, delivered, delay}
use Rattle.model.specs.Table.{entries_of}
use Rattle.model.specs.Checking.{Sound}
use Rattle.model.specs.Lookup.{lookup}
use Rattle.model.specs.Run.{Ask, counting, hears, whole_run}

-- the ticks at which a process starts; it starts at one of them
unfoldable pub starts_of : Log → ℕ → List ℕ
starts_of log i = map (λ x. x.tick) (of_row log i)

pub record Starts (p : Lines) (log : Log) (i s : ℕ) : Type 0 where
  pub is_one : i < length p.processes
  pub at : In s (starts_of log i)

-- an edge has delivered by a tick, "by this run's ends and arrivals"
unfoldable pub delivers : Lines → List Bool → List ℕ → Log → ℕ → ℕ → Bool
delivers p c times log e t = delivered p (hears p c times log t) (over p times (counting p c times log) t) e

-- "each process that is due starts once, after its inputs, alone on its unit; none other starts; all end within the
-- stated delay"
pub record Right (p : Lines) (c : List Bool) (times : List ℕ) (stated : ℕ) (log : Log) : Type 0 where
  pub starts_once : (i : ℕ) → i < length p.processes → active p c i ≡ true → (s : ℕ) × (starts_of log i ≡ s ∷ [])
  pub none_other : (i : ℕ) → i < length p.processes → active p c i ≡ false → starts_of log i ≡ []
  pub after_inputs : (i s : ℕ) → Starts p log i s → (e : ℕ) → e < length p.edges → (edge p e).to ≡ i → carries p c e ≡ true → delivers p c times log e s ≡ true
  pub alone : (i j s u : ℕ) → Starts p log i s → Starts p log j u → (i ≡ j → ⊥) → unit p i ≡ unit p j → (s + get_or times i 0 ≤ u) ⊎ (u + get_or times j 0 ≤ s)
  pub in_time : (i s : ℕ) → Starts p log i s → s + get_or times i 0 ≤ stated

-- "for each process a running time from 0 to its ticks"
pub record Within (p : Lines) (times : List ℕ) : Type 0 where
  pub count : length times ≡ length p.processes
  pub bounded : (i : ℕ) → i < length p.processes → get_or times i 0 ≤ (process p i).ticks

-- the answers are the lookup's, to every question that a run can ask
abbrev pub Answered : Lines → List ℕ → Ask → Type 0
Answered p words ask =
    (n t h v from : ℕ) → n < length p.slots → t < 1000000000 → h < 64 → v < 64 → from ≤ length (entries_of words) →
    ask n t h v from ≡ lookup p words n t h v from

-- Demand 3 of a plan, a table's words, a stated delay and the lookup's answers: "for every combination, and whatever
-- time up to its ticks each process takes", the run is right; "If each takes its full ticks, some combination ends
-- exactly at that delay."
pub record RunsRight (p : Lines) (words : List ℕ) (stated : ℕ) (ask : Ask) : Type 0 where
  pub right : (c : List Bool) (times : List ℕ) → length c ≡ length p.conditions → Within p times →
      Right p c times stated (whole_run p words ask c times)
  pub exact : (c : List Bool) × (length c ≡ length p.conditions) × (delay p (full_ticks p) (whole_run p words ask c (full_ticks p)) ≡ stated)

abbrev pub SoundRunsRight : Type 0
SoundRunsRight = (p : Lines) (words : List ℕ) (stated : ℕ) (ask : Ask) → Sound p words stated → Answered p words ask → RunsRight p words stated ask
