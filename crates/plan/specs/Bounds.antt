-- What refusal 2 leaves of the counts of a plan, and refusal 6 of the ends of its edges.
-- Assumes nothing.
use Rattle.std.specs.Prelude.{ℕ, ◌<◌, ◌≤◌, length}
use Rattle.limits.specs.Limits.{SLOTS, PROCESSES, CONDITIONS, EDGES}
use Rattle.model.specs.Plan.{Lines, edge}
use Rattle.plan.specs.declared.Plan.{Plan}

pub record Few (p : Plan) : Type 0 where
  pub slots : p.slots ≤ SLOTS
  pub processes : p.processes ≤ PROCESSES
  pub conditions : p.conditions ≤ CONDITIONS
  pub edges : p.edges ≤ EDGES

-- the ends of each edge are processes
pub record Ended (p : Lines) : Type 0 where
  pub from : (i : ℕ) → i < length p.edges → (edge p i).from < length p.processes
  pub to : (i : ℕ) → i < length p.edges → (edge p i).to < length p.processes
