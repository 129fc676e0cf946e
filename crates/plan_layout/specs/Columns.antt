-- One number of each line of a plan, by process and by edge, as lists that hold 0 past the lines.
-- Assumes nothing.
use Rattle.std.specs.Prelude.{List, ℕ, length}
use Rattle.limits.specs.Limits.{PROCESSES, EDGES}
use Rattle.lists.specs.Lists.{fill}
use Rattle.model.specs.Plan.{Lines, Waits, waits_all, waits_any, process, edge}
use Rattle.plan.specs.Kinds.{kind_of, condition_of}

pub record ProcessColumns : Type 0 where
  pub node : List ℕ
  pub ticks : List ℕ
  pub any : List ℕ

pub record EdgeColumns : Type 0 where
  pub from : List ℕ
  pub to : List ℕ
  pub bytes : List ℕ
  pub kind : List ℕ
  pub condition : List ℕ

-- 1 where a process line says `any`
unfoldable pub any_of : Waits → ℕ
any_of waits_all = 0
any_of waits_any = 1

unfoldable pub process_columns : Lines → ProcessColumns
process_columns p =
    record {
      node = fill PROCESSES (λ i. (process p i).node) (length p.processes);
      ticks = fill PROCESSES (λ i. (process p i).ticks) (length p.processes);
      any = fill PROCESSES (λ i. any_of (process p i).waits) (length p.processes);
    }

unfoldable pub edge_columns : Lines → EdgeColumns
edge_columns p =
    record {
      from = fill EDGES (λ e. (edge p e).from) (length p.edges);
      to = fill EDGES (λ e. (edge p e).to) (length p.edges);
      bytes = fill EDGES (λ e. (edge p e).bytes) (length p.edges);
      kind = fill EDGES (λ e. kind_of (edge p e).when) (length p.edges);
      condition = fill EDGES (λ e. condition_of (edge p e).when) (length p.edges);
    }
