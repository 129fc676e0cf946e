-- One number of each line in memory, by the number of the line: 0 past the lines.
-- Assumes nothing.
use Rattle.std.specs.Prelude.{ℕ, List, get_or}
use Rattle.plan.specs.declared.Waits.{Waits}
use Rattle.plan.specs.declared.Waits.TheVariants.{All, Any}
use Rattle.plan.specs.declared.When.{When}
use Rattle.plan.specs.declared.When.TheVariants.{Always, True, False}
use Rattle.plan.specs.declared.Process.{Process}
use Rattle.plan.specs.declared.Edge.{Edge}
use Rattle.plan.specs.Memory.{no_process, no_edge}

abbrev pub any_number : Waits → ℕ
any_number All = 0
any_number Any = 1

abbrev pub kind_number : When → ℕ
kind_number Always = 0
kind_number (True k) = 1
kind_number (False k) = 2

abbrev pub condition_number : When → ℕ
condition_number Always = 0
condition_number (True k) = k
condition_number (False k) = k

abbrev pub node_at : List Process → ℕ → ℕ
node_at qs i = (get_or qs i no_process).node

abbrev pub ticks_at : List Process → ℕ → ℕ
ticks_at qs i = (get_or qs i no_process).ticks

abbrev pub any_at : List Process → ℕ → ℕ
any_at qs i = any_number (get_or qs i no_process).waits

abbrev pub from_at : List Edge → ℕ → ℕ
from_at es e = (get_or es e no_edge).from

abbrev pub to_at : List Edge → ℕ → ℕ
to_at es e = (get_or es e no_edge).to

abbrev pub bytes_at : List Edge → ℕ → ℕ
bytes_at es e = (get_or es e no_edge).bytes

abbrev pub kind_at : List Edge → ℕ → ℕ
kind_at es e = kind_number (get_or es e no_edge).when

abbrev pub condition_at : List Edge → ℕ → ℕ
condition_at es e = condition_number (get_or es e no_edge).when
