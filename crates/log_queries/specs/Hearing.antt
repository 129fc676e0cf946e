-- Which processes may run, kept from one clock to the next.
-- Assumes nothing.
use Rattle.std.specs.Prelude.{ℕ, List, eqb, if◌then◌else◌}
use Rattle.log_queries.specs.Reading.{may_run_by}

-- What may run is worked out again where a value becomes known.
unfoldable pub heard_by : ℕ → ℕ → ℕ → List ℕ → List ℕ → List ℕ → List ℕ → List ℕ → List ℕ → List ℕ → List ℕ → List ℕ
heard_by broadcastend u processes from knownby unmet comes asany intofirst into run =
    if eqb broadcastend u then may_run_by from knownby unmet comes u asany intofirst into processes else run
