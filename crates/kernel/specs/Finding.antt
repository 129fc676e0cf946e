-- What the lookup's answer stands for, the nodes of a plan's rows, and the search by them over a table's entries.
-- Assumes nothing.
use Rattle.std.specs.Prelude.{◌≡◌, ◌<◌, ◌/◌, Bool, true, false, ◌&&◌, List, [], ◌∷◌, Option, None, Some, Result, Ok, Err, ℕ, suc, eqb, ltb, length}
use Rattle.limits.specs.Limits.{ROWS}
use Rattle.lists.specs.Lists.{fill}
use Rattle.model.specs.Bus.{rows, row_node}
use Rattle.model.specs.Table.{Entry, bits_met}
use Rattle.model.specs.Lookup.{entry, none, refusal}
use Rattle.model.specs.Lookup as m
use Rattle.kernel_rows.specs.Entries.{entry_at}
use Rattle.plan.specs.declared.Plan.{Plan}
use Rattle.plan.specs.Memory.{lines}
use Rattle.plan.specs.Tests.{at}
use Rattle.kernel.specs.declared.nodes.RowNodes.{RowNodes}

-- the answer in memory to each answer of the model, with the number of a refusal
abbrev pub found_of : m.Found → Result (Option ℕ) ℕ
found_of (entry i) = Ok (Some i)
found_of none = Ok None
found_of (refusal n) = Err n

-- the nodes of the first n rows of a plan, in an array with zeros past them
abbrev pub nodes_to : Plan → ℕ → List ℕ
nodes_to p n = fill ROWS (row_node (lines p)) n

-- what the search asks of a plan: the nodes of all its rows, and how many there are
abbrev pub nodes_of : Plan → RowNodes
nodes_of p = let n : ℕ = rows (lines p) in record { node = nodes_to p n; rows = n }

-- an entry is of node n at tick t, and its column is met by the heard bits h with the values v; `nodes` has the node of
-- each row
unfoldable pub fits_by : List ℕ → ℕ → ℕ → ℕ → ℕ → ℕ → Entry → Bool
fits_by nodes rows n t h v e =
    ltb e.row rows && eqb (at nodes e.row) n && eqb e.tick t && bits_met 32 e.known e.values h v

-- the first of some entries that passes a test, where the first of them has number i
unfoldable pub find_by : (Entry → Bool) → List Entry → ℕ → m.Found
find_by f [] i = none
find_by f (e ∷ es) i = elim (f e) [ true ↦ entry i | false ↦ find_by f es (suc i) ]

-- n entries of words, of which `told` tells whether each passes a test
pub record TestsOf (told : ℕ → Bool → Type 0) (n : ℕ) (test : Entry → Bool) (words : List ℕ) : Type 0 where
  pub count : n ≡ length words / 5
  pub tests : (i : ℕ) (b : Bool) → i < n → told i b → b ≡ test (entry_at words i)
