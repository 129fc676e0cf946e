-- Refusal 13 in the words of the arrays of a plan's plan index.
-- Assumes nothing.
use Rattle.std.specs.Prelude.{Bool, not, ◌&&◌, ◌||◌, List, ℕ, ◌-◌, eqb, leb, ltb, get_or}
use Rattle.std.specs.Int.Bits.{bit_and}
use Rattle.model.specs.Table.{Entry}
use Rattle.plan_index.specs.declared.PlanIndex.{PlanIndex}

-- 13: a row is that of an edge within one node
unfoldable pub local_row : ℕ → ℕ → List ℕ → ℕ → Bool
local_row processes conditionrow remote r = not (ltb r processes) && (ltb r conditionrow && eqb (get_or remote (r - processes) 0) 0)

-- 13 of one entry; `combinations` is how many combinations there are
unfoldable pub ill_formed_by : ℕ → ℕ → ℕ → ℕ → List ℕ → Entry → Bool
ill_formed_by processes conditionrow rows combinations remote e =
    leb rows e.row
    || (local_row processes conditionrow remote e.row
    || (leb combinations e.known
    || (not (eqb (bit_and e.values e.known) e.values)
    || (ltb 999999999 e.tick
    || (ltb 63 e.place
    || (ltb e.row processes && ltb 0 e.place))))))

-- the same by a plan index
module _ (b : PlanIndex) where
  abbrev pub is_local_row : ℕ → Bool
  is_local_row = local_row b.processes b.conditionrow b.remote

  abbrev pub is_ill_formed : ℕ → Entry → Bool
  is_ill_formed combinations = ill_formed_by b.processes b.conditionrow b.rows combinations b.remote
