-- Which `when`s a combination leaves unmet, by edge. The kind of a `when` is 0 where it is always met, 1 where it waits
-- for true, 2 for false.
-- Assumes nothing.
use Rattle.std.specs.Prelude.{List, ℕ, ◌/◌, ◌%◌, ◌^◌, eqb, if◌then◌else◌}
use Rattle.lists.specs.Lists.{fill}
use Rattle.plan.specs.Tests.{at}
use Rattle.plan_index.specs.declared.PlanIndex.{PlanIndex}

-- 1 where two numbers differ
abbrev pub differs : ℕ → ℕ → ℕ
differs a b = if eqb a b then 0 else 1

-- 1 where a `when` of this kind is not met by its condition's value, 1 for true and 0 for false
abbrev pub unmet_of : ℕ → ℕ → ℕ
unmet_of kind value = if eqb kind 0 then 0 else if eqb kind 1 then differs value 1 else differs value 0

-- the value of condition k in the combination with number c: bit k of c
abbrev pub value_of : ℕ → ℕ → ℕ
value_of c k = c / 2 ^ k % 2

-- for each of the first edges, whether its `when` is unmet in the combination with number c: 1, or 0
unfoldable pub unmet_by : List ℕ → List ℕ → ℕ → ℕ → List ℕ
unmet_by kind condition edges c = fill 128 (λ e. unmet_of (at kind e) (value_of c (at condition e))) edges

-- the same of the edges of a plan index
abbrev pub unmet_in : PlanIndex → ℕ → List ℕ
unmet_in b c = unmet_by b.kind b.condition b.edges c
