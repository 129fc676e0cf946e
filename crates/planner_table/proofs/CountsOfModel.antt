-- The pass-over counts of the nodes, copied from the totals of all combinations, are the plan's at the front of what
-- was lent.
-- Assumes nothing.
use mathlib.Core.Path.{◌≡◌, sym, ap, ◌∙◌}
use mathlib.Core.List.{List, map}
use Prim.Native.Nat.{ℕ, ◌+◌, ◌≤◌}
use native.Mathlib.Omega.{arith}
use lib.ListN.{length, get_or, length-map}
use lib.Seq.{sets, slice, length-take-le, ext_get_or, get_or-take}
use Rattle.lists.specs.Lists.{below}
use Rattle.lists.specs.Front.{front}
use Rattle.lists.proofs.Keep.{length_upfrom, map_upfrom, getD_upfrom}
use Rattle.lists.proofs.Stores.{sets_front}
use Rattle.model.specs.Plan.{Lines}
use Rattle.model.specs.Table.{plans, passed_by, result}
use Rattle.planner_combinations.specs.declared.Totals.{Totals}
use Rattle.planner_combinations.specs.Combinations.{PlannedAll}

-- the first numbers of an array, one by one
abbrev firsts : List ℕ → ℕ → List ℕ
firsts counts slots = map (λ n. get_or counts n 0) (below slots)

firsts_many : (counts : List ℕ) (slots : ℕ) → length (firsts counts slots) ≡ slots
firsts_many counts slots = length-map (below slots) (λ n. get_or counts n 0) ∙ length_upfrom 0 slots

firsts_are : (counts : List ℕ) (slots : ℕ) → slots ≤ length counts → slice 0 (0 + slots) counts ≡ firsts counts slots
firsts_are counts slots long =
    let many : length (slice 0 (0 + slots) counts) ≡ slots = omega (arith, length-take-le (0 + slots) counts (omega arith)) in
    ext_get_or 0 (slice 0 (0 + slots) counts) (firsts counts slots) (omega (arith, many, firsts_many counts slots)) (λ n l.
    let z : 0 + n ≡ n = omega arith in
    get_or-take (0 + slots) counts n 0 (omega arith) ∙ sym (getD_upfrom (λ k. get_or counts k 0) 0 slots n 0 (omega arith) ∙ ap (λ (k : ℕ). get_or counts k 0) z))

-- where they are copied, they stand at the front
pub firsts_front : (counts : List ℕ) (slots : ℕ) (lent : List ℕ) {now : List ℕ} → slots ≤ length counts → slots ≤ length lent →
    now ≡ sets lent 0 (slice 0 (0 + slots) counts) → now ≡ front (map (λ n. get_or counts n 0) (below slots)) lent
firsts_front counts slots lent long room e =
    e ∙ ap (sets lent 0) (firsts_are counts slots long) ∙ sets_front (firsts counts slots) lent (omega (arith, firsts_many counts slots))

-- the first counts of the totals, one for each slot, are the plan's, and so the plan's stand at the front
pub counts_front : (p : Lines) (lasting : List ℕ) (t : Totals) (comes place since : List ℕ) → PlannedAll p lasting t comes place since →
    (slots : ℕ) → slots ≡ length p.slots → (lent : List ℕ) {now : List ℕ} → now ≡ front (map (λ n. get_or t.passed n 0) (below slots)) lent →
    now ≡ front (result p).passed lent
unfolding result
counts_front p lasting t comes place since a slots many lent e =
    e
    ∙ ap (λ (k : ℕ). front (map (λ n. get_or t.passed n 0) (below k)) lent) many
    ∙ ap (λ (cs : List ℕ). front cs lent)
    (map_upfrom (λ n. get_or t.passed n 0) (passed_by (plans p)) 0 (length p.slots) (λ k l u. a.passed k (omega arith)))
