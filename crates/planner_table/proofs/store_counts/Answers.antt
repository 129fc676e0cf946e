-- `planner_table::store_counts` meets its contract: as many counts as there are slots are copied from the totals.
use Rattle.std.proofs.Common.{◌≡◌, sym, ap, ◌∙◌, ℕ, ◌+◌, ◌≤◌, ◌++◌, List, arith, length, take, drop, length-take-le}
use lib.Seq.{sets, sets-eq, slice}
use Rattle.lists.proofs.Parts.{slice_taken}
use Rattle.planner_table.proofs.CountsOfModel.{firsts_front}
use Rattle.planner_table.proofs.store_counts.Goals as goal

copied : (counts lent : List ℕ) (n : ℕ) → n ≤ length counts → n ≤ length lent → take n counts ++ drop n lent ≡ sets lent 0 (slice 0 (0 + n) counts)
copied counts lent n long room =
    let vs : List ℕ = take n counts in
    let z : 0 + length vs ≡ n = omega (arith, length-take-le n counts long) in
    sym (sets-eq vs lent 0 (omega (arith, z, room)) ∙ ap (λ (k : ℕ). vs ++ drop k lent) z) ∙ ap (sets lent 0) (slice_taken counts 0 n (omega arith))

pub returns : goal.returns
returns c =
    let a = c.args in
    let few : a.slots ≤ 8 = c.requires in
    firsts_front a.t.passed a.slots a.passed.now (omega (arith, few)) (omega (arith, few))
    (rw c.copy_from_slice.ensures.after (copied a.t.passed a.passed.now a.slots (omega (arith, few)) (omega (arith, few))))
