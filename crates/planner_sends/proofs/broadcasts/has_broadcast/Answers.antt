-- `planner_sends::has_broadcast` meets its contract: the mask of the broadcasts is not empty.
use mathlib.Core.Path.{ap, ◌∙◌}
use mathlib.Core.Bool.{Bool, not}
use Prim.Native.Nat.{ℕ}
use native.Mathlib.Omega.{arith}
use Rattle.lists.specs.Lists.{null}
use Rattle.bitset.specs.Masks.{members}
use Rattle.bitset.proofs.Built.{built_small}
use Rattle.plan_index.specs.Index.{laid}
use Rattle.log_rows.specs.Rows.{rows_of}
use Rattle.planner_sends.specs.Pending.{waits_to_broadcast}
use Rattle.planner_sends.proofs.Scan.{built_some}
use Rattle.planner_sends.proofs.broadcasts.has_broadcast.Goals as goal
use Rattle.planner_sends.proofs.broadcasts.has_broadcast.Goals.{Start}

-- the broadcasts that wait
abbrev waits : Start → ℕ → Bool
waits s = let a = s.args in waits_to_broadcast (laid a.index.now) (rows_of a.rows.now) a.n a.u

pub is_empty-requires : goal.is_empty-requires
is_empty-requires c =
    omega (arith, c.pending_broadcasts.ensures, built_small (waits c.before) 0 (laid c.args.index.now).conditions 6 c.requires.1.few_conditions)

pub returns : goal.returns
returns c =
    ap not c.is_empty.ensures
    ∙ ap (λ (m : ℕ). not (null (members m))) c.pending_broadcasts.ensures
    ∙ built_some (waits c.before.before) (laid c.args.index.now).conditions c.requires.1.few_conditions
