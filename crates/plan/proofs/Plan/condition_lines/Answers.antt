-- `plan::Plan::condition_lines` meets its contract.
use Prim.Native.Nat.{◌≤◌}
use native.Mathlib.Omega.{arith}
use lib.ListN.{length}
use Rattle.plan.proofs.TestsOnLines.{conditions_taken}
use Rattle.plan.proofs.Plan.condition_lines.Goals as goal

pub returns : goal.returns
returns c =
    let p = c.args.self.now in
    let l : p.conditions ≤ length p.condition = omega (arith, c.requires.conditions) in
    conditions_taken p l
