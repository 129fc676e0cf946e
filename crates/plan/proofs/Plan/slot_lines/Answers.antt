-- `plan::Plan::slot_lines` meets its contract.
use Prim.Native.Nat.{◌≤◌}
use native.Mathlib.Omega.{arith}
use lib.ListN.{length}
use Rattle.plan.proofs.TestsOnLines.{slots_taken}
use Rattle.plan.proofs.Plan.slot_lines.Goals as goal

pub returns : goal.returns
returns c =
    let p = c.args.self.now in
    let l : p.slots ≤ length p.slot = omega (arith, c.requires.slots) in
    slots_taken p l
