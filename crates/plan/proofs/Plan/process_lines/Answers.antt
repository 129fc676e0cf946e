-- `plan::Plan::process_lines` meets its contract.
use Prim.Native.Nat.{◌≤◌}
use native.Mathlib.Omega.{arith}
use lib.ListN.{length}
use Rattle.plan.proofs.TestsOnLines.{processes_taken}
use Rattle.plan.proofs.Plan.process_lines.Goals as goal

pub returns : goal.returns
returns c =
    let p = c.args.self.now in
    let l : p.processes ≤ length p.process = omega (arith, c.requires.processes) in
    processes_taken p l
