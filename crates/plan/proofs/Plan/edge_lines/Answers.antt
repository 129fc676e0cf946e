-- `plan::Plan::edge_lines` meets its contract.
use Prim.Native.Nat.{◌≤◌}
use native.Mathlib.Omega.{arith}
use lib.ListN.{length}
use Rattle.plan.proofs.TestsOnLines.{edges_taken}
use Rattle.plan.proofs.Plan.edge_lines.Goals as goal

pub returns : goal.returns
returns c =
    let p = c.args.self.now in
    let l : p.edges ≤ length p.edge = omega (arith, c.requires.edges) in
    edges_taken p l
