-- `read_passed` reads the passed lines as the grammar does: the counts of the nodes before `node` stand in front.
use Prim.Native.Nat.{◌≤◌, ◌<◌}
use mathlib.Core.Path.{refl}
use mathlib.Core.List.{[], ◌∷◌, ◌++◌}
use native.Mathlib.Omega.{arith}
use Rattle.listing_reader.proofs.PassedSoFar.{begun, over, missing, more}
use Rattle.listing_reader.proofs.passed.read_passed.Goals as goal

pub loop-node-init : goal.loop-node-init
loop-node-init c = ([], begun c.requires.0)

pub count_line-requires : goal.count_line-requires
count_line-requires c = c.loop-node.invariant.1.within

pub returns-in_err-count : goal.returns-in_err-count
returns-in_err-count c =
    rw c.from_residual.ensures (missing c.loop-node.invariant.1 (omega (arith, c.loop-node-test.true)) c.in_err-count.ensures)

pub loop-node-preserved : goal.loop-node-preserved
loop-node-preserved c =
    let count = c.in_ok-count.count in
    let node : c.loop-node.node < c.args.slots = omega (arith, c.loop-node-test.true) in
    (c.loop-node.invariant.0 ++ (count ∷ []), more c.loop-node.invariant.1 count node c.in_ok-count.ensures refl)

pub returns : goal.returns
returns c =
    let all : c.args.slots ≤ c.loop-node.node = omega (arith, c.loop-node-test.false) in
    over c.loop-node.invariant.1 all (omega (arith, c.requires.1, c.requires.2))
