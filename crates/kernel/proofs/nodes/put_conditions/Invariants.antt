-- `kernel::put_conditions` meets its contract: before turn i the rows of the first i conditions have their nodes.
use mathlib.Core.Path.{◌≡◌}
use Prim.Native.Nat.{◌+◌, ◌≤◌}
use Rattle.kernel.specs.Finding.{nodes_to}
use Rattle.kernel.proofs.nodes.put_conditions.Given as goal

abbrev pub invariant-loop-i : goal.invariant-loop-i
invariant-loop-i l = (l.i ≤ l.p.conditions) × (l.node ≡ nodes_to l.p (l.p.processes + l.p.edges + l.i))
