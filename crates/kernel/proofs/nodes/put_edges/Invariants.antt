-- `kernel::put_edges` meets its contract: before turn i the rows of the first i edges have their nodes.
use mathlib.Core.Path.{◌≡◌}
use Prim.Native.Nat.{◌+◌, ◌≤◌}
use Rattle.kernel.specs.Finding.{nodes_to}
use Rattle.kernel.proofs.nodes.put_edges.Given as goal

abbrev pub invariant-loop-i : goal.invariant-loop-i
invariant-loop-i l = (l.i ≤ l.p.edges) × (l.node ≡ nodes_to l.p (l.p.processes + l.i))
