-- `kernel::put_processes` meets its contract: before turn i the first i rows have their nodes.
use mathlib.Core.Path.{◌≡◌}
use Prim.Native.Nat.{◌≤◌}
use Rattle.kernel.specs.Finding.{nodes_to}
use Rattle.kernel.proofs.nodes.put_processes.Given as goal

abbrev pub invariant-loop-i : goal.invariant-loop-i
invariant-loop-i l = (l.i ≤ l.p.processes) × (l.node ≡ nodes_to l.p l.i)
