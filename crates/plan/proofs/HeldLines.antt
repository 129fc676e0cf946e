-- A line in memory holds the line that it stands for, and a line is what the line that holds it stands for.
-- Assumes nothing.
use mathlib.Core.Path.{◌≡◌, refl}
use mathlib.Core.Bool.{true, false}
use Rattle.model.specs.Plan.{waits_all, waits_any, always, on}
use Rattle.model.specs.Plan as m
use Rattle.plan.specs.declared.Waits.{Waits}
use Rattle.plan.specs.declared.Waits.TheVariants.{All, Any}
use Rattle.plan.specs.declared.When.{When}
use Rattle.plan.specs.declared.When.TheVariants.{Always, True, False}
use Rattle.plan.specs.declared.Process.{Process}
use Rattle.plan.specs.declared.Edge.{Edge}
use Rattle.plan.specs.Memory.{waits_of, when_of, process_of, edge_of, held_waits, held_when, held_process, held_edge}

waits_held : (w : Waits) → held_waits (waits_of w) ≡ w
waits_held All = refl
waits_held Any = refl

held_waits_of : (w : m.Waits) → waits_of (held_waits w) ≡ w
held_waits_of waits_all = refl
held_waits_of waits_any = refl

when_held : (w : When) → held_when (when_of w) ≡ w
when_held Always = refl
when_held (True k) = refl
when_held (False k) = refl

held_when_of : (w : m.When) → when_of (held_when w) ≡ w
held_when_of always = refl
held_when_of (on true k) = refl
held_when_of (on false k) = refl

pub process_held : (q : Process) → held_process (process_of q) ≡ q
process_held q = λ i. record { node = q.node; ticks = q.ticks; waits = waits_held q.waits i }

pub held_process_of : (q : m.Process) → process_of (held_process q) ≡ q
held_process_of q = λ i. record { node = q.node; ticks = q.ticks; waits = held_waits_of q.waits i }

pub edge_held : (e : Edge) → held_edge (edge_of e) ≡ e
edge_held e = λ i. record { from = e.from; to = e.to; bytes = e.bytes; when = when_held e.when i }

pub held_edge_of : (e : m.Edge) → edge_of (held_edge e) ≡ e
held_edge_of e = λ i. record { from = e.from; to = e.to; bytes = e.bytes; when = held_when_of e.when i }
