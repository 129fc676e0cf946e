-- `plan::has_long_message` meets its contract.
use mathlib.Core.Path.{◌≡◌, sym, ap, ◌∙◌}
use mathlib.Core.List.{List, map}
use Prim.Native.Nat.{ℕ}
use native.Mathlib.Omega.{arith}
use lib.Dec.{ltb}
use lib.ListN.{length, get_or, get_or-map, length-map}
use borrow.Author.Tests.{eq-eqb, ne_eqb}
use Rattle.model.specs.Plan.{Slot, process}
use Rattle.model.specs.Plan as m
use Rattle.model.specs.Bus.{slot_among, slot_of}
use Rattle.plan.specs.declared.Process.{Process}
use Rattle.plan.specs.declared.Plan.{Plan}
use Rattle.plan.specs.Memory.{process_of, no_process, lines}
use Rattle.plan.specs.Tests.{too_long_message}
use Rattle.plan.proofs.TestsOnLines.{processes_length}
use Rattle.plan.proofs.fields.has_long_message.Goals as goal

-- where a process runs, in the lines and in memory
node : (p : Plan) (qs : List Process) → map process_of qs ≡ (lines p).processes → (i : ℕ) → (process (lines p) i).node ≡ (get_or qs i no_process).node
node p qs e i = ap (λ (xs : List m.Process). (get_or xs i (process_of no_process)).node) (sym e) ∙ ap (λ (q : m.Process). q.node) (get_or-map process_of qs i no_process)

long : (p : Plan) (qs : List Process) → map process_of qs ≡ (lines p).processes → length qs ≡ p.processes
long p qs e = sym (length-map qs process_of) ∙ ap length e ∙ processes_length p

pub bounds-processes-wide : goal.bounds-processes-wide
bounds-processes-wide c = omega (arith, c.requires.1, c.wide.ensures, long c.args.p.now _ c.process_lines-processes.ensures)

pub bounds-processes-wide-2 : goal.bounds-processes-wide-2
bounds-processes-wide-2 c = omega (arith, c.requires.2, c.wide-2.ensures, long c.args.p.now _ c.process_lines-processes.ensures)

pub returns-then-a-b : goal.returns-then-a-b
unfolding too_long_message slot_of
returns-then-a-b c =
    let p = c.args.p.now in
    let qs = c.process_lines-processes.result.now in
    let n = node p qs c.process_lines-processes.ensures in
    rw (sym c.wide.ensures, sym c.wide-2.ensures, n c.wide.result, n c.wide-2.result, ne_eqb _ _ c.if-a-b.true)
    (ap (λ (b : ℕ). ltb b c.args.e.now.bytes) (c.slot_bytes.ensures ∙ ap (λ (ss : List Slot). (slot_among ss (get_or qs c.wide.result no_process).node).bytes) c.slot_lines.ensures))

pub returns-else-a-b : goal.returns-else-a-b
unfolding too_long_message slot_of
returns-else-a-b c =
    let p = c.args.p.now in
    let qs = c.process_lines-processes.result.now in
    let n = node p qs c.process_lines-processes.ensures in
    rw (sym c.wide.ensures, sym c.wide-2.ensures, n c.wide.result, n c.wide-2.result, eq-eqb _ _ c.if-a-b.false)
