-- `plan_refusals::long_messages` meets its contract: what is left gives the whole answer.
use mathlib.Core.Path.{◌≡◌, sym, ap, ◌∙◌}
use mathlib.Core.List.{List, map}
use Prim.Native.Nat.{ℕ, ◌<◌}
use native.Mathlib.Omega.{arith}
use lib.ListN.{length, get_or, get_or-map, length-map}
use Rattle.lists.proofs.Loops.{left_start, left_next, left_found, left_none}
use Rattle.model.specs.Plan.{Lines, edge}
use Rattle.model.specs.Plan as m
use Rattle.model.specs.Refusals.{too_long}
use Rattle.plan.specs.declared.Edge.{Edge}
use Rattle.plan.specs.Memory.{edge_of, no_edge, lines}
use Rattle.plan.specs.Tests.{too_long_message}
use Rattle.plan.proofs.TestsOnLines.{processes_length}
use Rattle.plan_refusals.proofs.lines.long_messages.Goals as goal

-- an edge in the lines and in memory
same : (p : Lines) (es : List Edge) → map edge_of es ≡ p.edges → (i : ℕ) → edge p i ≡ edge_of (get_or es i no_edge)
same p es q i = ap (λ (xs : List m.Edge). get_or xs i (edge_of no_edge)) (sym q) ∙ get_or-map edge_of es i no_edge

inside : (p : Lines) (es : List Edge) → map edge_of es ≡ p.edges → (i : ℕ) → i < length es → i < length p.edges
inside p es q i l = omega (arith, l, length-map es edge_of, ap length q)

long : (p : Lines) (es : List Edge) → map edge_of es ≡ p.edges → (i : ℕ) → too_long_message p (edge_of (get_or es i no_edge)) ≡ too_long p i
unfolding too_long too_long_message
long p es q i = ap (too_long_message p) (sym (same p es q i))

pub loop-e-init : goal.loop-e-init
loop-e-init c = let p = lines c.args.p.now in left_start (too_long p) (length p.edges)

pub has_long_message-requires : goal.has_long_message-requires
has_long_message-requires c =
    let p = c.args.p.now in
    let es = c.edge_lines-e-items.result.now in
    let i = c.loop-e.e-index in
    let u = inside (lines p) es c.edge_lines-e-items.ensures i c.loop-e-test.true in
    let e = same (lines p) es c.edge_lines-e-items.ensures i in
    let f : (edge (lines p) i).from ≡ (get_or es i no_edge).from = ap (λ (x : m.Edge). x.from) e in
    let t : (edge (lines p) i).to ≡ (get_or es i no_edge).to = ap (λ (x : m.Edge). x.to) e in
    (c.requires.0, omega (arith, f, c.requires.1.from i u, processes_length p), omega (arith, t, c.requires.1.to i u, processes_length p))

pub returns-then-has_long_message : goal.returns-then-has_long_message
returns-then-has_long_message c =
    let p = lines c.args.p.now in
    let es = c.edge_lines-e-items.result.now in
    let q = c.edge_lines-e-items.ensures in
    let l = c.loop-e in
    sym (left_found (too_long p) (length p.edges) l.e-index (inside p es q l.e-index c.loop-e-test.true)
    (sym (long p es q l.e-index) ∙ sym c.has_long_message.ensures ∙ c.if-has_long_message.true) l.invariant)

pub loop-e-preserved : goal.loop-e-preserved
loop-e-preserved c =
    let p = lines c.args.p.now in
    let es = c.edge_lines-e-items.result.now in
    let q = c.edge_lines-e-items.ensures in
    let l = c.loop-e in
    left_next (too_long p) (length p.edges) l.e-index (inside p es q l.e-index c.loop-e-test.true)
    (sym (long p es q l.e-index) ∙ sym c.has_long_message.ensures ∙ c.if-has_long_message.false) l.invariant

pub returns : goal.returns
returns c =
    let p = lines c.args.p.now in
    let es = c.edge_lines-e-items.result.now in
    let q = c.edge_lines-e-items.ensures in
    let l = c.loop-e in
    sym (left_none (too_long p) (length p.edges) l.e-index (omega (arith, c.loop-e-test.false, length-map es edge_of, ap length q)) l.invariant)
