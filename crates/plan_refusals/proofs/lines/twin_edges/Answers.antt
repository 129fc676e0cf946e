-- `plan_refusals::twin_edges` meets its contract.
use mathlib.Core.Path.{◌≡◌, sym, ap, ◌∙◌}
use mathlib.Core.List.{List}
use Prim.Native.Nat.{◌<◌}
use native.Mathlib.Omega.{arith}
use lib.ListN.{length, get_or, get_or-map, length-map}
use Rattle.model.specs.Refusals.{twin_edges}
use Rattle.model.specs.Plan.{edge}
use Rattle.model.specs.Plan as m
use Rattle.plan.specs.Memory.{edge_of, no_edge, lines}
use Rattle.plan.proofs.TestsOnLines.{processes_length}
use Rattle.plan_refusals.proofs.lines.twin_edges.Goals as goal

pub twin_edges-requires : goal.twin_edges-requires
twin_edges-requires c = λ i l.
    let p = c.args.p.now in
    let es = c.edge_lines.result.now in
    let q = c.edge_lines.ensures in
    let e : edge (lines p) i ≡ edge_of (get_or es i no_edge) = ap (λ (xs : List m.Edge). get_or xs i (edge_of no_edge)) (sym q) ∙ get_or-map edge_of es i no_edge in
    let u : i < length (lines p).edges = omega (arith, l, length-map es edge_of, ap length q) in
    let few = c.requires.0.processes in
    let f : (get_or es i no_edge).from ≡ (edge (lines p) i).from = ap (λ (x : m.Edge). x.from) (sym e) in
    let t : (get_or es i no_edge).to ≡ (edge (lines p) i).to = ap (λ (x : m.Edge). x.to) (sym e) in
    (omega (arith, f, c.requires.1.from i u, processes_length p, few), omega (arith, t, c.requires.1.to i u, processes_length p, few))

pub returns : goal.returns
returns c = c.twin_edges.ensures ∙ ap twin_edges c.edge_lines.ensures
