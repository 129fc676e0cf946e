-- `plan::twin_edges` meets its contract: before each turn the marks are those of the pairs before, and what is left
-- gives the whole answer.
use mathlib.Core.Path.{◌≡◌, refl, sym, ap, ◌∙◌, subst}
use mathlib.Core.List.{List, map, Memᴰ as In}
use Prim.Native.Nat.{ℕ, ◌+◌, ◌*◌, ◌<◌}
use native.Mathlib.Omega.{arith}
use lib.ListN.{length, get_or, length-map, get_or-map}
use Rattle.lists.specs.Lists.{any, below, earlier}
use Rattle.lists.proofs.Loops.{left_start, left_next, left_found, left_none}
use Rattle.lists.proofs.Marks.{marked_start, marked_seen, marked_new, marked_next}
use Rattle.lists.proofs.Members.{map_in, below_in}
use Rattle.lists.proofs.Places.{list_below, repeated_places}
use Rattle.model.specs.Plan as m
use Rattle.model.specs.Refusals.{twin_edges}
use Rattle.plan.specs.declared.Edge.{Edge}
use Rattle.plan.specs.Memory.{edge_of, no_edge}
use Rattle.plan.proofs.TestsOnLines.{edge_key, twins}
use Rattle.plan.proofs.any_tests.twin_edges.Invariants.{pair}
use Rattle.plan.proofs.any_tests.twin_edges.Goals as goal
use Rattle.plan.proofs.any_tests.twin_edges.Goals.{After-wide-in-loop-e}

-- both ends of each edge are below 64
abbrev Small : List Edge → Type 0
Small es = (i : ℕ) → i < length es → ((get_or es i no_edge).from < 64) × ((get_or es i no_edge).to < 64)

whole : (es : List Edge) → Small es → any (earlier (pair es)) (below (length es)) ≡ twin_edges (map edge_of es)
whole es small =
    repeated_places (edge_of no_edge) (map edge_of es) (length es) (length-map es edge_of) edge_key (pair es) (λ i l. ap edge_key (sym (get_or-map edge_of es i no_edge)))
    ∙ twins (map edge_of es) member
  where
    member : (e : m.Edge) → In e (map edge_of es) → (e.from < 64) × (e.to < 64)
    member e i =
        let r = map_in edge_of es i in
        let q = map_in (λ k. get_or es k no_edge) (below (length es)) (subst (λ (xs : List Edge). In r.0 xs) (sym (list_below no_edge es (length es) refl)) r.1) in
        rw r.2 (rw q.2 (small q.0 (below_in (length es) q.1)))

-- the place of a pair among the marks
place : (c : After-wide-in-loop-e) →
    let k = pair c.args.edges.now c.loop-e.e-index in
    (c.wide.result * 64 + c.wide-in-loop-e.result ≡ k) × (k < 4096)
place c =
    let s = c.requires c.loop-e.e-index c.loop-e-test.true in
    (rw (c.wide.ensures, c.wide-in-loop-e.ensures), omega (arith, s.0, s.1))

pub loop-e-init : goal.loop-e-init
loop-e-init c =
    let es = c.args.edges.now in
    (left_start (earlier (pair es)) (length es), marked_start (pair es) 4096 c.no_marks-seen.ensures)

pub returns-then-seen-k-eq1 : goal.returns-then-seen-k-eq1
returns-then-seen-k-eq1 c =
    let es = c.args.edges.now in
    let l = c.loop-e in
    let t = c.loop-e-test.true in
    let q = place (goal.at.returns-then-seen-k-eq1 c).After-wide-in-loop-e in
    sym (left_found (earlier (pair es)) (length es) l.e-index t (marked_seen (pair es) 4096 l.seen l.e-index l.invariant.1 q.1 (rw q.0 at c.if-seen-k-eq1.true)) l.invariant.0)
    ∙ whole es c.requires

pub loop-e-preserved : goal.loop-e-preserved
loop-e-preserved c =
    let es = c.args.edges.now in
    let l = c.loop-e in
    let t = c.loop-e-test.true in
    let q = place (goal.at.loop-e-preserved c).After-wide-in-loop-e in (
      left_next (earlier (pair es)) (length es) l.e-index t (marked_new (pair es) 4096 l.seen l.e-index l.invariant.1 q.1 (rw q.0 at c.if-seen-k-eq1.false)) l.invariant.0,
      rw q.0 (marked_next (pair es) 4096 l.seen l.e-index l.invariant.1 q.1),
    )

pub returns : goal.returns
returns c =
    let es = c.args.edges.now in
    let l = c.loop-e in
    sym (left_none (earlier (pair es)) (length es) l.e-index c.loop-e-test.false l.invariant.0) ∙ whole es c.requires
