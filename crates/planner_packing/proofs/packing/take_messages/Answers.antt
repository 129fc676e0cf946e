-- `planner_packing::take_messages` meets its contract: in the outer loop the messages before place j are taken or left,
-- in the inner one those that do not fit are passed over.
use mathlib.Core.Path.{◌≡◌, refl, sym, ap, ◌∙◌, subst}
use Prim.Native.Nat.{ℕ, ◌+◌, ◌-◌, ◌≤◌, ◌<◌}
use native.Mathlib.Omega.{arith}
use mathlib.Core.List.{Memᴰ as In}
use mathlib.Core.Bool.{Bool, true}
use mathlib.Core.List.{List}
use lib.Dec.{leb}
use lib.ListN.{get_or, set}
use borrow.Author.Tests.{leb-true}
use Rattle.plan_index.specs.declared.PlanIndex.{PlanIndex}
use Rattle.plan_index.specs.Index.{laid}
use Rattle.log_rows.specs.Rows.{Rows, rows_of}
use Rattle.planner_nodes.specs.Nodes.{Nodes, nodes_of}
use Rattle.log_queries.specs.Reading.{part}
use Rattle.log_queries.proofs.ArrayParts.{in_part}
use Rattle.planner_sends.specs.Packing.{Load}
use Rattle.planner_sends.proofs.Places.{listed_from}
use Rattle.planner_sends.proofs.Taking.{passing_start, passing_next, Done, taking_as, done_as, taking_start, taking_next, done_end, done_full, done_passed, done_moved}
use Rattle.planner_packing.specs.Sending.{load_of}
use Rattle.planner_packing.proofs.Rests.{placed_join, taken_join, listed_after}
use Rattle.planner_packing.proofs.packing.take_messages.Goals as goal
use Rattle.planner_packing.proofs.packing.take_messages.Goals.{After-bytes_of-used, After-wide-e, At-slot, Left-slot, Start}

-- what is lent, as the definitions name it, and what the slot took first
abbrev plan : Start → PlanIndex
plan s = laid s.args.index.now

abbrev kept : Start → Nodes
kept s = nodes_of s.args.nodes.now

abbrev begun : Start → Load
begun s = load_of s.args.first.used s.args.first.short (rows_of s.args.rows.now)

abbrev log_at : At-slot → Rows
log_at o = rows_of o.slot.rows

abbrev kept_at : At-slot → Nodes
kept_at o = nodes_of o.slot.nodes

-- every number that stands in the array is that of an edge
small : (o : At-slot) → (i : ℕ) → get_or (kept_at o).wait i 0 < 128
small o i = o.slot.invariant.1.small 128 o.requires.4.wait_small i

-- whether the message at place j fits, as it is read
test : (bytes : List ℕ) (left e w : ℕ) (r : Bool) → r ≡ leb (get_or bytes e 0) left → e ≡ w → r ≡ leb (get_or bytes w 0) left
test bytes left e w r p q = p ∙ ap (λ (x : ℕ). leb (get_or bytes x 0) left) q

taken : (c : After-wide-e) → c.wide-e.result ≡ get_or (kept_at c.before.before.before.before.before.before.before.before.before.before).wait c.loop-short.j 0
taken c =
    c.wide-e.ensures ∙ c.wait_of-in-slot.ensures ∙ c.move_down-k.ensures.listed.past c.loop-short.j (omega (arith, c.move_down-k.ensures.behind, c.slot.invariant.0, c.slot.invariant.1.kept, c.loop-short.invariant.1.from))

taken-small : (c : After-wide-e) → c.wide-e.result < 128
taken-small c = omega (arith, taken c, small c.before.before.before.before.before.before.before.before.before.before c.loop-short.j)

taken_in : (c : After-wide-e) → In c.wide-e.result (part (kept c.before.before.before.before.before.before.before.before.before.before.before).wait c.args.a c.args.z)
taken_in c =
    let a = c.args in
    let ns : Nodes = kept c.before.before.before.before.before.before.before.before.before.before.before in
    subst (λ (x : ℕ). In x (part ns.wait a.a a.z)) (sym (taken c ∙ c.slot.invariant.1.listed.past c.loop-short.j (omega (arith, c.slot.invariant.1.kept, c.loop-short.invariant.1.from))))
    (in_part ns.wait a.a a.z c.loop-short.j (omega (arith, c.slot.invariant.1.listed.from, c.slot.invariant.1.kept, c.loop-short.invariant.1.from)) c.loop-short.invariant.0)

-- it fits the bytes that are left
taken-fits : (c : After-wide-e) → leb (get_or (laid c.args.index.now).bytes (get_or (nodes_of c.slot.nodes).wait c.loop-short.j 0) 0) (c.args.room - c.slot.used) ≡ true
taken-fits c =
    sym (test (laid c.args.index.now).bytes (c.args.room - c.slot.used) c.wait_of.result _ c.fits.result c.fits.ensures c.wait_of.ensures) ∙ c.loop-short-test.false

-- where the scan is left
done : (e : Left-slot) → let a = e.args in let b : PlanIndex = plan e.before.before in let ns : Nodes = kept e.before.before in let t : Rows = log_at e.before in let m : Nodes = kept_at e.before in
    Done b.processes b.bytes a.room a.end b.remote ns.wait a.a a.z (begun e.before.before) ns.lastarrival m.wait e.slot.used e.slot-test.short t.comes t.place m.lastarrival e.slot.k e.slot.j
done e =
    let a = e.args in
    let b : PlanIndex = plan e.before.before in
    let ns : Nodes = kept e.before.before in
    let t : Rows = log_at e.before in
    let m : Nodes = kept_at e.before in
    let h = e.slot.invariant.1 in
    elim e.slot-test.branch [
      | goal.else-slot-test w ↦
          done_as b.processes b.bytes a.room a.end b.remote ns.wait a.a a.z (begun e.before.before) ns.lastarrival m.wait e.slot.used _ _ t.comes t.place m.lastarrival e.slot.k e.slot.j w.short-is
          (done_end b.processes b.bytes a.room a.end b.remote ns.wait a.a a.z (begun e.before.before) ns.lastarrival m.wait e.slot.used e.slot.short t.comes t.place m.lastarrival e.slot.k e.slot.j h w.slot-test.false)
      | goal.then-slot-test+then-left-eq0 w ↦
          done_as b.processes b.bytes a.room a.end b.remote ns.wait a.a a.z (begun e.before.before) ns.lastarrival m.wait e.slot.used _ _ t.comes t.place m.lastarrival e.slot.k e.slot.j w.short-is
          (done_full b.processes b.bytes a.room a.end b.remote ns.wait a.a a.z (begun e.before.before) ns.lastarrival m.wait e.slot.used e.slot.short t.comes t.place m.lastarrival e.slot.k e.slot.j h w.slot-test.true (omega (arith, w.if-left-eq0.true)))
      | goal.then-slot-test+else-left-eq0+then-loop-short-test+then-j-z w ↦
          let read = test b.bytes (a.room - e.slot.used) w.wait_of.result (get_or m.wait w.loop-short.j 0) w.fits.result w.fits.ensures w.wait_of.ensures in
          done_as b.processes b.bytes a.room a.end b.remote ns.wait a.a a.z (begun e.before.before) ns.lastarrival m.wait e.slot.used _ _ t.comes t.place m.lastarrival e.slot.k e.slot.j w.short-is
          (done_passed b.processes b.bytes a.room a.end b.remote ns.wait a.a a.z (begun e.before.before) ns.lastarrival m.wait e.slot.used e.slot.short t.comes t.place m.lastarrival e.slot.k e.slot.j h (w.loop-short.j + 1) true
          (passing_next b.processes b.bytes a.room a.end b.remote m.wait a.z e.slot.used t.comes t.place e.slot.j e.slot.short w.loop-short.j w.loop-short.short h.low w.loop-short.invariant.0 (sym read ∙ w.loop-short-test.true) w.loop-short.invariant.1)
          (omega (arith, w.if-j-z.true)) (omega (arith, w.if-j-z.true)))
    ]

pub returns : goal.returns
returns c =
    let a = c.args in
    let b : PlanIndex = plan c.before.before.before.before in
    let ns : Nodes = kept c.before.before.before.before in
    let t : Rows = log_at c.before.before.before in
    let m : Nodes = kept_at c.before.before.before in
    let q = c.slot.invariant.0 in
    let d = done c.before.before in
    let g = c.move_down-behind.ensures in
    record {
      load = d.takes;
      left =
          done_moved b.processes b.bytes a.room a.end b.remote ns.wait a.a a.z (begun c.before.before.before.before) ns.lastarrival m.wait c.slot.used c.slot-test.short t.comes t.place m.lastarrival c.slot.k c.slot.j _ _ d
          (listed_from a.z q g.listed);
      upto = omega (arith, g.behind, q, c.slot.invariant.1.kept, c.slot.invariant.1.upto);
      arrivals = (λ i. (g.rest i).lastarrival) ∙ d.arriving;
      rows_rest = c.slot.invariant.2;
      nodes_rest = taken_join ns m _ c.slot.invariant.3 g.rest;
    }

pub slot-init : goal.slot-init
slot-init c =
    let a = c.args in
    let b : PlanIndex = plan c in
    let ns : Nodes = kept c in
    (refl, taking_start b.processes b.bytes a.room a.end b.remote ns.wait a.a a.z (begun c) ns.lastarrival c.requires.2 c.requires.0, refl, refl)

pub overflow_sub-left : goal.overflow_sub-left
overflow_sub-left c = c.slot.invariant.1.low

pub loop-short-init : goal.loop-short-init
loop-short-init c =
    let a = c.args in
    let b : PlanIndex = plan c.before.before.before in
    let t : Rows = log_at c.before.before in
    let m : Nodes = kept_at c.before.before in
    (c.slot-test.true, passing_start b.processes b.bytes a.room a.end b.remote m.wait a.z c.slot.used t.comes t.place c.slot.j c.slot.short)

pub wait_of-requires : goal.wait_of-requires
wait_of-requires c =
    omega (arith, c.loop-short.invariant.0, c.requires.1)

pub fits-requires : goal.fits-requires
fits-requires c =
    (omega (arith, c.wait_of.ensures, small c.before.before.before.before c.loop-short.j), c.requires.3)

pub overflow_add-j : goal.overflow_add-j
overflow_add-j c =
    omega (arith, c.loop-short.invariant.0, c.requires.1)

pub loop-short-smaller : goal.loop-short-smaller
loop-short-smaller c = omega (arith, c.loop-short.invariant.0)

pub loop-short-preserved : goal.loop-short-preserved
loop-short-preserved c =
    let a = c.args in
    let b : PlanIndex = laid a.index.now in
    let t : Rows = rows_of c.slot.rows in
    let m : Nodes = nodes_of c.slot.nodes in
    let fit = test b.bytes (a.room - c.slot.used) c.wait_of.result (get_or m.wait c.loop-short.j 0) c.fits.result c.fits.ensures c.wait_of.ensures in (
      omega (arith, c.loop-short.invariant.0, c.if-j-z.false),
      passing_next b.processes b.bytes a.room a.end b.remote m.wait a.z c.slot.used t.comes t.place c.slot.j c.slot.short c.loop-short.j c.loop-short.short c.slot.invariant.1.low c.loop-short.invariant.0 (sym fit ∙ c.loop-short-test.true) c.loop-short.invariant.1,
    )

pub move_down-k-requires : goal.move_down-k-requires
move_down-k-requires c =
    (omega (arith, c.slot.invariant.0, c.slot.invariant.1.kept), omega (arith, c.slot.invariant.0, c.loop-short.invariant.1.from), omega (arith, c.loop-short.invariant.0, c.requires.1), c.slot.invariant.1.listed.long ∙ c.requires.4.wait_long)

pub wait_of-requires-in-slot : goal.wait_of-requires-in-slot
wait_of-requires-in-slot c =
    omega (arith, c.loop-short.invariant.0, c.requires.1)

pub lay-requires : goal.lay-requires
lay-requires c =
    let p = (c.before.before.before.before.before.before.before.before.before.before.before.before).before.requires in
    (taken-small c.before.before, p.5 c.wide-e.result (taken_in c.before.before), p.3)

pub bytes_of-used-requires : goal.bytes_of-used-requires
bytes_of-used-requires c =
    (taken-small c.before.before.before, (c.before.before.before.before.before.before.before.before.before.before.before.before.before).before.requires.3)

-- the bytes of the message that is taken, as they are read
taken-bytes : (bytes : List ℕ) (r e w : ℕ) → r ≡ get_or bytes e 0 → e ≡ w → r ≡ get_or bytes w 0
taken-bytes bytes r e w p q = p ∙ ap (λ (x : ℕ). get_or bytes x 0) q

pub overflow_add-used : goal.overflow_add-used
overflow_add-used c =
    let b : PlanIndex = laid c.args.index.now in
    let l : get_or b.bytes (get_or (nodes_of c.slot.nodes).wait c.loop-short.j 0) 0 ≤ c.args.room - c.slot.used = leb-true _ _ (taken-fits c.before.before.before.before) in
    omega (arith, taken-bytes b.bytes c.bytes_of-used.result c.wide-e.result _ c.bytes_of-used.ensures.0 (taken c.before.before.before.before), l, c.slot.invariant.1.low, c.ranges.room)

pub overflow_add-j-in-slot : goal.overflow_add-j-in-slot
overflow_add-j-in-slot c =
    omega (arith, c.loop-short.invariant.0, c.requires.1)

pub slot-smaller : goal.slot-smaller
slot-smaller c =
    omega (arith, c.loop-short.invariant.0, c.loop-short.invariant.1.from)

pub slot-preserved : goal.slot-preserved
slot-preserved c =
    let a = c.args in
    let b : PlanIndex = laid a.index.now in
    let ns : Nodes = nodes_of a.nodes.now in
    let t : Rows = rows_of c.slot.rows in
    let m : Nodes = nodes_of c.slot.nodes in
    let y = c.lay.ensures in
    let g = c.move_down-k.ensures in
    let e = taken c.before.before.before.before in
    let q = c.slot.invariant.0 in (
      refl,
      taking_as b.processes b.bytes a.room a.end b.remote ns.wait a.a a.z (load_of a.first.used a.first.short (rows_of a.rows.now)) ns.lastarrival _ c.loop-short.short _ _
          (ap (λ (x : ℕ). c.slot.used + x) (taken-bytes b.bytes c.bytes_of-used.result c.wide-e.result _ c.bytes_of-used.ensures.0 e))
          ((λ i. (y.rows i).comes) ∙ ap (λ (x : ℕ). set t.comes (b.processes + x) a.end) e)
          ((λ i. (y.rows i).place) ∙ ap (λ (x : ℕ). set t.place (b.processes + x) c.slot.used) e)
          ((λ i. (y.arrivals i).lastarrival) ∙ (λ i. set (g.rest i).lastarrival (get_or b.remote (e i) 0 - 1) a.end))
          (taking_next b.processes b.bytes a.room a.end b.remote ns.wait a.a a.z (load_of a.first.used a.first.short (rows_of a.rows.now)) ns.lastarrival m.wait c.slot.used c.slot.short t.comes t.place m.lastarrival c.slot.k c.slot.j c.slot.invariant.1 c.loop-short.j c.loop-short.short c.loop-short.invariant.1 _ _ c.loop-short.invariant.0 c.if-left-eq0.false (taken-fits c.before.before.before.before)
          (listed_after (λ i. (y.arrivals i).wait) (listed_from c.loop-short.j q g.listed))
          (g.behind ∙ ap (λ (n : ℕ). c.slot.k + (c.loop-short.j - n)) q)),
      placed_join (rows_of a.rows.now) t _ c.slot.invariant.2 y.rows,
      taken_join ns _ _ (taken_join ns m _ c.slot.invariant.3 g.rest) y.arrivals,
    )

pub move_down-behind-requires : goal.move_down-behind-requires
move_down-behind-requires c =
    (omega (arith, c.slot.invariant.0, c.slot.invariant.1.kept), omega (arith, c.slot.invariant.0, c.slot.invariant.1.upto), c.requires.1, c.slot.invariant.1.listed.long ∙ c.requires.4.wait_long)
