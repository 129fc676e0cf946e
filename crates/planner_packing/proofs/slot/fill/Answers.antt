-- `planner_packing::fill` meets its contract: what `send` leaves, and the ends and the count by the three tests.
use Rattle.std.specs.Prelude.{if◌then◌else◌}
use mathlib.Core.Path.{◌≡◌, ap, ◌∙◌}
use Prim.Native.Nat.{ℕ, ◌+◌}
use mathlib.Core.List.{List}
use native.Mathlib.Omega.{arith}
use lib.Dec.{eqb}
use lib.ListN.{get_or}
use borrow.Author.Tests.{eq-eqb, ne_eqb}
use Rattle.plan_index.specs.Index.{laid}
use Rattle.log_rows.specs.Rows.{Rows, rows_of}
use Rattle.planner_nodes.specs.Nodes.{Nodes, nodes_of}
use Rattle.planner_packing.specs.Slot.{fill_with, left_with, arrive_with}
use Rattle.planner_packing.specs.Sending.{bus_of, counted}
use Rattle.planner_packing.proofs.FilledParts.{when, unless, filled_parts}
use Rattle.planner_packing.proofs.Rests.{filled_join, listed_after, sends_same}
use Rattle.planner_packing.proofs.slot.fill.Goals as goal
use Rattle.planner_packing.proofs.slot.fill.Goals.{After-lasts_of, Joined-sent-eq0, then-sent-eq0, else-sent-eq0}

-- the end of the slot, as it is read
ending : (l : After-lasts_of) → l.args.u + l.lasts_of.result ≡ l.args.u + get_or (laid l.args.index.now).lasts l.args.n 0
ending l = ap (λ (x : ℕ). l.args.u + x) l.lasts_of.ensures

abbrev at-lasts : Joined-sent-eq0 → After-lasts_of
at-lasts j = j.before.before.before.before.before.before.before.before

-- the end of the last slot used, after the test of the bytes
end-used : (j : Joined-sent-eq0) → let a = (at-lasts j).before.args in
    j.if-sent-eq0.used ≡ (if eqb j.send-sent.result.used 0 then a.ends.slotend else a.u + get_or (laid a.index.now).lasts a.n 0)
end-used j =
    let l = at-lasts j in
    let a = l.before.args in
    let end = a.u + get_or (laid a.index.now).lasts a.n 0 in
    elim j.if-sent-eq0.branch [ then-sent-eq0 w ↦ w.used-is ∙ when a.ends.slotend end (eq-eqb _ _ w.if-sent-eq0.true) | else-sent-eq0 w ↦ w.used-is ∙ ending l ∙ unless a.ends.slotend end (ne_eqb _ _ w.if-sent-eq0.false) ]

pub overflow_add-end : goal.overflow_add-end
overflow_add-end c =
    omega (arith, c.lasts_of.ensures, c.requires.3.lasts_most c.args.n c.requires.0, c.requires.1)

pub overflow_cast-behind : goal.overflow_cast-behind
overflow_cast-behind c =
    omega (arith, c.send-sent.ensures.upto, c.requires.4.ends c.requires.0, c.requires.2.queue_firsts (c.args.n + 1))

pub pass_over-requires : goal.pass_over-requires
pass_over-requires c =
    let same = ap (λ (xs : List ℕ). get_or xs c.args.n 0) (λ i. (c.send-sent.ensures.nodes_rest i).passed) in
    (omega (arith, c.requires.0, c.requires.2.few_slots), omega (arith, same, c.requires.4.counts c.args.n, c.requires.1))

pub returns-then-sent : goal.returns-then-sent
unfolding fill_with left_with arrive_with
returns-then-sent c =
    let l = at-lasts c.before in
    let a = l.before.args in
    let s : Rows = rows_of a.rows.now in
    let ns : Nodes = nodes_of a.nodes.now in
    let end = a.u + get_or (laid a.index.now).lasts a.n 0 in
    let x = c.send-sent.result in
    let e = sends_same (ending l) c.send-sent.ensures in
    let p = c.pass_over.ensures in
    let count = (λ i. (p i).passed) ∙ (λ i. counted x.short a.n (e.nodes_rest i).passed) in
    record {
      taken = filled_parts a.n end (bus_of a.ends s ns) x.used x.short x.broadcast _ _ e.load e.broadcast (end-used c.before) (ending l ∙ when end a.ends.broadcastend c.if-sent.true) count;
      short = λ i. (e.load i).short;
      left = listed_after (λ i. (p i).wait) e.left;
      upto = e.upto;
      arrivals = (λ i. (p i).lastarrival) ∙ e.arrivals;
      rows_rest = e.rows_rest;
      nodes_rest = filled_join ns _ _ e.nodes_rest p;
    }

pub returns-else-sent : goal.returns-else-sent
unfolding fill_with left_with arrive_with
returns-else-sent c =
    let l = at-lasts c.before in
    let a = l.before.args in
    let s : Rows = rows_of a.rows.now in
    let ns : Nodes = nodes_of a.nodes.now in
    let end = a.u + get_or (laid a.index.now).lasts a.n 0 in
    let x = c.send-sent.result in
    let e = sends_same (ending l) c.send-sent.ensures in
    let p = c.pass_over.ensures in
    let count = (λ i. (p i).passed) ∙ (λ i. counted x.short a.n (e.nodes_rest i).passed) in
    record {
      taken = filled_parts a.n end (bus_of a.ends s ns) x.used x.short x.broadcast _ _ e.load e.broadcast (end-used c.before) (unless end a.ends.broadcastend c.if-sent.false) count;
      short = λ i. (e.load i).short;
      left = listed_after (λ i. (p i).wait) e.left;
      upto = e.upto;
      arrivals = (λ i. (p i).lastarrival) ∙ e.arrivals;
      rows_rest = e.rows_rest;
      nodes_rest = filled_join ns _ _ e.nodes_rest p;
    }
