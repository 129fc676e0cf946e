-- `planner_sends::update_next_send` meets its contract: what the node has pending is looked up where it may
-- change, and nothing changes elsewhere.
use mathlib.Core.Path.{refl, sym, ap, ◌∙◌}
use mathlib.Core.Bool.{◌||◌}
use Prim.Native.Nat.{ℕ, ◌-◌}
use native.Mathlib.Omega.{arith}
use lib.Dec.{eqb}
use lib.ListN.{set}
use Rattle.lists.proofs.Tests.{clash}
use Rattle.planner_nodes.specs.Nodes.{Nodes, nodes_of}
use Rattle.bus_timetable.specs.Bus.{round_beginning_at}
use Rattle.planner_sends.specs.NextSends.{next_send_from, update_next_send}
use Rattle.planner_sends.proofs.Rests.{updated_join, relisted_as}
use Rattle.planner_sends.proofs.next_sends.update_next_send.Goals as goal

pub has_pending-some-requires : goal.has_pending-some-requires
has_pending-some-requires c =
    let s = c.before in
    let p = s.requires in
    (p.0, p.3, p.4, p.5)

pub next_send_from-next-requires : goal.next_send_from-next-requires
next_send_from-next-requires c =
    let s = c.before in
    let p = s.requires in
    let t = p.4 in
    (omega (arith, c.round_of.ensures, t.round_one), omega (arith, c.round_of.ensures, t.round_most), omega (arith, c.round_of.ensures, c.offset_of.ensures, t.offset_most s.args.n p.0), omega (arith, p.2), p.6 ∙ ap (λ (x : ℕ). round_beginning_at x (s.args.u - 1)) (sym c.round_of.ensures))

pub returns-then-may_change : goal.returns-then-may_change
unfolding update_next_send
returns-then-may_change c =
    let a = c.args in
    let ns : Nodes = nodes_of a.nodes.now in
    let w = c.has_pending-some.ensures in
    let q = c.put_nextsend.ensures in
    let e = sym (c.may_change.ensures ∙ ap (λ (x : ℕ). eqb a.broadcastend a.u || eqb x a.u) c.busy_of.ensures) ∙ c.if-may_change.true in
    let next = c.next_send_from-next.ensures ∙ (λ j. next_send_from (c.round_of.ensures j) (c.offset_of.ensures j) (a.u - 1) (w.pending j)) in
    record {
      nextsend = rw e ((λ j. (q j).nextsend) ∙ (λ j. set (w.waits.rest j).nextsend a.n (next j)));
      waits = record { looked = λ z. relisted_as (λ j. (q j).wait) (λ j. (q j).waitend) w.waits.waits; kept = λ z. clash e z };
      rest = updated_join ns _ _ (updated_join ns ns _ refl w.waits.rest) q;
    }

pub returns-else-may_change : goal.returns-else-may_change
unfolding update_next_send
returns-else-may_change c =
    let a = c.args in
    let e = sym (c.may_change.ensures ∙ ap (λ (x : ℕ). eqb a.broadcastend a.u || eqb x a.u) c.busy_of.ensures) ∙ c.if-may_change.false in
    record { nextsend = rw e refl; waits = record { looked = λ q. clash q e; kept = λ q. (refl, refl) }; rest = refl }
