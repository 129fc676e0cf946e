-- `planner_sends::update_next_sends` meets its contract: where something changes, the nodes that are left of those
-- for which something is new give the whole answer, and nothing changes elsewhere.
use mathlib.Core.Path.{◌≡◌, refl, sym, ap, ◌∙◌, subst}
use mathlib.Core.List.{List, Memᴰ as In}
use Prim.Native.Nat.{ℕ, ◌<◌}
use native.Mathlib.Omega.{arith}
use lib.ListN.{drop}
use borrow.Author.Tests.{eq-eqb, ne_eqb}
use Rattle.bitset.specs.Masks.{nodes, steps}
use Rattle.bitset.proofs.Sets.{nodes_none}
use Rattle.bitset.proofs.Steps.{steps_next, steps_end}
use Rattle.plan_index.specs.declared.PlanIndex.{PlanIndex}
use Rattle.plan_index.specs.Index.{laid}
use Rattle.log_rows.specs.Rows.{Rows, rows_of}
use Rattle.planner_nodes.specs.Nodes.{Nodes, nodes_of}
use Rattle.planner_sends.specs.Pending.{waits_to_send}
use Rattle.planner_sends.specs.NextSends.{pending_at, waiting_at, update_next_send, update_in, update_by}
use Rattle.planner_sends.proofs.ChangedOnly.{in_node, in_none, updates, nothing_new_nodes, nodes_once}
use Rattle.planner_sends.proofs.Rests.{updated_join, updated_as}
use Rattle.planner_sends.proofs.Waits.{waiting_small, Updating, updating_as, updating_start, updating_past, updating_next, updating_end}
use Rattle.planner_sends.proofs.next_sends.update_next_sends.Goals as goal
use Rattle.planner_sends.proofs.next_sends.update_next_sends.Goals.{then-n-slots_of, else-n-slots_of}
use Rattle.planner_sends.proofs.next_sends.update_next_sends.Goals.{Start}

-- what is lent, as the definitions name it
abbrev plan : Start → PlanIndex
plan s = laid s.args.index.now

abbrev log : Start → Rows
log s = rows_of s.args.rows.now

abbrev kept : Start → Nodes
kept s = nodes_of s.args.nodes.now

-- the messages that wait at each node are those of edges
small : (s : Start) → (i x : ℕ) → In x (waiting_at (plan s) (log s) s.args.u i) → x < 128
small s i x m =
    let b : PlanIndex = plan s in
    let f = s.requires.2 in
    waiting_small b.from b.knownby b.queue record { senders = f.from_small; known_rows = f.knownby_small; edges = f.queue_edges } (waits_to_send b (log s) s.args.u) _ _ x m

pub returns-then-come-u : goal.returns-then-come-u
unfolding update_by
returns-then-come-u c = record { nextsend = rw (ne_eqb _ _ c.if-come-u.true) refl; waits = record { all = λ q. absurd (c.if-come-u.true q); none = λ d. (refl, refl) }; rest = refl }

pub loop-left-init : goal.loop-left-init
loop-left-init c =
    let a = c.args in
    let b : PlanIndex = plan c.before in
    let ns : Nodes = kept c.before in
    let f = c.requires.2 in
    let t = c.requires.3 in
    let g = c.requires.4 in
    record {
      mask = g.mask;
      nextsend = updates a.broadcastend a.u (pending_at b (log c.before) a.u) ns.busy b.round b.offset b.slots a.new g.nothing_new ns.nextsend f.few_slots;
      waits = updating_start b.queuefirst b.slots t.queue_rising a.broadcastend a.u ns.busy (waiting_at b (log c.before) a.u) (small c.before) f.few_slots ns.wait ns.waitend (nodes a.new) g.roomy (nothing_new_nodes a.broadcastend a.u ns.busy b.slots a.new g.nothing_new f.few_slots);
      rest = refl;
    }

pub lowest_node-n-requires : goal.lowest_node-n-requires
lowest_node-n-requires c = (omega (arith, c.loop-left-test.true), c.loop-left.invariant.mask)

pub update_next_send-requires : goal.update_next_send-requires
update_next_send-requires c =
    let p = c.requires in
    (omega (arith, c.if-n-slots_of.true, c.slots_of.ensures.0), p.0, p.1, p.2, p.3, c.loop-left.invariant.waits.roomy.wait_long, p.5)

pub without_lowest_node-left-requires : goal.without_lowest_node-left-requires
without_lowest_node-left-requires c =
    (omega (arith, c.loop-left-test.true), c.loop-left.invariant.mask)

pub loop-left-smaller : goal.loop-left-smaller
loop-left-smaller c = omega (arith, c.without_lowest_node-left.ensures.1)

pub loop-left-preserved : goal.loop-left-preserved
loop-left-preserved c =
    let a = c.args in
    let b : PlanIndex = plan c.before.before.before.before.before.before.before in
    let ns : Nodes = kept c.before.before.before.before.before.before.before in
    let m : Nodes = nodes_of c.loop-left.nodes in
    let h = c.loop-left.invariant in
    let f = c.requires.2 in
    let t = c.requires.3 in
    let p = pending_at b (log c.before.before.before.before.before.before.before) a.u in
    let messages = waiting_at b (log c.before.before.before.before.before.before.before) a.u in
    let n = c.lowest_node-n.result in
    let ks = drop 1 (nodes c.loop-left.left) in
    let slots = c.slots_of.ensures.0 in
    let busy : m.busy ≡ ns.busy = λ i. (h.rest i).busy in
    let one = update_in a.broadcastend a.u p ns.busy b.round b.offset b.slots in
    let g = subst (λ (is : List ℕ). Updating b.queuefirst b.slots a.broadcastend a.u ns.busy messages ns.wait ns.waitend is m.wait m.waitend) c.lowest_node-n.ensures h.waits in
    let e : (nodes_of c.if-n-slots_of.nodes).nextsend ≡ one n m.nextsend =
    elim c.if-n-slots_of.branch [
      | then-n-slots_of x ↦ ap (λ (xs : List ℕ). (nodes_of xs).nextsend) x.nodes-is ∙ x.update_next_send.ensures.nextsend ∙ ap (λ (xs : List ℕ). update_next_send a.broadcastend a.u p xs b.round b.offset n m.nextsend) busy
          ∙ sym (in_node a.broadcastend a.u p ns.busy b.round b.offset b.slots n m.nextsend (omega (arith, x.if-n-slots_of.true, slots)))
      | else-n-slots_of x ↦ ap (λ (xs : List ℕ). (nodes_of xs).nextsend) x.nodes-is ∙ sym (in_none a.broadcastend a.u p ns.busy b.round b.offset b.slots n m.nextsend (omega (arith, x.if-n-slots_of.false, slots)))
    ] in
    record {
      mask = omega (arith, c.without_lowest_node-left.ensures.1, h.mask);
      nextsend = (λ i. steps one (c.without_lowest_node-left.ensures.0 i) (e i)) ∙ steps_next one c.loop-left.left n m.nextsend c.lowest_node-n.ensures ∙ h.nextsend;
      waits =
          subst (λ (is : List ℕ). Updating b.queuefirst b.slots a.broadcastend a.u ns.busy messages ns.wait ns.waitend is (nodes_of c.if-n-slots_of.nodes).wait (nodes_of c.if-n-slots_of.nodes).waitend) (sym c.without_lowest_node-left.ensures.0)
          (elim c.if-n-slots_of.branch [
            | then-n-slots_of x ↦ updating_as (ap (λ (xs : List ℕ). (nodes_of xs).wait) x.nodes-is) (ap (λ (xs : List ℕ). (nodes_of xs).waitend) x.nodes-is)
                (updating_next b.queuefirst b.slots t.queue_rising a.broadcastend a.u ns.busy messages (small c.before.before.before.before.before.before.before) f.few_slots ns.wait ns.waitend n ks m.wait m.waitend _ _ (omega (arith, x.if-n-slots_of.true, slots)) (nodes_once c.loop-left.left n ks c.lowest_node-n.ensures) g
                (updated_as busy x.update_next_send.ensures.waits))
            | else-n-slots_of x ↦ updating_as (ap (λ (xs : List ℕ). (nodes_of xs).wait) x.nodes-is) (ap (λ (xs : List ℕ). (nodes_of xs).waitend) x.nodes-is)
                (updating_past b.queuefirst b.slots t.queue_rising a.broadcastend a.u ns.busy messages (small c.before.before.before.before.before.before.before) f.few_slots ns.wait ns.waitend n ks m.wait m.waitend (λ o. absurd (omega (arith, x.if-n-slots_of.false, slots))) g)
          ]);
      rest = elim c.if-n-slots_of.branch [ then-n-slots_of x ↦ updated_join ns m _ h.rest (ap nodes_of x.nodes-is ∙ x.update_next_send.ensures.rest) | else-n-slots_of x ↦ updated_join ns m _ h.rest (ap nodes_of x.nodes-is) ];
    }

pub returns : goal.returns
unfolding update_by
returns c =
    let a = c.args in
    let b : PlanIndex = plan c.before.before.before in
    let ns : Nodes = kept c.before.before.before in
    let m : Nodes = nodes_of c.loop-left.nodes in
    let h = c.loop-left.invariant in
    let e = c.if-come-u.false in
    let z : c.loop-left.left ≡ 0 = omega (arith, c.loop-left-test.false) in
    record {
      nextsend = rw (eq-eqb _ _ e) (steps_end (update_in a.broadcastend a.u (pending_at b (log c.before.before.before) a.u) ns.busy b.round b.offset b.slots) c.loop-left.left m.nextsend z ∙ h.nextsend);
      waits = record {
        all = λ q. updating_end b.queuefirst b.slots c.requires.3.queue_rising a.broadcastend a.u ns.busy (waiting_at b (log c.before.before.before) a.u) (small c.before.before.before) c.requires.2.few_slots ns.wait ns.waitend (nodes c.loop-left.left) m.wait m.waitend (ap nodes z ∙ nodes_none) h.waits;
        none = λ d. absurd (d e);
      };
      rest = h.rest;
    }
