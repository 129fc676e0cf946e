-- `planner_packing::send` meets its contract: the broadcasts of the mask first, then the messages that wait.
use Rattle.std.specs.Prelude.{if◌then◌else◌}
use mathlib.Core.Path.{◌≡◌, refl, ap, ◌∙◌, subst}
use mathlib.Core.List.{List, Memᴰ as In}
use Prim.Native.Nat.{ℕ, ◌+◌}
use native.Mathlib.Omega.{arith}
use lib.Dec.{ltb}
use lib.ListN.{get_or}
use Rattle.bitset.proofs.Built.{built_small}
use Rattle.plan_index.specs.declared.PlanIndex.{PlanIndex}
use Rattle.plan_index.specs.Index.{laid}
use Rattle.log_rows.specs.Rows.{Rows, rows_of}
use Rattle.planner_nodes.specs.Nodes.{Nodes, nodes_of}
use Rattle.log_queries.specs.Reading.{part}
use Rattle.planner_sends.specs.Packing.{Load, all_broadcast, take_all, left_of, arrive_taken, arrive_all, with_broadcast, broadcasts_sent}
use Rattle.planner_sends.specs.Pending.{waits_to_broadcast}
use Rattle.planner_sends.proofs.Scan.{taken_within}
use Rattle.planner_packing.specs.Sending.{waits_at}
use Rattle.planner_packing.proofs.Rests.{placed_join, taken_join, listed_same, roomy_same}
use Rattle.planner_packing.proofs.packing.send.Goals as goal

pub take_broadcasts-first-requires : goal.take_broadcasts-first-requires
take_broadcasts-first-requires c =
    let a = c.args in
    let b : PlanIndex = laid a.index.now in
    (omega (arith, c.pending_broadcasts-mask.ensures, built_small (waits_to_broadcast b (rows_of a.rows.now) a.n a.u) 0 b.conditions 6 c.requires.1.few_conditions), omega (arith, c.conditionrow_of.ensures.1))

-- the messages that wait, as they are read
messages : (b : PlanIndex) (ns : Nodes) (n q z : ℕ) {wait : List ℕ} → q ≡ get_or b.queuefirst n 0 → z ≡ get_or ns.waitend n 0 → wait ≡ ns.wait →
    part wait q z ≡ waits_at b ns n
messages b ns n q z f g p = λ i. part (p i) (f i) (g i)

pub take_messages-all-requires : goal.take_messages-all-requires
take_messages-all-requires c =
    let a = c.args in
    let p = c.requires in
    let r : Rows = rows_of a.rows.now in
    let g = c.arrive.ensures in
    let f = c.queuefirst_of-a.ensures.0 in
    let z = c.waitend_of-z.ensures in
    let within = taken_within c.conditionrow_of.result c.rooms_of-room.result a.end c.pending_broadcasts-mask.result r.comes r.place in (
      omega (arith, f, z, p.3.begins p.0),
      omega (arith, z, p.3.ends p.0, p.1.queue_firsts (a.n + 1)),
      omega (arith, ap (λ (x : Load). x.used) c.take_broadcasts-first.ensures.taken, within),
      p.1,
      roomy_same (λ i. (g i).wait) (λ i. (g i).waitend) p.3.roomy,
      λ e m. p.3.sent p.0 e (subst (λ (xs : List ℕ). In e xs) (messages (laid c.args.index.now) (nodes_of c.args.nodes.now) c.args.n c.queuefirst_of-a.result c.waitend_of-z.result c.queuefirst_of-a.ensures.0 c.waitend_of-z.ensures (λ i. (g i).wait)) m),
    )

pub returns : goal.returns
unfolding with_broadcast broadcasts_sent
returns c =
    let a = c.args in
    let b : PlanIndex = laid a.index.now in
    let r : Rows = rows_of a.rows.now in
    let ns : Nodes = nodes_of a.nodes.now in
    let g = c.arrive.ensures in
    let room = c.rooms_of-room.ensures in
    let slots = c.slots_of.ensures.0 in
    let ws = messages (laid c.args.index.now) (nodes_of c.args.nodes.now) c.args.n c.queuefirst_of-a.result c.waitend_of-z.result c.queuefirst_of-a.ensures.0 c.waitend_of-z.ensures (λ i. (g i).wait) in
    let first = c.take_broadcasts-first.ensures.taken ∙ (λ i. all_broadcast (c.conditionrow_of.ensures.0 i) (room i) a.end (c.pending_broadcasts-mask.ensures i) r.comes r.place) in
    let some = ap (λ (x : Load). ltb 0 x.used) first in
    let reached = (λ i. (g i).lastarrival) ∙ (λ i. if some i then arrive_all a.end (slots i) ns.lastarrival else ns.lastarrival) in
    let e = c.take_messages-all.ensures in
    record {
      load = e.load ∙ (λ i. take_all b.processes b.bytes (room i) a.end (ws i) (first i));
      broadcast = some;
      left = listed_same (λ i. (g i).wait) c.queuefirst_of-a.ensures.0 (λ i. left_of b.processes b.bytes (room i) a.end (ws i) (first i)) e.left;
      upto = omega (arith, e.upto, c.waitend_of-z.ensures);
      arrivals = e.arrivals ∙ (λ i. arrive_taken b.processes b.bytes (room i) a.end b.remote (ws i) (first i) (reached i));
      rows_rest = placed_join r _ _ c.take_broadcasts-first.ensures.rest e.rows_rest;
      nodes_rest = taken_join ns _ _ (taken_join ns ns _ refl g) e.nodes_rest;
    }
