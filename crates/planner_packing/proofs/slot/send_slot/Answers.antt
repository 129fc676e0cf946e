-- `planner_packing::send_slot` meets its contract: where there is a node, its slot is filled and what is kept goes on
-- from there, and nothing changes elsewhere.
use Rattle.std.specs.Prelude.{Option, IfSome, unwrap_or}
use mathlib.Core.Path.{◌≡◌, refl, sym, ap, ◌∙◌, subst}
use Prim.Native.Nat.{ℕ, ◌<◌}
use native.Mathlib.Omega.{arith}
use lib.ListN.{set}
use borrow.Author.Tests.{eq-eqb, ne_eqb}
use Rattle.plan_index.specs.declared.PlanIndex.{PlanIndex}
use Rattle.plan_index.specs.Index.{laid}
use Rattle.log_rows.specs.Rows.{rows_of}
use Rattle.planner_nodes.specs.Nodes.{Nodes, nodes_of, put_nextsend}
use Rattle.planner_sends.specs.NextSends.{next_round}
use Rattle.planner_packing.specs.Slot.{bus}
use Rattle.planner_packing.specs.Sending.{Sendable, Sends}
use Rattle.planner_packing.proofs.Rests.{sent_join, listed_after}
use Rattle.planner_packing.proofs.slot.send_slot.Goals as goal
use Rattle.planner_packing.proofs.slot.send_slot.Goals.{In-Some}

pub returns-in_default : goal.returns-in_default
returns-in_default c =
    let a = c.args in
    let b : PlanIndex = laid a.index.now in
    let h = eq-eqb b.slots b.slots refl in
    subst (λ (o : Option ℕ). Sends b (unwrap_or o b.slots) a.u a.ends (rows_of a.rows.now) (nodes_of a.nodes.now) a.ends (rows_of a.rows.now) (nodes_of a.nodes.now)) (sym c.in_default.is)
    record {
      taken = rw h refl;
      arrivals = rw h refl;
      slot = rw h refl;
      waits = record { left = λ l. absurd (omega (arith, l)); kept = λ q. (refl, refl) };
      rows_rest = refl;
      nodes_rest = refl;
    }

-- the node is one of the nodes, and the number that the clauses name
low : (s : In-Some) → s.in-Some.n < (laid s.args.index.now).slots
low s = subst (λ (o : Option ℕ). IfSome o (λ n. n < (laid s.args.index.now).slots)) s.in-Some.is s.requires.4

named : (s : In-Some) → unwrap_or s.args.node (laid s.args.index.now).slots ≡ s.in-Some.n
named s = ap (λ (o : Option ℕ). unwrap_or o (laid s.args.index.now).slots) s.in-Some.is

pub fill-s-requires : goal.fill-s-requires
fill-s-requires c =
    let a = c.args in
    let p = c.requires in
    let s = (goal.at.fill-s-requires c).In-Some in
    (low s, p.0, p.1, p.2, subst (λ (n : ℕ). Sendable (laid a.index.now) (nodes_of a.nodes.now) n a.u) (named s) p.3)

pub put_waitend-requires : goal.put_waitend-requires
put_waitend-requires c =
    omega (arith, low (goal.at.put_waitend-requires c).In-Some, c.requires.1.few_slots)

pub next_round-next-requires : goal.next_round-next-requires
next_round-next-requires c =
    (omega (arith, c.round_of.ensures, c.requires.2.round_most), c.requires.0)

pub put_nextsend-requires : goal.put_nextsend-requires
put_nextsend-requires c =
    omega (arith, low (goal.at.put_nextsend-requires c).In-Some, c.requires.1.few_slots)

pub returns : goal.returns
returns c =
    let a = c.args in
    let b : PlanIndex = laid a.index.now in
    let s = (goal.at.returns c).In-Some in
    let n : ℕ = c.in-Some.n in
    let here : n < b.slots = low s in
    let p = subst (λ (k : ℕ). Sendable b (nodes_of a.nodes.now) k a.u) (named s) c.requires.3 in
    let ns : Nodes = nodes_of a.nodes.now in
    let g = c.fill-s.ensures in
    let h = ne_eqb n b.slots (λ z. omega (arith, z, here)) in
    let stored = c.put_nextsend.ensures ∙ ap (put_nextsend n c.next_round-next.result) c.put_waitend.ensures in
    let next = c.next_round-next.ensures ∙ (λ i. next_round (c.round_of.ensures i) a.u (g.short i)) in
    subst (λ (k : ℕ). Sends b k a.u a.ends (rows_of a.rows.now) ns (record { slotend = c.fill-s.result.slotend; broadcastend = c.fill-s.result.broadcastend }) (rows_of c.fill-s.new.rows) (nodes_of c.put_nextsend.new.nodes)) (sym (named s))
    record {
      taken = rw h (ap (bus _ _ _ _) (λ i. (stored i).passed) ∙ g.taken);
      arrivals = rw h ((λ i. (stored i).lastarrival) ∙ g.arrivals);
      slot = rw h ((λ i. (stored i).nextsend) ∙ (λ i. set (g.nodes_rest i).nextsend n (next i)));
      waits = record {
        left = λ l. record {
          end = c.fill-s.result.behind;
          listed = listed_after (λ i. (stored i).wait) g.left;
          upto = omega (arith, g.upto, p.ends here);
          stored = (λ i. (stored i).waitend) ∙ (λ i. set (g.nodes_rest i).waitend n c.fill-s.result.behind);
        };
        kept = λ z. absurd (omega (arith, z, here));
      };
      rows_rest = g.rows_rest;
      nodes_rest = sent_join ns _ _ g.nodes_rest stored;
    }
