-- What refusals 2 to 9 leave of a plan: the facts that a plan has in which they find nothing.
-- Assumes nothing.
use mathlib.Core.Path.{◌≡◌, refl, sym, subst}
use mathlib.Core.Bool.{Bool, true, false, not}
use mathlib.Core.List.{List, map, Memᴰ as In}
use Prim.Native.Nat.{ℕ, ◌≤◌, ◌<◌}
use native.Mathlib.Omega.{arith}
use lib.Dec.{eqb, leb, ltb}
use lib.ListN.{length, length-map}
use borrow.Author.Tests.{eqb-true, leb-false, ltb-false, not-false}
use Rattle.lists.specs.Lists.{any, repeated}
use Rattle.lists.proofs.Tests.{neither, not_both, is_not}
use Rattle.lists.proofs.Members.{none_in, none_at, in_below, map_in}
use Rattle.lists.proofs.Different.{all_there}
use Rattle.model.specs.Plan.{Lines, Slot, Process, Edge, waits_all, When, always, on, process, edge, decider, local, unit, units}
use Rattle.model.specs.Bus.{slot_of}
use Rattle.model.specs.Refusals.{Refusal, nothing, refused, sentence, or_else, outside, twin_edges, undecided, wrong_counts, wrong_plan, wrong_slot, wrong_edge, wrong_ticks, wrong_sizes, no_node, wrong_nodes, no_process, wrong_deciders, wrong_ends, wrong_when, too_long, plan_refusal}

pub record Good (p : Lines) : Type 0 where
  pub some_slot : 1 ≤ length p.slots
  pub few_slots : length p.slots ≤ 8
  pub few_processes : length p.processes ≤ 64
  pub few_conditions : length p.conditions ≤ 6
  pub few_edges : length p.edges ≤ 128
  pub byte_most : p.plan.byte ≤ 1000
  pub head_most : p.plan.head ≤ 16
  pub slot_most : (s : Slot) → In s p.slots → s.bytes ≤ 64
  pub edge_one : (e : ℕ) → e < length p.edges → 1 ≤ (edge p e).bytes
  pub edge_most : (e : ℕ) → e < length p.edges → (edge p e).bytes ≤ 64
  pub ticks_most : (i : ℕ) → i < length p.processes → (process p i).ticks ≤ 100000
  pub byte_one : 1 ≤ p.plan.byte
  pub slot_one : (s : Slot) → In s p.slots → 1 ≤ s.bytes
  pub ticks_one : (i : ℕ) → i < length p.processes → 1 ≤ (process p i).ticks
  pub has_slot : (i : ℕ) → i < length p.processes → (s : Slot) × In s p.slots × (s.node ≡ (process p i).node)
  pub node_in : (i : ℕ) → i < length p.processes → (process p i).node < length p.slots
  pub unit_in : (i : ℕ) → i < length p.processes → In (unit p i) (units p)
  pub slot_there : (n : ℕ) → n < length p.slots → (s : Slot) × In s p.slots × (s.node ≡ n)
  pub slot_node_in : (s : Slot) → In s p.slots → s.node < length p.slots
  pub units_differ : repeated (units p) ≡ false
  pub one_slot : repeated (map (λ s. s.node) p.slots) ≡ false
  pub decides : (k : ℕ) → k < length p.conditions → decider p k < length p.processes
  pub from_in : (e : ℕ) → e < length p.edges → (edge p e).from < length p.processes
  pub to_in : (e : ℕ) → e < length p.edges → (edge p e).to < length p.processes
  pub upward : (e : ℕ) → e < length p.edges → (edge p e).from < (edge p e).to
  pub decided : (e : ℕ) → e < length p.edges → (v : Bool) (k : ℕ) → (edge p e).when ≡ on v k → (k < length p.conditions) × (decider p k ≡ (edge p e).from)
  pub fits : (e : ℕ) → e < length p.edges → local p e ≡ false → (edge p e).bytes ≤ (slot_of p (process p (edge p e).from).node).bytes

-- a sentence that refuses nothing does not apply
pub pass : (n : ℕ) (b : Bool) (r : Refusal) → sentence n b r ≡ nothing → (b ≡ false) × (r ≡ nothing)
pass n true r e = absurd (let z : ◌≡◌ {A = ℕ} 0 1 = cc in omega arith)
pass n false r e = (refl, e)

pub or_nothing : (a b : Refusal) → or_else a b ≡ nothing → (a ≡ nothing) × (b ≡ nothing)
unfolding or_else
or_nothing nothing b h = (refl, h)
or_nothing (refused n) b h = absurd (let z : ◌≡◌ {A = ℕ} 0 1 = cc in omega arith)

pub inside : (lo hi x : ℕ) → outside lo hi x ≡ false → (lo ≤ x) × (x ≤ hi)
unfolding outside
inside lo hi x h = let n = neither (ltb x lo) (ltb hi x) h in (ltb-false x lo n.0, ltb-false hi x n.1)

known_when : (p : Lines) (i : ℕ) (w : When) → undecided p i w ≡ false → (v : Bool) (k : ℕ) → w ≡ on v k → (k < length p.conditions) × (decider p k ≡ i)
unfolding undecided
known_when p i always h v k e = absurd (let z : ◌≡◌ {A = ℕ} 0 1 = cc in omega arith)
known_when p i (on u j) h v k e =
    let q : j ≡ k = cc in
    let n = neither (leb (length p.conditions) j) (not (eqb (decider p j) i)) h in
    subst (λ (z : ℕ). (z < length p.conditions) × (decider p z ≡ i)) q (leb-false _ _ n.0, eqb-true _ _ (not-false _ n.1))

-- the nodes of the slots
module _ (p : Lines) where
  abbrev nodes : List ℕ
  nodes = map (λ s. s.node) p.slots

  slot_node : any (λ s. no_node p s.node) p.slots ≡ false → (x : ℕ) → In x nodes → x < length p.slots
  unfolding no_node
  slot_node h x m = let r = map_in (λ s. s.node) p.slots m in rw r.2 (leb-false _ _ (none_in (λ s. no_node p s.node) h r.1))

  node_there : any (λ s. no_node p s.node) p.slots ≡ false → repeated nodes ≡ false → (n : ℕ) → n < length p.slots → In n nodes
  node_there h d n l =
      let k : length nodes ≡ length p.slots = length-map p.slots (λ s. s.node) in
      all_there (length p.slots) nodes d (slot_node h) (omega arith) n l

  slot_with : (n : ℕ) → In n nodes → (s : Slot) × In s p.slots × (s.node ≡ n)
  slot_with n m = let r = map_in (λ s. s.node) p.slots m in (r.0, r.1, sym r.2)

pub good : (p : Lines) → plan_refusal p ≡ nothing → Good p
unfolding plan_refusal wrong_counts wrong_plan wrong_slot wrong_edge wrong_ticks wrong_sizes no_node wrong_nodes no_process wrong_deciders wrong_ends wrong_when too_long unit units
good p h =
    let no_edge : Edge = record { from = 0; to = 0; bytes = 0; when = always } in
    let no-process' : Process = record { node = 0; ticks = 0; waits = waits_all } in
    let s2 = pass 2 (wrong_counts p) _ h in
    let s3 = pass 3 _ _ s2.1 in
    let s4 = pass 4 _ _ s3.1 in
    let s5 = pass 5 _ _ s4.1 in
    let s6 = pass 6 _ _ s5.1 in
    let s7 = pass 7 (twin_edges p.edges) _ s6.1 in
    let s8 = pass 8 _ _ s7.1 in
    let s9 = pass 9 _ nothing s8.1 in
    let a2 = neither _ _ s2.0 in
    let b2 = neither _ _ a2.0 in
    let c2 = neither _ _ b2.0 in
    let a3 = neither _ _ s3.0 in
    let b3 = neither _ _ a3.0 in
    let c3 = neither _ _ b3.0 in
    let d3 = neither _ _ c3.0 in
    let a4 = neither _ _ s4.0 in
    let b4 = neither _ _ a4.0 in
    let a5 = neither _ _ s5.0 in
    let ends : (e : ℕ) → e < length p.edges → ((edge p e).from < length p.processes) × ((edge p e).to < length p.processes) × ((edge p e).from < (edge p e).to) =
    λ e l.
    let a = neither _ _ (none_at (wrong_ends p) p.edges e no_edge s6.0 l) in
    let b = neither _ _ a.0 in
    (leb-false _ _ b.0, leb-false _ _ b.1, leb-false _ _ a.1) in
    let process_node : (i : ℕ) → i < length p.processes → (process p i).node < length p.slots =
    λ i l. leb-false _ _ (none_at (λ q. no_node p q.node) p.processes i no-process' b4.1 l) in
    let there : (i : ℕ) → i < length p.processes → In (process p i).node (nodes p) = λ i l. node_there p b4.0 a4.1 (process p i).node (process_node i l) in
    record {
      some_slot = (inside 1 8 (length p.slots) c2.0).0;
      few_slots = (inside 1 8 (length p.slots) c2.0).1;
      few_processes = (inside 1 64 (length p.processes) c2.1).1;
      few_conditions = ltb-false 6 (length p.conditions) b2.1;
      few_edges = ltb-false 128 (length p.edges) a2.1;
      byte_most = (inside 1 1000 p.plan.byte d3.0).1;
      head_most = ltb-false 16 p.plan.head d3.1;
      slot_most = λ s m. (inside 1 64 s.bytes (none_in wrong_slot c3.1 m)).1;
      edge_one = λ e l. (inside 1 64 (edge p e).bytes (none_at wrong_edge p.edges e no_edge b3.1 l)).0;
      edge_most = λ e l. (inside 1 64 (edge p e).bytes (none_at wrong_edge p.edges e no_edge b3.1 l)).1;
      ticks_most = λ i l. (inside 1 100000 (process p i).ticks (none_at wrong_ticks p.processes i no-process' a3.1 l)).1;
      byte_one = (inside 1 1000 p.plan.byte d3.0).0;
      slot_one = λ s m. (inside 1 64 s.bytes (none_in wrong_slot c3.1 m)).0;
      ticks_one = λ i l. (inside 1 100000 (process p i).ticks (none_at wrong_ticks p.processes i no-process' a3.1 l)).0;
      has_slot = λ i l. slot_with p (process p i).node (there i l);
      node_in = process_node;
      unit_in = there;
      slot_there = λ n l. slot_with p n (node_there p b4.0 a4.1 n l);
      slot_node_in = λ s m. leb-false _ _ (none_in (λ s. no_node p s.node) b4.0 m);
      one_slot = a4.1;
      units_differ = a4.1;
      decides = λ k l. leb-false _ _ (none_at (no_process p) p.conditions k 0 a5.0 l);
      from_in = λ e l. (ends e l).0;
      to_in = λ e l. (ends e l).1;
      upward = λ e l. (ends e l).2;
      decided = λ e l v k q. known_when p (edge p e).from (edge p e).when (none_at (wrong_when p) p.edges e no_edge s8.0 l) v k q;
      fits = λ e l f. ltb-false _ _ (not_both (not (local p e)) _ (none_in (too_long p) s9.0 (in_below (length p.edges) e l)) (is_not (local p e) f));
    }
