-- The plan index of a plan in which refusals 2 to 9 find nothing says of it what the model says.
-- Assumes nothing.
use Rattle.std.specs.Prelude.{if◌then◌else◌}
use mathlib.Core.Path.{◌≡◌, refl, sym, ap, ◌∙◌, subst}
use mathlib.Core.Logic.{◌⊎◌, inl, inr}
use mathlib.Core.Bool.{Bool, true, false, not, ◌&&◌}
use mathlib.Core.List.{List, [], Memᴰ as In}
use Prim.Native.Nat.{ℕ, suc, ◌+◌, ◌-◌, ◌^◌, ◌≤◌, ◌<◌}
use native.Mathlib.Omega.{arith}
use lib.Dec.{eqb, ltb}
use lib.ListN.{length, get_or}
use borrow.Author.Tests.{ltb-true, ltb-false, eq-eqb}
use Rattle.limits.specs.Limits.{SLOTTICKS}
use Rattle.lists.specs.Lists.{null, fill}
use Rattle.lists.proofs.Tests.{two}
use Rattle.lists.proofs.Fill.{fill_at, fill_each, fill_all}
use Rattle.model.specs.Plan.{Slot, Waits, waits_all, waits_any, process, edge, decider, into, local, unit}
use Rattle.model.specs.Activity.{combinations, says_any, conjunction}
use Rattle.model.specs.Bus.{slot_of, rows, sender, row_node, row_bytes, transit}
use Rattle.model.specs.Log.{full_ticks, span}
use Rattle.model.specs.Refusals.{nothing, plan_refusal}
use Rattle.laws.proofs.Slots.{slot_ticks_one, slot_ticks_most, slot_own}
use Rattle.laws.proofs.Rows.{sender_in, full_tick, process_span, item_span}
use Rattle.plan.specs.declared.Plan.{Plan}
use Rattle.plan.specs.Memory.{lines}
use Rattle.plan.specs.Tests.{at}
use Rattle.plan_layout.specs.Columns.{process_columns, edge_columns, any_of}
use Rattle.plan.proofs.TestsOnLines.{processes_length, edges_length, conditions_length, slots_length}
use Rattle.log_queries.specs.Reading.{edges_into}
use Rattle.log_queries.specs.Holding.{known_row, met_in}
use Rattle.plan_order.specs.declared.orders.Orders.{Orders}
use Rattle.plan_order.proofs.OrdersOfModel.{Ordered}
use Rattle.bus_timetable.specs.declared.Timetable.{Timetable}
use Rattle.bus_timetable.proofs.TimetableOfModel.{Timed, some_slot}
use Rattle.bitset.specs.Masks.{mask_from}
use Rattle.bitset.proofs.Built.{built_same, built_small}
use Rattle.bitset.proofs.Numbered.{combination_bit}
use Rattle.plan_layout.specs.Unmet.{unmet_of, value_of, unmet_by}
use Rattle.plan_layout.specs.LineArrays.{receiver_of, knownby_of, as_any_of, as_any_by_process, known_rows_by_edge, remote_by_edge}
use Rattle.plan_layout.specs.NodeArrays.{decided_at, decided_by_node}
use Rattle.plan_layout.specs.RowArrays.{process_of_row, span_of_row, size_of_row, senders_by_row, spans_by_row, sizes_by_row}
use Rattle.plan_layout.specs.Layout.{index_of}
use Rattle.plan_layout.specs.Indexed.{Indexed}
use Rattle.plan_layout.proofs.RowBounds.{senders_small}
use Rattle.plan_layout.proofs.OrderParts.{null_same, part_same}
use Rattle.plan_layout.proofs.Columns.{facts, few, process_any, no_process_at, no_edge_at, node_small, ticks_small, from_small, bytes_small, names_small, decider_same, decider_small, process_node, process_ticks, edge_from, edge_to, edge_bytes, edge_kind, edge_condition}
use Rattle.plan_layout.proofs.EdgesOfModel.{receiver_same, knownby_same, met_same}

not_not : (b : Bool) → not (not b) ≡ b
not_not true = refl
not_not false = refl

-- a process counts as `any`
asany_same : (w : Waits) (a b : ℕ) → as_any_of (any_of w) a b ≡ if says_any w && ltb a b then 1 else 0
unfolding any_of
asany_same waits_all a b = refl
asany_same waits_any a b = refl

one_same : (b : Bool) → not (eqb (if b then 1 else 0) 0) ≡ b
one_same true = refl
one_same false = refl

-- the row that makes a `when` known is a row
knownby_small : (kind from row : ℕ) → from < 64 → row < 198 → knownby_of kind from row < 198
knownby_small kind from row l u = by (eqb kind 0)
  where
    by : (b : Bool) → (if b then from else row) < 198
    by true = omega arith
    by false = u

-- a node that receives is one of eight
receiver_small : (a b : ℕ) → b < 8 → receiver_of a b ≤ 8
receiver_small a b l = by (eqb a b)
  where
    by : (t : Bool) → (if t then 0 else suc b) ≤ 8
    by true = omega arith
    by false = l

module _ (p : Plan) (h : plan_refusal (lines p) ≡ nothing) where
  -- the processes' and edges' rows, by the plan's counts
  abbrev pub conditionrow : ℕ
  conditionrow = p.processes + p.edges

  abbrev pub all_rows : ℕ
  all_rows = p.processes + p.edges + p.conditions

  abbrev pub decided_by : List ℕ
  decided_by = fill 6 (at p.condition) p.conditions

  pub row_count : all_rows ≡ rows (lines p)
  row_count = sym (λ j. processes_length p j + edges_length p j + conditions_length p j)

  few_rows : all_rows ≤ 198
  few_rows = let f = few p h in omega (arith, f.processes, f.edges, f.conditions)

  pub node_of : {i k : ℕ} → i ≡ k → at (process_columns (lines p)).node i ≡ (process (lines p) k).node
  node_of {i} e = process_node p (few p h) i ∙ ap (λ (k : ℕ). (process (lines p) k).node) e

  -- by edge
  pub known_row_at : (e : ℕ) →
      knownby_of (at (edge_columns (lines p)).kind e) (at (edge_columns (lines p)).from e) (conditionrow + at (edge_columns (lines p)).condition e) ≡ known_row (lines p) (edge (lines p) e).from (edge (lines p) e).when
  known_row_at e =
      (λ j. knownby_of (edge_kind p (few p h) e j) (edge_from p (few p h) e j) (sym (processes_length p) j + sym (edges_length p) j + edge_condition p (few p h) e j))
      ∙ knownby_same (lines p) (edge (lines p) e).from (edge (lines p) e).when

  known_rows : (e : ℕ) →
      at (known_rows_by_edge (edge_columns (lines p)).kind (edge_columns (lines p)).condition (edge_columns (lines p)).from p.edges conditionrow) e ≡ known_row (lines p) (edge (lines p) e).from (edge (lines p) e).when
  unfolding known_rows_by_edge
  known_rows =
      fill_each (λ e x. x ≡ known_row (lines p) (edge (lines p) e).from (edge (lines p) e).when) 128 _ p.edges (few p h).edges (λ e l. known_row_at e)
      (λ e l. sym (λ j. known_row (lines p) (no_edge_at p h e l j).from (no_edge_at p h e l j).when))

  met : (c : ℕ) → c < 2 ^ length (lines p).conditions → (e : ℕ) →
      eqb (at (unmet_by (edge_columns (lines p)).kind (edge_columns (lines p)).condition p.edges c) e) 0 ≡ met_in (get_or (combinations (lines p)) c []) (edge (lines p) e).when
  unfolding unmet_by
  met c u =
      fill_each (λ e x. eqb x 0 ≡ met_in (get_or (combinations (lines p)) c []) (edge (lines p) e).when) 128 _ p.edges (few p h).edges
      (λ e l.
      (λ j. eqb (unmet_of (edge_kind p (few p h) e j) (value_of c (edge_condition p (few p h) e j))) 0)
      ∙ met_same (get_or (combinations (lines p)) c []) c (edge (lines p) e).when
      (λ v k q. combination_bit (length (lines p).conditions) c k u ((facts p h).decided e (omega (arith, edges_length p)) v k q).0))
      (λ e l. sym (λ j. met_in (get_or (combinations (lines p)) c []) (no_edge_at p h e l j).when))

  locals : (e : ℕ) → eqb (at (remote_by_edge (process_columns (lines p)).node (edge_columns (lines p)).from (edge_columns (lines p)).to p.edges) e) 0 ≡ local (lines p) e
  unfolding remote_by_edge
  locals =
      fill_each (λ e x. eqb x 0 ≡ local (lines p) e) 128 _ p.edges (few p h).edges
      (λ e l.
      (λ j. eqb (receiver_of (node_of (edge_from p (few p h) e) j) (node_of (edge_to p (few p h) e) j)) 0)
      ∙ receiver_same (process (lines p) (edge (lines p) e).from).node (process (lines p) (edge (lines p) e).to).node)
      (λ e l.
      sym
      ((λ j. eqb (process (lines p) (no_edge_at p h e l j).from).node (process (lines p) (no_edge_at p h e l j).to).node)
      ∙ eq-eqb (process (lines p) 0).node (process (lines p) 0).node refl))

  receivers : (e : ℕ) → e < length (lines p).edges → local (lines p) e ≡ false →
      at (remote_by_edge (process_columns (lines p)).node (edge_columns (lines p)).from (edge_columns (lines p)).to p.edges) e ≡ suc (unit (lines p) (edge (lines p) e).to)
  unfolding remote_by_edge unit
  receivers e l t =
      fill_at 128 _ p.edges e (few p h).edges (omega (arith, edges_length p))
      ∙ (λ j. receiver_of (node_of (edge_from p (few p h) e) j) (node_of (edge_to p (few p h) e) j))
      ∙ ap (λ (b : Bool). if b then 0 else suc (process (lines p) (edge (lines p) e).to).node) t

  remote_most : (e : ℕ) → at (remote_by_edge (process_columns (lines p)).node (edge_columns (lines p)).from (edge_columns (lines p)).to p.edges) e ≤ 8
  unfolding remote_by_edge
  remote_most =
      fill_all (λ x. x ≤ 8) 128 _ p.edges (few p h).edges
      (λ e l. receiver_small (at (process_columns (lines p)).node (at (edge_columns (lines p)).from e)) (at (process_columns (lines p)).node (at (edge_columns (lines p)).to e)) (node_small p h (at (edge_columns (lines p)).to e)))
      (omega arith)

  known_rows_small : (e : ℕ) → at (known_rows_by_edge (edge_columns (lines p)).kind (edge_columns (lines p)).condition (edge_columns (lines p)).from p.edges conditionrow) e < 198
  unfolding known_rows_by_edge
  known_rows_small =
      fill_all (λ x. x < 198) 128 _ p.edges (few p h).edges
      (λ e l.
      knownby_small (at (edge_columns (lines p)).kind e) (at (edge_columns (lines p)).from e) (conditionrow + at (edge_columns (lines p)).condition e) (from_small p h e)
      (let f = few p h in omega (arith, names_small p h e, f.processes, f.edges)))
      (omega arith)

  -- by row
  pub process_same : (r : ℕ) → r < rows (lines p) → process_of_row (edge_columns (lines p)).from decided_by p.processes conditionrow r ≡ sender (lines p) r
  unfolding sender
  process_same r l = rw (processes_length p, edges_length p) (by (two (ltb r conditionrow)))
    where
      by : (ltb r conditionrow ≡ true) ⊎ (ltb r conditionrow ≡ false) →
          (if ltb r p.processes then r else if ltb r conditionrow then at (edge_columns (lines p)).from (r - p.processes) else at decided_by (r - conditionrow))
          ≡ (if ltb r p.processes then r else if ltb r conditionrow then (edge (lines p) (r - p.processes)).from else decider (lines p) (r - conditionrow))
      by (inl e) = rw e (λ j. if ltb r p.processes then r else edge_from p (few p h) (r - p.processes) j)
      by (inr e) =
          let k = ltb-false r conditionrow e in
          rw e (λ j. if ltb r p.processes then r else decider_same p h (r - conditionrow) (omega (arith, row_count)) j)

  senders : (r : ℕ) → r < rows (lines p) → at (senders_by_row (edge_columns (lines p)).from decided_by (process_columns (lines p)).node p.processes conditionrow all_rows) r ≡ row_node (lines p) r
  unfolding senders_by_row row_node
  senders r l = fill_at 198 _ all_rows r few_rows (omega (arith, row_count)) ∙ node_of (process_same r l)

  node_in : (r : ℕ) → r < rows (lines p) → row_node (lines p) r < length (lines p).slots
  unfolding row_node
  node_in r l = (facts p h).node_in (sender (lines p) r) (sender_in (lines p) (facts p h) r l)

  pub size_at : (r : ℕ) → size_of_row (edge_columns (lines p)).bytes p.processes conditionrow r ≡ row_bytes (lines p) r
  unfolding row_bytes
  size_at r =
      (λ j. if ltb r (sym (processes_length p) j + sym (edges_length p) j) then at (edge_columns (lines p)).bytes (r - sym (processes_length p) j) else 1)
      ∙ (λ j. if ltb r (length (lines p).processes + length (lines p).edges) then edge_bytes p (few p h) (r - length (lines p).processes) j else 1)

  sizes : (r : ℕ) → r < rows (lines p) → at (sizes_by_row (edge_columns (lines p)).bytes p.processes conditionrow all_rows) r ≡ row_bytes (lines p) r
  unfolding sizes_by_row
  sizes r l = fill_at 198 _ all_rows r few_rows (omega (arith, row_count)) ∙ size_at r

  size_most : (r : ℕ) → at (sizes_by_row (edge_columns (lines p)).bytes p.processes conditionrow all_rows) r ≤ 64
  unfolding sizes_by_row
  size_most = fill_all (λ x. x ≤ 64) 198 _ all_rows few_rows (λ r l. by r (ltb r conditionrow)) (omega arith)
    where
      by : (r : ℕ) (b : Bool) → (if b then at (edge_columns (lines p)).bytes (r - p.processes) else 1) ≤ 64
      by r true = bytes_small p h (r - p.processes)
      by r false = omega arith

  -- by node
  pub decides_at : (n : ℕ) → decided_at decided_by (process_columns (lines p)).node p.conditions n ≡ mask_from (λ k. eqb (process (lines p) (decider (lines p) k)).node n) 0 (length (lines p).conditions)
  decides_at n =
      built_same _ (λ k. eqb (process (lines p) (decider (lines p) k)).node n) 0 p.conditions (λ k l u. ap (λ (m : ℕ). eqb m n) (node_of (decider_same p h k (omega arith))))
      ∙ ap (mask_from (λ k. eqb (process (lines p) (decider (lines p) k)).node n) 0) (sym (conditions_length p))

  decided : (n : ℕ) → n < p.slots → at (decided_by_node decided_by (process_columns (lines p)).node p.conditions) n ≡ decided_at decided_by (process_columns (lines p)).node p.conditions n
  unfolding decided_by_node
  decided n l = fill_at 8 _ 8 n (omega arith) (omega (arith, (few p h).slots))

  decides_small : (n : ℕ) → at (decided_by_node decided_by (process_columns (lines p)).node p.conditions) n < 64
  unfolding decided_by_node
  decides_small = fill_all (λ x. x < 64) 8 _ 8 (omega arith) (λ n l. built_small _ 0 p.conditions 6 (few p h).conditions) (omega arith)

  -- the slots
  slot_there : (n : ℕ) → n < length (lines p).slots → In (slot_of (lines p) n) (lines p).slots
  slot_there n l =
      let r = (facts p h).slot_there n l in
      subst (λ (s : Slot). In s (lines p).slots) (sym (slot_own (lines p) (facts p h) r.0 r.1) ∙ ap (slot_of (lines p)) r.2) r.1

  module _ (o : Orders) (w : Ordered (lines p) o) where
    pub as_any_at : (i : ℕ) → i < p.processes → as_any_of (at (process_columns (lines p)).any i) (at o.intofirst i) (at o.intofirst (i + 1)) ≡ if conjunction (lines p) i then 1 else 0
    unfolding conjunction
    as_any_at i l =
        let empty = null_same o.intofirst o.into i (into (lines p) i) (w.into i (omega (arith, processes_length p))) w.into_long in
        (λ j. as_any_of (process_any p h i j) (at o.intofirst i) (at o.intofirst (i + 1)))
        ∙ asany_same (process (lines p) i).waits (at o.intofirst i) (at o.intofirst (i + 1))
        ∙ ap (λ (b : Bool). if says_any (process (lines p) i).waits && b then 1 else 0) (sym (ap not empty ∙ not_not (ltb (at o.intofirst i) (at o.intofirst (i + 1)))))

    conjunctions : (i : ℕ) → not (eqb (at (as_any_by_process (process_columns (lines p)).any o.intofirst p.processes) i) 0) ≡ conjunction (lines p) i
    unfolding as_any_by_process conjunction
    conjunctions =
        fill_each (λ i x. not (eqb x 0) ≡ conjunction (lines p) i) 64 _ p.processes (few p h).processes
        (λ i l. ap (λ (x : ℕ). not (eqb x 0)) (as_any_at i l) ∙ one_same (conjunction (lines p) i))
        (λ i l. sym (λ j. says_any (no_process_at p h i l j).waits && not (null (into (lines p) i))))

    leading : (i : ℕ) → i < length (lines p).processes → edges_into o.intofirst o.into i ≡ into (lines p) i
    unfolding edges_into
    leading i l = part_same o.intofirst o.into i (into (lines p) i) (w.into i l) w.into_long

    module _ (t : Timetable) (m : Timed (lines p) t) where
      lasts_most : (n : ℕ) → n < length (lines p).slots → at t.ticks n ≤ SLOTTICKS
      lasts_most n l = omega (arith, m.lasts n l, slot_ticks_most (lines p) (facts p h) (slot_of (lines p) n) (slot_there n l))

      abbrev pub sent : List ℕ
      sent = senders_by_row (edge_columns (lines p)).from decided_by (process_columns (lines p)).node p.processes conditionrow all_rows

      pub span_at : (r : ℕ) → r < rows (lines p) → span_of_row (process_columns (lines p)).ticks t.ticks p.processes r (at sent r) ≡ span (lines p) (full_ticks (lines p)) r
      unfolding transit
      span_at r l = by (two (ltb r p.processes))
        where
          by : (ltb r p.processes ≡ true) ⊎ (ltb r p.processes ≡ false) →
              (if ltb r p.processes then at (process_columns (lines p)).ticks r else at t.ticks (at sent r)) ≡ span (lines p) (full_ticks (lines p)) r
          by (inl e) =
              let i = ltb-true r p.processes e in
              rw e
              (process_ticks p (few p h) r ∙ sym (full_tick (lines p) r) ∙ sym (process_span (lines p) (full_ticks (lines p)) r (omega (arith, processes_length p))))
          by (inr e) =
              let i = ltb-false r p.processes e in
              rw e
              (ap (at t.ticks) (senders r l) ∙ m.lasts (row_node (lines p) r) (node_in r l) ∙ sym (item_span (lines p) (full_ticks (lines p)) r (omega (arith, processes_length p))))

      spans : (r : ℕ) → r < rows (lines p) → at (spans_by_row (process_columns (lines p)).ticks t.ticks sent p.processes all_rows) r ≡ span (lines p) (full_ticks (lines p)) r
      unfolding spans_by_row
      spans r l = fill_at 198 _ all_rows r few_rows (omega (arith, row_count)) ∙ span_at r l

      span_most : (r : ℕ) → at (spans_by_row (process_columns (lines p)).ticks t.ticks sent p.processes all_rows) r ≤ 100000
      unfolding spans_by_row
      span_most =
          fill_all (λ x. x ≤ 100000) 198 _ all_rows few_rows
          (λ r l. by r (omega (arith, row_count)) (ltb r p.processes))
          (omega arith)
        where
          by : (r : ℕ) → r < rows (lines p) → (b : Bool) → (if b then at (process_columns (lines p)).ticks r else at t.ticks (at sent r)) ≤ 100000
          by r l true = ticks_small p h r
          by r l false = omega (arith, ap (at t.ticks) (senders r l), lasts_most (row_node (lines p) r) (node_in r l))

      pub indexed : Indexed (lines p) (index_of p.processes p.edges p.conditions p.slots (process_columns (lines p)) (edge_columns (lines p)) o t decided_by)
      unfolding index_of
      indexed =
          record {
            processes_count = sym (processes_length p);
            edges_count = sym (edges_length p);
            conditions_count = sym (conditions_length p);
            slots_count = sym (slots_length p);
            first_condition_row = refl;
            row_count = row_count;
            nodes = process_node p (few p h);
            lengths = process_ticks p (few p h);
            sizes_of = edge_bytes p (few p h);
            deciders = λ i l. decider_same p h i (omega (arith, conditions_length p));
            holds = λ c u.
                record {
                  senders = edge_from p (few p h);
                  known_rows = known_rows;
                  met = met c u;
                  locals = locals;
                  conjunctions = conjunctions;
                  leading = leading;
                };
            receivers = receivers;
            remote_most = remote_most;
            dispatch_order_of = λ n l. part_same o.dispatchfirst o.dispatch n _ (w.dispatch_order n l) w.dispatch_long;
            queue_of = λ n l. part_same o.queuefirst o.queue n _ (w.queue n l) w.queue_long;
            rounds = m.rounds;
            reciprocals = m.reciprocals;
            offsets = m.offsets;
            lasts_of = m.lasts;
            rooms_of = m.rooms;
            decided = λ n l. decided n (omega (arith, slots_length p));
            spans = spans;
            senders_of = senders;
            bytes_of = sizes;
            within = record { senders = from_small p h; known_rows = known_rows_small; edges = w.into_numbers };
            condition_small = names_small p h;
            into_firsts = w.into_places;
            dispatch_firsts = w.dispatch_places;
            queue_firsts = w.queue_places;
            into_rising = λ i l. (w.into i l).rising;
            dispatch_rising = λ n l. (w.dispatch_order n l).rising;
            queue_rising = λ n l. (w.queue n l).rising;
            dispatch_members = w.dispatch_numbers;
            queue_members = w.queue_numbers;
            node_small = node_small p h;
            decider_small = decider_small p h;
            sender_small = senders_small (edge_columns (lines p)).from decided_by (process_columns (lines p)).node p.processes conditionrow all_rows few_rows (node_small p h);
            few_processes = (few p h).processes;
            few_edges = (few p h).edges;
            few_conditions = (few p h).conditions;
            few_slots = (few p h).slots;
            decides_small = decides_small;
            some_slot = omega (arith, some_slot (lines p) h, slots_length p);
            bytes_most = bytes_small p h;
            size_most = size_most;
            ticks_most = ticks_small p h;
            ticks_one = λ i l. omega (arith, process_ticks p (few p h) i, (facts p h).ticks_one i l);
            room_most = λ n l. omega (arith, m.rooms n l, (facts p h).slot_most (slot_of (lines p) n) (slot_there n l));
            lasts_most = lasts_most;
            lasts_one = λ n l. omega (arith, m.lasts n l, slot_ticks_one (lines p) (facts p h) (slot_of (lines p) n) (slot_there n l));
            round_one = m.round_one;
            round_most = m.round_most;
            offset_most = m.offset_most;
            span_most = span_most;
          }
