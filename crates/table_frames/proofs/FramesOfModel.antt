-- What the arrays hold is the frame list of the planner's table: where they hold the entries of the items row by row,
-- the frames that are collected from them, as numbers and as words, are those of the model.
-- Assumes nothing.
use mathlib.Core.Path.{◌≡◌, refl, sym, ap, subst, ◌∙◌}
use mathlib.Core.Logic.{inr}
use mathlib.Core.Bool.{Bool, true, false, not}
use mathlib.Core.List.Memᴰ.{head as here}
use mathlib.Core.List.Memᴰ.{tail as there}
use mathlib.Core.List.{List, [], ◌∷◌, ◌++◌, map, Memᴰ as In}
use Prim.Native.Nat.{ℕ, ◌+◌, ◌-◌, ◌*◌, ◌/◌, ◌%◌, ◌^◌, ◌≤◌, ◌<◌}
use native.Mathlib.Nat.{pow-le-pow_right}
use native.Mathlib.Omega.{arith}
use lib.Dec.{eqb}
use lib.ListN.{length, get_or, take}
use lib.Seq.{get_or-take, length-take-le}
use borrow.Author.Tests.{eqb-true, le-ltb, ltb-false, not-true}
use Rattle.lists.specs.Lists.{each, upfrom, below}
use Rattle.lists.proofs.Members.{map_in, each_in, in_each, in_below, in_keep, keep_in, upfrom_in, below_in, map_same, no_members, in_getD}
use Rattle.lists.proofs.Keep.{map_map, map_each, each_append, keep_append, keep_all}
use Rattle.lists.proofs.Order.{Joining, put_all_in}
use Rattle.lists.proofs.Parts.{upfrom_append}
use Rattle.model.specs.Plan.{Lines, Slot, process}
use Rattle.model.specs.Bus.{begins, is_process, rows, sender, row_node, row_bytes, slot_of}
use Rattle.model.specs.Activity.{Heard}
use Rattle.model.specs.Log.{Placed, of_row}
use Rattle.model.specs.Planning.{bound}
use Rattle.model.specs.Refusals.{nothing, plan_refusal}
use Rattle.model.specs.Table.{Entry, known_bits, entry_of, Planned, plans, made_entries, row_entries, key, one_of_two, frames, frame_words, result}
use Rattle.laws.proofs.Columns.{known_small, value_most}
use Rattle.laws.proofs.Entries.{final, Made, entries_in}
use Rattle.laws.proofs.Good.{Good, good}
use Rattle.laws.proofs.History.{history}
use Rattle.laws.proofs.Bound.{bound_small}
use Rattle.laws.proofs.Rows.{Kind, a_process, an_edge, a_condition, kind, edge_bytes, condition_bytes, sender_in, done_by, known_by, known_length}
use Rattle.laws.proofs.Rules.{Item, Kept}
use Rattle.laws.proofs.Safety.{planning_keeps}
use Rattle.laws.proofs.Slots.{one_slot_a_tick, slot_in}
use Rattle.table_frames.specs.Packed.{in_order, entry_frame, row_frames, packed_frames, packed_words, items, item_frame, packed_entry, Holding}
use Rattle.table_frames.proofs.Writing.{length_words}
use Rattle.table_frames.proofs.Numbers.{Fitting, in_order_in, items_words}

-- an entry whose columns and place fit its number
pub record Small (e : Entry) : Type 0 where
  pub known : e.known < 64
  pub values : e.values < 64
  pub place : e.place < 64

-- an item of the planner's table, from the log that it is made from
record Sent (p : Lines) (e : Entry) : Type 0 where
  tick : e.tick < bound p
  node : row_node p e.row < 8
  slot : (s : Slot) × In s p.slots × (s.node ≡ row_node p e.row) × (begins p s.node e.tick ≡ true)
  bytes : e.place + row_bytes p e.row ≤ 64
  small : Small e

module _ (p : Lines) (fine : plan_refusal p ≡ nothing) where
  g : Good p
  g = good p fine

  -- an item has a byte at least
  bytes_one : (r : ℕ) → length p.processes ≤ r → r < rows p → 1 ≤ row_bytes p r
  bytes_one r l u = at r (kind p r u) l
    where
      at : (r : ℕ) → Kind p r → length p.processes ≤ r → 1 ≤ row_bytes p r
      at r (a_process i m) l = absurd (omega arith)
      at r (an_edge e m) l = omega (arith, edge_bytes p e m, g.edge_one e m)
      at r (a_condition k m) l = omega (arith, condition_bytes p k)

  placed_sent : (c : List Bool) → length c ≡ length p.conditions → (x : Placed) → Item p (final p c) x → Sent p (entry_of p c (final p c) x)
  unfolding entry_of row_node
  placed_sent c cl x i =
      let k : Kept p c (final p c) = planning_keeps p c fine cl (bound p) in
      let s : sender p x.row < length p.processes = sender_in p g x.row (k.only_due x i.member).0 in
      let h = g.has_slot (sender p x.row) s in
      let hs : List Heard = known_by p c (final p c) x.tick in
      let n : length hs ≤ 6 = omega (arith, known_length p c (done_by p (final p c) x.tick), g.few_conditions) in
      let q : 2 ^ length hs ≤ 2 ^ 6 = pow-le-pow_right (omega arith) n in
      let known_few : known_bits hs < 64 = omega (arith, known_small hs) in
      let b = g.slot_most (slot_of p (process p (sender p x.row)).node) (slot_in p g (sender p x.row) s) in
      record {
        tick = (history p c (bound p) x i.member).0;
        node = omega (arith, g.node_in (sender p x.row) s, g.few_slots);
        slot = (h.0, h.1, h.2, rw h.2 (k.in_slot x i));
        bytes = omega (arith, k.in_frame x i, b);
        small =
            record {
              known = known_few;
              values = omega (arith, value_most hs, known_few);
              place = omega (arith, k.in_frame x i, b, bytes_one x.row i.high (k.only_due x i.member).0);
            };
      }

  item_sent : (e : Entry) → In e (items p (result p).entries) → Sent p e
  unfolding entry_of
  item_sent e n =
      let k = keep_in (λ e. not (is_process p e.row)) (result p).entries n in
      let d = entries_in p e k.0 in
      let m : Made p d.0 e = d.2 in
      let high : is_process p m.item.row ≡ false = subst (λ (z : Entry). is_process p z.row ≡ false) m.is_its (not-true _ k.1) in
      subst (Sent p) (sym m.is_its) (placed_sent d.0 d.1 m.item (record { member = m.member; high = ltb-false _ _ high }))

  pub fitting : Fitting p (result p).entries
  fitting =
      record {
        nodes = λ e m. (item_sent e m).node;
        bytes = λ e m. (let s = (item_sent e m).bytes in omega arith);
        one_node = λ e f m n t.
            let a = (item_sent e m).slot in
            let b = (item_sent f n).slot in
            sym a.2 ∙ ap (λ (s : Slot). s.node) (one_slot_a_tick p g a.0 b.0 a.1 b.1 f.tick (subst (λ (k : ℕ). begins p a.0.node k ≡ true) t a.3) b.3) ∙ b.2;
      }

  -- Of the planner's own table the words of the items' frames as numbers, put in order, are those of the frame list.
  pub words_link : packed_words (in_order (map (item_frame p) (items p (result p).entries)) []) ≡ frame_words (frames p (result p).entries)
  words_link = items_words p (result p).entries fitting

packed_item : (p : Lines) (q : ℕ) (e : Entry) → e.row ≡ q → Small e → entry_frame (row_node p q) (row_bytes p q) (packed_entry e) ≡ item_frame p e
unfolding entry_frame packed_entry item_frame
packed_item p q e r k =
    let a = k.known in
    let b = k.values in
    let c = k.place in
    let t : (((e.tick * 64 + e.known) * 64 + e.values) * 64 + e.place) / 262144 ≡ e.tick = omega arith in
    let s : (((e.tick * 64 + e.known) * 64 + e.values) * 64 + e.place) % 64 ≡ e.place = omega arith in
    λ i. t i * 1024 + row_node p (sym r i) * 128 + (s i + row_bytes p (sym r i))

each_among : {A : Type 0} (f h : ℕ → List A) (xs : List ℕ) → ((x : ℕ) → In x xs → f x ≡ h x) → each f xs ≡ each h xs
each_among f h [] e = refl
each_among f h (x ∷ xs) e = λ i. e x (here refl) i ++ each_among f h xs (λ y m. e y (there m)) i

below_split : (m n : ℕ) → m ≤ n → below n ≡ below m ++ upfrom m (n - m)
below_split m n l =
    let q : n ≡ m + (n - m) = omega arith in
    let z : 0 + m ≡ m = omega arith in
    ap below q ∙ upfrom_append 0 m (n - m) ∙ ap (λ (a : ℕ). below m ++ upfrom a (n - m)) z

-- The arrays hold the entries of the rows of items.
module _ (p : Lines) (entries : ℕ → List Entry) (list ends node bytes : List ℕ) (h : Holding p entries list ends node bytes)
    (own : (q : ℕ) (e : Entry) → In e (entries q) → e.row ≡ q)
    (fits : (q : ℕ) → length p.processes ≤ q → q < rows p → (e : Entry) → In e (entries q) → Small e) where
  abbrev P : ℕ
  P = length p.processes

  row_items : (q : ℕ) → P ≤ q → q < rows p → row_frames list ends node bytes q ≡ map (item_frame p) (entries q)
  unfolding row_frames
  row_items q l u =
      (λ i. map (entry_frame (h.nodes q l u i) (h.sizes q l u i)) (h.parts q l u i))
      ∙ map_map (entry_frame (row_node p q) (row_bytes p q)) packed_entry (entries q)
      ∙ map_same (λ e. entry_frame (row_node p q) (row_bytes p q) (packed_entry e)) (item_frame p) (entries q) (λ e m. packed_item p q e (own q e m) (fits q l u e m))

  abbrev later : List ℕ
  later = upfrom P (rows p - P)

  later_in : {q : ℕ} → In q later → (P ≤ q) × (q < rows p)
  later_in m = let k = upfrom_in P (rows p - P) m in (k.0, (let a = k.0 in let b = k.1 in omega arith))

  none_early : items p (each entries (below P)) ≡ []
  none_early =
      no_members (items p (each entries (below P))) (λ e m.
      let k = keep_in (λ e. not (is_process p e.row)) (each entries (below P)) m in
      let r = each_in entries (below P) k.0 in
      let l = below_in P r.1 in
      let f = own r.0 e r.2 in
      let v = ltb-false e.row P (not-true _ k.1) in
      omega arith)

  all_late : items p (each entries later) ≡ each entries later
  all_late =
      keep_all (λ e. not (is_process p e.row)) (each entries later) (λ e m.
      let r = each_in entries later m in
      let l = later_in r.1 in
      let f = own r.0 e r.2 in
      let a = l.0 in
      ap not (le-ltb e.row P (omega arith)))

  items_late : items p (each entries (below (rows p))) ≡ each entries later
  items_late =
      ap (λ (xs : List ℕ). items p (each entries xs)) (below_split P (rows p) (omega arith))
      ∙ ap (items p) (each_append entries (below P) later)
      ∙ keep_append (λ e. not (is_process p e.row)) (each entries (below P)) (each entries later)
      ∙ (λ i. none_early i ++ all_late i)

  -- what is collected from the arrays are the items' frames
  pub packed_link : packed_frames list ends node bytes P (rows p) ≡ in_order (map (item_frame p) (items p (each entries (below (rows p))))) []
  unfolding packed_frames
  packed_link =
      ap (λ (ys : List ℕ). in_order ys [])
      (each_among (row_frames list ends node bytes) (λ q. map (item_frame p) (entries q)) later (λ q m. let l = later_in m in row_items q l.0 l.1)
      ∙ sym (map_each (item_frame p) entries later)
      ∙ ap (map (item_frame p)) (sym items_late))

-- The entries of a row of the planner's table.
module _ (p : Lines) where
  newest : Joining key one_of_two (λ e. Unit {0}) (λ e f. Unit {0})
  unfolding one_of_two
  newest = record { one_of = λ e f u v o. inr refl; for_new = λ e f u v o. tt; for_old = λ e f u v o. tt; itself = λ e. tt; trans = λ e f g u v. tt }

  pub row_of : (q : ℕ) (e : Entry) → In e (row_entries p (plans p) q) → e.row ≡ q
  unfolding row_entries made_entries entry_of
  row_of q e m =
      let s = each_in (made_entries p q) (plans p) (put_all_in key newest e (each (made_entries p q) (plans p)) (λ f n. tt) m) in
      let c : Planned = s.0 in
      let x = map_in (entry_of p c.combination c.state.log) (of_row c.state.log q) s.2 in
      let y = keep_in (λ x. eqb x.row q) c.state.log x.1 in
      ap (λ (z : Entry). z.row) x.2 ∙ eqb-true _ _ y.1

-- Of a plan in which refusals 2 to 9 find nothing: the arrays hold the planner's entries of the rows of items.
module _ (p : Lines) (fine : plan_refusal p ≡ nothing) (list ends node bytes : List ℕ) (h : Holding p (row_entries p (plans p)) list ends node bytes) where
  abbrev numbers : List ℕ
  numbers = packed_frames list ends node bytes (length p.processes) (rows p)

  row_item : (q : ℕ) → length p.processes ≤ q → q < rows p → (e : Entry) → In e (row_entries p (plans p) q) → In e (items p (result p).entries)
  unfolding result
  row_item q l u e m =
      in_keep (λ e. not (is_process p e.row)) (in_each (row_entries p (plans p)) (in_below (rows p) q u) m)
      (ap not (le-ltb e.row (length p.processes) (omega (arith, row_of p q e m))))

  numbers_items : numbers ≡ in_order (map (item_frame p) (items p (result p).entries)) []
  unfolding result
  numbers_items = packed_link p (row_entries p (plans p)) list ends node bytes h (row_of p) (λ q l u e m. (item_sent p fine e (row_item q l u e m)).small)

  -- What is written are its words.
  pub collected_words : packed_words numbers ≡ frame_words (result p).frames
  unfolding result
  collected_words = ap packed_words numbers_items ∙ words_link p fine

  -- Each number can be written.
  number_small : (y : ℕ) → In y numbers → y < 4398046511104
  unfolding item_frame
  number_small y m =
      let k = in_order_in y (map (item_frame p) (items p (result p).entries)) (subst (λ (ys : List ℕ). In y ys) numbers_items m) in
      let e = map_in (item_frame p) (items p (result p).entries) k in
      let s = item_sent p fine e.0 e.1 in
      omega (arith, e.2, s.tick, s.node, s.bytes, bound_small p (good p fine))

  module _ (out : List ℕ) (n : ℕ) (room : n ≤ length out) (holds : take n out ≡ numbers) where
    pub collected_small : (i : ℕ) → i < n → get_or out i 0 < 4398046511104
    collected_small i l =
        let t : length (take n out) ≡ n = length-take-le n out room in
        number_small (get_or out i 0) (subst (λ (ys : List ℕ). In (get_or out i 0) ys) holds (subst (λ (y : ℕ). In y (take n out)) (get_or-take n out i 0 l) (in_getD (take n out) i 0 (omega arith))))

    -- three words for each
    pub collected_count : length (frame_words (result p).frames) ≡ 3 * n
    collected_count =
        sym (ap length collected_words) ∙ length_words numbers ∙ omega (arith, ap length holds, length-take-le n out room)
