-- What one tick of planning places: a process that is ready on a free unit, and items that wait for a slot that begins.
-- Assumes nothing.
use mathlib.Core.Path.{◌≡◌, refl, sym, ap, ◌∙◌, subst}
use mathlib.Core.Logic.{◌⊎◌, inl, inr}
use mathlib.Core.Bool.{Bool, true, false, not, ◌&&◌}
use mathlib.Core.List.Memᴰ.{append_cases as in_either}
use mathlib.Core.List.Memᴰ.{append_left as in_left}
use mathlib.Core.List.Memᴰ.{append_right as in_right}
use mathlib.Core.List.Memᴰ.{head as here}
use mathlib.Core.List.Memᴰ.{not-nil as in_none}
use mathlib.Core.List.Memᴰ.{tail as there}
use mathlib.Core.List.{List, [], ◌∷◌, ◌++◌, map, Memᴰ as In}
use Prim.Native.Nat.{ℕ, suc, ◌+◌, ◌≤◌, ◌<◌}
use native.Mathlib.Omega.{arith}
use lib.Dec.{eqb, leb}
use lib.ListN.{length, get_or}
use borrow.Author.Tests.{eqb-true, eq-eqb, le-leb, leb-true, not-true, not-false}
use Rattle.lists.specs.Lists.{keep, first, repeated}
use Rattle.lists.proofs.Tests.{both, join, is_not, is_false, not_both, clash}
use Rattle.lists.proofs.Members.{none_in, any_false, keep_in, in_keep, map_in, in_map, each_in, in_each, in_below, below_in, if_in, first_in, first_some}
use Rattle.lists.proofs.Different.{different_upfrom}
use Rattle.lists.proofs.Sorting.{in_sort, sort_in, different_sort}
use Rattle.model.specs.Plan.{Lines, Slot, process, processes, edge, edges, decider, conditions, local, unit, units}
use Rattle.model.specs.Activity.{meets, may_run}
use Rattle.model.specs.Bus.{beginning, edge_row, condition_row, row_node, sender, row_bytes}
use Rattle.model.specs.Log.{Placed, Log, placed, known, message_ready, broadcast_ready}
use Rattle.model.specs.Planning.{View, view, weights, dispatch_order, queue, ready, occupies, free, candidate, start_at, unit_starts, starts, waits_to_broadcast, waits_to_send, pending, pack, takes, sends, step, before}
use Rattle.laws.proofs.Rows.{edge_sender, condition_sender, edge_node, condition_node}

-- what is started at a tick
pub record Started (p : Lines) (v : View) (t : ℕ) (x : Placed) : Type 0 where
  pub row_in : x.row < length p.processes
  pub now : x.tick ≡ t
  pub first_place : x.place ≡ 0
  pub unplaced : v.placed x.row ≡ false
  pub is_ready : ready p v x.row ≡ true
  pub unit_in : In (unit p x.row) (units p)
  pub unit_free : free p v (unit p x.row) ≡ true
  pub started : In x (unit_starts p v t (unit p x.row))

-- a broadcast that waits, and a message that waits, for the slot of node n
pub record Broadcast (p : Lines) (v : View) (n k : ℕ) : Type 0 where
  pub in_range : k < length p.conditions
  pub on_node : (process p (decider p k)).node ≡ n
  pub unplaced : v.placed (condition_row p k) ≡ false
  pub ended : v.over (decider p k) ≡ true

pub record Message (p : Lines) (v : View) (n e : ℕ) : Type 0 where
  pub in_range : e < length p.edges
  pub on_node : (process p (edge p e).from).node ≡ n
  pub between : local p e ≡ false
  pub unplaced : v.placed (edge_row p e) ≡ false
  pub ended : v.over (edge p e).from ≡ true
  pub met : meets v.heard (edge p e).when ≡ true

pub data Pending (p : Lines) (v : View) (n : ℕ) : ℕ → Type 0 where
  broadcast : (k : ℕ) → Broadcast p v n k → Pending p v n (condition_row p k)
  message : (e : ℕ) → Message p v n e → Pending p v n (edge_row p e)

-- an item that a slot takes at a tick
pub record Taken (p : Lines) (v : View) (t : ℕ) (x : Placed) : Type 0 where
  pub slot : Slot
  pub begun : In slot (beginning p t)
  pub taken : In x (takes p v t slot)
  pub now : x.tick ≡ t
  pub item : Pending p v slot.node x.row
  pub within : x.place + row_bytes p x.row ≤ slot.bytes

-- the turns are the processes, the queue is the edges
module _ (p : Lines) where
  dispatch_order_in : {i : ℕ} → In i (dispatch_order p) → i < length p.processes
  unfolding dispatch_order
  dispatch_order_in m = below_in (length p.processes) (sort_in (λ i. get_or (weights p) i 0) (processes p) m)

  pub in_dispatch_order : (i : ℕ) → i < length p.processes → In i (dispatch_order p)
  unfolding dispatch_order
  in_dispatch_order i l = in_sort (λ i. get_or (weights p) i 0) (in_below (length p.processes) i l)

  pub queue_in : {e : ℕ} → In e (queue p) → e < length p.edges
  unfolding queue
  queue_in m = below_in (length p.edges) (sort_in (λ e. get_or (weights p) (edge p e).to 0) (edges p) m)

  pub in_queue : (e : ℕ) → e < length p.edges → In e (queue p)
  unfolding queue
  in_queue e l = in_sort (λ e. get_or (weights p) (edge p e).to 0) (in_below (length p.edges) e l)

  pub queue_once : repeated (queue p) ≡ false
  unfolding queue
  queue_once = different_sort (λ e. get_or (weights p) (edge p e).to 0) (edges p) (different_upfrom 0 (length p.edges))

-- a unit is free if and only if its processes that are placed are over
module _ (p : Lines) (v : View) (u : ℕ) where
  pub free_over : free p v u ≡ true → (i : ℕ) → i < length p.processes → unit p i ≡ u → v.placed i ≡ true → v.over i ≡ true
  unfolding free occupies
  free_over f i l q m =
      not-false _ (not_both (eqb (unit p i) u && v.placed i) _ (none_in (occupies p v u) (not-true _ f) (in_below (length p.processes) i l)) (join _ _ (eq-eqb _ _ q) m))

  pub over_free : ((i : ℕ) → i < length p.processes → unit p i ≡ u → v.placed i ≡ true → v.over i ≡ true) → free p v u ≡ true
  unfolding free occupies
  over_free h =
      is_not _ (any_false (occupies p v u) (processes p) (λ i m. is_false _ (λ e.
      let a = both (eqb (unit p i) u && v.placed i) (not (v.over i)) e in
      let b = both (eqb (unit p i) u) (v.placed i) a.0 in
      clash (h i (below_in (length p.processes) m) (eqb-true _ _ b.0) b.1) (not-true _ a.1))))

module _ (p : Lines) (v : View) (n : ℕ) where
  pub pending_fresh : (r : ℕ) → Pending p v n r → v.placed r ≡ false
  pending_fresh r (broadcast k s) = s.unplaced
  pending_fresh r (message e s) = s.unplaced

  pub pending_item : (r : ℕ) → Pending p v n r → length p.processes ≤ r
  pending_item r (broadcast k s) = omega arith
  pending_item r (message e s) = omega arith

  pub pending_node : (r : ℕ) → Pending p v n r → row_node p r ≡ n
  pending_node r (broadcast k s) = condition_node p k ∙ s.on_node
  pending_node r (message e s) = edge_node p e s.in_range ∙ s.on_node

  pub pending_ended : (r : ℕ) → Pending p v n r → v.over (sender p r) ≡ true
  pending_ended r (broadcast k s) = ap v.over (condition_sender p k) ∙ s.ended
  pending_ended r (message e s) = ap v.over (edge_sender p e s.in_range) ∙ s.ended

  abbrev tellers : List ℕ
  tellers = keep (waits_to_broadcast p v n) (conditions p)

  abbrev messages : List ℕ
  messages = keep (waits_to_send p v n) (queue p)

  pub pending_in : (r : ℕ) → In r (pending p v n) → Pending p v n r
  unfolding pending waits_to_broadcast waits_to_send broadcast_ready message_ready
  pending_in r m = at (in_either (map (condition_row p) tellers) m)
    where
      at : In r (map (condition_row p) tellers) ⊎ In r (map (edge_row p) messages) → Pending p v n r
      at (inl u) =
          let s = map_in (condition_row p) tellers u in
          let k : ℕ = s.0 in
          let f = keep_in (waits_to_broadcast p v n) (conditions p) s.1 in
          let a = both _ (v.over (decider p k)) f.1 in
          let b = both (eqb (process p (decider p k)).node n) (not (v.placed (condition_row p k))) a.0 in
          subst (Pending p v n) (sym s.2)
          (broadcast k (record { in_range = below_in (length p.conditions) f.0; on_node = eqb-true _ _ b.0; unplaced = not-true _ b.1; ended = a.1 }))
      at (inr u) =
          let s = map_in (edge_row p) messages u in
          let e : ℕ = s.0 in
          let f = keep_in (waits_to_send p v n) (queue p) s.1 in
          let a = both _ (message_ready p v.heard v.over e) f.1 in
          let b = both _ (not (v.placed (edge_row p e))) a.0 in
          let d = both (eqb (process p (edge p e).from).node n) (not (local p e)) b.0 in
          let r = both (v.over (edge p e).from) (meets v.heard (edge p e).when) a.1 in
          subst (Pending p v n) (sym s.2)
          (message e (record {
            in_range = queue_in p f.0;
            on_node = eqb-true _ _ d.0;
            between = not-true _ d.1;
            unplaced = not-true _ b.1;
            ended = r.0;
            met = r.1;
          }))

  pub in_pending : (r : ℕ) → Pending p v n r → In r (pending p v n)
  unfolding pending waits_to_broadcast waits_to_send broadcast_ready message_ready
  in_pending r (broadcast k s) =
      in_left (map (edge_row p) messages)
      (in_map (condition_row p)
      (in_keep (waits_to_broadcast p v n) (in_below (length p.conditions) k s.in_range)
      (join _ _ (join _ _ (eq-eqb _ _ s.on_node) (is_not _ s.unplaced)) s.ended)))
  in_pending r (message e s) =
      in_right (map (condition_row p) tellers)
      (in_map (edge_row p)
      (in_keep (waits_to_send p v n) (in_queue p e s.in_range)
      (join _ _ (join _ _ (join _ _ (eq-eqb _ _ s.on_node) (is_not _ s.between)) (is_not _ s.unplaced)) (join _ _ s.ended s.met))))

module _ (p : Lines) (size t : ℕ) where
  -- an item of a frame, from byte `at` on
  abbrev pub Packed : Placed → ℕ → List ℕ → Type 0
  Packed x at rs = (x.tick ≡ t) × In x.row rs × (at ≤ x.place) × (x.place + row_bytes p x.row ≤ size)

  pub pack_in : (x : Placed) (at : ℕ) (rs : List ℕ) → In x (pack p size t at rs) → Packed x at rs
  unfolding pack
  pack_in x at [] m = absurd (in_none m)
  pack_in x at (r ∷ rs) m = go (leb (at + row_bytes p r) size) refl (pack_in x (at + row_bytes p r) rs) (pack_in x at rs) m
    where
      go : (b : Bool) → leb (at + row_bytes p r) size ≡ b →
          (In x (pack p size t (at + row_bytes p r) rs) → Packed x (at + row_bytes p r) rs) →
          (In x (pack p size t at rs) → Packed x at rs) →
          In x (elim b [ true ↦ record { row = r; tick = t; place = at } ∷ pack p size t (at + row_bytes p r) rs | false ↦ pack p size t at rs ]) →
          Packed x at (r ∷ rs)
      go true e f f' (here q) =
          let row_is : x.row ≡ r = ap (λ (z : Placed). z.row) q in
          let place_is : x.place ≡ at = ap (λ (z : Placed). z.place) q in
          let bytes-are : row_bytes p x.row ≡ row_bytes p r = ap (row_bytes p) row_is in
          let l : at + row_bytes p r ≤ size = leb-true _ _ e in
          (ap (λ (z : Placed). z.tick) q, here row_is, omega arith, omega arith)
      go true e f f' (there n) = let u = f n in (u.0, there u.1, (let v = u.2 in omega arith), u.3)
      go false e f f' n = let u = f' n in (u.0, there u.1, u.2, u.3)

  -- where every item fits an empty slot, one is taken
  pub pack_some : (rs : List ℕ) (r : ℕ) → In r rs → ((s : ℕ) → In s rs → row_bytes p s ≤ size) → (x : Placed) × In x (pack p size t 0 rs)
  unfolding pack
  pack_some [] r m f = absurd (in_none m)
  pack_some (s ∷ rs) r m f =
      let l : 0 + row_bytes p s ≤ size = (let u = f s (here refl) in omega arith) in
      (record { row = s; tick = t; place = 0 }, rw (le-leb (0 + row_bytes p s) size l, pack) (here refl))

module _ (p : Lines) (v : View) (t : ℕ) where
  pub unit_starts_in : (u : ℕ) (x : Placed) → In u (units p) → In x (unit_starts p v t u) → Started p v t x × (unit p x.row ≡ u)
  unfolding unit_starts candidate
  unit_starts_in u x w m =
      let f = if_in (free p v u) _ m in
      let s = map_in (start_at t) (first (candidate p v u) (dispatch_order p)) f.1 in
      let i : ℕ = s.0 in
      let k = first_in (candidate p v u) (dispatch_order p) s.1 in
      let a = both _ (ready p v i) k.1 in
      let b = both (eqb (unit p i) u) (not (v.placed i)) a.0 in
      let q : unit p i ≡ u = eqb-true _ _ b.0 in
      let st : Started p v t (start_at t i) =
      record {
        row_in = dispatch_order_in p k.0;
        now = refl;
        first_place = refl;
        unplaced = not-true _ b.1;
        is_ready = a.1;
        unit_in = subst (λ (z : ℕ). In z (units p)) (sym q) w;
        unit_free = ap (free p v) q ∙ f.0;
        started = subst (λ (z : Placed). In z (unit_starts p v t (unit p i))) s.2 (subst (λ (z : ℕ). In x (unit_starts p v t z)) (sym q) m);
      } in
      (subst (Started p v t) (sym s.2) st, ap (λ (z : Placed). unit p z.row) s.2 ∙ q)

  pub starts_in : (x : Placed) → In x (starts p v t) → Started p v t x
  unfolding starts
  starts_in x m = let r = each_in (unit_starts p v t) (units p) m in (unit_starts_in r.0 x r.1 r.2).0

  -- a free unit with a ready process starts one
  pub in_starts : (i : ℕ) → i < length p.processes → In (unit p i) (units p) → free p v (unit p i) ≡ true → v.placed i ≡ false → ready p v i ≡ true →
      (x : Placed) × In x (starts p v t) × (unit p x.row ≡ unit p i)
  unfolding starts unit_starts candidate
  in_starts i l m fr un rd =
      let z = first_some (candidate p v (unit p i)) (dispatch_order p) (in_dispatch_order p i l) (join _ _ (join _ _ (eq-eqb (unit p i) (unit p i) refl) (is_not _ un)) rd) in
      let x : Placed = start_at t z.0 in
      let n : In x (unit_starts p v t (unit p i)) = rw fr (in_map (start_at t) z.1) in
      (x, in_each (unit_starts p v t) m n, (unit_starts_in (unit p i) x m n).1)

  pub takes_in : (b : Slot) (x : Placed) → In x (takes p v t b) → Pending p v b.node x.row
  unfolding takes
  takes_in b x m = pending_in p v b.node x.row (pack_in p b.bytes t x 0 (pending p v b.node) m).1

  pub sends_in : (x : Placed) → In x (sends p v t) → Taken p v t x
  unfolding sends takes
  sends_in x m =
      let r = each_in (takes p v t) (beginning p t) m in
      let b : Slot = r.0 in
      let u = pack_in p b.bytes t x 0 (pending p v b.node) r.2 in
      record { slot = b; begun = r.1; taken = r.2; now = u.0; item = takes_in b x r.2; within = u.3 }

-- the view, by what is over and what is placed
abbrev pub seen : Lines → List Bool → (ℕ → Bool) → (ℕ → Bool) → View
seen p c done put = record { heard = known p c done; runs = may_run p (known p c done); over = done; placed = put }

-- the log before a tick, the view at it, and what is placed at it
module _ (p : Lines) (c : List Bool) where
  abbrev pub log_at : ℕ → Log
  log_at t = (before p c t).log

  abbrev pub view_at : ℕ → View
  view_at t = view p c (log_at t) t

  abbrev pub new_at : ℕ → Log
  new_at t = sends p (view_at t) t ++ starts p (view_at t) t

  pub log_next : (t : ℕ) → log_at (suc t) ≡ new_at t ++ log_at t
  unfolding before step
  log_next t = refl

  pub new_in : (t : ℕ) (x : Placed) → In x (new_at t) → Taken p (view_at t) t x ⊎ Started p (view_at t) t x
  new_in t x m = at (in_either (sends p (view_at t) t) m)
    where
      at : In x (sends p (view_at t) t) ⊎ In x (starts p (view_at t) t) → Taken p (view_at t) t x ⊎ Started p (view_at t) t x
      at (inl u) = inl (sends_in p (view_at t) t x u)
      at (inr u) = inr (starts_in p (view_at t) t x u)

  -- what is placed at a tick has that tick and was not placed before
  pub new_facts : (t : ℕ) (x : Placed) → In x (new_at t) → (x.tick ≡ t) × (placed (log_at t) x.row ≡ false)
  unfolding view
  new_facts t x m = at (new_in t x m)
    where
      at : Taken p (view_at t) t x ⊎ Started p (view_at t) t x → (x.tick ≡ t) × (placed (log_at t) x.row ≡ false)
      at (inl s) = (s.now, pending_fresh p (view_at t) s.slot.node x.row s.item)
      at (inr s) = (s.now, s.unplaced)

  pub log_in : (t : ℕ) (x : Placed) → In x (log_at (suc t)) → In x (new_at t) ⊎ In x (log_at t)
  log_in t x m = in_either (new_at t) (subst (λ (l : Log). In x l) (log_next t) m)

  pub in_new : (t : ℕ) (x : Placed) → In x (new_at t) → In x (log_at (suc t))
  in_new t x m = subst (λ (l : Log). In x l) (sym (log_next t)) (in_left (log_at t) m)

  pub in_old : (t : ℕ) (x : Placed) → In x (log_at t) → In x (log_at (suc t))
  in_old t x m = subst (λ (l : Log). In x l) (sym (log_next t)) (in_right (new_at t) m)
