-- Planning places each row at most once, and starts at most one process of a unit at a tick.
-- Assumes nothing.
use Rattle.std.specs.Prelude.{if◌then◌else◌}
use mathlib.Core.Path.{◌≡◌, sym, ap, ◌∙◌, subst}
use mathlib.Core.Bool.{Bool, true, false}
use mathlib.Core.List.Memᴰ.{head as here}
use mathlib.Core.List.Memᴰ.{tail as there}
use mathlib.Core.List.{List, [], ◌∷◌, map, map-id, Memᴰ as In}
use Prim.Native.Nat.{ℕ, zero, suc, ◌+◌}
use native.Mathlib.Omega.{arith}
use lib.Dec.{leb}
use lib.ListN.{length}
use Rattle.lists.specs.Lists.{keep, first, repeated}
use Rattle.lists.proofs.Tests.{clash}
use Rattle.lists.proofs.Members.{UptoOne, first_one, one_same, map_in, in_map, keep_in}
use Rattle.lists.proofs.Keep.{map_append, keep_map, map_each}
use Rattle.lists.proofs.Different.{keep_different, different_cons, different_parts, different_none, different_append, different_upfrom, different_map, different_each}
use Rattle.model.specs.Plan.{Lines, Slot, conditions, unit, units}
use Rattle.model.specs.Bus.{begins, beginning, edge_row, condition_row, row_node, row_bytes}
use Rattle.model.specs.Log.{Placed, Log}
use Rattle.model.specs.Planning.{View, dispatch_order, queue, free, candidate, start_at, unit_starts, starts, waits_to_broadcast, waits_to_send, pending, pack, takes, sends, before}
use Rattle.laws.proofs.Good.{Good}
use Rattle.laws.proofs.Rows.{in_placed}
use Rattle.laws.proofs.Steps.{Started, queue_in, queue_once, pending_node, pack_in, unit_starts_in, starts_in, takes_in, sends_in, pending_item, log_at, view_at, new_at, new_facts, log_next}

abbrev pub rows_of : Log → List ℕ
rows_of log = map (λ x. x.row) log

-- where rows differ, a row says which member it is
not_both_places : (z : Placed) (log : Log) → repeated (rows_of (z ∷ log)) ≡ false → (x y : Placed) → x ≡ z → In y log → x.row ≡ y.row → ⊥
not_both_places z log d x y e n q =
    (different_parts z.row (rows_of log) d).0 (subst (λ (k : ℕ). In k (rows_of log)) (sym q ∙ ap (λ (w : Placed). w.row) e) (in_map (λ x. x.row) n))

pub row_unique : (log : Log) → repeated (rows_of log) ≡ false → (x y : Placed) → In x log → In y log → x.row ≡ y.row → x ≡ y
row_unique (z ∷ log) d x y (here u) (here v) q = u ∙ sym v
row_unique (z ∷ log) d x y (here u) (there n) q = absurd (not_both_places z log d x y u n q)
row_unique (z ∷ log) d x y (there m) (here v) q = absurd (not_both_places z log d y x v m (sym q))
row_unique (z ∷ log) d x y (there m) (there n) q = row_unique log (different_parts z.row (rows_of log) d).1 x y m n q
row_unique [] d x y x6 _ q = elim x6 [ ]

module _ (p : Lines) (v : View) (t : ℕ) where
  start_one : (u : ℕ) → UptoOne (unit_starts p v t u)
  unfolding unit_starts
  start_one u = at (free p v u) (first (candidate p v u) (dispatch_order p)) (first_one (candidate p v u) (dispatch_order p))
    where
      at : (b : Bool) (zs : List ℕ) → UptoOne zs → UptoOne (if b then map (start_at t) zs else [])
      at true [] o = tt
      at true (z ∷ []) o = tt
      at true (z ∷ w ∷ zs) o = o
      at false zs o = tt

  -- two processes started at one tick on one unit are the same
  pub one_start : (x y : Placed) → Started p v t x → Started p v t y → unit p x.row ≡ unit p y.row → x ≡ y
  one_start x y a b q =
      one_same (unit_starts p v t (unit p x.row)) (start_one (unit p x.row)) a.started (subst (λ (u : ℕ). In y (unit_starts p v t u)) (sym q) b.started)

  starts_differ : Good p → repeated (rows_of (starts p v t)) ≡ false
  unfolding starts
  starts_differ g =
      rw (map_each (λ x. x.row) (unit_starts p v t) (units p))
      (different_each (λ u. rows_of (unit_starts p v t u)) (λ u. u) (unit p) (units p)
      (λ u m. upto_one (unit_starts p v t u) (start_one u))
      (λ u m r n. let x = map_in (λ x. x.row) (unit_starts p v t u) n in ap (unit p) x.2 ∙ (unit_starts_in p v t u x.0 m x.1).1)
      (rw (map-id (units p)) g.units_differ))
    where
      upto_one : (xs : Log) → UptoOne xs → repeated (rows_of xs) ≡ false
      upto_one [] o = different_none
      upto_one (x ∷ []) o = different_upfrom x.row 1
      upto_one (x ∷ y ∷ xs) o = absurd o

  pending_differ : (n : ℕ) → repeated (pending p v n) ≡ false
  unfolding pending
  pending_differ n =
      different_append (map (condition_row p) tell) (map (edge_row p) send)
      (different_map (condition_row p) (λ a b q. omega arith) tell (keep_different (waits_to_broadcast p v n) (conditions p) (different_upfrom 0 (length p.conditions))))
      (different_map (edge_row p) (λ a b q. omega arith) send (keep_different (waits_to_send p v n) (queue p) (queue_once p)))
      (λ r m m'.
      let a = map_in (condition_row p) tell m in
      let b = map_in (edge_row p) send m' in
      let l = queue_in p (keep_in (waits_to_send p v n) (queue p) b.1).0 in
      omega (arith, sym a.2 ∙ b.2))
    where
      tell : List ℕ
      tell = keep (waits_to_broadcast p v n) (conditions p)

      send : List ℕ
      send = keep (waits_to_send p v n) (queue p)

  pack_differs : (size at : ℕ) (rs : List ℕ) → repeated rs ≡ false → repeated (rows_of (pack p size t at rs)) ≡ false
  unfolding pack
  pack_differs size at [] d = d
  pack_differs size at (r ∷ rs) d =
      let n = different_parts r rs d in
      go (leb (at + row_bytes p r) size) n.0 (pack_differs size (at + row_bytes p r) rs n.1) (pack_differs size at rs n.1)
    where
      go : (b : Bool) → (In r rs → ⊥) → repeated (rows_of (pack p size t (at + row_bytes p r) rs)) ≡ false → repeated (rows_of (pack p size t at rs)) ≡ false →
          repeated (rows_of (elim b [ true ↦ record { row = r; tick = t; place = at } ∷ pack p size t (at + row_bytes p r) rs | false ↦ pack p size t at rs ])) ≡ false
      go true h a b =
          different_cons r (rows_of (pack p size t (at + row_bytes p r) rs)) (λ m.
          let x = map_in (λ x. x.row) (pack p size t (at + row_bytes p r) rs) m in
          h (subst (λ (z : ℕ). In z rs) (sym x.2) (pack_in p size t x.0 (at + row_bytes p r) rs x.1).1)) a
      go false h a b = b

  -- the items of different slots are of different nodes
  sends_differ : Good p → repeated (rows_of (sends p v t)) ≡ false
  unfolding sends takes beginning
  sends_differ g =
      rw (map_each (λ x. x.row) (takes p v t) (beginning p t))
      (different_each (λ b. rows_of (takes p v t b)) (λ b. b.node) (row_node p) (beginning p t)
      (λ b m. pack_differs b.bytes 0 (pending p v b.node) (pending_differ b.node))
      (λ b m r n. let x = map_in (λ x. x.row) (takes p v t b) n in ap (row_node p) x.2 ∙ pending_node p v b.node x.0.row (takes_in p v t b x.0 x.1))
      (rw (sym (keep_map (λ n. begins p n t) (λ (b : Slot). b.node) p.slots)) (keep_different (λ n. begins p n t) (map (λ b. b.node) p.slots) g.one_slot)))

module _ (p : Lines) (c : List Bool) (g : Good p) where
  new_differ : (t : ℕ) → repeated (rows_of (new_at p c t)) ≡ false
  new_differ t =
      let v : View = view_at p c t in
      rw (map_append (λ x. x.row) (sends p v t) (starts p v t))
      (different_append (rows_of (sends p v t)) (rows_of (starts p v t)) (sends_differ p v t g) (starts_differ p v t g) (λ r m n.
      let x = map_in (λ x. x.row) (sends p v t) m in
      let y = map_in (λ x. x.row) (starts p v t) n in
      let s = sends_in p v t x.0 x.1 in
      let i = pending_item p v s.slot.node x.0.row s.item in
      let l = (starts_in p v t y.0 y.1).row_in in
      omega (arith, sym x.2 ∙ y.2)))

  -- each row is placed at most once
  pub rows_once : (t : ℕ) → repeated (rows_of (log_at p c t)) ≡ false
  unfolding before
  rows_once zero = different_none
  rows_once (suc t) =
      subst (λ (l : Log). repeated (rows_of l) ≡ false) (sym (log_next p c t))
      (rw (map_append (λ x. x.row) (new_at p c t) (log_at p c t))
      (different_append (rows_of (new_at p c t)) (rows_of (log_at p c t)) (new_differ t) (rows_once t) (λ r m n.
      let x = map_in (λ x. x.row) (new_at p c t) m in
      let y = map_in (λ x. x.row) (log_at p c t) n in
      clash (in_placed y.1 x.0.row (sym y.2 ∙ x.2)) (new_facts p c t x.0 x.1).1)))

  pub unique : (t : ℕ) (x y : Placed) → In x (log_at p c t) → In y (log_at p c t) → x.row ≡ y.row → x ≡ y
  unique t = row_unique (log_at p c t) (rows_once t)
