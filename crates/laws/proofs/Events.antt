-- What a planner that goes from event to event needs of a tick: which slot begins, what its items are, and how many
-- slots pass a ready item over.
-- Assumes nothing.
use Rattle.std.specs.Prelude.{if◌then◌else◌}
use mathlib.Core.Path.{◌≡◌, refl, sym, ap, ◌∙◌, subst}
use mathlib.Core.Bool.{Bool, true, false, not, ◌&&◌}
use mathlib.Core.List.Memᴰ.{head as here}
use mathlib.Core.List.Memᴰ.{not-nil as in_none}
use mathlib.Core.List.Memᴰ.{tail as there}
use mathlib.Core.List.{List, [], ◌∷◌, ◌++◌, map, Memᴰ as In}
use Prim.Native.Nat.{ℕ, zero, suc, ◌<◌, ◌≤◌}
use native.Mathlib.Omega.{arith}
use lib.Dec.{eqb, ltb}
use lib.ListN.{length, length-append, length-map}
use borrow.Author.Tests.{ltb-true}
use Rattle.lists.specs.Lists.{keep, each, repeated}
use Rattle.lists.proofs.Tests.{clash}
use Rattle.lists.proofs.Members.{no_members, in_length, map_in}
use Rattle.lists.proofs.Keep.{keep_map, keep_same}
use Rattle.lists.proofs.Different.{keep_different, different_parts, different_few}
use Rattle.model.specs.Plan.{Lines, Slot, process, edge, decider, conditions, local}
use Rattle.model.specs.Bus.{rows, begins, beginning, edge_row, condition_row, row_bytes, slot_of}
use Rattle.model.specs.Log.{message_ready, broadcast_ready}
use Rattle.model.specs.Planning.{View, waits_to_broadcast, waits_to_send, queue, pending, pack, takes, passes_over, starts, sends, step, before}
use Rattle.laws.proofs.Good.{Good}
use Rattle.laws.proofs.Slots.{slot_own, beginning_in, in_beginning, one_slot_a_tick}
use Rattle.laws.proofs.Rows.{condition_bytes, edge_bytes}
use Rattle.laws.proofs.Steps.{Pending, broadcast, message, pending_in, pack_some, seen, log_at, view_at}
use Rattle.laws.proofs.OnlyDue.{only_due}
use Rattle.laws.proofs.Once.{rows_of, rows_once}

-- one slot alone, of slots of different nodes
single : (s : Slot) (xs : List Slot) → ((x : Slot) → In x xs → x ≡ s) → repeated (map (λ s. s.node) xs) ≡ false → In s xs → xs ≡ s ∷ []
single s [] a d m = absurd (in_none m)
single s (x ∷ []) a d m = ap (λ (z : Slot). z ∷ []) (a x (here refl))
single s (x ∷ y ∷ xs) a d m =
    let q : x ≡ y = a x (here refl) ∙ sym (a y (there (here refl))) in
    absurd ((different_parts x.node (map (λ s. s.node) (y ∷ xs)) d).0 (here (ap (λ (z : Slot). z.node) q)))

module _ (p : Lines) (g : Good p) where
  -- the slots that begin at a tick: none, or the one of a node
  pub none_begins : (t : ℕ) → ((n : ℕ) → n < length p.slots → begins p n t ≡ false) → beginning p t ≡ []
  none_begins t h = no_members _ (λ b m. let r = beginning_in p t m in clash r.1 (h b.node (g.slot_node_in b r.0)))

  pub one_begins : (t : ℕ) (s : Slot) → In s p.slots → begins p s.node t ≡ true → beginning p t ≡ s ∷ []
  unfolding beginning
  one_begins t s m e =
      single s (beginning p t) (λ x n. let r = beginning_in p t n in one_slot_a_tick p g x s r.0 m t r.1 e)
      (subst (λ (ns : List ℕ). repeated ns ≡ false) (keep_map (λ n. begins p n t) (λ s. s.node) p.slots)
      (keep_different (λ n. begins p n t) (map (λ s. s.node) p.slots) g.one_slot))
      (in_beginning p t m e)

  -- an item that is pending fits the slot of its node
  pub pending_fits : (v : View) (b : Slot) → In b p.slots → (r : ℕ) → In r (pending p v b.node) → row_bytes p r ≤ b.bytes
  pending_fits v b m r n = at r (pending_in p v b.node r n)
    where
      at : (s : ℕ) → Pending p v b.node s → row_bytes p s ≤ b.bytes
      at s (broadcast k y) = omega (arith, condition_bytes p k, g.slot_one b m)
      at s (message e y) =
          let q : slot_of p (process p (edge p e).from).node ≡ b = ap (slot_of p) y.on_node ∙ slot_own p g b m in
          omega (arith, edge_bytes p e y.in_range, g.fits e y.in_range y.between, ap (λ (s : Slot). s.bytes) q)

-- The items of a slot do not depend on which processes are placed.
module _ (p : Lines) (c : List Bool) (done put more : ℕ → Bool) (same : (r : ℕ) → length p.processes ≤ r → put r ≡ more r) where
  abbrev v : View
  v = seen p c done put

  abbrev w : View
  w = seen p c done more

  pub pending_same : (n : ℕ) → pending p (seen p c done put) n ≡ pending p (seen p c done more) n
  unfolding pending waits_to_broadcast waits_to_send
  pending_same n =
      let a : keep (waits_to_broadcast p v n) (conditions p) ≡ keep (waits_to_broadcast p w n) (conditions p) =
      keep_same (waits_to_broadcast p v n) (waits_to_broadcast p w n) (conditions p)
      (λ k m i. eqb (process p (decider p k)).node n && not (same (condition_row p k) (omega arith) i) && broadcast_ready p done k) in
      let b : keep (waits_to_send p v n) (queue p) ≡ keep (waits_to_send p w n) (queue p) =
      keep_same (waits_to_send p v n) (waits_to_send p w n) (queue p)
      (λ e m i. eqb (process p (edge p e).from).node n && not (local p e) && not (same (edge_row p e) (omega arith) i) && message_ready p v.heard done e) in
      λ i. map (condition_row p) (a i) ++ map (edge_row p) (b i)

  pub takes_same : (t : ℕ) (s : Slot) → takes p (seen p c done put) t s ≡ takes p (seen p c done more) t s
  unfolding takes
  takes_same t s = ap (pack p s.bytes t 0) (pending_same s.node)

  pub passes_same : (t : ℕ) (s : Slot) → passes_over p (seen p c done put) t s ≡ passes_over p (seen p c done more) t s
  unfolding passes_over
  passes_same t s = λ i. ltb (length (takes_same t s i)) (length (pending_same s.node i))

-- at most as many elements pass a test as are made of those that do
kept_made : {A B : Type 0} (f : A → Bool) (h : A → List B) (xs : List A) → ((x : A) → In x xs → f x ≡ true → 1 ≤ length (h x)) → length (keep f xs) ≤ length (each h xs)
kept_made f h [] k = omega arith
kept_made f h (x ∷ xs) k = at (f x) refl (kept_made f h xs (λ y m. k y (there m)))
  where
    at : (b : Bool) → f x ≡ b → length (keep f xs) ≤ length (each h xs) → length (if b then (x ∷ keep f xs) else keep f xs) ≤ length (h x ++ each h xs)
    at true e r = let l = k x (here refl) e in omega (arith, length-append (h x) (each h xs))
    at false e r = omega (arith, length-append (h x) (each h xs))

module _ (p : Lines) (c : List Bool) (g : Good p) (count : length c ≡ length p.conditions) where
  -- a slot that passes an item over takes another
  takes_one : (v : View) (t : ℕ) (b : Slot) → In b p.slots → passes_over p v t b ≡ true → 1 ≤ length (takes p v t b)
  unfolding passes_over takes
  takes_one v t b m e = at (pending p v b.node) refl (ltb-true _ _ e)
    where
      at : (rs : List ℕ) → pending p v b.node ≡ rs → length (pack p b.bytes t 0 (pending p v b.node)) < length (pending p v b.node) → 1 ≤ length (pack p b.bytes t 0 (pending p v b.node))
      at [] q l = absurd (let z = ap (λ (rs : List ℕ). length rs) q in omega arith)
      at (r ∷ rs) q l =
          let x = pack_some p b.bytes t (pending p v b.node) r (subst (λ (rs : List ℕ). In r rs) (sym q) (here refl)) (pending_fits p g v b m) in
          in_length x.1

  pub passed_rows : (t : ℕ) → length (before p c t).passed ≤ length (before p c t).log
  unfolding before step sends
  passed_rows zero = omega arith
  passed_rows (suc t) =
      let v : View = view_at p c t in
      let k = kept_made (passes_over p v t) (takes p v t) (beginning p t) (λ b m. takes_one v t b (beginning_in p t m).0) in
      omega (
        arith,
        passed_rows t,
        length-append (map (λ b. b.node) (keep (passes_over p v t) (beginning p t))) (before p c t).passed,
        length-map (keep (passes_over p v t) (beginning p t)) (λ b. b.node),
        length-append (sends p v t ++ starts p v t) (before p c t).log,
        length-append (sends p v t) (starts p v t),
      )

  -- a slot passes an item over at most once for each row
  pub passed_few : (t : ℕ) → length (before p c t).passed ≤ rows p
  passed_few t =
      let d = different_few (rows p) (rows_of (log_at p c t)) (rows_once p c g t)
      (λ r m. let x = map_in (λ x. x.row) (log_at p c t) m in subst (λ (r : ℕ). r < rows p) (sym x.2) (only_due p c g count t x.0 x.1).0) in
      omega (arith, passed_rows t, length-map (log_at p c t) (λ x. x.row))
