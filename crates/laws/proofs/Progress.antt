-- Planning makes progress: before tick `bound p` everything due is placed, and by that tick it is over.
-- Assumes nothing.
use mathlib.Core.Path.{◌≡◌, refl, sym, ap, ◌∙◌, subst}
use mathlib.Core.Logic.{◌⊎◌, inl, inr}
use mathlib.Core.Bool.{Bool, true, false}
use mathlib.Core.List.Memᴰ.{append_left as in_left}
use mathlib.Core.List.Memᴰ.{append_right as in_right}
use mathlib.Core.List.Memᴰ.{head as here}
use mathlib.Core.List.Memᴰ.{not-nil as in_none}
use mathlib.Core.List.{List, [], ◌∷◌, ◌++◌, Memᴰ as In}
use Prim.Native.Nat.{ℕ, zero, suc, ◌+◌, ◌-◌, ◌≤◌, ◌<◌}
use native.Mathlib.Nat.{add-zero, add-suc, zero-add}
use native.Mathlib.Omega.{arith}
use lib.Dec.{ltb}
use lib.ListN.{length}
use borrow.Author.Tests.{ltb-true, ltb-false}
use Rattle.lists.specs.Lists.{any, each, below}
use Rattle.lists.proofs.Tests.{two, same_test}
use Rattle.lists.proofs.Members.{any_in, none_in, each_in, in_each, in_below}
use Rattle.lists.proofs.Sums.{sum_zero}
use Rattle.model.specs.Plan.{Lines, Slot, edge, decider}
use Rattle.model.specs.Bus.{begins, first_beginning, round, rows}
use Rattle.model.specs.Log.{Placed, Log, placed, full_ticks, span}
use Rattle.model.specs.Planning.{View, view, starts, pending, takes, sends, bound, planned}
use Rattle.model.specs.Checking.{due}
use Rattle.laws.proofs.Frozen.{all_placed}
use Rattle.laws.proofs.Good.{Good}
use Rattle.laws.proofs.Once.{unique}
use Rattle.laws.proofs.OnlyDue.{only_due}
use Rattle.laws.proofs.Potential.{lasts, left, OverBy, to_go, start_in_bound, go_later, go_new, go_item, go_runs, left_over, none_left}
use Rattle.laws.proofs.Rows.{placed_in, in_over, over_placed, done_by}
use Rattle.laws.proofs.Slots.{beginning_begins, beginning_within, in_beginning}
use Rattle.laws.proofs.Events.{pending_fits}
use Rattle.laws.proofs.Steps.{Started, Pending, broadcast, message, Taken, pending_item, in_pending, pack_some, starts_in, in_starts, takes_in, seen, log_at, view_at, new_at, new_in, log_next}

module _ (p : Lines) (c : List Bool) (g : Good p) (count : length c ≡ length p.conditions) where
  -- some ticks later less is left, by at least as much
  abbrev Less : ℕ → Type 0
  Less t = (d : ℕ) × (1 ≤ d) × (to_go p c (t + d) + d ≤ to_go p c t)

  one_tick : (t : ℕ) → to_go p c (suc t) + 1 ≤ to_go p c t → Less t
  one_tick t l = (1, omega arith, (let q : t + 1 ≡ suc t = omega arith in rw q l))

  module _ (t : ℕ) where
    abbrev log : Log
    log = log_at p c t

    -- a row that is placed and not over
    runs : Placed → Bool
    runs x = ltb t (x.tick + lasts p x.row)

    -- the view where everything placed is over
    abbrev v : View
    v = seen p c (placed log) (placed log)

    -- what waits for a slot
    abbrev waiting : List ℕ
    waiting = each (λ s. pending p v s.node) p.slots

    sender_slot : (n r : ℕ) → Pending p v n r → (s : Slot) × In s p.slots × (s.node ≡ n)
    sender_slot n r (broadcast k y) = let s = g.has_slot (decider p k) (g.decides k y.in_range) in (s.0, s.1, s.2 ∙ y.on_node)
    sender_slot n r (message e y) = let s = g.has_slot (edge p e).from (g.from_in e y.in_range) in (s.0, s.1, s.2 ∙ y.on_node)

    module _ (none_runs : any runs log ≡ false) (none-new : new_at p c t ≡ []) where
      over_by_now : (x : Placed) → In x log → x.tick + lasts p x.row ≤ t
      unfolding runs
      over_by_now x m = ltb-false _ _ (none_in runs none_runs m)

      placed_over : (r : ℕ) → placed log r ≡ true → OverBy p c t r
      placed_over r e = let m = placed_in log r e in (m.0, m.1, m.2, subst (λ (r : ℕ). m.0.tick + lasts p r ≤ t) m.2 (over_by_now m.0 m.1))

      same_view : (u : ℕ) → t ≤ u → log_at p c u ≡ log → view_at p c u ≡ v
      unfolding view
      same_view u l e =
          ap (λ (z : Log). view p c z u) e
          ∙ ap (λ (d : ℕ → Bool). seen p c d (placed log)) (λ i r. same_test _ _ (over_placed p (full_ticks p) log u r) (still_over r) i)
        where
          still_over : (r : ℕ) → placed log r ≡ true → done_by p log u r ≡ true
          still_over r e = let m = placed_over r e in in_over p (full_ticks p) u r m.1 m.2 (let k = m.3 in omega arith)

      no_start : (u : ℕ) (x : Placed) → Started p v u x → ⊥
      no_start u x s =
          let y = in_starts p v t x.row s.row_in s.unit_in s.unit_free s.unplaced s.is_ready in
          in_none (subst (λ (l : Log). In y.0 l) none-new (in_right (sends p (view_at p c t) t) (subst (λ (w : View). In y.0 (starts p w t)) (sym (same_view t (omega arith) refl)) y.1)))

      -- an item is placed after k ticks
      abbrev ItemAfter : ℕ → Type 0
      ItemAfter k = (x : Placed) × In x (new_at p c (t + k)) × (length p.processes ≤ x.row)

      -- j ticks later the log is as it was, or an item was placed in between
      abbrev Waited : ℕ → Type 0
      Waited j = (log_at p c (t + j) ≡ log) ⊎ ((k : ℕ) × (k < j) × ItemAfter k)

      wait : (j : ℕ) → Waited j
      wait zero = inl (ap (log_at p c) (add-zero t))
      wait (suc j) = at (wait j)
        where
          is_item : log_at p c (t + j) ≡ log → (x : Placed) → Taken p (view_at p c (t + j)) (t + j) x ⊎ Started p (view_at p c (t + j)) (t + j) x → length p.processes ≤ x.row
          is_item e x (inl s) = pending_item p _ _ x.row s.item
          is_item e x (inr s) = absurd (no_start (t + j) x (subst (λ (w : View). Started p w (t + j) x) (same_view (t + j) (omega arith) e) s))

          look : log_at p c (t + j) ≡ log → (xs : Log) → new_at p c (t + j) ≡ xs → Waited (suc j)
          look e [] q = inl (ap (log_at p c) (add-suc t j) ∙ log_next p c (t + j) ∙ (λ i. q i ++ e i))
          look e (x ∷ xs) q =
              let m : In x (new_at p c (t + j)) = subst (λ (l : Log). In x l) (sym q) (here refl) in
              inr (j, omega arith, (x, m, is_item e x (new_in p c (t + j) x m)))

          at : Waited j → Waited (suc j)
          at (inl e) = look e (new_at p c (t + j)) refl
          at (inr m) = inr (m.0, (let l = m.1 in omega arith), m.2)

      -- a waiting item's slot begins within a round, and takes one
      module _ (b : Slot) (is-slot : In b p.slots) (r : ℕ) (waits : In r (pending p v b.node)) where
        within_round : (k : ℕ) × (k < round p) × ItemAfter k
        unfolding sends takes
        within_round = at (wait d)
          where
            d : ℕ
            d = first_beginning p b.node t - t

            near : (t ≤ first_beginning p b.node t) × (first_beginning p b.node t < t + round p)
            near = beginning_within p g b is-slot t

            at : Waited d → (k : ℕ) × (k < round p) × ItemAfter k
            at (inr m) = (m.0, (let l = m.1 in omega (arith, near)), m.2)
            at (inl e) =
                let u : ℕ = t + d in
                let q : u ≡ first_beginning p b.node t = omega (arith, near) in
                let begun = in_beginning p u is-slot (ap (begins p b.node) q ∙ beginning_begins p g b is-slot t) in
                let x = pack_some p b.bytes u (pending p v b.node) r waits (pending_fits p g v b is-slot) in
                let m : In x.0 (sends p v u) = in_each (takes p v u) begun x.1 in
                let m' : In x.0 (sends p (view_at p c u) u) = subst (λ (w : View). In x.0 (sends p w u)) (sym (same_view u (omega arith) e)) m in
                (d, omega (arith, near), (x.0, in_left (starts p (view_at p c u) u) m', pending_item p v b.node x.0.row (takes_in p v u b x.0 x.1)))

        less_later : Less t
        less_later =
            let w = within_round in
            let k : ℕ = w.0 in
            let l : k < round p = w.1 in
            let a = go_item p c g count (t + k) w.2.0 w.2.1 w.2.2 in
            let b = go_later p c g count t k in
            (suc k, omega arith, rw (add-suc t k) (omega arith))

      -- everything placed is over and nothing is placed: an item waits, or nothing is left
      nothing_new : 1 ≤ to_go p c t → (rs : List ℕ) → waiting ≡ rs → Less t
      nothing_new l (r ∷ rs) q =
          let m = each_in (λ s. pending p v s.node) p.slots (subst (λ (zs : List ℕ). In r zs) (sym q) (here refl)) in
          less_later m.0 m.1 r m.2
      nothing_new l [] q = absurd (omega (arith, none_left p c g count t (λ r u d. placed_over r (all_placed p c g count (placed log) t still idle r u d))))
        where
          still : (x : Placed) → In x (starts p v t) → ⊥
          still x m = no_start t x (starts_in p v t x m)

          idle : (n r : ℕ) → Pending p v n r → ⊥
          idle n r w =
              let s = sender_slot n r w in
              in_none (subst (λ (zs : List ℕ). In r zs) q (in_each (λ s. pending p v s.node) s.1 (subst (λ (n : ℕ). In r (pending p v n)) (sym s.2) (in_pending p v n r w))))

    -- while something is left, less is left later
    less : 1 ≤ to_go p c t → Less t
    unfolding runs
    less l = at (two (any runs log)) (new_at p c t) refl
      where
        at : (any runs log ≡ true) ⊎ (any runs log ≡ false) → (xs : Log) → new_at p c t ≡ xs → Less t
        at (inl e) xs q = let m = any_in runs log e in one_tick t (go_runs p c g count t m.0 m.1 (ltb-true _ _ m.2))
        at (inr e) [] q = nothing_new e q l waiting refl
        at (inr e) (x ∷ xs) q = one_tick t (go_new p c g count t x (subst (λ (l : Log). In x l) (sym q) (here refl)))

  finish : (n k t : ℕ) → k ≤ n → to_go p c t ≤ k → to_go p c (t + k) ≡ 0
  finish zero k t u l = let w = go_later p c g count t k in omega arith
  finish (suc n) k t u l = at (two (ltb 0 (to_go p c t))) (finish n)
    where
      at : (ltb 0 (to_go p c t) ≡ true) ⊎ (ltb 0 (to_go p c t) ≡ false) → ((k t : ℕ) → k ≤ n → to_go p c t ≤ k → to_go p c (t + k) ≡ 0) → to_go p c (t + k) ≡ 0
      at (inl e) r =
          let s = less t (ltb-true 0 _ e) in
          let d : ℕ = s.0 in
          let a : 1 ≤ d = s.1 in
          let b : to_go p c (t + d) + d ≤ to_go p c t = s.2 in
          let q : t + k ≡ (t + d) + (k - d) = omega arith in
          ap (to_go p c) q ∙ r (k - d) (t + d) (omega arith) (omega arith)
      at (inr e) r = let z : to_go p c t ≤ 0 = ltb-false 0 _ e in let w = go_later p c g count t k in omega arith

  nothing_to_go : to_go p c (bound p) ≡ 0
  nothing_to_go = ap (to_go p c) (sym (zero-add (bound p))) ∙ finish (bound p) (bound p) 0 (omega arith) (start_in_bound p c)

  -- everything due is placed, and over by the bound
  pub everything_over : (r : ℕ) → r < rows p → due p c r ≡ true → (x : Placed) × In x (planned p c).log × (x.row ≡ r) × (x.tick + span p (full_ticks p) r ≤ bound p)
  unfolding planned
  everything_over r l d = left_over p c g count (bound p) r l d (sum_zero (left p c (bound p)) (below (rows p)) nothing_to_go r (in_below (rows p) r l))

  -- so is everything placed
  pub over_by_bound : (x : Placed) → In x (planned p c).log → x.tick + span p (full_ticks p) x.row ≤ bound p
  unfolding planned
  over_by_bound x m =
      let d = only_due p c g count (bound p) x m in
      let y = everything_over x.row d.0 d.1 in
      subst (λ (z : Placed). z.tick + span p (full_ticks p) x.row ≤ bound p) (unique p c g (bound p) y.0 x y.1 m y.2) y.3
