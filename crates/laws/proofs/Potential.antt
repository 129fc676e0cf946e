-- What is left to do before a tick, as a number that never grows: of each due row its whole cost while it is not
-- placed, and then the ticks until it is over.
-- Assumes nothing.
use Rattle.std.specs.Prelude.{if◌then◌else◌}
use mathlib.Core.Path.{◌≡◌, refl, sym, ap, ◌∙◌, subst}
use mathlib.Core.Logic.{◌⊎◌, inl, inr}
use mathlib.Core.Bool.{Bool, true, false}
use mathlib.Core.List.{List, map, Memᴰ as In}
use Prim.Native.Nat.{ℕ, zero, suc, ◌+◌, ◌-◌, ◌*◌, ◌≤◌, ◌<◌}
use native.Mathlib.Nat.{add-zero, add-suc}
use native.Mathlib.Omega.{arith}
use lib.Dec.{eqb}
use lib.ListN.{length, get_or}
use borrow.Author.Tests.{eqb-true, eq-eqb, lt-ltb, le-ltb}
use Rattle.lists.specs.Lists.{upfrom, below, sum, greatest}
use Rattle.lists.proofs.Tests.{two, clash}
use Rattle.lists.proofs.Members.{in_keep, keep_in, in_below, below_in}
use Rattle.lists.proofs.Sums.{greatest_le, greatest_in, sum_le, sum_drop, sum_nothing, sum_split, sum_const, sum_list}
use Rattle.model.specs.Plan.{Lines}
use Rattle.model.specs.Bus.{is_process, round, rows, transit}
use Rattle.model.specs.Log.{Placed, Log, of_row, placed, full_ticks, span}
use Rattle.model.specs.Planning.{bound, before}
use Rattle.model.specs.Checking.{due}
use Rattle.laws.proofs.Good.{Good}
use Rattle.laws.proofs.Once.{unique}
use Rattle.laws.proofs.OnlyDue.{only_due}
use Rattle.laws.proofs.Rows.{placed_in, in_placed, full_length, span_one, item_span, transit_round}
use Rattle.laws.proofs.Steps.{log_at, new_at, new_facts, log_in, in_new, in_old}

module _ (p : Lines) where
  abbrev pub lasts : ℕ → ℕ
  lasts r = span p (full_ticks p) r

  -- what a row costs while it is not placed: a process its ticks, an item two rounds
  abbrev cost : ℕ → ℕ
  cost r = if is_process p r then get_or (full_ticks p) r 0 else 2 * round p

  lasts_cost : Good p → (r : ℕ) → r < rows p → lasts r ≤ cost r
  unfolding span
  lasts_cost g r l = at (is_process p r)
    where
      at : (b : Bool) → (if b then get_or (full_ticks p) r 0 else transit p r) ≤ (if b then get_or (full_ticks p) r 0 else 2 * round p)
      at true = omega arith
      at false = omega (arith, transit_round p g r l)

  module _ (c : List Bool) where
    -- the tick at which a row was placed
    abbrev tick_of : ℕ → ℕ → ℕ
    tick_of t r = greatest (map (λ x. x.tick) (of_row (log_at p c t) r))

    abbrev pub left : ℕ → ℕ → ℕ
    left t r = if due p c r then (if placed (log_at p c t) r then (tick_of t r + lasts r) - t else cost r) else 0

    abbrev pub to_go : ℕ → ℕ
    to_go t = sum (map (left t) (below (rows p)))

    -- a row is placed before a tick, and over by it
    abbrev pub OverBy : ℕ → ℕ → Type 0
    OverBy t r = (x : Placed) × In x (log_at p c t) × (x.row ≡ r) × (x.tick + lasts r ≤ t)

    -- before the first tick: all costs, which are within the bound
    pub start_in_bound : to_go 0 ≤ bound p
    unfolding before
    start_in_bound =
        let f : ℕ → ℕ = left 0 in
        let a : ℕ = length p.processes in
        let b : ℕ = length p.edges in
        let d : ℕ = length p.conditions in
        let s₁ : sum (map f (upfrom 0 (a + b + d))) ≡ sum (map f (upfrom 0 (a + b))) + sum (map f (upfrom (0 + (a + b)) d)) = sum_split f 0 (a + b) d in
        let s₂ : sum (map f (upfrom 0 (a + b))) ≡ sum (map f (upfrom 0 a)) + sum (map f (upfrom (0 + a) b)) = sum_split f 0 a b in
        let l₁ : sum (map f (upfrom 0 a)) ≤ sum (full_ticks p) = rw (full_length p) at (sum_list f (full_ticks p) 0 process_cost) in
        let l₂ : sum (map f (upfrom (0 + a) b)) ≤ 2 * round p * b = sum_const f (2 * round p) (0 + a) b (λ r l. item_cost r (omega arith)) in
        let l₃ : sum (map f (upfrom (0 + (a + b)) d)) ≤ 2 * round p * d = sum_const f (2 * round p) (0 + (a + b)) d (λ r l. item_cost r (omega arith)) in
        omega arith
      where
        whole : (r : ℕ) → left 0 r ≤ cost r
        whole r = at (due p c r)
          where
            at : (b : Bool) → (if b then cost r else 0) ≤ cost r
            at true = omega arith
            at false = omega arith

        process_cost : (i : ℕ) → i < length (full_ticks p) → left 0 (0 + i) ≤ get_or (full_ticks p) i 0
        process_cost i l =
            let e : 0 + i ≡ i = omega arith in
            let k : cost i ≡ get_or (full_ticks p) i 0 = rw (lt-ltb i (length p.processes) (omega (arith, full_length p))) in
            rw e (omega (arith, whole i))

        item_cost : (r : ℕ) → length p.processes ≤ r → left 0 r ≤ 2 * round p
        item_cost r l =
            let k : cost r ≡ 2 * round p = rw (le-ltb r (length p.processes) l) in
            omega (arith, whole r)

    module _ (g : Good p) (count : length c ≡ length p.conditions) where
      left_placed : (t r : ℕ) → due p c r ≡ true → (x : Placed) → In x (log_at p c t) → x.row ≡ r → left t r ≡ (x.tick + lasts r) - t
      left_placed t r d x m q =
          let log : Log = log_at p c t in
          let a = greatest_in (λ x. x.tick) (of_row log r) x (in_keep (λ x. eqb x.row r) m (eq-eqb _ _ q)) in
          let b = greatest_le (λ x. x.tick) x.tick (of_row log r) (λ y n.
          let k = keep_in (λ x. eqb x.row r) log n in
          omega (arith, ap (λ (z : Placed). z.tick) (unique p c g t y x k.0 m (eqb-true _ _ k.1 ∙ sym q)))) in
          rw (d, in_placed m r q) (omega arith)

      left_unplaced : (t r : ℕ) → due p c r ≡ true → placed (log_at p c t) r ≡ false → left t r ≡ cost r
      left_unplaced t r d u = rw (d, u)

      left_new : (t : ℕ) (x : Placed) → In x (new_at p c t) → left (suc t) x.row + (cost x.row - lasts x.row + 1) ≤ left t x.row
      left_new t x m =
          let n = in_new p c t x m in
          let d = only_due p c g count (suc t) x n in
          let f = new_facts p c t x m in
          omega (arith, left_placed (suc t) x.row d.1 x n refl, left_unplaced t x.row d.1 f.1, f.0, span_one p g x.row d.0, lasts_cost g x.row d.0)

      left_keeps : (t r : ℕ) → left (suc t) r ≤ left t r
      left_keeps t r = at (two (due p c r)) (two (placed (log_at p c t) r)) (two (placed (log_at p c (suc t)) r))
        where
          appears : placed (log_at p c t) r ≡ false → (x : Placed) → x.row ≡ r → In x (new_at p c t) ⊎ In x (log_at p c t) → left (suc t) r ≤ left t r
          appears u x q (inl n) = let k = left_new t x n in subst (λ (r : ℕ). left (suc t) r ≤ left t r) q (omega arith)
          appears u x q (inr n) = clash (in_placed n r q) u

          at : (due p c r ≡ true) ⊎ (due p c r ≡ false) → (placed (log_at p c t) r ≡ true) ⊎ (placed (log_at p c t) r ≡ false) →
              (placed (log_at p c (suc t)) r ≡ true) ⊎ (placed (log_at p c (suc t)) r ≡ false) → left (suc t) r ≤ left t r
          at (inr d) u w = rw d (omega arith)
          at (inl d) (inl u) w =
              let m = placed_in (log_at p c t) r u in
              omega (arith, left_placed t r d m.0 m.1 m.2, left_placed (suc t) r d m.0 (in_old p c t m.0 m.1) m.2)
          at (inl d) (inr u) (inl w) = let m = placed_in (log_at p c (suc t)) r w in appears u m.0 m.2 (log_in p c t m.0 m.1)
          at (inl d) (inr u) (inr w) = omega (arith, left_unplaced t r d u, left_unplaced (suc t) r d w)

      pub go_later : (t k : ℕ) → to_go (t + k) ≤ to_go t
      go_later t zero = rw (add-zero t) (omega arith)
      go_later t (suc k) = rw (add-suc t k) (omega (arith, sum_le (left (suc (t + k))) (left (t + k)) (below (rows p)) (λ r m. left_keeps (t + k) r), go_later t k))

      go_drop : (t d r : ℕ) → r < rows p → left (suc t) r + d ≤ left t r → to_go (suc t) + d ≤ to_go t
      go_drop t d r l h = sum_drop (left (suc t)) (left t) d (below (rows p)) (λ r m. left_keeps t r) r (in_below (rows p) r l) h

      -- what is placed at a tick brings it down by at least 1, an item by more than a round
      pub go_new : (t : ℕ) (x : Placed) → In x (new_at p c t) → to_go (suc t) + 1 ≤ to_go t
      go_new t x m =
          let k = left_new t x m in
          go_drop t 1 x.row (only_due p c g count (suc t) x (in_new p c t x m)).0 (omega arith)

      pub go_item : (t : ℕ) (x : Placed) → In x (new_at p c t) → length p.processes ≤ x.row → to_go (suc t) + (round p + 1) ≤ to_go t
      go_item t x m i =
          let k = left_new t x m in
          let l = (only_due p c g count (suc t) x (in_new p c t x m)).0 in
          let w : cost x.row ≡ 2 * round p = rw (le-ltb x.row (length p.processes) i) in
          go_drop t (round p + 1) x.row l (omega (arith, item_span p (full_ticks p) x.row i, transit_round p g x.row l))

      -- so does a row that is placed and not over
      pub go_runs : (t : ℕ) (x : Placed) → In x (log_at p c t) → t < x.tick + lasts x.row → to_go (suc t) + 1 ≤ to_go t
      go_runs t x m u =
          let d = only_due p c g count t x m in
          go_drop t 1 x.row d.0 (omega (arith, left_placed t x.row d.1 x m refl, left_placed (suc t) x.row d.1 x (in_old p c t x m) refl))

      -- nothing is left of a due row once it is placed and over, and only then
      pub left_over : (t r : ℕ) → r < rows p → due p c r ≡ true → left t r ≡ 0 → OverBy t r
      left_over t r l d z = at (two (placed (log_at p c t) r))
        where
          at : (placed (log_at p c t) r ≡ true) ⊎ (placed (log_at p c t) r ≡ false) → OverBy t r
          at (inl u) = let m = placed_in (log_at p c t) r u in (m.0, m.1, m.2, omega (arith, left_placed t r d m.0 m.1 m.2))
          at (inr u) = absurd (omega (arith, left_unplaced t r d u, lasts_cost g r l, span_one p g r l))

      pub none_left : (t : ℕ) → ((r : ℕ) → r < rows p → due p c r ≡ true → OverBy t r) → to_go t ≤ 0
      none_left t over = sum_nothing (left t) (below (rows p)) (λ r m. at r (below_in (rows p) m) (two (due p c r)))
        where
          at : (r : ℕ) → r < rows p → (due p c r ≡ true) ⊎ (due p c r ≡ false) → left t r ≤ 0
          at r l (inl d) = let m = over r l d in let u = m.3 in omega (arith, left_placed t r d m.0 m.1 m.2)
          at r l (inr d) = rw d (omega arith)
