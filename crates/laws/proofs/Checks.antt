-- What it says of a combination's starts and items that one of the refusals 14 to 19 finds nothing, both ways.
-- Assumes nothing.
use Rattle.std.specs.Prelude.{if◌then◌else◌}
use mathlib.Core.Path.{◌≡◌, refl, sym}
use mathlib.Core.Logic.{◌⊎◌, inl, inr, ◌↔◌}
use mathlib.Core.Bool.{Bool, true, false, not, ◌&&◌}
use mathlib.Core.List.{List, Memᴰ as In}
use Prim.Native.Nat.{ℕ, ◌+◌, ◌≤◌, ◌<◌}
use native.Mathlib.Omega.{arith}
use lib.Dec.{eqb, leb, ltb}
use lib.ListN.{length}
use borrow.Author.Tests.{eqb-true, eq-eqb, lt-ltb, le-ltb, ltb-true, ltb-false, leb-true, le-leb, not-true, not-false}
use Rattle.lists.specs.Lists.{any, keep, below}
use Rattle.lists.proofs.Tests.{both, join, either, or_left, or_right, or_none, neither, not_both, and_none, is_not, no, swap, lower}
use Rattle.lists.proofs.Members.{none_in, any_false, in_keep, keep_in, in_below, below_in}
use Rattle.model.specs.Plan.{Lines, process, into, unit}
use Rattle.model.specs.Activity.{all_heard, carries}
use Rattle.model.specs.Bus.{begins, slot_of, rows, is_process, sender, row_node, row_bytes}
use Rattle.model.specs.Log.{Placed, Log, of_row, delivered}
use Rattle.model.specs.Table.{Entry, known_bits, bits_within, column_met}
use Rattle.model.specs.Checking.{met_entries, met_log, due, miscounted, not_once, column_unknown, uses_unknown, missing, placed_early, too_early, off_beginning, off_slot, apart, run_together, overlap, past_end, lie_together, share_byte}
use Rattle.laws.proofs.Rows.{done_by, known_by}
use Rattle.laws.proofs.Rules.{Start, Item}

abbrev Apart : ℕ → ℕ → ℕ → ℕ → Type 0
Apart a la b lb = (a + la ≤ b) ⊎ (b + lb ≤ a)

apart_iff : (s : Bool) (a la b lb : ℕ) → ((s && not (apart a la b lb)) ≡ false) ↔ (s ≡ true → Apart a la b lb)
unfolding apart
apart_iff s a la b lb = (λ h q. to (either (leb (a + la) b) _ (not-false _ (not_both s _ h q))), λ f. and_none s _ (λ q. no (back (f q))))
  where
    to : (leb (a + la) b ≡ true) ⊎ (leb (b + lb) a ≡ true) → Apart a la b lb
    to (inl e) = inl (leb-true _ _ e)
    to (inr e) = inr (leb-true _ _ e)

    back : Apart a la b lb → apart a la b lb ≡ true
    back (inl l) = or_left _ _ (le-leb (a + la) b l)
    back (inr l) = or_right (leb (a + la) b) _ (le-leb (b + lb) a l)

-- what holds both ways round need be shown of the lower row and the higher one
by_rows : (R : Placed → Placed → Type 0) → ((x y : Placed) → R x y → R y x) → ((x y : Placed) → x.row < y.row → R x y) → (x y : Placed) → (x.row ≡ y.row → ⊥) → R x y
by_rows R s h x y d = at (lower x.row y.row d)
  where
    at : (x.row < y.row) ⊎ (y.row < x.row) → R x y
    at (inl l) = h x y l
    at (inr l) = s y x (h y x l)

module _ (p : Lines) (es : List Entry) (c : List Bool) where
  abbrev M : Log
  M = met_log es c

  -- the starts and the items among them
  abbrev starts : Log
  starts = keep (λ x. is_process p x.row) (met_log es c)

  abbrev items : Log
  items = keep (λ x. not (is_process p x.row)) (met_log es c)

  in_starts : {x : Placed} → Start p M x → In x starts
  in_starts m = in_keep (λ x. is_process p x.row) m.member (lt-ltb _ _ m.low)

  starts_in : {x : Placed} → In x starts → Start p M x
  starts_in m = let a = keep_in (λ x. is_process p x.row) M m in record { member = a.0; low = ltb-true _ _ a.1 }

  in_items : {x : Placed} → Item p M x → In x items
  in_items m = in_keep (λ x. not (is_process p x.row)) m.member (is_not _ (le-ltb _ _ m.high))

  items_in : {x : Placed} → In x items → Item p M x
  items_in m = let a = keep_in (λ x. not (is_process p x.row)) M m in record { member = a.0; high = ltb-false _ _ (not-true _ a.1) }

  -- 14
  pub none_14 : (not_once p es c ≡ false) ↔ ((r : ℕ) → r < rows p → length (of_row M r) ≡ (if due p c r then 1 else 0))
  unfolding not_once miscounted
  none_14 = (
    λ h r l. eqb-true _ _ (not-false _ (none_in (miscounted p c M) h (in_below (rows p) r l))),
    λ f. any_false (miscounted p c M) (below (rows p)) (λ r m. no (eq-eqb _ _ (f r (below_in (rows p) m)))),
  )

  -- 15
  pub none_15 : (uses_unknown p es c ≡ false)
      ↔ ((e : Entry) → In e es → column_met (all_heard c) e ≡ true → bits_within 32 e.known (known_bits (known_by p c M e.tick)) ≡ true)
  unfolding uses_unknown column_unknown met_entries
  none_15 = (
    λ h e m q. not-false _ (none_in (column_unknown p c M) h (in_keep (column_met (all_heard c)) m q)),
    λ f. any_false (column_unknown p c M) (met_entries es c) (λ e m. let q = keep_in (column_met (all_heard c)) es m in no (f e q.0 q.1)),
  )

  -- 16
  abbrev AfterInputs : Type 0
  AfterInputs = (x : Placed) → Start p M x → (e : ℕ) → In e (into p x.row) → carries p c e ≡ true → delivered p (known_by p c M x.tick) (done_by p M x.tick) e ≡ true

  abbrev AfterSender : Type 0
  AfterSender = (x : Placed) → Item p M x → done_by p M x.tick (sender p x.row) ≡ true

  pub none_16 : (too_early p es c ≡ false) ↔ (AfterInputs × AfterSender)
  unfolding too_early placed_early missing
  none_16 = (
    λ h. (
      λ x m e n q.
          let f : any (missing p c (done_by p M x.tick)) (into p x.row) ≡ false = rw (lt-ltb x.row (length p.processes) m.low) at (none_in (placed_early p c M) h m.member) in
          not-false _ (not_both (carries p c e) _ (none_in (missing p c (done_by p M x.tick)) f n) q),
      λ x m. not-false _ (rw (le-ltb x.row (length p.processes) m.high) at (none_in (placed_early p c M) h m.member)),
    ),
    λ f. any_false (placed_early p c M) M (λ x m. at f x m (is_process p x.row) refl),
  )
    where
      at : AfterInputs × AfterSender → (x : Placed) → In x M → (b : Bool) → is_process p x.row ≡ b →
          (if b then any (missing p c (done_by p M x.tick)) (into p x.row) else not (done_by p M x.tick (sender p x.row))) ≡ false
      at f x m true e = any_false _ (into p x.row) (λ d n. and_none (carries p c d) _ (λ q. no (f.0 x (record { member = m; low = ltb-true _ _ e }) d n q)))
      at f x m false e = no (f.1 x (record { member = m; high = ltb-false _ _ e }))

  -- 17
  pub none_17 : (off_slot p es c ≡ false) ↔ ((x : Placed) → Item p M x → begins p (row_node p x.row) x.tick ≡ true)
  unfolding off_slot off_beginning
  none_17 = (
    λ h x m. not-false _ (not_both (not (is_process p x.row)) _ (none_in (off_beginning p) h m.member) (is_not _ (le-ltb _ _ m.high))),
    λ f. any_false (off_beginning p) M (λ x m. and_none (not (is_process p x.row)) _ (λ q. no (f x (record { member = m; high = ltb-false _ _ (not-true _ q) })))),
  )

  -- 18
  abbrev Clear : Placed → Placed → Type 0
  Clear x y =
      Start p M x → Start p M y → unit p x.row ≡ unit p y.row → Apart x.tick (process p x.row).ticks y.tick (process p y.row).ticks

  pub none_18 : (overlap p es c ≡ false) ↔ ((x y : Placed) → (x.row ≡ y.row → ⊥) → Clear x y)
  unfolding overlap run_together
  none_18 = (
    λ h. by_rows Clear (λ x y f m n q. swap (f n m (sym q))) (λ x y l m n q.
        (apart_iff _ _ _ _ _).0 (none_in (run_together p x) (none_in (λ x. any (run_together p x) starts) h (in_starts m)) (in_starts n)) (join _ _ (lt-ltb _ _ l) (eq-eqb _ _ q))),
    λ f. any_false (λ x. any (run_together p x) starts) starts (λ x m. any_false (run_together p x) starts (λ y n.
        (apart_iff _ _ _ _ _).1 (λ q.
        let r = both (ltb x.row y.row) (eqb (unit p x.row) (unit p y.row)) q in
        let l : x.row < y.row = ltb-true _ _ r.0 in
        f x y (λ z. omega arith) (starts_in m) (starts_in n) (eqb-true _ _ r.1)))),
  )

  -- 19
  abbrev Fits : Placed → Type 0
  Fits x = Item p M x → x.place + row_bytes p x.row ≤ (slot_of p (row_node p x.row)).bytes

  abbrev Beside : Placed → Placed → Type 0
  Beside x y =
      Item p M x → Item p M y → x.tick ≡ y.tick → row_node p x.row ≡ row_node p y.row → Apart x.place (row_bytes p x.row) y.place (row_bytes p y.row)

  pub none_19 : (share_byte p es c ≡ false) ↔ (((x : Placed) → Fits x) × ((x y : Placed) → (x.row ≡ y.row → ⊥) → Beside x y))
  unfolding share_byte past_end lie_together
  none_19 = (
    λ h.
        let parts : (x : Placed) → Item p M x → (past_end p x ≡ false) × (any (lie_together p x) items ≡ false) =
        λ x m. neither (past_end p x) _ (none_in _ h (in_items m)) in (
          λ x m. ltb-false _ _ (parts x m).0,
          by_rows Beside (λ x y f m n q r. swap (f n m (sym q) (sym r))) (λ x y l m n q r.
              (apart_iff _ _ _ _ _).0 (none_in (lie_together p x) (parts x m).1 (in_items n)) (join _ _ (join _ _ (lt-ltb _ _ l) (eq-eqb _ _ q)) (eq-eqb _ _ r))),
        ),
    λ f. any_false _ items (λ x m. or_none (le-ltb _ _ (f.0 x (items_in m))) (any_false (lie_together p x) items (λ y n.
        (apart_iff _ _ _ _ _).1 (λ q.
        let r = both (ltb x.row y.row && eqb x.tick y.tick) (eqb (row_node p x.row) (row_node p y.row)) q in
        let t = both (ltb x.row y.row) (eqb x.tick y.tick) r.0 in
        let l : x.row < y.row = ltb-true _ _ t.0 in
        f.1 x y (λ z. omega arith) (items_in m) (items_in n) (eqb-true _ _ t.1) (eqb-true _ _ r.1))))),
  )
