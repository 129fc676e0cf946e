-- What the plans of two combinations share that differ in one condition: all that is placed before its value arrives.
-- What was placed before a tick, and which values were known then, can be read off the finished plan.
-- Assumes nothing.
use mathlib.Core.Path.{◌≡◌, refl, sym, ap, ◌∙◌, subst}
use mathlib.Core.Logic.{◌⊎◌, inl, inr}
use mathlib.Core.Bool.{Bool, true, false}
use mathlib.Core.List.Memᴰ.{head as here}
use mathlib.Core.List.Memᴰ.{not-nil as in_none}
use mathlib.Core.List.Memᴰ.{tail as there}
use mathlib.Core.List.{List, [], ◌∷◌, map, Memᴰ as In}
use Prim.Native.Nat.{ℕ, zero, suc, ◌+◌, ◌-◌, ◌<◌, ◌≤◌}
use native.Mathlib.Omega.{arith}
use lib.Dec.{eqb, leb, ltb}
use lib.ListN.{length, get_or}
use borrow.Author.Tests.{eq-eqb, eqb-true, eqb-false, leb-true, leb-false, ltb-true, ltb-false}
use Rattle.lists.specs.Lists.{repeated}
use Rattle.lists.proofs.Tests.{two, clash, is_false}
use Rattle.lists.proofs.Members.{keep_in, in_keep, no_members, in_map}
use Rattle.lists.proofs.Different.{different_parts}
use Rattle.model.specs.Plan.{Lines, Slot, process, unit}
use Rattle.model.specs.Activity.{Heard}
use Rattle.model.specs.Bus.{condition_row, rows, sender, row_node, begins, transit, slot_ticks, slot_of}
use Rattle.model.specs.Log.{Placed, Log, of_row, full_ticks, span, known}
use Rattle.model.specs.Planning.{State, before, bound, planned}
use Rattle.model.specs.Refusals.{plan_refusal, nothing}
use Rattle.model.specs.Table.{Entry, known_bits, value_bits, entry_of, made_entries}
use Rattle.laws.proofs.Good.{Good, good}
use Rattle.laws.proofs.Slots.{slots_apart, slot_own, one_slot_a_tick}
use Rattle.laws.proofs.Rows.{done_by, over_in, item_span, sender_in}
use Rattle.laws.proofs.Rules.{Kept}
use Rattle.laws.proofs.Steps.{log_at}
use Rattle.laws.proofs.Once.{rows_once, unique}
use Rattle.laws.proofs.History.{grows, history, back, over_then}
use Rattle.laws.proofs.NonAnticipation.{known_agree, non_anticipation}
use Rattle.laws.proofs.Safety.{planning_keeps}
use Rattle.laws.proofs.Bound.{planning_ends}

-- the one start or item of a row
pub row_alone : (log : Log) → repeated (map (λ x. x.row) log) ≡ false → (x : Placed) → In x log → of_row log x.row ≡ x ∷ []
row_alone (y ∷ log) d x (here q) =
    let n = different_parts y.row (map (λ x. x.row) log) d in
    let e : eqb y.row x.row ≡ true = eq-eqb y.row x.row (ap (λ (z : Placed). z.row) (sym q)) in
    let r : of_row log x.row ≡ [] =
    no_members _ (λ z m. let k = keep_in (λ z. eqb z.row x.row) log m in
    n.0 (subst (λ (r : ℕ). In r (map (λ x. x.row) log)) (eqb-true z.row x.row k.1 ∙ ap (λ (z : Placed). z.row) q) (in_map (λ x. x.row) k.0))) in
    rw e (λ i. sym q i ∷ r i)
row_alone (y ∷ log) d x (there m) =
    let n = different_parts y.row (map (λ x. x.row) log) d in
    let e : eqb y.row x.row ≡ false = is_false _ (λ z. n.0 (subst (λ (r : ℕ). In r (map (λ x. x.row) log)) (sym (eqb-true y.row x.row z)) (in_map (λ x. x.row) m))) in
    rw e (row_alone log n.1 x m)
row_alone [] d x x4 = elim x4 [ ]

module _ (p : Lines) (passes : plan_refusal p ≡ nothing) where
  abbrev g : Good p
  g = good p passes

  -- one plan
  module _ (c : List Bool) (count : length c ≡ length p.conditions) where
    -- what is placed before a tick is what the finished plan has before it
    pub in_plan : (t : ℕ) (x : Placed) → In x (log_at p c t) → In x (planned p c).log
    unfolding planned
    in_plan t x m = at (two (leb t (bound p)))
      where
        at : (leb t (bound p) ≡ true) ⊎ (leb t (bound p) ≡ false) → In x (before p c (bound p)).log
        at (inl l) = grows p c t (bound p) (leb-true _ _ l) x m
        at (inr l) =
            let k : bound p + (t - bound p) ≡ t = (let z = leb-false t (bound p) l in omega arith) in
            subst (λ (s : State). In x s.log) (ap (before p c) (sym k) ∙ planning_ends p c passes count (t - bound p)) m

    pub plan_in : (t : ℕ) (x : Placed) → In x (planned p c).log → x.tick < t → In x (log_at p c t)
    unfolding planned
    plan_in t x m l = back p c (bound p) t x m l

    -- a row of the finished plan, before a tick
    pub row_before : (t : ℕ) (x : Placed) → In x (planned p c).log → x.tick < t → of_row (log_at p c t) x.row ≡ x ∷ []
    row_before t x m l = row_alone (log_at p c t) (rows_once p c g t) x (plan_in t x m l)

    pub row_after : (t : ℕ) (x : Placed) → In x (planned p c).log → t ≤ x.tick → of_row (log_at p c t) x.row ≡ []
    unfolding planned
    row_after t x m l =
        no_members _ (λ y n.
        let k = keep_in (λ y. eqb y.row x.row) (log_at p c t) n in
        let q : y ≡ x = unique p c g (bound p) y x (in_plan t y k.0) m (eqb-true _ _ k.1) in
        let h = (history p c t y k.0).0 in
        let e : y.tick ≡ x.tick = ap (λ (z : Placed). z.tick) q in
        absurd (omega arith))

    pub row_never : (t r : ℕ) → of_row (planned p c).log r ≡ [] → of_row (log_at p c t) r ≡ []
    row_never t r e =
        no_members _ (λ y n.
        let k = keep_in (λ y. eqb y.row r) (log_at p c t) n in
        in_none (subst (λ (l : Log). In y l) e (in_keep (λ y. eqb y.row r) (in_plan t y k.0) k.1)))

    -- of the processes of a unit that started before a tick, one that ends after it ends last
    pub ends_last : (t : ℕ) (x y : Placed) → In x (log_at p c t) → In y (log_at p c t) → x.row < length p.processes → y.row < length p.processes →
        unit p x.row ≡ unit p y.row → t < x.tick + (process p x.row).ticks → y.tick + (process p y.row).ticks ≤ x.tick + (process p x.row).ticks
    ends_last t x y m n l k u e = at (two (eqb x.row y.row))
      where
        kept : Kept p c (log_at p c t)
        kept = planning_keeps p c passes count t

        at : (eqb x.row y.row ≡ true) ⊎ (eqb x.row y.row ≡ false) → y.tick + (process p y.row).ticks ≤ x.tick + (process p x.row).ticks
        at (inl q) =
            let z : x ≡ y = unique p c g t x y m n (eqb-true _ _ q) in
            let w : x.tick + (process p x.row).ticks ≡ y.tick + (process p y.row).ticks = ap (λ (z : Placed). z.tick + (process p z.row).ticks) z in
            omega arith
        at (inr q) = go (kept.no_overlap x y (record { member = m; low = l }) (record { member = n; low = k }) u (eqb-false _ _ q))
          where
            go : (x.tick + (process p x.row).ticks ≤ y.tick) ⊎ (y.tick + (process p y.row).ticks ≤ x.tick) → y.tick + (process p y.row).ticks ≤ x.tick + (process p x.row).ticks
            go (inl z) = absurd (let w = (history p c t y n).0 in omega arith)
            go (inr z) = omega arith

    -- no slot is under way at a tick at which one has just ended
    pub slots_done : (t : ℕ) (x y : Placed) → In x (log_at p c t) → In y (log_at p c t) → length p.processes ≤ x.row → length p.processes ≤ y.row →
        x.tick + span p (full_ticks p) x.row ≡ t → y.tick + span p (full_ticks p) y.row ≤ t
    unfolding row_node transit
    slots_done t x y m n l k e =
        let a = slot_of_item x m l in
        let b = slot_of_item y n k in
        at a.0 b.0 a.1 b.1 a.2 b.2 a.3 b.3 (two (ltb y.tick x.tick)) (two (ltb x.tick y.tick))
      where
        kept : Kept p c (log_at p c t)
        kept = planning_keeps p c passes count t

        -- the slot that an item lies in
        slot_of_item : (x : Placed) → In x (log_at p c t) → length p.processes ≤ x.row →
            (s : Slot) × In s p.slots × (begins p s.node x.tick ≡ true) × (span p (full_ticks p) x.row ≡ slot_ticks p s)
        slot_of_item x m l =
            let r : x.row < rows p = (kept.only_due x m).0 in
            let s = g.has_slot (sender p x.row) (sender_in p g x.row r) in (
              s.0,
              s.1,
              ap (λ (n : ℕ). begins p n x.tick) s.2 ∙ kept.in_slot x (record { member = m; high = l }),
              item_span p (full_ticks p) x.row l ∙ ap (slot_ticks p) (ap (slot_of p) (sym s.2) ∙ slot_own p g s.0 s.1),
            )

        at : (a b : Slot) → In a p.slots → In b p.slots → begins p a.node x.tick ≡ true → begins p b.node y.tick ≡ true →
            span p (full_ticks p) x.row ≡ slot_ticks p a → span p (full_ticks p) y.row ≡ slot_ticks p b →
            (ltb y.tick x.tick ≡ true) ⊎ (ltb y.tick x.tick ≡ false) → (ltb x.tick y.tick ≡ true) ⊎ (ltb x.tick y.tick ≡ false) → y.tick + span p (full_ticks p) y.row ≤ t
        at a b i j f h u v (inl z) w = let q = slots_apart p g b a j i y.tick x.tick h f (ltb-true _ _ z) in omega arith
        at a b i j f h u v (inr z) (inl w) = let q = slots_apart p g a b i j x.tick y.tick f h (ltb-true _ _ w) in absurd (let r = (history p c t y n).0 in omega arith)
        at a b i j f h u v (inr z) (inr w) =
            let q : x.tick ≡ y.tick = (let o = ltb-false y.tick x.tick z in let r = ltb-false x.tick y.tick w in omega arith) in
            let o : a ≡ b = one_slot_a_tick p g a b i j y.tick (subst (λ (t : ℕ). begins p a.node t ≡ true) q f) h in
            let r : slot_ticks p a ≡ slot_ticks p b = ap (slot_ticks p) o in
            omega arith

  -- two combinations that differ in one condition alone
  module _ (c d : List Bool) (count-c : length c ≡ length p.conditions) (count-d : length d ≡ length p.conditions) (j : ℕ)
      (else_same : (k : ℕ) → (k ≡ j → ⊥) → get_or c k false ≡ get_or d k false) where
    pub shares : (t : ℕ) → done_by p (log_at p d t) t (condition_row p j) ≡ false → before p d (suc t) ≡ before p c (suc t)
    shares t e = non_anticipation p d c t (λ k l h. at k h (two (eqb k j)))
      where
        at : (k : ℕ) → done_by p (log_at p d t) t (condition_row p k) ≡ true → (eqb k j ≡ true) ⊎ (eqb k j ≡ false) → get_or d k false ≡ get_or c k false
        at k h (inl q) = clash h (ap (λ (k : ℕ). done_by p (log_at p d t) t (condition_row p k)) (eqb-true _ _ q) ∙ e)
        at k h (inr q) = sym (else_same k (eqb-false _ _ q))

    -- the plans are the same up to tick t, and by no tick before it has the value arrived
    pub record Shared (t : ℕ) : Type 0 where
      pub same : (u : ℕ) → u ≤ t → before p d u ≡ before p c u
      pub late : (u : ℕ) → u < t → done_by p (planned p d).log u (condition_row p j) ≡ false

    -- where the value arrives at tick t in the one plan
    pub shared_until : (x : Placed) → In x (planned p d).log → x.row ≡ condition_row p j → (t : ℕ) → x.tick + span p (full_ticks p) (condition_row p j) ≡ t → Shared t
    unfolding planned before
    shared_until x m q t e = record { same = at; late = λ u l. is_false _ (λ h. later u l (over_in p (full_ticks p) (planned p d).log u (condition_row p j) h)) }
      where
        alone : (y : Placed) → In y (planned p d).log → y.row ≡ condition_row p j → y ≡ x
        alone y n w = unique p d g (bound p) y x n m (w ∙ sym q)

        later : (u : ℕ) → u < t → (y : Placed) × In y (planned p d).log × (y.row ≡ condition_row p j) × (y.tick + span p (full_ticks p) (condition_row p j) ≤ u) → ⊥
        later u l y = let w : y.0.tick ≡ x.tick = ap (λ (z : Placed). z.tick) (alone y.0 y.1 y.2) in let k = y.3 in absurd (omega arith)

        at : (u : ℕ) → u ≤ t → before p d u ≡ before p c u
        at zero k = refl
        at (suc u) k =
            shares u (is_false _ (λ h.
            let y = over_in p (full_ticks p) (log_at p d u) u (condition_row p j) h in
            let w : y.0.tick ≡ x.tick = ap (λ (z : Placed). z.tick) (alone y.0 (in_plan d count-d u y.0 y.1) y.2) in
            let l = y.3 in
            absurd (omega arith)))

    -- where it never arrives
    pub shared_all : of_row (planned p d).log (condition_row p j) ≡ [] → (t : ℕ) → Shared t
    unfolding before
    shared_all e t = record { same = λ u k. at u; late = λ u l. is_false _ (λ h. none (planned p d).log e (over_in p (full_ticks p) (planned p d).log u (condition_row p j) h)) }
      where
        none : (log : Log) → of_row log (condition_row p j) ≡ [] → {u : ℕ} →
            (y : Placed) × In y log × (y.row ≡ condition_row p j) × (y.tick + span p (full_ticks p) (condition_row p j) ≤ u) → ⊥
        none log e y = in_none (subst (λ (l : Log). In y.0 l) e (in_keep (λ y. eqb y.row (condition_row p j)) y.1 (eq-eqb _ _ y.2)))

        at : (t : ℕ) → before p d t ≡ before p c t
        at zero = refl
        at (suc t) =
            shares t (is_false _ (λ h. none (log_at p d t) (row_never d count-d t (condition_row p j) e) (over_in p (full_ticks p) (log_at p d t) t (condition_row p j) h)))

    -- a row that is placed before then makes the same entry of both plans
    module _ (t : ℕ) (z : Shared t) (x : Placed) (m : In x (planned p d).log) (l : x.tick < t) where
      there_too : In x (planned p c).log
      there_too = in_plan c count-c t x (subst (λ (s : State). In x s.log) (z.same t (omega arith)) (plan_in d count-d t x m l))

      over_then_too : (e : List Bool) (n : length e ≡ length p.conditions) → In x (planned p e).log → done_by p (planned p e).log x.tick ≡ done_by p (log_at p e t) x.tick
      unfolding planned
      over_then_too e n k =
          over_then p e g n x.tick (bound p) (let h = (history p e (bound p) x k).0 in omega arith) ∙ sym (over_then p e g n x.tick t (omega arith))

      over_same : done_by p (planned p c).log x.tick ≡ done_by p (planned p d).log x.tick
      over_same =
          over_then_too c count-c there_too ∙ ap (λ (s : State). done_by p s.log x.tick) (sym (z.same t (omega arith))) ∙ sym (over_then_too d count-d m)

      heard_same : known p c (done_by p (planned p c).log x.tick) ≡ known p d (done_by p (planned p d).log x.tick)
      heard_same = ap (known p c) over_same ∙ known_agree p c d (done_by p (planned p d).log x.tick) (λ k w h. at k h (two (eqb k j)))
        where
          at : (k : ℕ) → done_by p (planned p d).log x.tick (condition_row p k) ≡ true → (eqb k j ≡ true) ⊎ (eqb k j ≡ false) → get_or c k false ≡ get_or d k false
          at k h (inl q) = clash h (ap (λ (k : ℕ). done_by p (planned p d).log x.tick (condition_row p k)) (eqb-true _ _ q) ∙ z.late x.tick l)
          at k h (inr q) = else_same k (eqb-false _ _ q)

      entry_same : entry_of p c (planned p c).log x ≡ entry_of p d (planned p d).log x
      unfolding entry_of
      entry_same = ap (λ (h : List Heard). record { row = x.row; known = known_bits h; values = value_bits h; tick = x.tick; place = x.place }) heard_same

      pub made_same : made_entries p x.row (record { combination = c; state = planned p c }) ≡ made_entries p x.row (record { combination = d; state = planned p d })
      unfolding made_entries planned
      made_same =
          ap (map (entry_of p c (planned p c).log)) (row_alone (planned p c).log (rows_once p c g (bound p)) x there_too)
          ∙ ap (λ (e : Entry). e ∷ []) entry_same
          ∙ sym (ap (map (entry_of p d (planned p d).log)) (row_alone (planned p d).log (rows_once p d g (bound p)) x m))
