-- What a combination takes over from one that differs in one condition: where planning stands as that condition's value
-- arrives, or at the end where it never does.
-- Assumes nothing.
use Rattle.std.specs.Prelude.{if◌then◌else◌}
use mathlib.Core.Path.{◌≡◌, refl, sym, ap, ◌∙◌, subst}
use mathlib.Core.Logic.{◌⊎◌, inl, inr}
use mathlib.Core.Bool.{Bool, true, false}
use mathlib.Core.List.Memᴰ.{head as here}
use mathlib.Core.List.{List, [], ◌∷◌, Memᴰ as In}
use Prim.Native.Nat.{ℕ, zero, suc, ◌+◌, ◌-◌, ◌*◌, ◌≤◌, ◌<◌, max}
use native.Mathlib.Omega.{arith}
use lib.Dec.{eqb, leb, ltb}
use lib.ListN.{length, get_or, length-set, length-replicate, get_or-eq_default}
use lib.Seq.{get_or-set_same, get_or-set_other}
use borrow.Author.Tests.{eqb-true, eqb-false, lt-ltb, le-ltb, ltb-true, ltb-false, leb-true, leb-false}
use Rattle.lists.specs.Lists.{keep, fill}
use Rattle.lists.proofs.Tests.{two, below_suc}
use Rattle.lists.proofs.Members.{keep_in}
use Rattle.lists.proofs.Fill.{fill_at, fill_past, fill_length, zeros_at}
use Rattle.model.specs.Plan.{Lines, process, unit}
use Rattle.model.specs.Bus.{rows, condition_row}
use Rattle.model.specs.Log.{Placed, Log, of_row, full_ticks, span}
use Rattle.model.specs.Planning.{State, before, bound, planned}
use Rattle.model.specs.Refusals.{plan_refusal, nothing}
use Rattle.laws.proofs.Good.{Good, good}
use Rattle.laws.proofs.Rows.{full_tick, process_span, span_one}
use Rattle.laws.proofs.Steps.{log_at}
use Rattle.laws.proofs.OnlyDue.{only_due}
use Rattle.laws.proofs.Progress.{over_by_bound}
use Rattle.laws.proofs.Bound.{bound_small, planning_ends}
use Rattle.laws.proofs.Sharing.{plan_in, row_before, row_after, row_never, ends_last, slots_done, Shared, shared_until, shared_all}
use Rattle.log_queries.specs.Holding.{Row, absent, stands, Held}
use Rattle.planner_dispatch.specs.Busy.{Busy}
use Rattle.planner_combination.specs.Events.{from_clock}
use Rattle.planner_combination.specs.Standing.{At}
use Rattle.planner_combination.proofs.Planned.{from_at}
use Rattle.planner_prefix.specs.Prefix.{cut_at, cut, ends_below, no_value}

-- a row of an array that holds a plan
get_d_past : (xs : List ℕ) (r : ℕ) → length xs ≤ r → get_or xs r 0 ≡ 0
get_d_past xs r l = get_or-eq_default xs 0 l

row_in : (p : Lines) (log : Log) (r t at : ℕ) → of_row log r ≡ record { row = r; tick = t; place = at } ∷ [] → In (record { row = r; tick = t; place = at }) log
row_in p log r t at n =
    (keep_in (λ y. eqb y.row r) log (subst (λ (y : Log). In (record { row = r; tick = t; place = at }) y) (sym n) (here refl))).0

module _ (p : Lines) (passes : plan_refusal p ≡ nothing) (d : List Bool) (count : length d ≡ length p.conditions) (comes place lasting : List ℕ)
    (h : Held p (planned p d).log comes place) (spans : (r : ℕ) → r < rows p → get_or lasting r 0 ≡ span p (full_ticks p) r) where
  abbrev g : Good p
  g = good p passes

  -- a row of the plan is one that the plan's lines have
  row_below : (r t at : ℕ) → of_row (planned p d).log r ≡ record { row = r; tick = t; place = at } ∷ [] → r < rows p
  unfolding planned
  row_below r t at n = (only_due p d g count (bound p) (record { row = r; tick = t; place = at }) (row_in p (planned p d).log r t at n)).0

  -- the rows placed before tick t
  cut_row : (t r at : ℕ) → Row p (planned p d).log r (get_or comes r 0) at → Row p (log_at p d t) r (cut_at comes lasting (suc t) r) at
  unfolding cut_at
  cut_row t r at (absent n z) = absent (row_never p passes d count t r n) (zero_either (ltb (get_or comes r 0 - get_or lasting r 0) (suc t)) z)
    where
      zero_either : (b : Bool) → get_or comes r 0 ≡ 0 → (if b then get_or comes r 0 else 0) ≡ 0
      zero_either true q = q
      zero_either false q = refl
  cut_row t r at (stands u n z) = go (two (ltb u t))
    where
      x : Placed
      x = record { row = r; tick = u; place = at }

      m : In x (planned p d).log
      m = row_in p (planned p d).log r u at n

      start : get_or comes r 0 - get_or lasting r 0 ≡ suc u
      start = omega (arith, z, spans r (row_below r u at n))

      go : (ltb u t ≡ true) ⊎ (ltb u t ≡ false) → Row p (log_at p d t) r (if ltb (get_or comes r 0 - get_or lasting r 0) (suc t) then get_or comes r 0 else 0) at
      go (inl e) =
          let l : u < t = ltb-true u t e in
          rw (lt-ltb (get_or comes r 0 - get_or lasting r 0) (suc t) (omega (arith, start))) (stands u (row_before p passes d count t x m l) z)
      go (inr e) =
          let l : t ≤ u = ltb-false u t e in
          rw (le-ltb (get_or comes r 0 - get_or lasting r 0) (suc t) (omega (arith, start))) (absent (row_after p passes d count t x m l) refl)

  cut_is : (u r : ℕ) → get_or (cut comes lasting u) r 0 ≡ cut_at comes lasting u r
  unfolding cut cut_at
  cut_is u r = at (two (ltb r 198))
    where
      outside : 198 ≤ r → get_or comes r 0 ≡ 0
      outside l = get_d_past comes r (omega (arith, h.comes_long))

      zero_either : (b : Bool) → get_or comes r 0 ≡ 0 → 0 ≡ (if b then get_or comes r 0 else 0)
      zero_either true q = sym q
      zero_either false q = refl

      at : (ltb r 198 ≡ true) ⊎ (ltb r 198 ≡ false) → get_or (fill 198 (cut_at comes lasting u) 198) r 0 ≡ (if ltb (get_or comes r 0 - get_or lasting r 0) u then get_or comes r 0 else 0)
      at (inl l) = fill_at 198 (cut_at comes lasting u) 198 r (omega arith) (ltb-true _ _ l)
      at (inr l) =
          fill_past 198 (cut_at comes lasting u) 198 r (ltb-false _ _ l) ∙ zero_either (ltb (get_or comes r 0 - get_or lasting r 0) u) (outside (ltb-false _ _ l))

  pub cut_held : (t : ℕ) → Held p (log_at p d t) (cut comes lasting (suc t)) place
  unfolding cut
  cut_held t =
      record {
        row = λ r. subst (λ (x : ℕ). Row p (log_at p d t) r x (get_or place r 0)) (sym (cut_is (suc t) r)) (cut_row t r (get_or place r 0) (h.row r));
        no_place = h.no_place;
        comes_long = fill_length 198 (cut_at comes lasting (suc t)) 198;
        place_long = h.place_long;
      }

-- by node, the last end of a process of the first n
module _ (node rows : List ℕ) (small : (i : ℕ) → get_or node i 0 < 8) where
  abbrev ends : ℕ → List ℕ
  ends n = ends_below node rows n

  pub ends_long : (n : ℕ) → length (ends_below node rows n) ≡ 8
  unfolding ends_below
  ends_long zero = length-replicate {A = ℕ} 8 0
  ends_long (suc n) = length-set (ends n) (get_or node n 0) (max (get_or (ends n) (get_or node n 0) 0) (get_or rows n 0)) ∙ ends_long n

  -- one process more, at its node and elsewhere
  ends_own : (n : ℕ) → get_or (ends_below node rows (suc n)) (get_or node n 0) 0 ≡ max (get_or (ends_below node rows n) (get_or node n 0) 0) (get_or rows n 0)
  unfolding ends_below
  ends_own n = get_or-set_same (ends n) (get_or node n 0) (max (get_or (ends n) (get_or node n 0) 0) (get_or rows n 0)) 0 (omega (arith, ends_long n, small n))

  ends_other : (n k : ℕ) → (k ≡ get_or node n 0 → ⊥) → get_or (ends_below node rows (suc n)) k 0 ≡ get_or (ends_below node rows n) k 0
  unfolding ends_below
  ends_other n k q = get_or-set_other (ends n) (get_or node n 0) k (max (get_or (ends n) (get_or node n 0) 0) (get_or rows n 0)) 0 q

  ends_grow : (n k : ℕ) → get_or (ends_below node rows n) k 0 ≤ get_or (ends_below node rows (suc n)) k 0
  ends_grow n k = at (two (eqb k (get_or node n 0)))
    where
      at : (eqb k (get_or node n 0) ≡ true) ⊎ (eqb k (get_or node n 0) ≡ false) → get_or (ends n) k 0 ≤ get_or (ends (suc n)) k 0
      at (inl e) = subst (λ (j : ℕ). get_or (ends n) j 0 ≤ get_or (ends (suc n)) j 0) (sym (eqb-true _ _ e)) (omega (arith, ends_own n))
      at (inr e) = omega (arith, ends_other n k (eqb-false _ _ e))

  pub ends_most : (n i : ℕ) → i < n → get_or rows i 0 ≤ get_or (ends_below node rows n) (get_or node i 0) 0
  ends_most zero i l = absurd (omega arith)
  ends_most (suc n) i l = at (below_suc i n l) (ends_most n i)
    where
      at : (i < n) ⊎ (i ≡ n) → (i < n → get_or rows i 0 ≤ get_or (ends n) (get_or node i 0) 0) → get_or rows i 0 ≤ get_or (ends (suc n)) (get_or node i 0) 0
      at (inl k) f = omega (arith, f k, ends_grow n (get_or node i 0))
      at (inr q) f = subst (λ (j : ℕ). get_or rows j 0 ≤ get_or (ends (suc n)) (get_or node j 0) 0) (sym q) (omega (arith, ends_own n))

  abbrev EndsSome : ℕ → ℕ → Type 0
  EndsSome n k = (get_or (ends_below node rows n) k 0 ≡ 0) ⊎ ((i : ℕ) × (i < n) × (get_or node i 0 ≡ k) × (get_or rows i 0 ≡ get_or (ends_below node rows n) k 0))

  pub ends_some : (n k : ℕ) → (get_or (ends_below node rows n) k 0 ≡ 0) ⊎ ((i : ℕ) × (i < n) × (get_or node i 0 ≡ k) × (get_or rows i 0 ≡ get_or (ends_below node rows n) k 0))
  unfolding ends_below
  ends_some zero k = inl (zeros_at 8 k)
  ends_some (suc n) k = at (two (eqb k (get_or node n 0))) (ends_some n k)
    where
      more : EndsSome n k → get_or (ends (suc n)) k 0 ≡ get_or (ends n) k 0 → EndsSome (suc n) k
      more (inl e) q = inl (q ∙ e)
      more (inr e) q = inr (e.0, (let l = e.1 in omega arith), e.2, e.3 ∙ sym q)

      own : get_or node n 0 ≡ k → (ltb (get_or (ends n) k 0) (get_or rows n 0) ≡ true) ⊎ (ltb (get_or (ends n) k 0) (get_or rows n 0) ≡ false) → EndsSome n k → EndsSome (suc n) k
      own q (inl l) s =
          inr (n, omega arith, q, (let z = subst (λ (j : ℕ). get_or (ends (suc n)) j 0 ≡ max (get_or (ends n) j 0) (get_or rows n 0)) q (ends_own n) in let w = ltb-true (get_or (ends n) k 0) (get_or rows n 0) l in omega arith))
      own q (inr l) s =
          more s (let z = subst (λ (j : ℕ). get_or (ends (suc n)) j 0 ≡ max (get_or (ends n) j 0) (get_or rows n 0)) q (ends_own n) in let w = ltb-false (get_or (ends n) k 0) (get_or rows n 0) l in omega arith)

      at : (eqb k (get_or node n 0) ≡ true) ⊎ (eqb k (get_or node n 0) ≡ false) → EndsSome n k → EndsSome (suc n) k
      at (inl e) s = own (sym (eqb-true _ _ e)) (two (ltb (get_or (ends n) k 0) (get_or rows n 0))) s
      at (inr e) s = more s (ends_other n k (eqb-false _ _ e))

-- Where the arrays hold what is placed before a tick, this is where the nodes' last processes end.
module _ (p : Lines) (passes : plan_refusal p ≡ nothing) (d : List Bool) (count : length d ≡ length p.conditions) (t : ℕ) (rows place node : List ℕ)
    (h : Held p (log_at p d t) rows place) (small : (i : ℕ) → get_or node i 0 < 8) (nodes : (i : ℕ) → get_or node i 0 ≡ (process p i).node) where
  abbrev last : List ℕ
  last = ends_below node rows (length p.processes)

  -- a process of the log, and where it ends
  ending : (i : ℕ) → i < length p.processes → (get_or rows i 0 ≡ 0) ⊎ ((x : Placed) × In x (log_at p d t) × (x.row ≡ i) × (get_or rows i 0 ≡ suc (x.tick + (process p x.row).ticks)))
  ending i l = at (h.row i)
    where
      at : Row p (log_at p d t) i (get_or rows i 0) (get_or place i 0) → (get_or rows i 0 ≡ 0) ⊎ ((x : Placed) × In x (log_at p d t) × (x.row ≡ i) × (get_or rows i 0 ≡ suc (x.tick + (process p x.row).ticks)))
      at (absent n z) = inl z
      at (stands u n z) =
          inr (record { row = i; tick = u; place = get_or place i 0 }, row_in p (log_at p d t) i u (get_or place i 0) n, refl, omega (arith, z, process_span p (full_ticks p) i l, full_tick p i))

  own_node : (i : ℕ) → get_or node i 0 ≡ unit p i
  unfolding unit
  own_node i = nodes i

  pub prefix_busy : Busy p rows (ends_below node rows (length p.processes)) (suc t)
  prefix_busy =
      record {
        most = λ i l. subst (λ (k : ℕ). get_or rows i 0 ≤ get_or last k 0) (own_node i) (ends_most node rows small (length p.processes) i l);
        last = λ i l. latest i l (two (leb (get_or rows i 0) (suc t)));
        some = λ n l. some_of n (ends_some node rows small (length p.processes) n);
        long = ends_long node rows small (length p.processes);
      }
    where
      some_of : (n : ℕ) → (get_or last n 0 ≡ 0) ⊎ ((i : ℕ) × (i < length p.processes) × (get_or node i 0 ≡ n) × (get_or rows i 0 ≡ get_or last n 0)) →
          (get_or last n 0 ≡ 0) ⊎ ((i : ℕ) × (i < length p.processes) × (unit p i ≡ n) × (get_or rows i 0 ≡ get_or last n 0))
      some_of n (inl e) = inl e
      some_of n (inr e) = inr (e.0, e.1, sym (own_node e.0) ∙ e.2, e.3)

      latest : (i : ℕ) → i < length p.processes → (leb (get_or rows i 0) (suc t) ≡ true) ⊎ (leb (get_or rows i 0) (suc t) ≡ false) → (get_or rows i 0 ≤ suc t) ⊎ (get_or rows i 0 ≡ get_or last (unit p i) 0)
      latest i l (inl e) = inl (leb-true _ _ e)
      latest i l (inr e) = inr (go (ending i l) (ends_some node rows small (length p.processes) (unit p i)))
        where
          high : suc t < get_or rows i 0
          high = leb-false (get_or rows i 0) (suc t) e

          up : get_or rows i 0 ≤ get_or last (unit p i) 0
          up = subst (λ (k : ℕ). get_or rows i 0 ≤ get_or last k 0) (own_node i) (ends_most node rows small (length p.processes) i l)

          go : (get_or rows i 0 ≡ 0) ⊎ ((x : Placed) × In x (log_at p d t) × (x.row ≡ i) × (get_or rows i 0 ≡ suc (x.tick + (process p x.row).ticks))) →
              (get_or last (unit p i) 0 ≡ 0) ⊎ ((k : ℕ) × (k < length p.processes) × (get_or node k 0 ≡ unit p i) × (get_or rows k 0 ≡ get_or last (unit p i) 0)) → get_or rows i 0 ≡ get_or last (unit p i) 0
          go (inl z) s = absurd (omega (arith, high))
          go (inr x) (inl s) = absurd (omega (arith, up, high))
          go (inr x) (inr s) = omega (arith, up, s.3, other (ending s.0 s.1))
            where
              other : (get_or rows s.0 0 ≡ 0) ⊎ ((y : Placed) × In y (log_at p d t) × (y.row ≡ s.0) × (get_or rows s.0 0 ≡ suc (y.tick + (process p y.row).ticks))) → get_or rows s.0 0 ≤ get_or rows i 0
              other (inl z) = omega (arith, z)
              other (inr y) =
                  let k = ends_last p passes d count t x.0 y.0 x.1 y.1 (omega (arith, x.2)) (omega (arith, y.2, s.1))
                  (ap (unit p) x.2 ∙ sym s.2 ∙ own_node s.0 ∙ ap (unit p) (sym y.2)) (omega (arith, x.3, high)) in
                  omega (arith, k, x.3, y.3)

-- everything is over by the bound
pub by_bound : (p : Lines) (passes : plan_refusal p ≡ nothing) (d : List Bool) → length d ≡ length p.conditions → (comes place : List ℕ) → Held p (planned p d).log comes place → (r : ℕ) → get_or comes r 0 ≤ suc (bound p)
by_bound p passes d count comes place h r = at (h.row r)
  where
    at : Row p (planned p d).log r (get_or comes r 0) (get_or place r 0) → get_or comes r 0 ≤ suc (bound p)
    at (absent n z) = omega (arith, z)
    at (stands t n z) =
        omega (arith, z, over_by_bound p d (good p passes) count (record { row = r; tick = t; place = get_or place r 0 }) (row_in p (planned p d).log r t (get_or place r 0) n))

-- Planning of combination c stands as value j arrives in the plan of d, with what is placed by then.
module _ (p : Lines) (passes : plan_refusal p ≡ nothing) (c d : List Bool) (count-c : length c ≡ length p.conditions) (count-d : length d ≡ length p.conditions) (j : ℕ) (j-in : j < length p.conditions)
    (else_same : (k : ℕ) → (k ≡ j → ⊥) → get_or c k false ≡ get_or d k false)
    (comes place lasting node noted : List ℕ) (h : Held p (planned p d).log comes place) (spans : (r : ℕ) → r < rows p → get_or lasting r 0 ≡ span p (full_ticks p) r)
    (small : (i : ℕ) → get_or node i 0 < 8) (nodes : (i : ℕ) → get_or node i 0 ≡ (process p i).node)
    (noting : (k : ℕ) → k < length p.conditions → 0 < get_or comes (condition_row p k) 0 → (n : ℕ) → n < length p.slots →
    get_or noted (k * 8 + n) 0 ≡ length (keep (eqb n) (before p d (get_or comes (condition_row p k) 0 - 1)).passed)) (noted_long : length noted ≡ 48) where
  abbrev Same : ℕ → Type 0
  Same t = Shared p passes c d count-c count-d j else_same t

  either : (t r : ℕ) → (cut_at comes lasting (suc t) r ≡ get_or comes r 0) ⊎ (cut_at comes lasting (suc t) r ≡ 0)
  unfolding cut_at
  either t r = at (two (ltb (get_or comes r 0 - get_or lasting r 0) (suc t)))
    where
      at : (ltb (get_or comes r 0 - get_or lasting r 0) (suc t) ≡ true) ⊎ (ltb (get_or comes r 0 - get_or lasting r 0) (suc t) ≡ false) →
          ((if ltb (get_or comes r 0 - get_or lasting r 0) (suc t) then get_or comes r 0 else 0) ≡ get_or comes r 0) ⊎ ((if ltb (get_or comes r 0 - get_or lasting r 0) (suc t) then get_or comes r 0 else 0) ≡ 0)
      at (inl e) = inl (rw e)
      at (inr e) = inr (rw e)

  module _ (t : ℕ) (z : Same t) (counts : List ℕ) (long : length counts ≡ 8)
      (counted : (n : ℕ) → n < length p.slots → get_or counts n 0 ≡ length (keep (eqb n) (before p d t).passed))
      (arrived : (r : ℕ) → length p.processes ≤ r → get_or (cut comes lasting (suc t)) r 0 ≤ suc t) where
    abbrev rows_then : List ℕ
    rows_then = cut comes lasting (suc t)

    held_d : Held p (log_at p d t) rows_then place
    held_d = cut_held p passes d count-d comes place lasting h spans t

    same_state : (u : ℕ) → u ≤ t → before p d u ≡ before p c u
    same_state = z.same

    cut_value : (k : ℕ) → 0 < get_or rows_then (condition_row p k) 0 → get_or rows_then (condition_row p k) 0 ≡ get_or comes (condition_row p k) 0
    cut_value k l = at (either t (condition_row p k))
      where
        q : get_or rows_then (condition_row p k) 0 ≡ cut_at comes lasting (suc t) (condition_row p k)
        q = cut_is p passes d count-d comes place lasting h spans (suc t) (condition_row p k)

        at : (cut_at comes lasting (suc t) (condition_row p k) ≡ get_or comes (condition_row p k) 0) ⊎ (cut_at comes lasting (suc t) (condition_row p k) ≡ 0) → get_or rows_then (condition_row p k) 0 ≡ get_or comes (condition_row p k) 0
        at (inl e) = q ∙ e
        at (inr e) = absurd (omega (arith, q, e))

    prefix : At p c t (from_clock (suc t) (ends_below node rows_then (length p.processes)) rows_then place counts noted)
    prefix =
        from_at p c t (ends_below node rows_then (length p.processes)) rows_then place counts noted
        (subst (λ (s : State). Held p s.log rows_then place) (same_state t (omega arith)) held_d)
        (prefix_busy p passes d count-d t rows_then place node held_d small nodes)
        arrived
        (λ n l. counted n l ∙ ap (λ (s : State). length (keep (eqb n) s.passed)) (same_state t (omega arith))) long
        (λ k l o q n w.
        let e = cut_value k o in
        noting k l (omega (arith, e)) n w
        ∙ ap (λ (s : State). length (keep (eqb n) s.passed)) (same_state (get_or comes (condition_row p k) 0 - 1) (omega (arith, e)))
        ∙ ap (λ (x : ℕ). length (keep (eqb n) (before p c (x - 1)).passed)) (sym e))
        noted_long

  -- a row of the plan before a tick is over by the tick plus 1 where no more is under way
  cut_most : (t r : ℕ) → get_or (cut comes lasting (suc t)) r 0 ≤ get_or comes r 0
  cut_most t r = at (either t r)
    where
      q : get_or (cut comes lasting (suc t)) r 0 ≡ cut_at comes lasting (suc t) r
      q = cut_is p passes d count-d comes place lasting h spans (suc t) r

      at : (cut_at comes lasting (suc t) r ≡ get_or comes r 0) ⊎ (cut_at comes lasting (suc t) r ≡ 0) → get_or (cut comes lasting (suc t)) r 0 ≤ get_or comes r 0
      at (inl e) = omega (arith, q, e)
      at (inr e) = omega (arith, q, e)

  -- at the end of a slot with a broadcast nothing is under way on the bus
  over_by_now : {t : ℕ} (x : Placed) → In x (log_at p d t) → x.tick + span p (full_ticks p) x.row ≡ t → length p.processes ≤ x.row → (r : ℕ) → length p.processes ≤ r →
      {come at : ℕ} → Row p (log_at p d t) r come at → come ≤ suc t
  over_by_now x m e l r k (absent n z) = omega (arith, z)
  over_by_now {t} x m e l r k {come} {at} (stands u n z) =
      let y : Placed = record { row = r; tick = u; place = at } in
      omega (arith, z, slots_done p passes d count-d t x y m (row_in p (log_at p d t) r u at n) l k e)

  -- the value arrives
  pub prefix_until : (t : ℕ) → get_or comes (condition_row p j) 0 ≡ suc t → (counts : List ℕ) → length counts ≡ 8 →
      ((n : ℕ) → n < length p.slots → get_or counts n 0 ≡ get_or noted (j * 8 + n) 0) →
      At p c t (from_clock (suc t) (ends_below node (cut comes lasting (suc t)) (length p.processes)) (cut comes lasting (suc t)) place counts noted) × Same t
  prefix_until t q counts long counted = at (h.row (condition_row p j))
    where
      at : Row p (planned p d).log (condition_row p j) (get_or comes (condition_row p j) 0) (get_or place (condition_row p j) 0) →
          At p c t (from_clock (suc t) (ends_below node (cut comes lasting (suc t)) (length p.processes)) (cut comes lasting (suc t)) place counts noted) × Same t
      at (absent n z) = absurd (omega (arith, q, z))
      at (stands u n z) =
          let x : Placed = record { row = condition_row p j; tick = u; place = get_or place (condition_row p j) 0 } in
          let m : In x (planned p d).log = row_in p (planned p d).log (condition_row p j) u (get_or place (condition_row p j) 0) n in
          let e : u + span p (full_ticks p) (condition_row p j) ≡ t = omega (arith, q, z) in
          let s : Same t = shared_until p passes c d count-c count-d j else_same x m refl t e in
          let one : 1 ≤ span p (full_ticks p) (condition_row p j) = span_one p (good p passes) (condition_row p j) (omega arith) in
          let x-in : In x (log_at p d t) = plan_in p passes d count-d t x m (omega arith) in
          let w : get_or comes (condition_row p j) 0 - 1 ≡ t = omega (arith, q) in (
            prefix t s counts long
                (λ k l. counted k l ∙ noting j j-in (omega (arith, q)) k l ∙ ap (λ (y : ℕ). length (keep (eqb k) (before p d y).passed)) w)
                (λ r l. over_by_now x x-in e (omega arith) r l ((cut_held p passes d count-d comes place lasting h spans t).row r)),
            s,
          )

  -- the value never arrives: both plans are the same to the end
  pub prefix_never : get_or comes (condition_row p j) 0 ≡ 0 → (counts : List ℕ) → length counts ≡ 8 →
      ((n : ℕ) → n < length p.slots → get_or counts n 0 ≡ length (keep (eqb n) (planned p d).passed)) →
      At p c 1999999999 (from_clock no_value (ends_below node (cut comes lasting no_value) (length p.processes)) (cut comes lasting no_value) place counts noted) × Same 1999999999
  prefix_never q counts long counted = at (h.row (condition_row p j))
    where
      ended : before p d 1999999999 ≡ planned p d
      ended =
          let l = bound_small p (good p passes) in
          let e : bound p + (1999999999 - bound p) ≡ 1999999999 = omega arith in
          ap (before p d) (sym e) ∙ planning_ends p d passes count-d (1999999999 - bound p)

      at : Row p (planned p d).log (condition_row p j) (get_or comes (condition_row p j) 0) (get_or place (condition_row p j) 0) →
          At p c 1999999999 (from_clock no_value (ends_below node (cut comes lasting no_value) (length p.processes)) (cut comes lasting no_value) place counts noted) × Same 1999999999
      at (stands u n z) = absurd (omega (arith, q, z))
      at (absent n z) =
          let s : Same 1999999999 = shared_all p passes c d count-c count-d j else_same n 1999999999 in (
            prefix 1999999999 s counts long (λ k l. counted k l ∙ ap (λ (s : State). length (keep (eqb k) s.passed)) (sym ended))
                (λ r l. omega (arith, cut_most 1999999999 r, by_bound p passes d count-d comes place h r, bound_small p (good p passes))),
            s,
          )
