-- What the starts at one clock change: a row only from not placed to an end after the clock, which is then the end of
-- its node's last process, and that of a free node alone.
-- Assumes nothing.
use Prim.Native.Nat.{ℕ, zero, suc, ◌+◌, ◌≤◌, ◌<◌}
use mathlib.Core.Path.{◌≡◌, refl, sym, ap, ◌∙◌, subst}
use mathlib.Core.Logic.{◌⊎◌, inl, inr}
use mathlib.Core.Bool.{Bool, true, false}
use mathlib.Core.List.{List}
use native.Mathlib.Omega.{arith}
use lib.Dec.{eqb, leb}
use lib.ListN.{length, get_or, set, length-set}
use lib.Seq.{set-get_or, get_or-set_other}
use borrow.Author.Tests.{eqb-true, eqb-false, leb-true, ne_eqb}
use Rattle.lists.proofs.Tests.{two, both}
use Rattle.log_queries.specs.Reading.{part}
use Rattle.planner_dispatch.specs.Starts.{Ends, first_of, end_after, rows_after, can_start, choice, start_by, starts_by}
use Rattle.log_queries.proofs.ArrayParts.{part_in}
use Rattle.planner_dispatch.proofs.Picks.{First, no_first, a_first, the_first, first_none}
use Rattle.planner_dispatch.proofs.Ends.{set_there}
use Rattle.planner_sends.proofs.Rows.{set_either}
use Rattle.plan_index.specs.declared.PlanIndex.{PlanIndex}
use Rattle.planner_combination.specs.Events.{Fits}

module _ (b : PlanIndex) (f : Fits b) (unmet run : List ℕ) (u : ℕ) where
  abbrev step : ℕ → Ends → Ends
  step = start_by b.processes b.remote b.from b.knownby unmet run b.asany b.intofirst b.into u b.dispatchfirst b.dispatch b.ticks

  abbrev can : List ℕ → ℕ → Bool
  can = can_start b.processes b.remote b.from b.knownby unmet run b.asany b.intofirst b.into u

  abbrev chosen : ℕ → List ℕ → ℕ
  chosen n comes = first_of (can comes) (part b.dispatch (get_or b.dispatchfirst n 0) (get_or b.dispatchfirst (n + 1) 0))

  -- what becomes of a row, and of all, where the nodes below n have started
  pub data Started (n : ℕ) (s s' : Ends) (r : ℕ) : Type 0 where
    as_before : get_or s'.comes r 0 ≡ get_or s.comes r 0 → Started n s s' r
    starting : get_or s.comes r 0 ≡ 0 → r < b.processes → get_or b.node r 0 < n → get_or s'.comes r 0 ≡ get_or s'.busy (get_or b.node r 0) 0 → u < get_or s'.comes r 0 → Started n s s' r

  pub record Begun (n : ℕ) (s s' : Ends) : Type 0 where
    pub rows : (r : ℕ) → Started n s s' r
    pub ends : (k : ℕ) → (get_or s'.busy k 0 ≡ get_or s.busy k 0) ⊎ ((get_or s.busy k 0 ≤ u) × (u < get_or s'.busy k 0))
    pub later : (k : ℕ) → n ≤ k → get_or s'.busy k 0 ≡ get_or s.busy k 0
    pub long : length s'.busy ≡ 8
    pub rows_long : length s'.comes ≡ length s.comes

  -- node n starts nothing
  idles : (n : ℕ) (s s' : Ends) → Begun n s s' → Begun (suc n) s s'
  idles n s s' g = record { rows = λ r. at r (g.rows r); ends = g.ends; later = λ k l. g.later k (omega arith); long = g.long; rows_long = g.rows_long }
    where
      at : (r : ℕ) → Started n s s' r → Started (suc n) s s' r
      at r (as_before q) = as_before q
      at r (starting z l m q h) = starting z l (omega arith) q h

  -- node n starts process x
  module _ (n : ℕ) (s s' : Ends) (g : Begun n s s') (x : ℕ) (l : n < b.slots) (m : x < b.processes) (on : get_or b.node x 0 ≡ n) (free : get_or s'.busy n 0 ≤ u) (fresh : get_or s'.comes x 0 ≡ 0) where
    abbrev end : ℕ
    end = u + get_or b.ticks x 0

    high : u < end
    high = omega (arith, f.ticks_one x m)

    abbrev after : Ends
    after = record { busy = set s'.busy n end; comes = set s'.comes x end }

    here_end : (k : ℕ) → k ≡ n → get_or after.busy k 0 ≡ end
    here_end k q = set_there s'.busy n k end (omega (arith, g.long, f.few_slots)) q

    there_end : (k : ℕ) → (k ≡ n → ⊥) → get_or after.busy k 0 ≡ get_or s'.busy k 0
    there_end k d = get_or-set_other s'.busy n k end 0 d

    was_free : (r : ℕ) → get_or s'.comes r 0 ≡ 0 → Started n s s' r → get_or s.comes r 0 ≡ 0
    was_free r z (as_before q) = sym q ∙ z
    was_free r z (starting e j k q h) = e

    row : (r : ℕ) → Started n s s' r → (eqb r x ≡ true) ⊎ (eqb r x ≡ false) → (get_or after.comes r 0 ≡ get_or s'.comes r 0) ⊎ (get_or after.comes r 0 ≡ end) → Started (suc n) s after r
    row r w (inl e) (inr h) =
        let q : r ≡ x = eqb-true r x e in
        let k : get_or b.node r 0 ≡ n = ap (λ (z : ℕ). get_or b.node z 0) q ∙ on in
        starting (was_free r (ap (λ (z : ℕ). get_or s'.comes z 0) q ∙ fresh) w) (omega arith) (omega arith) (h ∙ sym (here_end (get_or b.node r 0) k)) (omega (arith, h, high))
    row r (as_before q) k (inl h) = as_before (h ∙ q)
    row r (starting z j i q a) k (inl h) = starting z j (omega arith) (h ∙ q ∙ sym (there_end (get_or b.node r 0) (λ w. omega (arith, w)))) (omega (arith, h))
    row r (as_before q) (inr e) (inr h) = as_before (get_or-set_other s'.comes x r end 0 (eqb-false r x e) ∙ q)
    row r (starting z j i q a) (inr e) (inr h) =
        let o : get_or after.comes r 0 ≡ get_or s'.comes r 0 = get_or-set_other s'.comes x r end 0 (eqb-false r x e) in
        starting z j (omega arith) (o ∙ q ∙ sym (there_end (get_or b.node r 0) (λ w. omega (arith, w)))) (omega (arith, o))

    end_of : (k : ℕ) → (eqb k n ≡ true) ⊎ (eqb k n ≡ false) → (get_or s'.busy k 0 ≡ get_or s.busy k 0) ⊎ ((get_or s.busy k 0 ≤ u) × (u < get_or s'.busy k 0)) →
        (get_or after.busy k 0 ≡ get_or s.busy k 0) ⊎ ((get_or s.busy k 0 ≤ u) × (u < get_or after.busy k 0))
    end_of k (inl e) w =
        let q : k ≡ n = eqb-true k n e in
        let a : get_or s'.busy k 0 ≡ get_or s.busy k 0 = g.later k (omega arith) in
        let c : get_or s'.busy k 0 ≡ get_or s'.busy n 0 = ap (λ (z : ℕ). get_or s'.busy z 0) q in
        inr (omega (arith, a, c, free), omega (arith, here_end k q, high))
    end_of k (inr e) (inl w) = inl (there_end k (eqb-false k n e) ∙ w)
    end_of k (inr e) (inr w) = inr (w.0, omega (arith, there_end k (eqb-false k n e), w.1))

    begun_one : Begun (suc n) s after
    begun_one =
        record {
          rows = λ r. row r (g.rows r) (two (eqb r x)) (set_either s'.comes x end r);
          ends = λ k. end_of k (two (eqb k n)) (g.ends k);
          later = λ k j. there_end k (λ w. omega (arith, w)) ∙ g.later k (omega arith);
          long = length-set s'.busy n end ∙ g.long;
          rows_long = length-set s'.comes x end ∙ g.rows_long;
        }

  -- node n, by cases
  fresh_of : (comes : List ℕ) (i : ℕ) → can comes i ≡ true → get_or comes i 0 ≡ 0
  unfolding can_start
  fresh_of comes i e = eqb-true (get_or comes i 0) 0 (both (eqb (get_or comes i 0) 0) _ e).0

  step_busy : (n : ℕ) (s : Ends) → leb (get_or s.busy n 0) u ≡ false → step n s ≡ s
  unfolding start_by
  step_busy n s e = rw e

  step_free : (n : ℕ) (s : Ends) (x : ℕ) → leb (get_or s.busy n 0) u ≡ true → chosen n s.comes ≡ x →
      step n s ≡ record { busy = set s.busy n (end_after x u b.ticks (get_or s.busy n 0)); comes = rows_after x u b.ticks s.comes }
  unfolding start_by choice
  step_free n s x e q = rw e (λ j. record { busy = set s.busy n (end_after (q j) u b.ticks (get_or s.busy n 0)); comes = rows_after (q j) u b.ticks s.comes })

  step_none : (n : ℕ) (s : Ends) → leb (get_or s.busy n 0) u ≡ true → chosen n s.comes ≡ 64 → step n s ≡ s
  unfolding end_after rows_after
  step_none n s e q = step_free n s 64 e q ∙ (λ j. record { busy = set-get_or s.busy n 0 j; comes = s.comes })

  step_one : (n : ℕ) (s : Ends) (x : ℕ) → leb (get_or s.busy n 0) u ≡ true → chosen n s.comes ≡ x → x < 64 →
      step n s ≡ record { busy = set s.busy n (u + get_or b.ticks x 0); comes = set s.comes x (u + get_or b.ticks x 0) }
  unfolding end_after rows_after
  step_one n s x e q r = step_free n s x e q ∙ rw (ne_eqb x 64 (λ w. absurd (omega arith)))

  next : (n : ℕ) (s s' : Ends) → n < b.slots → Begun n s s' → Begun (suc n) s (step n s')
  next n s s' l g = at (two (leb (get_or s'.busy n 0) u)) (the_first (can s'.comes) (part b.dispatch (get_or b.dispatchfirst n 0) (get_or b.dispatchfirst (n + 1) 0)))
    where
      at : (leb (get_or s'.busy n 0) u ≡ true) ⊎ (leb (get_or s'.busy n 0) u ≡ false) →
          First (can s'.comes) (part b.dispatch (get_or b.dispatchfirst n 0) (get_or b.dispatchfirst (n + 1) 0)) → Begun (suc n) s (step n s')
      at (inr e) w = subst (Begun (suc n) s) (sym (step_busy n s' e)) (idles n s s' g)
      at (inl e) (no_first h) = subst (Begun (suc n) s) (sym (step_none n s' e (first_none (can s'.comes) _ h))) (idles n s s' g)
      at (inl e) (a_first m y) =
          let x : ℕ = chosen n s'.comes in
          let r = part_in b.dispatch (get_or b.dispatchfirst n 0) (get_or b.dispatchfirst (n + 1) 0) m in
          let o = f.dispatch_own n r.0 l r.1 r.2 in
          let j : x < b.processes = omega (arith, r.3, o.0) in
          subst (Begun (suc n) s) (sym (step_one n s' x e refl (omega (arith, j, f.few_processes))))
          (begun_one n s s' g x l j (ap (λ (z : ℕ). get_or b.node z 0) r.3 ∙ o.1) (leb-true _ _ e) (fresh_of s'.comes x y))

  pub begun : (n : ℕ) (s : Ends) → n ≤ b.slots → length s.busy ≡ 8 →
      Begun n s (starts_by b.processes b.remote b.from b.knownby unmet run b.asany b.intofirst b.into u b.dispatchfirst b.dispatch b.ticks n s)
  unfolding starts_by
  begun zero s l q = record { rows = λ r. as_before refl; ends = λ k. inl refl; later = λ k m. refl; long = q; rows_long = refl }
  begun (suc n) s l q = next n s _ (omega arith) (begun n s (omega arith) q)
