-- For a plan in which refusals 2 to 9 find nothing and arrays that hold its plan index and the entries that a
-- combination meets, what `too_early` answers is what refusal 16 says of the combination.
-- Assumes nothing.
use Rattle.std.specs.Prelude.{if◌then◌else◌}
use mathlib.Core.Path.{◌≡◌, refl, sym, ap, ◌∙◌}
use mathlib.Core.Logic.{◌⊎◌, inl, inr}
use mathlib.Core.Bool.{Bool, true, false, not, ◌&&◌, and_assoc}
use mathlib.Core.List.{List}
use Prim.Native.Nat.{ℕ, suc, ◌-◌, ◌<◌, ◌≤◌}
use native.Mathlib.Omega.{arith}
use lib.Dec.{eqb, ltb}
use lib.ListN.{length, get_or}
use borrow.Author.Tests.{ltb-true, ltb-false, le-ltb}
use Rattle.lists.specs.Lists.{any}
use Rattle.lists.proofs.Tests.{two}
use Rattle.lists.proofs.Members.{any_same}
use Rattle.model.specs.Plan.{When, always, on, edge, decider, into}
use Rattle.model.specs.Activity.{Heard, is, meets, all_heard, may_run, active, carries}
use Rattle.model.specs.Bus.{rows, sender}
use Rattle.model.specs.Log.{full_ticks, over, known, delivered}
use Rattle.model.specs.Checking.{missing, placed_early, too_early}
use Rattle.laws.proofs.Active.{heard_all, into_in}
use Rattle.log_queries.specs.Reading.{came_by, placed_by, edges_into}
use Rattle.log_queries.specs.Holding.{met_in, Holds, Runs}
use Rattle.log_queries.proofs.ReadyOfModel.{delivered_link}
use Rattle.checker_rows.specs.MetArrays.{start_by}
use Rattle.checker_rows.proofs.LogRows.{some_same, and_same, any_rows}
use Rattle.checker_rows.proofs.MetPlan.{MetPlan, P#, T#, log, at, conditionrow_same, over_same}
use Rattle.checker_rows.proofs.MetBounds.{log_row, start_tick}
use Rattle.checker_inputs.specs.Inputs.{misses_by, sends_by, row_early_by, too_early_by}

module _ (m : MetPlan) where
  open m use {plan as p, index as b, indexed as w, entries as es, combination as c, comes, place}

  -- refusal 16, where the arrays hold the combination too: `unmet` which edges' `when` it leaves unmet, `run` which
  -- processes are active in it
  module _ (count : length c ≡ length p.conditions) (unmet run : List ℕ)
      (h : Holds p c b.from b.knownby unmet b.remote b.asany b.intofirst b.into) (a : Runs run (may_run p (all_heard c))) where
    not_not : (z : Bool) → not (not z) ≡ z
    not_not true = refl
    not_not false = refl

    active_same : (i : ℕ) → not (eqb (get_or run i 0) 0) ≡ active p c i
    unfolding active
    active_same i = ap not (a i) ∙ not_not (get_or (may_run p (all_heard c)) i false)

    met_same : (v : When) → ((z : Bool) (k : ℕ) → v ≡ on z k → k < length p.conditions) → met_in c v ≡ meets (all_heard c) v
    met_same always f = refl
    met_same (on z k) f = sym (ap (λ (x : Heard). is x z) (heard_all c k (let l = f z k refl in omega arith)))

    misses_same : (u e : ℕ) → e < length p.edges →
        misses_by (P# m) b.remote b.from b.knownby unmet comes run u e ≡ missing p c (came_by comes u) e
    unfolding misses_by missing carries
    misses_same u e l =
        (λ i.
        (ap (λ (k : ℕ). not (eqb (get_or run k 0) 0)) (h.senders e) ∙ active_same (edge p e).from) i
        && ((h.met e ∙ met_same (edge p e).when (λ z k q. (m.sound.decided e l z k q).0)) i
        && not (delivered_link p m.sound c b.from b.knownby unmet b.remote b.asany b.intofirst b.into comes u h e i)))
        ∙ sym (and_assoc (active p c (edge p e).from) (meets (all_heard c) (edge p e).when) (not (delivered p (known p c (came_by comes u)) (came_by comes u) e)))

    sends_same : (r : ℕ) → P# m ≤ r → r < rows p → sends_by b.from b.decider (P# m) (T# m) r ≡ sender p r
    unfolding sends_by sender
    sends_same r l u =
        by (two (ltb r (T# m)))
        ∙ ap (λ (z : Bool). if z then r else if ltb r (T# m) then (edge p (r - P# m)).from else decider p (r - T# m)) (sym (le-ltb r (P# m) l))
      where
        by : (ltb r (T# m) ≡ true) ⊎ (ltb r (T# m) ≡ false) →
            (if ltb r (T# m) then get_or b.from (r - P# m) 0 else get_or b.decider (r - T# m) 0) ≡ (if ltb r (T# m) then (edge p (r - P# m)).from else decider p (r - T# m))
        by (inl e) = rw e (h.senders (r - P# m))
        by (inr e) = rw e (w.deciders (r - T# m) (let k : T# m ≤ r = ltb-false _ _ e in omega arith))

    early_same : (r : ℕ) → 0 ≤ r → r < rows p →
        row_early_by (P# m) (T# m) b.remote b.from b.knownby unmet b.decider b.intofirst b.into run comes b.span r ≡ (placed_by comes r && placed_early p c (log m) (at m r))
    unfolding row_early_by placed_early
    early_same r z u = and_same (placed_by comes r) _ _ (λ d. by (start_tick m r d) (two (ltb r (P# m))))
      where
        by : start_by comes b.span r ≡ suc (at m r).tick → (ltb r (P# m) ≡ true) ⊎ (ltb r (P# m) ≡ false) →
            (if ltb r (P# m)
            then any (misses_by (P# m) b.remote b.from b.knownby unmet comes run (start_by comes b.span r)) (edges_into b.intofirst b.into r)
            else not (came_by comes (start_by comes b.span r) (sends_by b.from b.decider (P# m) (T# m) r)))
            ≡ (if ltb r (P# m)
            then any (missing p c (over p (full_ticks p) (log m) (at m r).tick)) (into p r)
            else not (over p (full_ticks p) (log m) (at m r).tick (sender p r)))
        by s (inl e) =
            rw e
            ((λ i. any (misses_by (P# m) b.remote b.from b.knownby unmet comes run (s i)) (h.leading r (ltb-true _ _ e) i))
            ∙ any_same _ _ (into p r) (λ k n. misses_same (suc (at m r).tick) k (into_in p r n).0)
            ∙ (λ i. any (missing p c (sym (over_same m (at m r).tick) i)) (into p r)))
        by s (inr e) =
            rw e
            ((λ i. not (came_by comes (s i) (sends_same r (ltb-false _ _ e) u i)))
            ∙ (λ i. not (sym (over_same m (at m r).tick) i (sender p r))))

    pub too_early_link : too_early_by b.processes b.conditionrow b.remote b.from b.knownby unmet b.decider b.intofirst b.into run comes b.span b.rows ≡ too_early p es c
    unfolding too_early_by too_early
    too_early_link =
        (λ i. too_early_by (w.processes_count i) (conditionrow_same m i) b.remote b.from b.knownby unmet b.decider b.intofirst b.into run comes b.span (w.row_count i))
        ∙ some_same _ _ 0 (rows p) early_same
        ∙ any_rows p (log m) comes place m.held (log m) 0 (rows p) (λ x n. (n, omega arith, log_row m x n)) (λ x n l u. n) (placed_early p c (log m))
