-- Where the arrays hold a plan, a combination, a log and where the nodes' last processes end, the starts over the
-- arrays are the starts of the model: afterwards the arrays hold the log with these starts, what has come by the clock
-- is the same, and no item's row has changed.
-- Assumes nothing.
use mathlib.Core.Path.{◌≡◌, refl, sym, ap, ◌∙◌, subst}
use mathlib.Core.Logic.{◌⊎◌, inl, inr}
use mathlib.Core.Bool.{Bool, true, false, not, ◌&&◌}
use mathlib.Core.List.{List, [], ◌∷◌, ◌++◌, map, Memᴰ as In}
use Prim.Native.Nat.{ℕ, zero, suc, ◌+◌, ◌≤◌, ◌<◌}
use native.Mathlib.Omega.{arith}
use lib.Dec.{eqb, leb}
use lib.ListN.{length, get_or, set}
use lib.Seq.{get_or-set_other}
use borrow.Author.Tests.{eqb-true, leb-true, le-leb}
use Rattle.lists.specs.Lists.{keep, first}
use Rattle.lists.proofs.Tests.{two, both, join, same_test, is_not}
use Rattle.model.specs.Plan.{Lines, process, unit}
use Rattle.model.specs.Activity.{may_run}
use Rattle.model.specs.Log.{Log, full_ticks, span, known}
use Rattle.model.specs.Planning.{View, view, dispatch_order, ready, free, candidate, start_at, unit_starts, starts}
use Rattle.laws.proofs.Good.{Good}
use Rattle.laws.proofs.Rows.{full_tick, process_span}
use Rattle.laws.proofs.Steps.{seen, free_over, over_free}
use Rattle.log_queries.specs.Reading.{came_by, placed_by}
use Rattle.log_queries.specs.Holding.{Holds, Held, Runs}
use Rattle.log_queries.proofs.ReadyOfModel.{ready_link, view_link}
use Rattle.log_queries.proofs.Held.{held_same, held_start, held_logged}
use Rattle.planner_dispatch.specs.Starts.{Ends, first_of, can_start, choice, start_by, starts_by}
use Rattle.planner_dispatch.specs.Busy.{Busy, DispatchOrders}
use Rattle.planner_dispatch.proofs.Found.{Found, none, one, found}
use Rattle.planner_dispatch.proofs.Rows.{dispatch_in, upto, same_rows}
use Rattle.planner_dispatch.proofs.Ends.{came_start, busy_start}
use Rattle.planner_dispatch.proofs.Steps.{step_busy, step_none, step_one}

-- what the arrays hold after the starts of a tick
pub record After (p : Lines) (v : View) (log : Log) (t : ℕ) (comes place : List ℕ) (s : Ends) : Type 0 where
  pub held : Held p (starts p v t ++ log) s.comes place
  pub ends : Busy p s.comes s.busy (suc t)
  pub came : came_by s.comes (suc t) ≡ came_by comes (suc t)
  pub items : (r : ℕ) → length p.processes ≤ r → get_or s.comes r 0 ≡ get_or comes r 0

-- a test of three parts, the last two of which may be told otherwise where the first holds
regroup : (a b d x y : Bool) → (a ≡ true → not b ≡ x) → (a ≡ true → d ≡ y) → (a && not b && d) ≡ (a && (x && y))
regroup true b d x y f g = λ i. f refl i && g refl i
regroup false b d x y f g = refl

not_not : (b : Bool) → not (not b) ≡ b
not_not true = refl
not_not false = refl

module _ (p : Lines) (g : Good p) (c : List Bool) (from knownby unmet remote asany intofirst into dispatchfirst dispatch ticks run : List ℕ)
    (h : Holds p c from knownby unmet remote asany intofirst into)
    (o : DispatchOrders p dispatchfirst dispatch)
    (k : (i : ℕ) → get_or ticks i 0 ≡ (process p i).ticks)
    (log : Log) (comes place busy : List ℕ) (t : ℕ)
    (kept : Held p log comes place) (b : Busy p comes busy (suc t))
    (may : Runs run (may_run p (known p c (came_by comes (suc t))))) where
  abbrev now : View
  now = seen p c (came_by comes (suc t)) (placed_by comes)

  abbrev can : List ℕ → ℕ → Bool
  can rows = can_start (length p.processes) remote from knownby unmet run asany intofirst into (suc t) rows

  abbrev step : ℕ → Ends → Ends
  step = start_by (length p.processes) remote from knownby unmet run asany intofirst into (suc t) dispatchfirst dispatch ticks

  -- after the nodes below n have started: the later nodes and their processes are as before
  record SoFar (n : ℕ) (s : Ends) : Type 0 where
    logged : Held p (upto p now t log n) s.comes place
    ends : Busy p s.comes s.busy (suc t)
    came : came_by s.comes (suc t) ≡ came_by comes (suc t)
    items : (r : ℕ) → length p.processes ≤ r → get_or s.comes r 0 ≡ get_or comes r 0
    later_rows : (i : ℕ) → i < length p.processes → n ≤ unit p i → get_or s.comes i 0 ≡ get_or comes i 0
    later_nodes : (m : ℕ) → n ≤ m → get_or s.busy m 0 ≡ get_or busy m 0

  -- a node is free just where its last process has come by the clock
  low_free : (n : ℕ) → leb (get_or busy n 0) (suc t) ≡ true → free p now n ≡ true
  unfolding placed_by came_by
  low_free n e =
      over_free p now n (λ i l q m.
      join (not (eqb (get_or comes i 0) 0)) (leb (get_or comes i 0) (suc t)) m
      (le-leb (get_or comes i 0) (suc t) (omega (arith, leb-true (get_or busy n 0) (suc t) e, b.most i l, ap (λ (z : ℕ). get_or busy z 0) q))))

  ended : (n : ℕ) → free p now n ≡ true → (i : ℕ) → i < length p.processes → unit p i ≡ n → (eqb (get_or comes i 0) 0 ≡ true) ⊎ (eqb (get_or comes i 0) 0 ≡ false) →
      get_or comes i 0 ≤ suc t
  unfolding placed_by came_by
  ended n f i m q (inl e) = omega (arith, eqb-true (get_or comes i 0) 0 e)
  ended n f i m q (inr e) =
      leb-true (get_or comes i 0) (suc t) (both (not (eqb (get_or comes i 0) 0)) (leb (get_or comes i 0) (suc t)) (free_over p now n f i m q (is_not _ e))).1

  free_low : (n : ℕ) → n < length p.slots → free p now n ≡ true → leb (get_or busy n 0) (suc t) ≡ true
  free_low n l f = le-leb (get_or busy n 0) (suc t) (at (b.some n l))
    where
      at : (get_or busy n 0 ≡ 0) ⊎ ((i : ℕ) × (i < length p.processes) × (unit p i ≡ n) × (get_or comes i 0 ≡ get_or busy n 0)) → get_or busy n 0 ≤ suc t
      at (inl e) = omega (arith, e)
      at (inr e) = omega (arith, e.3, ended n f e.0 e.1 e.2 (two (eqb (get_or comes e.0 0) 0)))

  free_same : (n : ℕ) → n < length p.slots → leb (get_or busy n 0) (suc t) ≡ free p now n
  free_same n l = same_test _ _ (low_free n) (free_low n l)

  -- node n, after the nodes below n
  module _ (n : ℕ) (l : n < length p.slots) (s : Ends) (z : SoFar n s) where
    free_now : leb (get_or s.busy n 0) (suc t) ≡ free p now n
    free_now = ap (λ (x : ℕ). leb x (suc t)) (z.later_nodes n (omega arith)) ∙ free_same n l

    may_now : Runs run (may_run p (known p c (came_by s.comes (suc t))))
    may_now = subst (λ (d : ℕ → Bool). Runs run (may_run p (known p c d))) (sym z.came) may

    -- of its processes, one can start just where the model says so
    test_same : (i : ℕ) → In i (dispatch_order p) → candidate p now n i ≡ (eqb (unit p i) n && can s.comes i)
    unfolding candidate can_start placed_by
    test_same i m =
        let j : i < length p.processes = dispatch_in p m in
        regroup (eqb (unit p i) n) (not (eqb (get_or comes i 0) 0)) (ready p now i) _ _
        (λ e. not_not (eqb (get_or comes i 0) 0) ∙ ap (λ (x : ℕ). eqb x 0) (sym (z.later_rows i j (omega (arith, eqb-true (unit p i) n e)))))
        (λ e. sym (ready_link p g c from knownby unmet remote asany intofirst into s.comes (suc t) h (placed_by comes) run may_now i j
        ∙ ap (λ (d : ℕ → Bool). ready p (seen p c d (placed_by comes)) i) z.came))

    first_found : Found (λ i. eqb (unit p i) n) (can s.comes) (candidate p now n) (dispatch_order p)
    first_found = found (λ i. eqb (unit p i) n) (can s.comes) (candidate p now n) (dispatch_order p) test_same

    abbrev chosen : ℕ
    chosen = choice (length p.processes) remote from knownby unmet run asany intofirst into (suc t) dispatchfirst dispatch ticks n s.comes

    chosen_same : chosen ≡ first_of (can s.comes) (keep (λ i. eqb (unit p i) n) (dispatch_order p))
    unfolding choice
    chosen_same = ap (first_of (can s.comes)) (o n l)

    -- nothing is started
    nothing_new : unit_starts p now t n ≡ [] → SoFar (suc n) s
    nothing_new e =
        record {
          logged = subst (λ (x : Log). Held p (x ++ upto p now t log n) s.comes place) (sym e) z.logged;
          ends = z.ends;
          came = z.came;
          items = z.items;
          later_rows = λ i m r. z.later_rows i m (omega arith);
          later_nodes = λ m r. z.later_nodes m (omega arith);
        }

    -- process i is started
    begun : (i : ℕ) → i < length p.processes → unit p i ≡ n → get_or s.comes i 0 ≡ 0 → get_or s.busy n 0 ≤ suc t → unit_starts p now t n ≡ start_at t i ∷ [] →
        SoFar (suc n) (record { busy = set s.busy n (suc t + get_or ticks i 0); comes = set s.comes i (suc t + get_or ticks i 0) })
    begun i m on fresh low e =
        let end : ℕ = suc t + get_or ticks i 0 in
        let room : i < length s.comes = omega (arith, z.logged.comes_long, g.few_processes) in
        let high : suc t < end = omega (arith, k i, g.ticks_one i m) in
        let same : suc (t + span p (full_ticks p) i) ≡ end = omega (arith, k i, process_span p (full_ticks p) i m, full_tick p i) in
        record {
          logged =
              subst (λ (x : Log). Held p (x ++ upto p now t log n) (set s.comes i end) place) (sym e)
              (subst (λ (y : ℕ). Held p (start_at t i ∷ upto p now t log n) (set s.comes i y) place) same
              (held_start p (upto p now t log n) s.comes place (start_at t i) z.logged (omega (arith, g.few_processes)) fresh m refl));
          ends = busy_start s.comes (suc t) i end room high p s.busy z.ends n (omega (arith, g.few_slots)) m on low;
          came = came_start s.comes (suc t) i end room high fresh ∙ z.came;
          items = λ r q. get_or-set_other s.comes i r end 0 (λ w. absurd (omega arith)) ∙ z.items r q;
          later_rows = λ j q r. get_or-set_other s.comes i j end 0 (λ w. absurd (omega (arith, ap (unit p) w))) ∙ z.later_rows j q (omega arith);
          later_nodes = λ j r. get_or-set_other s.busy n j end 0 (λ w. absurd (omega arith)) ∙ z.later_nodes j (omega arith);
        }

    starts_none : free p now n ≡ false → unit_starts p now t n ≡ []
    unfolding unit_starts
    starts_none f = rw f

    starts_first : free p now n ≡ true → (xs : List ℕ) → first (candidate p now n) (dispatch_order p) ≡ xs → unit_starts p now t n ≡ map (start_at t) xs
    unfolding unit_starts
    starts_first f xs q = rw f (ap (map (start_at t)) q)

    -- what a candidate is
    is_candidate : (i : ℕ) → candidate p now n i ≡ true → (unit p i ≡ n) × (get_or comes i 0 ≡ 0)
    unfolding candidate placed_by
    is_candidate i e =
        let a = both _ (ready p now i) e in
        let d = both (eqb (unit p i) n) (not (not (eqb (get_or comes i 0) 0))) a.0 in
        (eqb-true (unit p i) n d.0, eqb-true (get_or comes i 0) 0 (sym (not_not _) ∙ d.1))

    with_first : free p now n ≡ true → leb (get_or s.busy n 0) (suc t) ≡ true → Found (λ i. eqb (unit p i) n) (can s.comes) (candidate p now n) (dispatch_order p) →
        SoFar (suc n) (step n s)
    with_first f e (none a q) =
        subst (SoFar (suc n)) (sym (step_none (length p.processes) remote from knownby unmet run asany intofirst into (suc t) dispatchfirst dispatch ticks n s e (chosen_same ∙ q))) (nothing_new (starts_first f [] a))
    with_first f e (one i m y a q) =
        let j : i < length p.processes = dispatch_in p m in
        let w = is_candidate i y in
        subst (SoFar (suc n)) (sym (step_one (length p.processes) remote from knownby unmet run asany intofirst into (suc t) dispatchfirst dispatch ticks n s i e (chosen_same ∙ q) (omega (arith, g.few_processes))))
        (begun i j w.0 (z.later_rows i j (omega (arith, w.0)) ∙ w.1) (leb-true (get_or s.busy n 0) (suc t) e) (starts_first f (i ∷ []) a))

    next : (free p now n ≡ true) ⊎ (free p now n ≡ false) → SoFar (suc n) (step n s)
    next (inl f) = with_first f (free_now ∙ f) first_found
    next (inr f) =
        subst (SoFar (suc n)) (sym (step_busy (length p.processes) remote from knownby unmet run asany intofirst into (suc t) dispatchfirst dispatch ticks n s (free_now ∙ f))) (nothing_new (starts_none f))

  abbrev after : ℕ → Ends
  after n = starts_by (length p.processes) remote from knownby unmet run asany intofirst into (suc t) dispatchfirst dispatch ticks n (record { busy = busy; comes = comes })

  so_far : (n : ℕ) → n ≤ length p.slots → SoFar n (after n)
  unfolding starts_by
  so_far zero l =
      record { logged = kept; ends = b; came = refl; items = λ r q. refl; later_rows = λ i m r. refl; later_nodes = λ m r. refl }
  so_far (suc n) l = next n (omega arith) (after n) (so_far n (omega arith)) (two (free p now n))

  now_same : view p c log t ≡ now
  now_same = view_link p c log comes (held_logged p log comes place kept) t

  pub starts_link : After p (view p c log t) log t comes place
      (starts_by (length p.processes) remote from knownby unmet run asany intofirst into (suc t) dispatchfirst dispatch ticks (length p.slots) (record { busy = busy; comes = comes }))
  starts_link =
      let z = so_far (length p.slots) (omega arith) in
      subst (λ (v : View). After p v log t comes place (after (length p.slots))) (sym now_same)
      (record {
        held = held_same p (upto p now t log (length p.slots)) (starts p now t ++ log) (after (length p.slots)).comes place (same_rows p now t g log) z.logged;
        ends = z.ends;
        came = z.came;
        items = z.items;
      })
