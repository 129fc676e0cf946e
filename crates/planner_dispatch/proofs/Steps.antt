-- What the start of one node does to the arrays: nothing, where the node is not free or has nothing to start; else one
-- process in its dispatch order starts.
-- Assumes nothing.
use mathlib.Core.Path.{◌≡◌, refl, ap, ◌∙◌}
use mathlib.Core.Logic.{◌⊎◌, inl, inr}
use mathlib.Core.Bool.{Bool, true, false}
use mathlib.Core.List.{List}
use Prim.Native.Nat.{ℕ, ◌+◌, ◌≤◌, ◌<◌}
use native.Mathlib.Omega.{arith}
use lib.Dec.{eqb, leb}
use lib.ListN.{get_or, set}
use lib.Seq.{set-get_or}
use borrow.Author.Tests.{eqb-true, leb-false, ne_eqb}
use Rattle.lists.proofs.Tests.{two, both}
use Rattle.log_queries.specs.Reading.{part}
use Rattle.planner_dispatch.specs.Starts.{Ends, end_after, rows_after, can_start, choice, start_by}
use Rattle.planner_dispatch.specs.Unchanged.{Idle}
use Rattle.log_queries.proofs.ArrayParts.{in_part, part_in}
use Rattle.planner_dispatch.proofs.Picks.{first_none, First, no_first, a_first, the_first}

module _ (processes : ℕ) (remote from knownby unmet run asany intofirst into : List ℕ) (u : ℕ) (dispatchfirst dispatch ticks : List ℕ) where
  abbrev can : List ℕ → ℕ → Bool
  can = can_start processes remote from knownby unmet run asany intofirst into u

  abbrev chosen : ℕ → List ℕ → ℕ
  chosen = choice processes remote from knownby unmet run asany intofirst into u dispatchfirst dispatch ticks

  abbrev step : ℕ → Ends → Ends
  step = start_by processes remote from knownby unmet run asany intofirst into u dispatchfirst dispatch ticks

  abbrev idle_at : List ℕ → ℕ → Type 0
  idle_at = Idle processes remote from knownby unmet run asany intofirst into u dispatchfirst dispatch

  -- a process that can start has not started
  can_fresh : (rows : List ℕ) (i : ℕ) → can rows i ≡ true → get_or rows i 0 ≡ 0
  unfolding can_start
  can_fresh rows i e = eqb-true (get_or rows i 0) 0 (both (eqb (get_or rows i 0) 0) _ e).0

  chosen_none : (n : ℕ) (rows : List ℕ) → idle_at rows n → chosen n rows ≡ 64
  unfolding choice
  chosen_none n rows h =
      first_none (can rows) (part dispatch (get_or dispatchfirst n 0) (get_or dispatchfirst (n + 1) 0))
      (λ x m. let r = part_in dispatch (get_or dispatchfirst n 0) (get_or dispatchfirst (n + 1) 0) m in ap (can rows) r.3 ∙ h r.0 r.1 r.2)

  module _ (n : ℕ) (s : Ends) where
    -- the node is not free; it is free and has nothing to start; it is free and starts process x
    pub step_busy : leb (get_or s.busy n 0) u ≡ false → step n s ≡ s
    unfolding start_by
    step_busy e = rw e

    step_free : (x : ℕ) → leb (get_or s.busy n 0) u ≡ true → chosen n s.comes ≡ x →
        step n s ≡ record { busy = set s.busy n (end_after x u ticks (get_or s.busy n 0)); comes = rows_after x u ticks s.comes }
    unfolding start_by
    step_free x e q =
        rw e (λ j. record { busy = set s.busy n (end_after (q j) u ticks (get_or s.busy n 0)); comes = rows_after (q j) u ticks s.comes })

    pub step_none : leb (get_or s.busy n 0) u ≡ true → chosen n s.comes ≡ 64 → step n s ≡ s
    unfolding end_after rows_after
    step_none e q = step_free 64 e q ∙ (λ j. record { busy = set-get_or s.busy n 0 j; comes = s.comes })

    pub step_one : (x : ℕ) → leb (get_or s.busy n 0) u ≡ true → chosen n s.comes ≡ x → x < 64 →
        step n s ≡ record { busy = set s.busy n (u + get_or ticks x 0); comes = set s.comes x (u + get_or ticks x 0) }
    unfolding end_after rows_after
    step_one x e q r = step_free x e q ∙ rw (ne_eqb x 64 (λ w. absurd (omega arith)))

    -- a node with no process that can start is left as it is
    pub idle_step : idle_at s.comes n → step n s ≡ s
    idle_step h = by (two (leb (get_or s.busy n 0) u))
      where
        by : (leb (get_or s.busy n 0) u ≡ true) ⊎ (leb (get_or s.busy n 0) u ≡ false) → step n s ≡ s
        by (inl e) = step_none e (chosen_none n s.comes h)
        by (inr e) = step_busy e

    -- the node is left as it is, and if it is free none of its processes can start; or one of them, at place j, starts
    pub data Stepped : Type 0 where
      stays : (get_or s.busy n 0 ≤ u → idle_at s.comes n) → step n s ≡ s → Stepped
      begins : (x j : ℕ) → get_or dispatchfirst n 0 ≤ j → j < get_or dispatchfirst (n + 1) 0 → x ≡ get_or dispatch j 0 → get_or s.comes x 0 ≡ 0 →
          step n s ≡ record { busy = set s.busy n (u + get_or ticks x 0); comes = set s.comes x (u + get_or ticks x 0) } → Stepped

    pub stepped : ((j : ℕ) → get_or dispatch j 0 < 64) → Stepped
    unfolding choice
    stepped low = by (two (leb (get_or s.busy n 0) u)) (the_first (can s.comes) (part dispatch (get_or dispatchfirst n 0) (get_or dispatchfirst (n + 1) 0)))
      where
        by : (leb (get_or s.busy n 0) u ≡ true) ⊎ (leb (get_or s.busy n 0) u ≡ false) →
            First (can s.comes) (part dispatch (get_or dispatchfirst n 0) (get_or dispatchfirst (n + 1) 0)) → Stepped
        by (inr e) f = stays (λ free. absurd (omega (arith, leb-false (get_or s.busy n 0) u e))) (step_busy e)
        by (inl e) (no_first h) =
            stays (λ free j a b. h (get_or dispatch j 0) (in_part dispatch (get_or dispatchfirst n 0) (get_or dispatchfirst (n + 1) 0) j a b))
            (step_none e (first_none (can s.comes) _ h))
        by (inl e) (a_first m y) =
            let x : ℕ = chosen n s.comes in
            let r = part_in dispatch (get_or dispatchfirst n 0) (get_or dispatchfirst (n + 1) 0) m in
            begins x r.0 r.1 r.2 r.3 (can_fresh s.comes x y) (step_one x e refl (omega (arith, r.3, low r.0)))
