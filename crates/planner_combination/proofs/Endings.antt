-- The clock at which a process next ends stays right from event to event, and where no process ends and no broadcast
-- arrives no node is looked at.
-- Assumes nothing.
use Rattle.std.specs.Prelude.{if◌then◌else◌}
use Prim.Native.Nat.{ℕ, min, ◌≤◌, ◌<◌}
use mathlib.Core.Path.{◌≡◌, refl, sym, ap, ◌∙◌}
use mathlib.Core.Logic.{◌⊎◌, inl, inr}
use mathlib.Core.Bool.{Bool, true, false}
use mathlib.Core.List.{List}
use native.Mathlib.Omega.{arith}
use lib.Dec.{eqb}
use lib.ListN.{get_or}
use borrow.Author.Tests.{eqb-true, eqb-false, eq-eqb}
use Rattle.planner_dispatch.specs.ChangedNodes.{no_end, Soonest}
use Rattle.planner_sends.specs.Clocks.{come_by, ends_now, changes_at}
use Rattle.planner_combination.specs.Ending.{Ending}
use Rattle.planner_combination.proofs.Ahead.{come_busy, come_most, come_below, come_later, ahead}

module _ (slots u : ℕ) (before : List ℕ) (ends : ℕ) (e : Ending slots u before ends) where
  -- where the pending items do not change, no broadcast arrives and no process ends
  pub unchanged : (broadcastend : ℕ) → (changes_at broadcastend ends u ≡ u → ⊥) → (broadcastend ≡ u → ⊥) × ((i : ℕ) → i < slots → get_or before i 0 ≡ u → ⊥)
  unfolding changes_at
  unchanged broadcastend d = (not_broadcast, λ i l q. d (ap (λ (c : Bool). if c then u else ends) (other (eqb broadcastend u) refl) ∙ e.end_now i l q))
    where
      not_broadcast : broadcastend ≡ u → ⊥
      not_broadcast q = d (ap (λ (c : Bool). if c then u else ends) (eq-eqb broadcastend u q))

      other : (c : Bool) → eqb broadcastend u ≡ c → eqb broadcastend u ≡ false
      other true t = absurd (not_broadcast (eqb-true broadcastend u t))
      other false t = t

  -- after the starts: only a process that starts can end sooner
  module _ (busy : List ℕ) (first : ℕ) (changed : (i : ℕ) → (get_or busy i 0 ≡ get_or before i 0) ⊎ ((get_or before i 0 ≤ u) × (u < get_or busy i 0))) (s : Soonest slots u before busy first) where
    abbrev old : ℕ
    old = come_by 0 before u slots

    abbrev new : ℕ
    new = come_by 0 busy u slots

    -- the least of both is not after any process that runs now
    lower : min old first ≤ new
    lower = come_below 0 busy u (min old first) slots (omega (arith, come_most 0 before u slots)) (λ z. absurd (omega arith)) (λ k l h. at k l h (s.most k l h))
      where
        at : (k : ℕ) → k < slots → u < get_or busy k 0 → (get_or busy k 0 ≡ get_or before k 0) ⊎ (first ≤ get_or busy k 0) → min old first ≤ get_or busy k 0
        at k l h (inl q) = omega (arith, q, ahead (come_busy 0 before u slots k l) (omega (arith, q, h)))
        at k l h (inr z) = omega (arith, z)

    -- a process that ran before still runs, and the first that starts does
    upper : new ≤ old
    upper = come_below 0 before u new slots (come_most 0 busy u slots) (λ z. absurd (omega arith)) (λ k l h. at k l h (changed k))
      where
        at : (k : ℕ) → k < slots → u < get_or before k 0 → (get_or busy k 0 ≡ get_or before k 0) ⊎ ((get_or before k 0 ≤ u) × (u < get_or busy k 0)) → new ≤ get_or before k 0
        at k l h (inl q) = omega (arith, q, ahead (come_busy 0 busy u slots k l) (omega (arith, q, h)))
        at k l h (inr z) = absurd (omega (arith, h, z.0))

    upper_first : new ≤ first
    upper_first = at s.one
      where
        at : (first ≡ no_end) ⊎ ((n : ℕ) × (n < slots) × (u < first) × (first ≡ get_or busy n 0)) → new ≤ first
        at (inl q) = omega (arith, q, come_most 0 busy u slots)
        at (inr z) = omega (arith, z.3, ahead (come_busy 0 busy u slots z.0 z.1) (omega (arith, z.2, z.3)))

    pub ends_right : ends_now ends first busy u slots ≡ come_by 0 busy u slots
    unfolding ends_now
    ends_right = at (eqb ends u) refl
      where
        at : (c : Bool) → eqb ends u ≡ c → (if c then new else min ends first) ≡ new
        at true q = refl
        at false q = omega (arith, e.end_ahead (eqb-false ends u q), lower, upper, upper_first)

-- at the next event
pub ending_next : (slots u w : ℕ) (busy : List ℕ) (ends₁ : ℕ) → ends₁ ≡ come_by 0 busy u slots → u < w → w ≤ ends₁ → Ending slots w busy ends₁
ending_next slots u w busy ends₁ q l h =
    record {
      end_now = λ n o z. at (come_busy 0 busy u slots n o) z;
      end_ahead = λ d. q ∙ sym (come_later 0 busy slots u w (omega arith) (omega (arith, q, h, d)));
    }
  where
    at : {x : ℕ} → (x ≤ u) ⊎ (come_by 0 busy u slots ≤ x) → x ≡ w → ends₁ ≡ w
    at (inl z) y = absurd (omega arith)
    at (inr z) y = omega (arith, q, h)
