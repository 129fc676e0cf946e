-- The log before a tick: it only grows, a member of it was placed at its own tick, and what is over by a tick is
-- settled at it.
-- Assumes nothing.
use mathlib.Core.Path.{◌≡◌, sym, ap, subst}
use mathlib.Core.Logic.{◌⊎◌, inl, inr}
use mathlib.Core.Bool.{Bool, true}
use mathlib.Core.List.Memᴰ.{not-nil as in_none}
use mathlib.Core.List.{List, Memᴰ as In}
use Prim.Native.Nat.{ℕ, zero, suc, ◌+◌, ◌-◌, ◌≤◌, ◌<◌}
use native.Mathlib.Nat.{add-zero, add-suc}
use native.Mathlib.Omega.{arith}
use lib.ListN.{length}
use Rattle.lists.proofs.Tests.{same_test}
use Rattle.model.specs.Plan.{Lines}
use Rattle.model.specs.Bus.{rows}
use Rattle.model.specs.Log.{Placed, full_ticks, known}
use Rattle.model.specs.Planning.{View, before}
use Rattle.laws.proofs.Good.{Good}
use Rattle.laws.proofs.OnlyDue.{only_due}
use Rattle.laws.proofs.Rows.{over_in, in_over, span_one, done_by, known_by}
use Rattle.laws.proofs.Steps.{Started, Taken, pending_item, log_at, view_at, new_at, new_in, new_facts, log_in, in_new, in_old}

module _ (p : Lines) (c : List Bool) where
  grows_by : (s k : ℕ) (x : Placed) → In x (log_at p c s) → In x (log_at p c (s + k))
  grows_by s zero x m = rw (add-zero s) m
  grows_by s (suc k) x m = rw (add-suc s k) (in_old p c (s + k) x (grows_by s k x m))

  pub grows : (s t : ℕ) → s ≤ t → (x : Placed) → In x (log_at p c s) → In x (log_at p c t)
  grows s t l x m = let q : s + (t - s) ≡ t = omega arith in subst (λ (u : ℕ). In x (log_at p c u)) q (grows_by s (t - s) x m)

  -- what stands in the log was placed at its tick
  pub history : (t : ℕ) (x : Placed) → In x (log_at p c t) → (x.tick < t) × In x (new_at p c x.tick)
  unfolding before
  history zero x m = absurd (in_none m)
  history (suc t) x m = at (log_in p c t x m) (history t x)
    where
      at : In x (new_at p c t) ⊎ In x (log_at p c t) → (In x (log_at p c t) → (x.tick < t) × In x (new_at p c x.tick)) → (x.tick < suc t) × In x (new_at p c x.tick)
      at (inl u) r = let q = (new_facts p c t x u).0 in (omega arith, subst (λ (s : ℕ). In x (new_at p c s)) (sym q) u)
      at (inr u) r = let b = r u in ((let l = b.0 in omega arith), b.1)

  -- and in every log after that tick
  pub back : (t u : ℕ) (x : Placed) → In x (log_at p c t) → x.tick < u → In x (log_at p c u)
  back t u x m l = grows (suc x.tick) u l x (in_new p c x.tick x (history t x m).1)

  module _ (t : ℕ) (x : Placed) (m : In x (log_at p c t)) where
    abbrev view_then : View
    view_then = view_at p c x.tick

    placed_then : Taken p view_then x.tick x ⊎ Started p view_then x.tick x
    placed_then = new_in p c x.tick x (history t x m).1

    pub was_started : x.row < length p.processes → Started p view_then x.tick x
    was_started l = at placed_then
      where
        at : Taken p view_then x.tick x ⊎ Started p view_then x.tick x → Started p view_then x.tick x
        at (inl s) = absurd (omega (arith, pending_item p view_then s.slot.node x.row s.item))
        at (inr s) = s

    pub was_taken : length p.processes ≤ x.row → Taken p view_then x.tick x
    was_taken l = at placed_then
      where
        at : Taken p view_then x.tick x ⊎ Started p view_then x.tick x → Taken p view_then x.tick x
        at (inl s) = s
        at (inr s) = absurd (omega (arith, s.row_in))

  module _ (g : Good p) (count : length c ≡ length p.conditions) where
    -- what is over by a tick, and so what is known at it, does not change later
    pub over_then : (s t : ℕ) → s ≤ t → done_by p (log_at p c t) s ≡ done_by p (log_at p c s) s
    over_then s t l = λ i r. same_test _ _ (here_too r) (later_too r) i
      where
        here_too : (r : ℕ) → done_by p (log_at p c t) s r ≡ true → done_by p (log_at p c s) s r ≡ true
        here_too r e =
            let m = over_in p (full_ticks p) (log_at p c t) s r e in
            let u : r < rows p = subst (λ (r : ℕ). r < rows p) m.2 (only_due p c g count t m.0 m.1).0 in
            let k = m.3 in
            in_over p (full_ticks p) s r (back t s m.0 m.1 (omega (arith, span_one p g r u))) m.2 k

        later_too : (r : ℕ) → done_by p (log_at p c s) s r ≡ true → done_by p (log_at p c t) s r ≡ true
        later_too r e =
            let m = over_in p (full_ticks p) (log_at p c s) s r e in
            in_over p (full_ticks p) s r (grows s t l m.0 m.1) m.2 m.3

    pub known_then : (s t : ℕ) → s ≤ t → known_by p c (log_at p c t) s ≡ known_by p c (log_at p c s) s
    known_then s t l = ap (known p c) (over_then s t l)
