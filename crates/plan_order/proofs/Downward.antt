-- Urgencies from the last process down: what one store adds, and how great they are.
-- Assumes nothing.
use mathlib.Core.Path.{◌≡◌, refl, sym, ap, ◌∙◌}
use mathlib.Core.Logic.{◌⊎◌, inl, inr}
use mathlib.Core.Bool.{true, false}
use mathlib.Core.List.{List, [], ◌∷◌, ◌++◌, Memᴰ as In}
use Prim.Native.Nat.{ℕ, zero, suc, ◌+◌, ◌-◌, ◌*◌, ◌≤◌, ◌<◌}
use native.Mathlib.Omega.{arith}
use lib.Dec.{eqb}
use lib.ListN.{length, get_or, set, replicate, length-append, length-set, length-replicate}
use lib.Seq.{ext_get_or, get_or-set_same, get_or-set_other}
use borrow.Author.Tests.{eqb-true, eqb-false}
use Rattle.lists.specs.Lists.{keep, below, greatest}
use Rattle.lists.proofs.Tests.{two}
use Rattle.lists.proofs.Members.{map_same, keep_in, below_in}
use Rattle.lists.proofs.Fill.{zeros_at, padded_at}
use Rattle.lists.proofs.Sums.{greatest_le}
use Rattle.plan.specs.Tests.{at}
use Rattle.plan_order.specs.Urgency.{Upward, after, urgencies_of}

module _ (ticks from to : ℕ → ℕ) (edges : ℕ) where
  -- an array holds the urgencies of m processes from process i on
  abbrev Holds : List ℕ → ℕ → ℕ → Type 0
  Holds u i m = (k : ℕ) → at u (i + k) ≡ get_or (urgencies_of ticks from to edges i m) k 0

  urgencies_length : (i n : ℕ) → length (urgencies_of ticks from to edges i n) ≡ n
  unfolding urgencies_of
  urgencies_length i zero = refl
  urgencies_length i (suc n) = ap suc (urgencies_length (suc i) n)

  holds_start : (n : ℕ) → Holds (replicate 64 0) n 0
  unfolding urgencies_of
  holds_start n k = zeros_at 64 (n + k)

  module _ (up : Upward from to edges) where
    same_after : (u : List ℕ) (i m : ℕ) → Holds u (suc i) m → after from to edges (at u) i ≡ after from to edges (λ j. get_or (urgencies_of ticks from to edges (suc i) m) (j - suc i) 0) i
    unfolding after
    same_after u i m h = ap greatest (map_same _ _ (keep (λ e. eqb (from e) i) (below edges)) each)
      where
        each : (e : ℕ) → In e (keep (λ e. eqb (from e) i) (below edges)) → at u (to e) ≡ get_or (urgencies_of ticks from to edges (suc i) m) (to e - suc i) 0
        each e n =
            let r = keep_in (λ e. eqb (from e) i) (below edges) n in
            let l = up e (below_in edges r.0) in
            let q = eqb-true (from e) i r.1 in
            let s : to e ≡ suc i + (to e - suc i) = omega arith in
            ap (at u) s ∙ h (to e - suc i)

    holds_next : (u : List ℕ) (i m : ℕ) → i < length u → Holds u (suc i) m → Holds (set u i (ticks i + after from to edges (at u) i)) i (suc m)
    unfolding urgencies_of
    holds_next u i m l h zero =
        let z : i + zero ≡ i = omega arith in
        rw z (get_or-set_same u i (ticks i + after from to edges (at u) i) 0 l ∙ ap (λ (a : ℕ). ticks i + a) (same_after u i m h))
    holds_next u i m l h (suc k) =
        let s : i + suc k ≡ suc i + k = omega arith in
        rw s (get_or-set_other u i (suc i + k) (ticks i + after from to edges (at u) i) 0 (λ q. omega arith) ∙ h k)

-- every number of an array is at most b
abbrev Upto : List ℕ → ℕ → Type 0
Upto u b = (k : ℕ) → at u k ≤ b

upto_start : (b : ℕ) → Upto (replicate 64 0) b
upto_start b k = omega (arith, zeros_at 64 k)

set_most : (u : List ℕ) (i v : ℕ) → at (set u i v) i ≤ v
set_most [] i v = omega arith
set_most (x ∷ u) zero v = omega arith
set_most (x ∷ u) (suc i) v = set_most u i v

upto_next : (u : List ℕ) (i v b c : ℕ) → b ≤ c → v ≤ c → Upto u b → Upto (set u i v) c
upto_next u i v b c l m h k = by (two (eqb k i))
  where
    by : (eqb k i ≡ true) ⊎ (eqb k i ≡ false) → at (set u i v) k ≤ c
    by (inl e) = rw (eqb-true k i e) (omega (arith, set_most u i v))
    by (inr e) = omega (arith, get_or-set_other u i k v 0 (eqb-false k i e), h k)

after_upto : (from to : ℕ → ℕ) (edges : ℕ) (u : List ℕ) (i b : ℕ) → Upto u b → after from to edges (at u) i ≤ b
unfolding after
after_upto from to edges u i b h = greatest_le (λ e. at u (to e)) b (keep (λ e. eqb (from e) i) (below edges)) (λ e m. h (to e))

-- Before turn i of a loop from n down: the urgencies from process i on are there.
module _ (ticks from to : ℕ → ℕ) (edges n : ℕ) where
  pub record Sofar (u : List ℕ) (i : ℕ) : Type 0 where
    pub inside : i ≤ n
    pub long : length u ≡ 64
    pub most : Upto u (100000 * (n - i))
    pub holds : Holds ticks from to edges u i (n - i)

  pub sofar_start : {u : List ℕ} → u ≡ replicate 64 0 → Sofar u n
  sofar_start {u} e =
      let z : n - n ≡ 0 = omega arith in
      record {
        inside = omega arith;
        long = ap length e ∙ length-replicate {A = ℕ} 64 0;
        most = rw e (upto_start (100000 * (n - n)));
        holds = rw (e, z) (holds_start ticks from to edges n);
      }

  module _ (up : Upward from to edges) (small : (i : ℕ) → i < n → ticks i ≤ 100000) (u : List ℕ) (i : ℕ) (l : 0 < i) (s : Sofar u i) {a : ℕ} (e : a ≡ after from to edges (at u) (i - 1)) where
    pub sofar_most : ticks (i - 1) + a ≤ 100000 * (n - (i - 1))
    sofar_most = omega (arith, e, small (i - 1) (omega (arith, s.inside)), after_upto from to edges u (i - 1) (100000 * (n - i)) s.most, s.inside)

    pub sofar_next : n ≤ 64 → Sofar (set u (i - 1) (ticks (i - 1) + a)) (i - 1)
    sofar_next few =
        let q : suc (i - 1) ≡ i = omega arith in
        let m : n - (i - 1) ≡ suc (n - i) = omega (arith, s.inside) in
        record {
          inside = omega (arith, s.inside);
          long = length-set u (i - 1) (ticks (i - 1) + a) ∙ s.long;
          most = upto_next u (i - 1) (ticks (i - 1) + a) (100000 * (n - i)) (100000 * (n - (i - 1))) (omega arith) sofar_most s.most;
          holds = rw (e, m) (holds_next ticks from to edges up u (i - 1) (n - i) (omega (arith, s.long, s.inside)) (rw q s.holds));
        }

  pub sofar_end : {u : List ℕ} {i : ℕ} → n ≤ 64 → i ≤ 0 → Sofar u i → u ≡ urgencies_of ticks from to edges 0 n ++ replicate (64 - n) 0
  sofar_end {u} {i} few l s =
      let q : i ≡ 0 = omega arith in
      let z : n - i ≡ n = omega arith in
      let all : List ℕ = urgencies_of ticks from to edges 0 n in
      ext_get_or 0 u (all ++ replicate (64 - n) 0)
      (omega (arith, s.long, length-append all (replicate (64 - n) 0), urgencies_length ticks from to edges 0 n, length-replicate {A = ℕ} (64 - n) 0))
      (λ k b.
      let r : k ≡ i + k = omega arith in
      ap (at u) r ∙ s.holds k ∙ (λ j. get_or (urgencies_of ticks from to edges (q j) (z j)) k 0) ∙ sym (padded_at all (64 - n) k))
