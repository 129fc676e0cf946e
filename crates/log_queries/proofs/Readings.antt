-- Where arrays by row hold a log, the conditions known by a clock and the last end of a process that are read off them
-- are those of the log.
-- Assumes nothing.
use Rattle.std.specs.Prelude.{if◌then◌else◌}
use mathlib.Core.Path.{◌≡◌, sym, ap, ◌∙◌}
use mathlib.Core.Logic.{◌⊎◌, inl, inr}
use mathlib.Core.Bool.{Bool, true, false}
use mathlib.Core.List.{List, map, Memᴰ as In}
use Prim.Native.Nat.{ℕ, suc, ◌+◌, ◌-◌, ◌<◌, ◌≤◌}
use native.Mathlib.Omega.{arith}
use lib.Dec.{eqb, ltb}
use lib.ListN.{length, get_or}
use borrow.Author.Tests.{eqb-true, eqb-false, ltb-true, lt-ltb}
use Rattle.lists.specs.Lists.{below, greatest}
use Rattle.lists.proofs.Tests.{two}
use Rattle.lists.proofs.Members.{in_below, below_in}
use Rattle.lists.proofs.Sums.{greatest_in, greatest_le}
use Rattle.model.specs.Plan.{Lines}
use Rattle.model.specs.Log.{Placed, Log, full_ticks, over, known, process_end, delay}
use Rattle.model.specs.Table.{known_bits}
use Rattle.laws.proofs.Rows.{process_span}
use Rattle.bitset.proofs.Built.{built_small, built_same}
use Rattle.bitset.proofs.Known.{known_built}
use Rattle.log_queries.specs.Reading.{within, came_by, placed_by, known_by, last_end_by}
use Rattle.log_queries.specs.Holding.{Held}
use Rattle.log_queries.proofs.Held.{held_logged}
use Rattle.log_queries.proofs.Placing.{placed_at, placed_is, row_stands, stands_row}

-- the mask of what is known has six bits
pub known_small : (comes : List ℕ) (base conditions u : ℕ) → conditions ≤ 6 → known_by comes base conditions u < 64
unfolding known_by
known_small comes base conditions u l = built_small (λ k. came_by comes u (base + k)) 0 conditions 6 l

-- the same numbers elsewhere in another array give the same mask
pub known_same : (xs ys : List ℕ) (a b conditions u : ℕ) → ((k : ℕ) → k < conditions → get_or xs (a + k) 0 ≡ get_or ys (b + k) 0) → known_by xs a conditions u ≡ known_by ys b conditions u
unfolding known_by came_by
known_same xs ys a b conditions u h =
    built_same (λ k. came_by xs u (a + k)) (λ k. came_by ys u (b + k)) 0 conditions (λ k l m. ap (λ (x : ℕ). within x u) (h k (omega arith)))

module _ (p : Lines) (log : Log) (comes place : List ℕ) (h : Held p log comes place) where
  pub known_link : (c : List Bool) (t : ℕ) →
      known_bits (known p c (over p (full_ticks p) log t)) ≡ known_by comes (length p.processes + length p.edges) (length p.conditions) (suc t)
  unfolding known_by
  known_link c t = ap (λ (done : ℕ → Bool). known_bits (known p c done)) ((held_logged p log comes place h).over_by t) ∙ known_built p c (came_by comes (suc t))

  abbrev P# : ℕ
  P# = length p.processes

  abbrev at : ℕ → Placed
  at r = placed_at p comes place r

  -- the end of a process
  end_of : (i : ℕ) → i < P# → placed_by comes i ≡ true → get_or comes i 0 ≡ suc (process_end p (full_ticks p) (at i))
  unfolding process_end
  end_of i l e =
      (row_stands p log comes place h i e).1
      ∙ ap (λ (k : ℕ). suc ((at i).tick + k)) (process_span p (full_ticks p) i l)
      ∙ ap (λ (z : Bool). suc (if z then (at i).tick + get_or (full_ticks p) i 0 else 0)) (sym (lt-ltb i P# l))

  comes_most : (i : ℕ) → In i (below P#) → get_or comes i 0 ≤ suc (delay p (full_ticks p) log)
  unfolding delay
  comes_most i n = by (two (eqb (get_or comes i 0) 0))
    where
      by : (eqb (get_or comes i 0) 0 ≡ true) ⊎ (eqb (get_or comes i 0) 0 ≡ false) → get_or comes i 0 ≤ suc (greatest (map (process_end p (full_ticks p)) log))
      by (inl e) = let z : get_or comes i 0 ≡ 0 = eqb-true _ _ e in omega arith
      by (inr e) =
          let d = placed_is comes i (eqb-false _ _ e) in
          omega (arith, end_of i (below_in P# n) d, greatest_in (process_end p (full_ticks p)) log (at i) (row_stands p log comes place h i d).0)

  end_most : (x : Placed) → In x log → process_end p (full_ticks p) x ≤ last_end_by comes P#
  unfolding process_end last_end_by
  end_most x n = by (two (ltb x.row P#))
    where
      by : (ltb x.row P# ≡ true) ⊎ (ltb x.row P# ≡ false) →
          (if ltb x.row P# then x.tick + get_or (full_ticks p) x.row 0 else 0) ≤ greatest (map (λ i. get_or comes i 0) (below P#)) - 1
      by (inl e) =
          let s = stands_row p log comes place h x n in
          let l : x.row < P# = ltb-true _ _ e in
          let q : get_or comes x.row 0 ≡ suc (process_end p (full_ticks p) x) = end_of x.row l s.1 ∙ ap (λ (y : Placed). suc (process_end p (full_ticks p) y)) (sym s.0) in
          let k = greatest_in (λ i. get_or comes i 0) (below P#) x.row (in_below P# x.row l) in
          omega (arith, q, k)
      by (inr e) = rw e (omega arith)

  last_most : last_end_by comes P# ≤ delay p (full_ticks p) log
  unfolding last_end_by
  last_most = let k = greatest_le (λ i. get_or comes i 0) (suc (delay p (full_ticks p) log)) (below P#) comes_most in omega arith

  last_least : delay p (full_ticks p) log ≤ last_end_by comes P#
  unfolding delay
  last_least = greatest_le (process_end p (full_ticks p)) (last_end_by comes P#) log end_most

  -- the delay of a combination is the last end of a process
  pub last_end_link : last_end_by comes (length p.processes) ≡ delay p (full_ticks p) log
  last_end_link = omega (arith, last_most, last_least)
