-- Where the arrays hold a plan and a combination, the array of what may run says of each process what the model says.
-- Assumes nothing.
use Rattle.std.specs.Prelude.{if◌then◌else◌}
use mathlib.Core.Path.{◌≡◌, refl, sym, ap, ◌∙◌}
use mathlib.Core.Logic.{◌⊎◌, inl, inr}
use mathlib.Core.Bool.{Bool, true, false, not, ◌&&◌, ◌||◌}
use mathlib.Core.List.{List, [], ◌∷◌, ◌++◌}
use Prim.Native.Nat.{ℕ, zero, suc, ◌≤◌, ◌<◌}
use native.Mathlib.Omega.{arith}
use lib.Dec.{eqb}
use lib.ListN.{length, get_or, set, length-set, length-replicate, length-append, get_or-append, get_or-eq_default}
use lib.Seq.{get_or-set_same, get_or-set_other}
use borrow.Author.Tests.{eqb-true, eqb-false}
use Rattle.lists.specs.Lists.{any, all}
use Rattle.lists.proofs.Fill.{zeros_at}
use Rattle.lists.proofs.Tests.{two, lower}
use Rattle.lists.proofs.Keep.{getD_last}
use Rattle.model.specs.Plan.{Lines, edge}
use Rattle.model.specs.Activity.{Heard, may_meet, may_carry, runs_next, may_run_first, may_run}
use Rattle.model.specs.Log.{known}
use Rattle.laws.proofs.Active.{first_length}
use Rattle.laws.proofs.Good.{Good}
use Rattle.log_queries.specs.Reading.{came_by, bit, carries_by, runs_by, may_run_by}
use Rattle.log_queries.specs.Holding.{Holds, Runs}
use Rattle.log_queries.proofs.ReadyOfModel.{never_given}

bit_zero : (b : Bool) → eqb (bit b) 0 ≡ not b
bit_zero true = refl
bit_zero false = refl

-- one more answer
module _ (run : List ℕ) (may : List Bool) (n : ℕ) (b : Bool) (room : n < length run) (count : length may ≡ n) (r : Runs run may) where
  there : get_or (may ++ (b ∷ [])) n false ≡ b
  there = ap (λ (k : ℕ). get_or (may ++ (b ∷ [])) k false) (sym count) ∙ getD_last may b

  elsewhere : (i : ℕ) → (i ≡ n → ⊥) → get_or (may ++ (b ∷ [])) i false ≡ get_or may i false
  elsewhere i d = at (lower i n d)
    where
      at : (i < n) ⊎ (n < i) → get_or (may ++ (b ∷ [])) i false ≡ get_or may i false
      at (inl l) = get_or-append may (b ∷ []) false i (omega arith)
      at (inr l) =
          get_or-eq_default (may ++ (b ∷ [])) false (omega (arith, length-append may (b ∷ []))) ∙ sym (get_or-eq_default may false (omega arith))

  runs_more : Runs (set run n (bit b)) (may ++ (b ∷ []))
  runs_more i = at (two (eqb i n))
    where
      at : (eqb i n ≡ true) ⊎ (eqb i n ≡ false) → eqb (get_or (set run n (bit b)) i 0) 0 ≡ not (get_or (may ++ (b ∷ [])) i false)
      at (inl e) = rw (eqb-true i n e, get_or-set_same run n (bit b) 0 room, there) (bit_zero b)
      at (inr e) = rw (get_or-set_other run n i (bit b) 0 (eqb-false i n e), elsewhere i (eqb-false i n e)) (r i)

neither_not : (a b : Bool) → not (not a || not b) ≡ (b && a)
neither_not true true = refl
neither_not true false = refl
neither_not false true = refl
neither_not false false = refl

module _ (p : Lines) (g : Good p) (c : List Bool) (from knownby unmet remote asany first edges rows : List ℕ) (u : ℕ)
    (h : Holds p c from knownby unmet remote asany first edges) where
  abbrev known_then : List Heard
  known_then = known p c (came_by rows u)

  carry_link : (run : List ℕ) (may : List Bool) → Runs run may → (e : ℕ) → carries_by from knownby unmet rows u run e ≡ may_carry p known_then may e
  unfolding carries_by may_carry
  carry_link run may r e =
      ap not (never_given p g c from knownby unmet remote asany first edges rows u h run may r e)
      ∙ neither_not (may_meet known_then (edge p e).when) (get_or may (edge p e).from false)

  runs_link : (run : List ℕ) (may : List Bool) → Runs run may → (i : ℕ) → i < length p.processes →
      runs_by from knownby unmet rows u asany first edges run i ≡ runs_next p known_then may i
  unfolding runs_by runs_next
  runs_link run may r i l = λ z.
      if h.conjunctions i z
      then any (λ e. carry_link run may r e z) (h.leading i l z)
      else all (λ e. carry_link run may r e z) (h.leading i l z)

  by_length : (n : ℕ) → length (may_run_by from knownby unmet rows u asany first edges n) ≡ 64
  unfolding may_run_by
  by_length zero = length-replicate {A = ℕ} 64 0
  by_length (suc n) = length-set (may_run_by from knownby unmet rows u asany first edges n) n _ ∙ by_length n

  first_link : (n : ℕ) → n ≤ length p.processes → Runs (may_run_by from knownby unmet rows u asany first edges n) (may_run_first p known_then n)
  unfolding may_run_by may_run_first
  first_link zero l i = ap (λ (x : ℕ). eqb x 0) (zeros_at 64 i)
  first_link (suc n) l i =
      let run : List ℕ = may_run_by from knownby unmet rows u asany first edges n in
      let may : List Bool = may_run_first p known_then n in
      let r : Runs run may = first_link n (omega arith) in
      rw (runs_link run may r n (omega arith)) (runs_more run may n (runs_next p known_then may n) (omega (arith, by_length n, g.few_processes)) (first_length p known_then n) r i)

  pub may_run_link : Runs (may_run_by from knownby unmet rows u asany first edges (length p.processes)) (may_run p (known p c (came_by rows u)))
  unfolding may_run
  may_run_link = first_link (length p.processes) (omega arith)
