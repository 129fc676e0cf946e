-- What the arrays say of an edge: whether it stays on its node, the row that makes its `when` known, and whether a
-- combination meets it.
-- Assumes nothing.
use Rattle.std.specs.Prelude.{if◌then◌else◌}
use mathlib.Core.Path.{◌≡◌, refl, sym, ap, ◌∙◌}
use mathlib.Core.Logic.{◌⊎◌, inl, inr}
use mathlib.Core.Bool.{Bool, true, false, not, beq}
use mathlib.Core.List.{List}
use Prim.Native.Nat.{ℕ, suc, ◌+◌, ◌/◌, ◌%◌, ◌^◌}
use native.Mathlib.Omega.{arith}
use lib.Dec.{eqb}
use lib.ListN.{length, get_or}
use borrow.Author.Tests.{eqb-true, eqb-false, eq-eqb, ne_eqb}
use Rattle.lists.proofs.Tests.{two}
use Rattle.model.specs.Plan.{Lines, When, always, on}
use Rattle.model.specs.Listing.{bit}
use Rattle.plan.specs.Kinds.{kind_of, condition_of}
use Rattle.log_queries.specs.Holding.{known_row, met_in}
use Rattle.plan_layout.specs.Unmet.{differs, unmet_of, value_of}
use Rattle.plan_layout.specs.LineArrays.{receiver_of, knownby_of}

-- two numbers differ, or not
pub differs_same : (a b : ℕ) → eqb (differs a b) 0 ≡ eqb a b
differs_same a b = by (eqb a b)
  where
    by : (t : Bool) → eqb (if t then 0 else 1) 0 ≡ t
    by true = refl
    by false = refl

-- an edge has no node to be sent to just where it stays on its node
pub receiver_same : (a b : ℕ) → eqb (receiver_of a b) 0 ≡ eqb a b
receiver_same a b = by (eqb a b)
  where
    by : (t : Bool) → eqb (if t then 0 else suc b) 0 ≡ t
    by true = refl
    by false = ne_eqb (suc b) 0 (λ z. absurd (omega arith))

pub knownby_same : (p : Lines) (i : ℕ) (w : When) → knownby_of (kind_of w) i (length p.processes + length p.edges + condition_of w) ≡ known_row p i w
unfolding kind_of condition_of
knownby_same p i always = refl
knownby_same p i (on true k) = refl
knownby_same p i (on false k) = refl

-- a bit is 0 just where it is not 1
zero_not_one : (x : ℕ) → eqb (x % 2) 0 ≡ not (eqb (x % 2) 1)
zero_not_one x = by (two (eqb (x % 2) 1))
  where
    by : (eqb (x % 2) 1 ≡ true) ⊎ (eqb (x % 2) 1 ≡ false) → eqb (x % 2) 0 ≡ not (eqb (x % 2) 1)
    by (inl e) = let q = eqb-true (x % 2) 1 e in rw e (ne_eqb (x % 2) 0 (λ z. omega arith))
    by (inr e) = let q : x % 2 ≡ 1 → ⊥ = eqb-false (x % 2) 1 e in rw e (eq-eqb (x % 2) 0 (omega (arith, q)))

alike : (b : Bool) → b ≡ beq b true
alike true = refl
alike false = refl

unlike : (b : Bool) → not b ≡ beq b false
unlike true = refl
unlike false = refl

pub met_same : (c : List Bool) (n : ℕ) (w : When) → ((v : Bool) (k : ℕ) → w ≡ on v k → get_or c k false ≡ bit n k) →
    eqb (unmet_of (kind_of w) (value_of n (condition_of w))) 0 ≡ met_in c w
unfolding kind_of condition_of bit
met_same c n always h = refl
met_same c n (on true k) h =
    differs_same (value_of n k) 1 ∙ alike (eqb (value_of n k) 1) ∙ ap (λ (b : Bool). beq b true) (sym (h true k refl))
met_same c n (on false k) h =
    differs_same (value_of n k) 0 ∙ zero_not_one (n / 2 ^ k) ∙ unlike (eqb (value_of n k) 1) ∙ ap (λ (b : Bool). beq b false) (sym (h false k refl))
