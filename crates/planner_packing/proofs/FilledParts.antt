-- What the proof of `fill` rests on: a choice whose test is known, and what a slot leaves part by part.
-- Assumes nothing.
use Rattle.std.specs.Prelude.{if◌then◌else◌}
use Prim.Native.Nat.{ℕ, ◌+◌}
use mathlib.Core.Path.{◌≡◌, sym, ap, ◌∙◌}
use mathlib.Core.Bool.{Bool, true, false}
use mathlib.Core.List.{List}
use lib.Dec.{eqb}
use lib.ListN.{get_or, set}
use Rattle.planner_sends.specs.Packing.{Load, load}
use Rattle.planner_packing.specs.Slot.{Bus, bus, filled}

-- a choice whose test is known
pub when : {A : Type 0} {b : Bool} (x y : A) → b ≡ true → x ≡ (if b then x else y)
when x y e = sym (ap (λ (q : Bool). if q then x else y) e)

pub unless : {A : Type 0} {b : Bool} (x y : A) → b ≡ false → y ≡ (if b then x else y)
unless x y e = sym (ap (λ (q : Bool). if q then x else y) e)

-- what a slot leaves, part by part
pub filled_parts : (n end : ℕ) (s : Bus) {l : Load} {t : Bool} (used : ℕ) (short broadcast : Bool) (comes place : List ℕ) {slotend heard : ℕ} {passed : List ℕ} →
    load used short comes place ≡ l → broadcast ≡ t → slotend ≡ (if eqb used 0 then s.slotend else end) → heard ≡ (if broadcast then end else s.broadcastend) →
    passed ≡ (if short then set s.passed n (get_or s.passed n 0 + 1) else s.passed) → bus slotend heard comes place passed ≡ filled n end l t s
unfolding filled
filled_parts n end s used short broadcast comes place e f a b c = (λ i. bus (a i) (b i) comes place (c i)) ∙ (λ i. filled n end (e i) (f i) s)
