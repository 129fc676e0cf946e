-- Texts taken from a room one after another: what is left to take gives the whole.
-- Assumes nothing.
use mathlib.Core.Path.{◌≡◌, refl, ap}
use mathlib.Core.List.{List, [], ◌++◌}
use Prim.Native.Nat.{ℕ, ◌-◌}
use native.Mathlib.Omega.{arith}
use lib.ListN.{length, length-append}

-- a room from which texts are taken one after another, with the rest of the whole still to come
pub record Leaving (room left : ℕ) (whole rest : List ℕ) : Type 0 where
  pub leaves : room - length whole ≡ left - length rest

pub leaving_start : (room : ℕ) (whole : List ℕ) → Leaving room room whole whole
leaving_start room whole = record { leaves = refl }

module _ {room left : ℕ} {whole rest : List ℕ} (h : Leaving room left whole rest) where
  pub leaving_next : {next : ℕ} (u : List ℕ) {r : List ℕ} → rest ≡ u ++ r → next ≡ left - length u → Leaving room next whole r
  leaving_next {next} u {r} e n = record { leaves = omega (arith, h.leaves, ap length e, length-append u r) }

  pub leaving_end : rest ≡ [] → left ≡ room - length whole
  leaving_end e = omega (arith, h.leaves, ap length e)
