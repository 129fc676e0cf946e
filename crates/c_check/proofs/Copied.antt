-- All words of a table, copied to the front of an array, of which the rest stays, are read back from there.
-- Assumes nothing.
use mathlib.Core.Path.{◌≡◌, ap, ◌∙◌}
use mathlib.Core.List.{List, ◌++◌}
use Prim.Native.Nat.{ℕ, ◌≤◌}
use native.Mathlib.Omega.{arith}
use lib.ListN.{length, take, drop, length-append}
use lib.Seq.{length-take-le, take-length, take-append_seam}

module _ (words array : List ℕ) (n : ℕ) (q : n ≡ length words) (l : n ≤ length array) {copy : List ℕ} (e : copy ≡ take (length (take n array)) (drop 0 words)) where
  whole : copy ≡ words
  whole = e ∙ ap (λ (k : ℕ). take k words) (length-take-le n array l ∙ q) ∙ take-length words

  pub copy_fits : n ≤ length (copy ++ drop n array)
  copy_fits = omega (arith, length-append copy (drop n array), ap length whole)

  pub copy_back : take n (copy ++ drop n array) ≡ words
  copy_back = (λ i. take (q i) (whole i ++ drop n array)) ∙ take-append_seam words (drop n array)
