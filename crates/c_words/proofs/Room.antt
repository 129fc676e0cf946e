-- The array that `entry_words` gives has 63,360 words.
-- Assumes nothing.
use mathlib.Core.Path.{◌≡◌, ap, ◌∙◌}
use mathlib.Core.List.{List}
use Prim.Native.Nat.{ℕ}
use lib.ListN.{length, replicate, length-replicate}

pub entry_room : {words : List ℕ} → words ≡ replicate 63360 0 → length words ≡ 63360
entry_room e = ap length e ∙ length-replicate {A = ℕ} 63360 0
