-- A number of a field stands in the list at the field's place.
-- Assumes nothing.
use mathlib.Core.Path.{◌≡◌, sym}
use mathlib.Core.List.{List}
use Prim.Native.Nat.{ℕ, ◌+◌, ◌<◌}
use lib.ListN.{get_or}
use Rattle.lists.proofs.Keep.{getD_upfrom}
use Rattle.plan_index.specs.Index.{field}

pub field_at : (b : List ℕ) (a n i : ℕ) → i < n → get_or b (a + i) 0 ≡ get_or (field b a n) i 0
unfolding field
field_at b a n i l = sym (getD_upfrom (λ j. get_or b j 0) a n i 0 l)
