-- Where bytes are ample, the plan has at most six conditions and the bytes are as many as a listing has at most.
-- Assumes nothing.
use mathlib.Core.Path.{◌≡◌}
use mathlib.Core.Bool.{true, ◌&&◌}
use Prim.Native.Nat.{ℕ, ◌≤◌}
use lib.Dec.{leb}
use borrow.Author.Tests.{leb-true}
use Rattle.lists.proofs.Tests.{both}
use Rattle.listing_count.specs.Parts.{most_bytes}
use Rattle.listing_count.specs.Ample.{ample}

pub ample_enough : (lent conditions words framewords : ℕ) → ample lent conditions words framewords ≡ true → (conditions ≤ 6) × (most_bytes words framewords ≤ lent)
unfolding ample
ample_enough lent conditions words framewords e =
    let a = both (leb conditions 6) (leb words 1000000 && (leb framewords 1000000 && leb (most_bytes words framewords) lent)) e in
    let b = both (leb words 1000000) (leb framewords 1000000 && leb (most_bytes words framewords) lent) a.1 in
    (leb-true conditions 6 a.0, leb-true (most_bytes words framewords) lent (both (leb framewords 1000000) (leb (most_bytes words framewords) lent) b.1).1)
