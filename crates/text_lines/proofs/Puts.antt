-- Bytes put one run after another: the runs together are put, and the count goes on over each.
-- Assumes nothing.
use mathlib.Core.Path.{◌≡◌, refl, ap, sym, ◌∙◌}
use mathlib.Core.List.{List, [], ◌++◌}
use Prim.Native.Nat.{ℕ}
use native.Mathlib.Omega.{arith}
use lib.ListN.{length, length-append}
use lib.Seq.{length-sets}
use Rattle.lists.proofs.Stores.{sets_append}
use Rattle.text_lines.specs.Put.{Counts, Put}

pub put_none : (l : List ℕ) (at : ℕ) → Put l l at at []
put_none l at = record { count = omega arith; holds = refl }

module _ {l m : List ℕ} {at i : ℕ} {u : List ℕ} (p : Put l m at i u) where
  pub put_then : {n : List ℕ} {j : ℕ} {v : List ℕ} → Put m n i j v → Put l n at j (u ++ v)
  put_then {n} {j} {v} q =
      record {
        count = omega (arith, p.count, q.count, length-append u v);
        holds = q.holds ∙ rw (p.holds, p.count) (sym (sets_append u v l at));
      }

  pub put_length : length m ≡ length l
  put_length = ap length p.holds ∙ length-sets l at u

  -- the count goes on over what comes next
  pub counts_rest : (v : List ℕ) → Counts at (u ++ v) → Counts i v
  counts_rest v c = record { fits = omega (arith, c.fits, p.count, length-append u v) }

pub counts_first : {at : ℕ} (u v : List ℕ) → Counts at (u ++ v) → Counts at u
counts_first u v c = record { fits = omega (arith, c.fits, length-append u v) }
