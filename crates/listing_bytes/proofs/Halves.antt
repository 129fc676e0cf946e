-- A word stored as its first and its last bytes, which may overlap.
-- Assumes nothing.
use mathlib.Core.Path.{◌≡◌, ap, sym, ◌∙◌}
use mathlib.Core.List.{List, ◌++◌}
use Prim.Native.Nat.{ℕ, ◌+◌, ◌-◌, ◌≤◌}
use native.Mathlib.Omega.{arith}
use lib.ListN.{length, take, drop, take-append-drop, length-take, length-drop}
use lib.Seq.{sets, take-add, length-take-le}
use Rattle.lists.proofs.Stores.{sets_append, sets_over}
use Rattle.text_lines.specs.Put.{Put}

-- the first k bytes and the last k of a word
module _ (word : List ℕ) (k : ℕ) (enough : k ≤ length word) (most : length word ≤ k + k) where
  abbrev rest : ℕ
  rest = length word - k

  first_parts : take k word ≡ take rest word ++ take (k - rest) (drop rest word)
  first_parts = let e : k ≡ rest + (k - rest) = omega arith in ap (λ (n : ℕ). take n word) e ∙ take-add rest (k - rest) word

  pub put_halves : {l m n : List ℕ} {at i j : ℕ} → Put l m at i (take k word) → Put m n (at + rest) j (drop rest word) → Put l n at j word
  put_halves {l} {m} {n} {at} p q =
      let u = take rest word in
      let v = drop rest word in
      let s : length u ≡ rest = length-take-le rest word (omega arith) in
      record {
        count = omega (arith, q.count, length-drop rest word);
        holds =
            q.holds
            ∙ rw (p.holds, first_parts, sets_append u (take (k - rest) v) l at, s)
            (sets_over (take (k - rest) v) v (sets l at u) (at + rest) (omega (arith, length-take (k - rest) v)))
            ∙ sym (ap (sets l at) (sym (take-append-drop rest word)) ∙ sets_append u v l at ∙ ap (λ (o : ℕ). sets (sets l at u) (at + o) v) s);
      }
