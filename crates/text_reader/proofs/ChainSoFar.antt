-- Lines that a reader gives one after another, while they are read: how they begin, what one line more makes of them,
-- and what they are when they are over.
-- Assumes nothing.
use Rattle.std.specs.Prelude.{Option, None, Some}
use Prim.Native.Nat.{ℕ, ◌+◌, ◌≤◌, ◌<◌}
use mathlib.Core.Path.{◌≡◌, refl, ap, sym, subst, ◌∙◌}
use mathlib.Core.List.{List, [], ◌∷◌, ◌++◌, append_assoc, append-nil}
use native.Mathlib.Omega.{arith}
use lib.ListN.{length, take, set, length-append}
use lib.Seq.{sets, length-sets, take_all, take-append-le}
use Rattle.lists.proofs.Counts.{take_most}
use Rattle.lists.proofs.Stores.{sets_append, sets_front}
use Rattle.text_reader.specs.Chain.{Chain, Forward, Kept}

-- The lines from `at` to `next`: whatever lines follow from `next` on, all are these and those.
pub record Sofar {L : Type 0} (answers : ℕ → Option (L × ℕ) → Type 0) (size at : ℕ) (before now : List L) (count next : ℕ) : Type 0 where
  pub lines : List L
  pub read : (ys : List L) (j : ℕ) → Chain answers next ys j → Chain answers at (lines ++ ys) j
  pub within : next ≤ size
  pub all : count ≡ length lines
  pub few : count ≤ next
  pub held : now ≡ sets before 0 (take (length before) lines)

-- a line stored where there is room
pub data Stored {L : Type 0} (count : ℕ) (now : List L) (x : L) (after : List L) : Type 0 where
  put : count < length now → after ≡ set now count x → Stored count now x after
  left_out : length now ≤ count → after ≡ now → Stored count now x after

module _ {L : Type 0} {answers : ℕ → Option (L × ℕ) → Type 0} {size at : ℕ} {before : List L} where
  pub begun : at ≤ size → Sofar answers size at before before 0 at
  begun h =
      record {
        lines = [];
        read = λ ys j c. c;
        within = h;
        all = refl;
        few = omega arith;
        held = ap (sets before 0) (sym (take_all (length before) [] (omega arith)));
      }

  module _ {now : List L} {count next : ℕ} (p : Sofar answers size at before now count next) where
    pub over : answers next None → Kept answers at before now count next
    over e =
        record {
          lines = p.lines;
          read = subst (λ xs. Chain answers at xs next) (append-nil p.lines) (p.read [] next (e, refl));
          all = p.all;
          kept = p.held ∙ sets_front (take (length before) p.lines) before (take_most (length before) p.lines);
        }

    as_long : length now ≡ length before
    as_long = ap length p.held ∙ length-sets before 0 (take (length before) p.lines)

    stored_next : (x : L) → count < length before → set (sets before 0 (take (length before) p.lines)) count x ≡ sets before 0 (take (length before) (p.lines ++ (x ∷ [])))
    stored_next x l =
        let n : 0 + length p.lines ≡ count = omega (arith, p.all) in
        rw (
          take_all (length before) p.lines (omega (arith, p.all)),
          take_all (length before) (p.lines ++ (x ∷ [])) (omega (arith, p.all, length-append p.lines (x ∷ []))),
          sets_append p.lines (x ∷ []) before 0,
          n,
        )

    module _ (forward : Forward answers size) (x : L) {i : ℕ} (e : answers next (Some (x, i))) {after : List L} where
      pub more : Stored count now x after → Sofar answers size at before after (count + 1) i
      more s =
          record {
            lines = p.lines ++ (x ∷ []);
            read = λ ys j c. subst (λ xs. Chain answers at xs j) (sym (append_assoc p.lines (x ∷ []) ys)) (p.read (x ∷ ys) j (i, e, c));
            within = (forward next x i e).1;
            all = omega (arith, length-append p.lines (x ∷ []), p.all);
            few = omega (arith, forward next x i e, p.few);
            held = held s;
          }
        where
          held : Stored count now x after → after ≡ sets before 0 (take (length before) (p.lines ++ (x ∷ [])))
          held (put l q) = q ∙ ap (λ xs. set xs count x) p.held ∙ stored_next x (omega (arith, as_long))
          held (left_out l q) = q ∙ p.held ∙ ap (sets before 0) (sym (take-append-le (length before) p.lines (x ∷ []) (omega (arith, as_long, p.all))))
