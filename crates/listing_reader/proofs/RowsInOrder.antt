-- Rows in order while entries are read: what a further entry makes of it.
-- Assumes nothing.
use Prim.Native.Nat.{ℕ, ◌≤◌, ◌<◌}
use mathlib.Core.Path.{◌≡◌, refl, ap, sym, ◌∙◌}
use mathlib.Core.Bool.{Bool, true, false, ◌&&◌}
use mathlib.Core.List.{List, [], ◌∷◌, ◌++◌, append_assoc, append-nil}
use native.Mathlib.Omega.{arith}
use borrow.Author.Tests.{leb-true, le-leb}
use lib.Dec.{leb}
use Rattle.lists.proofs.Tests.{is_false}
use Rattle.model.specs.Table.{Entry}
use Rattle.model.specs.ListingText.{rows_in_order}

-- entries in order, the last of them in this row: with others behind them they are in order where those are from it on
pub record Ordered (es : List Entry) (row : ℕ) : Type 0 where
  pub followed : (ys : List Entry) → rows_in_order 0 (es ++ ys) ≡ rows_in_order row ys

pub none_ordered : Ordered [] 0
none_ordered = record { followed = λ ys. refl }

module _ {es : List Entry} {row : ℕ} (ordered : Ordered es row) where
  pub all_ordered : rows_in_order 0 es ≡ true
  unfolding rows_in_order
  all_ordered = ap (rows_in_order 0) (sym (append-nil es)) ∙ ordered.followed []

  module _ (e : Entry) where
    pub more_ordered : row ≤ e.row → Ordered (es ++ (e ∷ [])) e.row
    unfolding rows_in_order
    more_ordered l =
        record {
          followed = λ ys.
              ap (rows_in_order 0) (append_assoc es (e ∷ []) ys) ∙ ordered.followed (e ∷ ys)
              ∙ ap (λ (b : Bool). b && rows_in_order e.row ys) (le-leb row e.row l);
        }

    -- an entry of an earlier row, whatever follows it
    pub not_ordered : e.row < row → (ys : List Entry) → rows_in_order 0 (es ++ (e ∷ ys)) ≡ false
    unfolding rows_in_order
    not_ordered l ys =
        ordered.followed (e ∷ ys)
        ∙ ap (λ (b : Bool). b && rows_in_order e.row ys) (is_false (leb row e.row) (λ t. omega (arith, leb-true row e.row t)))
