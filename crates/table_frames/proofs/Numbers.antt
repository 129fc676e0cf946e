-- Frames as numbers, put in order with the greatest of each tick, are the frames of the model, and their words are the
-- words of the model.
-- Assumes nothing.
use mathlib.Core.Path.{◌≡◌, refl, sym, ap, ◌∙◌}
use mathlib.Core.Logic.{◌⊎◌, inl, inr}
use mathlib.Core.Bool.{true, false}
use mathlib.Core.List.{List, [], ◌∷◌, map, Memᴰ as In}
use Prim.Native.Nat.{ℕ, ◌+◌, ◌/◌, ◌%◌, ◌≤◌, ◌<◌, max}
use native.Mathlib.Omega.{arith}
use lib.Dec.{leb}
use borrow.Author.Tests.{leb-true, leb-false}
use Rattle.lists.specs.Ordered.{order, same, put_all}
use Rattle.lists.proofs.Tests.{two}
use Rattle.lists.proofs.Members.{map_in, map_same}
use Rattle.lists.proofs.Keep.{map_map}
use Rattle.lists.proofs.Order.{Joining, order_same, put_all_in}
use Rattle.table_entries.specs.Among.{multiple}
use Rattle.table_entries.proofs.Putting.{Keeping, put_all_map_new}
use Rattle.model.specs.Plan.{Lines}
use Rattle.model.specs.Bus.{row_node, row_bytes}
use Rattle.model.specs.Table.{Entry, Frame, frame_of, frame_key, wider, frames, frame_words}
use Rattle.table_frames.specs.Packed.{in_order, items, item_frame, frame_from, packed_words}

same_tick : (x y : ℕ) → order (multiple 1024 x) (multiple 1024 y) ≡ same → x / 1024 ≡ y / 1024
same_tick x y o = let q = order_same (multiple 1024 x) (multiple 1024 y) o in cc

-- the greater of two is one of them
max_one : (x y : ℕ) → (max x y ≡ x) ⊎ (max x y ≡ y)
max_one x y = at (two (leb x y))
  where
    at : (leb x y ≡ true) ⊎ (leb x y ≡ false) → (max x y ≡ x) ⊎ (max x y ≡ y)
    at (inl e) = let l = leb-true x y e in inr (omega arith)
    at (inr e) = let l = leb-false x y e in inl (omega arith)

-- what stands in order was put there
pub in_order_in : (y : ℕ) (ys : List ℕ) → In y (in_order ys []) → In y ys
in_order_in y ys m = put_all_in (multiple 1024) one y ys (λ x n. tt) m
  where
    one : Joining (multiple 1024) max (λ x. Unit {0}) (λ x y. Unit {0})
    one =
        record {
          one_of = λ x y u v o. max_one x y;
          for_new = λ x y u v o. tt;
          for_old = λ x y u v o. tt;
          itself = λ x. tt;
          trans = λ x y z u v. tt;
        }

-- Of frames of one tick and one node the greater number has the greater last used byte.
max_wider : (x y : ℕ) → x / 1024 ≡ y / 1024 → x % 1024 / 128 ≡ y % 1024 / 128 → frame_from (max x y) ≡ wider (frame_from x) (frame_from y)
unfolding frame_from wider
max_wider x y t n = at (two (leb x y))
  where
    at : (leb x y ≡ true) ⊎ (leb x y ≡ false) → frame_from (max x y) ≡ wider (frame_from x) (frame_from y)
    at (inl e) =
        let l = leb-true x y e in
        let m : max x y ≡ y = omega arith in
        let u : y % 128 ≡ max (x % 128) (y % 128) = omega arith in
        ap frame_from m ∙ (λ i. record { tick = y / 1024; node = y % 1024 / 128; used = u i })
    at (inr e) =
        let l = leb-false x y e in
        let m : max x y ≡ x = omega arith in
        let u : x % 128 ≡ max (x % 128) (y % 128) = omega arith in
        ap frame_from m ∙ (λ i. record { tick = t i; node = n i; used = u i })

-- numbers of which those of one tick are of one node
module _ (ys : List ℕ) (one_node : (x y : ℕ) → In x ys → In y ys → x / 1024 ≡ y / 1024 → x % 1024 / 128 ≡ y % 1024 / 128) where
  keeps : Keeping frame_from (multiple 1024) max frame_key wider (λ y. In y ys)
  unfolding frame_from frame_key
  keeps =
      record {
        orders = λ x y m n. refl;
        joins = λ x y m n o. max_wider x y (same_tick x y o) (one_node x y m n (same_tick x y o));
        classed = λ x y m n o. at x y m n (max_one x y);
      }
    where
      at : (x y : ℕ) → In x ys → In y ys → (max x y ≡ x) ⊎ (max x y ≡ y) → In (max x y) ys
      at x y m n (inl q) = rw q m
      at x y m n (inr q) = rw q n

  pub numbers_frames : map frame_from (in_order ys []) ≡ put_all frame_key wider (map frame_from ys) []
  numbers_frames = put_all_map_new keeps ys (λ x m. m)

-- Words: tick, node, last used byte.
pub words_frames : (ys : List ℕ) → packed_words ys ≡ frame_words (map frame_from ys)
unfolding packed_words frame_from
words_frames [] = refl
words_frames (y ∷ ys) = λ i. (y / 1024) ∷ (y % 1024 / 128) ∷ (y % 128) ∷ words_frames ys i

-- Items whose node and last used byte fit, and of which those of one tick are of one node.
pub record Fitting (p : Lines) (es : List Entry) : Type 0 where
  pub nodes : (e : Entry) → In e (items p es) → row_node p e.row < 8
  pub bytes : (e : Entry) → In e (items p es) → e.place + row_bytes p e.row ≤ 127
  pub one_node : (e f : Entry) → In e (items p es) → In f (items p es) → e.tick ≡ f.tick → row_node p e.row ≡ row_node p f.row

item_parts : (p : Lines) (e : Entry) → row_node p e.row < 8 → e.place + row_bytes p e.row ≤ 127 →
    (item_frame p e / 1024 ≡ e.tick) × (item_frame p e % 1024 / 128 ≡ row_node p e.row) × (item_frame p e % 128 ≡ e.place + row_bytes p e.row)
unfolding item_frame
item_parts p e n u = (omega arith, omega arith, omega arith)

module _ (p : Lines) (es : List Entry) (fit : Fitting p es) where
  parts : (e : Entry) → In e (items p es) →
      (item_frame p e / 1024 ≡ e.tick) × (item_frame p e % 1024 / 128 ≡ row_node p e.row) × (item_frame p e % 128 ≡ e.place + row_bytes p e.row)
  parts e m = item_parts p e (fit.nodes e m) (fit.bytes e m)

  item_from : (e : Entry) → In e (items p es) → frame_from (item_frame p e) ≡ frame_of p e
  unfolding frame_from frame_of
  item_from e m = let q = parts e m in λ i. record { tick = q.0 i; node = q.1 i; used = q.2 i }

  one_a_tick : (x y : ℕ) → In x (map (item_frame p) (items p es)) → In y (map (item_frame p) (items p es)) → x / 1024 ≡ y / 1024 → x % 1024 / 128 ≡ y % 1024 / 128
  one_a_tick x y m n t =
      let e = map_in (item_frame p) (items p es) m in
      let f = map_in (item_frame p) (items p es) n in
      let q = parts e.0 e.1 in
      let r = parts f.0 f.1 in
      let u : x / 1024 ≡ item_frame p e.0 / 1024 = ap (λ (z : ℕ). z / 1024) e.2 in
      let v : y / 1024 ≡ item_frame p f.0 / 1024 = ap (λ (z : ℕ). z / 1024) f.2 in
      ap (λ (z : ℕ). z % 1024 / 128) e.2 ∙ q.1 ∙ fit.one_node e.0 f.0 e.1 f.1 (sym q.0 ∙ sym u ∙ t ∙ v ∙ r.0) ∙ sym r.1
      ∙ sym (ap (λ (z : ℕ). z % 1024 / 128) f.2)

  -- the items' frames as numbers, put in order, are the frame list
  pub items_frames : map frame_from (in_order (map (item_frame p) (items p es)) []) ≡ frames p es
  unfolding frames
  items_frames =
      numbers_frames (map (item_frame p) (items p es)) one_a_tick
      ∙ ap (λ (fs : List Frame). put_all frame_key wider fs [])
      (map_map frame_from (item_frame p) (items p es) ∙ map_same (λ e. frame_from (item_frame p e)) (frame_of p) (items p es) item_from)

  pub items_words : packed_words (in_order (map (item_frame p) (items p es)) []) ≡ frame_words (frames p es)
  items_words = words_frames (in_order (map (item_frame p) (items p es)) []) ∙ ap frame_words items_frames
