-- Frames put in order, tick by tick of a row and row by row: what is left to put gives the whole.
-- Assumes nothing.
use mathlib.Core.Path.{◌≡◌, refl, sym, ap, subst, ◌∙◌}
use mathlib.Core.List.{List, [], ◌∷◌, map}
use Prim.Native.Nat.{ℕ, zero, suc, ◌+◌, ◌-◌, ◌/◌, ◌≤◌, ◌<◌, max}
use native.Mathlib.Numerals.{add-one}
use native.Mathlib.Omega.{arith}
use lib.ListN.{length, get_or, take}
use lib.Seq.{slice, slice_empty, slice-cons}
use Rattle.lists.specs.Lists.{each, upfrom}
use Rattle.lists.specs.Ordered.{Ascending, put_all}
use Rattle.lists.proofs.Loops.{upfrom_next, upfrom_end}
use Rattle.table_entries.specs.Among.{multiple, Added}
use Rattle.table_entries.proofs.Putting.{put_all_append}
use Rattle.table_entries.proofs.Multiples.{numbers_ascend, put_joined}
use Rattle.table_entries.proofs.PutPlaces.{added_ascends, added_one}
use Rattle.table_frames.specs.Packed.{entry_frame, in_order, Collected, Rows, row_frames, packed_frames}

-- The entries of a row: a frame y is still to be put, and then those of the entries from place i on.
module _ (f : ℕ → ℕ) (list : List ℕ) (to : ℕ) (whole : List ℕ) (most : ℕ) where
  pub record RowLeft (out : List ℕ) (m y i : ℕ) : Type 0 where
    pub inside : i ≤ to
    pub room : m + 1 + (to - i) ≤ most
    pub long : length out ≡ 12672
    pub ascends : Ascending (multiple 1024) (take m out)
    pub gives : in_order (y ∷ map f (slice i to list)) (take m out) ≡ whole

  -- the next entry, and those behind it
  part_next : (i : ℕ) → i < to → to ≤ length list → map f (slice i to list) ≡ f (get_or list i 0) ∷ map f (slice (i + 1) to list)
  part_next i l h = ap (map f) (slice-cons i to list 0 l h ∙ ap (λ (k : ℕ). get_or list i 0 ∷ slice k to list) (sym (add-one i)))

  -- one frame more of the tick of y
  pub row_left_joined : {out after : List ℕ} {m n y v i : ℕ} → i < to → to ≤ length list → RowLeft out m y i → f (get_or list i 0) / 1024 ≡ y / 1024 →
      after ≡ out → n ≡ m → v ≡ max (f (get_or list i 0)) y → RowLeft after n v (i + 1)
  unfolding put_all
  row_left_joined {out} {after} {m} {n} {y} {v} {i} l h w e s t u =
      let rest : List ℕ = map f (slice (i + 1) to list) in
      record {
        inside = omega arith;
        room = omega (arith, w.room);
        long = ap length s ∙ w.long;
        ascends = subst (Ascending (multiple 1024)) (sym (λ j. take (t j) (s j))) w.ascends;
        gives =
            (λ j. in_order (u j ∷ rest) (take (t j) (s j))) ∙ ap (in_order rest) (sym (put_joined 1024 (f (get_or list i 0)) y (take m out) e))
            ∙ sym (ap (λ (r : List ℕ). in_order (y ∷ r) (take m out)) (part_next i l h)) ∙ w.gives;
      }

  -- y is put, and the next frame is of another tick
  pub row_left_next : {out after later : List ℕ} {m n y v i end : ℕ} → i < to → to ≤ length list → most ≤ 12672 → RowLeft out m y i → Added 1024 y out after 0 m end →
      later ≡ after → n ≡ end → v ≡ f (get_or list i 0) → RowLeft later n v (i + 1)
  unfolding put_all
  row_left_next {out} {after} {later} {m} {n} {y} {v} {i} {end} l h fits w a s t u =
      let o = added_one a (omega arith) (omega (arith, w.long, w.room)) in
      let rest : List ℕ = map f (slice (i + 1) to list) in
      record {
        inside = omega arith;
        room = omega (arith, w.room, o.1);
        long = ap length s ∙ a.long ∙ w.long;
        ascends = subst (Ascending (multiple 1024)) (sym (λ j. take (t j) (s j))) (added_ascends a w.ascends);
        gives =
            (λ j. in_order (u j ∷ rest) (take (t j) (s j))) ∙ ap (in_order (f (get_or list i 0) ∷ rest)) a.holds
            ∙ sym (ap (λ (r : List ℕ). in_order (y ∷ r) (take m out)) (part_next i l h)) ∙ w.gives;
      }

  -- y is the last
  pub row_left_end : {out after : List ℕ} {m y i end : ℕ} → to ≤ i → most ≤ 12672 → RowLeft out m y i → Added 1024 y out after 0 m end →
      (end ≤ most) × (length after ≡ 12672) × (take end after ≡ whole)
  unfolding put_all
  row_left_end {out} {after} {m} {y} {i} {end} l fits w a =
      let o = added_one a (omega arith) (omega (arith, w.long, w.room)) in
      let q : i ≡ to = omega (arith, w.inside) in (
        omega (arith, w.room, o.1),
        a.long ∙ w.long,
        a.holds ∙ sym (ap (λ (s : List ℕ). in_order (y ∷ map f s) (take m out)) (ap (λ (k : ℕ). slice k to list) q ∙ slice_empty to list)) ∙ w.gives,
      )

-- the first entry of a row, and a row with none
module _ (f : ℕ → ℕ) (list out : List ℕ) (from to n : ℕ) (inside : to ≤ length list) where
  pub row_left_start : {y : ℕ} → from < to → length out ≡ 12672 → Ascending (multiple 1024) (take n out) → y ≡ f (get_or list from 0) →
      RowLeft f list to (in_order (map f (slice from to list)) (take n out)) (n + (to - from)) out n y (from + 1)
  row_left_start l long ascends e =
      record {
        inside = omega arith;
        room = omega arith;
        long = long;
        ascends = ascends;
        gives =
            ap (λ (v : ℕ). in_order (v ∷ map f (slice (from + 1) to list)) (take n out)) e
            ∙ sym (ap (λ (r : List ℕ). in_order r (take n out)) (part_next f list to [] 0 from l inside));
      }

  pub row_empty : from ≡ to → take n out ≡ in_order (map f (slice from to list)) (take n out)
  unfolding put_all
  row_empty q = sym (ap (λ (s : List ℕ). in_order (map f s) (take n out)) (ap (λ (k : ℕ). slice k to list) q ∙ slice_empty to list))

-- The rows: those from row q on are left to put.
pub record RowsLeft (list ends node bytes : List ℕ) (processes rows : ℕ) (out : List ℕ) (n q : ℕ) : Type 0 where
  pub from : processes ≤ q
  pub to : q ≤ rows
  pub few : n ≤ get_or ends q 0
  pub long : length out ≡ 12672
  pub ascends : Ascending (multiple 1024) (take n out)
  pub gives : in_order (each (row_frames list ends node bytes) (upfrom q (rows - q))) (take n out) ≡ packed_frames list ends node bytes processes rows

module _ (list ends node bytes : List ℕ) (processes rows : ℕ) (r : Rows list ends processes rows) where
  rising_to_last : (d q : ℕ) → processes ≤ q → q + d ≡ rows → get_or ends q 0 ≤ get_or ends rows 0
  rising_to_last zero q p e = let z : q ≡ rows = omega arith in rw z (omega arith)
  rising_to_last (suc d) q p e =
      let u = r.rising q p (omega arith) in
      let v = rising_to_last d (q + 1) (omega arith) (omega arith) in
      omega arith

  -- a row's entries stand within the array, and behind those of earlier rows
  pub row_within : (q : ℕ) → processes ≤ q → q < rows → (get_or ends q 0 ≤ get_or ends (q + 1) 0) × (get_or ends (q + 1) 0 ≤ 12672)
  row_within q p l = let u = rising_to_last (rows - (q + 1)) (q + 1) (omega arith) (omega arith) in let v = r.inside in (r.rising q p l, omega arith)

  pub rows_left_start : (out : List ℕ) → length out ≡ 12672 → RowsLeft list ends node bytes processes rows out 0 processes
  unfolding packed_frames
  rows_left_start out l = record { from = omega arith; to = r.first; few = omega arith; long = l; ascends = tt; gives = refl }

  pub rows_left_next : {out after : List ℕ} {n q from to end : ℕ} → q < rows → RowsLeft list ends node bytes processes rows out n q → from ≡ get_or ends q 0 → to ≡ get_or ends (q + 1) 0 →
      Collected (map (entry_frame (get_or node q 0) (get_or bytes q 0)) (slice from to list)) (take n out) after (n + (to - from)) end → RowsLeft list ends node bytes processes rows after end (q + 1)
  unfolding row_frames
  rows_left_next {out} {after} {n} {q} {from} {to} {end} l w e f c =
      let f' : List ℕ → List ℕ = map (entry_frame (get_or node q 0) (get_or bytes q 0)) in
      let d : take end after ≡ in_order (row_frames list ends node bytes q) (take n out) =
      c.holds ∙ (λ i. in_order (f' (slice (e i) (f i) list)) (take n out)) in
      let rest : List ℕ = each (row_frames list ends node bytes) (upfrom (q + 1) (rows - (q + 1))) in
      let u = r.rising q w.from l in
      record {
        from = omega (arith, w.from);
        to = omega arith;
        few = omega (arith, c.few, w.few);
        long = c.long;
        ascends = subst (Ascending (multiple 1024)) (sym d) (numbers_ascend 1024 (row_frames list ends node bytes q) (take n out) w.ascends);
        gives =
            ap (in_order rest) d
            ∙ sym (put_all_append (multiple 1024) max (row_frames list ends node bytes q) rest (take n out))
            ∙ sym (ap (λ (s : List ℕ). in_order (each (row_frames list ends node bytes) s) (take n out)) (upfrom_next rows q l))
            ∙ w.gives;
      }

  pub rows_left_end : {out : List ℕ} {n q : ℕ} → rows ≤ q → RowsLeft list ends node bytes processes rows out n q → (take n out ≡ packed_frames list ends node bytes processes rows) × (n ≤ get_or ends rows 0)
  unfolding put_all
  rows_left_end {out} {n} {q} l w =
      let z : q ≡ rows = omega (arith, w.to) in (
        sym (ap (λ (s : List ℕ). in_order (each (row_frames list ends node bytes) s) (take n out)) (upfrom_end rows q l)) ∙ w.gives,
        omega (arith, w.few, ap (λ (k : ℕ). get_or ends k 0) z),
      )
