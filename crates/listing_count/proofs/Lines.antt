-- The lines that are counted and stored are those of document 01: of an entry, a frame and a refusal, and the whole
-- listing of words.
-- Assumes nothing.
use Rattle.std.specs.Prelude.{if◌then◌else◌}
use mathlib.Core.Path.{◌≡◌, refl, sym, ap, ◌∙◌}
use mathlib.Core.Bool.{Bool, true, false, not}
use mathlib.Core.Logic.{◌⊎◌, inl, inr}
use mathlib.Core.List.{List, [], ◌∷◌, ◌++◌, append_assoc, append-nil}
use Prim.Native.Nat.{ℕ, zero, suc, ◌+◌, ◌-◌, ◌/◌, ◌%◌, ◌^◌, ◌≤◌}
use native.Mathlib.Nat.{pow-suc, div-div-eq-div-mul, div-one}
use native.Mathlib.Omega.{arith}
use borrow.Author.Tests.{ltb-true, ltb-false, eqb-true, eqb-false, lt-ltb, le-ltb, eq-eqb, ne_eqb}
use lib.Dec.{eqb, ltb}
use lib.ListN.{length, length-append, take}
use Rattle.lists.specs.Lists.{each, below, upfrom}
use Rattle.lists.proofs.Joined.{regroup, each_equal}
use Rattle.lists.proofs.Tests.{two}
use Rattle.model.specs.Plan.{Lines}
use Rattle.model.specs.Table.{Entry, Frame, entries_of, frames_of}
use Rattle.model.specs.Text.{text, decimal, field}
use Rattle.model.specs.Listing.{bit, value_text, column_text, place_text, entry_line, frame_line, refused_line, passed_line, passed_lines, listing, words_listing}
use Rattle.text_lines.specs.Label.{labelled}
use Rattle.text_lines.proofs.Fields.{field_then}
use Rattle.listing_count.specs.Parts.{value_at, values_from, column_of, start_of, item_of, entry_of, entry_text, frame_of, frame_text, passed_of, passed_text, totals_of, listing_of}

-- a bit is 1 where it is not 0
odd : (m : ℕ) → eqb (m % 2) 1 ≡ not (eqb (m % 2) 0)
odd m = at (two (eqb (m % 2) 0))
  where
    at : (eqb (m % 2) 0 ≡ true) ⊎ (eqb (m % 2) 0 ≡ false) → eqb (m % 2) 1 ≡ not (eqb (m % 2) 0)
    at (inl e) = let z = eqb-true (m % 2) 0 e in rw e (ne_eqb (m % 2) 1 (λ h. omega arith))
    at (inr e) = let z = eqb-false (m % 2) 0 e in rw e (eq-eqb (m % 2) 1 (at_one z))
      where
        at_one : (m % 2 ≡ 0 → ⊥) → m % 2 ≡ 1
        at_one z = omega arith

module _ (e : Entry) where
  -- condition k of an entry's column, by the bits of its words from k on
  value_same : (k : ℕ) → value_text e k ≡ value_at (e.known / 2 ^ k) (e.values / 2 ^ k) k
  unfolding value_text bit value_at field
  value_same k =
      rw (odd (e.known / 2 ^ k), odd (e.values / 2 ^ k)) (at (eqb (e.known / 2 ^ k % 2) 0) (eqb (e.values / 2 ^ k % 2) 0))
    where
      at : (a b : Bool) →
          if not a then text " " ++ (if not b then field "true" k else field "false" k) else []
          ≡ if a then [] else if b then labelled " (false " k ++ text ")" else labelled " (true " k ++ text ")"
      at true b = refl
      at false true = refl
      at false false = refl

  half : (x k : ℕ) → x / 2 ^ k / 2 ≡ x / 2 ^ suc k
  half x k = div-div-eq-div-mul x (2 ^ k) 2 ∙ ap (λ (d : ℕ). x / d) (sym (pow-suc 2 k))

  values_same : (n k : ℕ) → each (value_text e) (upfrom k n) ≡ values_from n (e.known / 2 ^ k) (e.values / 2 ^ k) k
  unfolding values_from
  values_same zero k = refl
  values_same (suc n) k = rw (value_same k, values_same n (suc k), half e.known k, half e.values k)

  values_whole : (n : ℕ) → each (value_text e) (below n) ≡ values_from n e.known e.values 0
  values_whole n = rw (div-one e.known, div-one e.values) at (values_same n 0)

  column_same : (p : Lines) → column_text p e ≡ column_of (length p.conditions) e.known e.values e.tick ++ text ")"
  unfolding column_text column_of field
  column_same p =
      let vs = values_from (length p.conditions) e.known e.values 0 in
      rw (values_whole (length p.conditions))
      (ap (λ (s : List ℕ). text " (when" ++ s) (append_assoc vs (text ") ") (field "at" e.tick) ∙ sym (append_assoc vs (labelled ") (at " e.tick) (text ")"))))

  start_same : (p : Lines) → text "(start " ++ decimal e.row ++ column_text p e ++ text ")\n" ≡ start_of (length p.conditions) e.row e.known e.values e.tick
  unfolding start_of
  start_same p =
      let column = column_of (length p.conditions) e.known e.values e.tick in
      rw (column_same p)
      (append_assoc (labelled "(start " e.row) (column ++ text ")") (text ")\n") ∙ ap (λ (s : List ℕ). labelled "(start " e.row ++ s) (append_assoc column (text ")") (text ")\n")))

  item_same : (p : Lines) (label : List ℕ) (number : ℕ) →
      label ++ decimal number ++ column_text p e ++ place_text e ++ text ")\n"
      ≡ item_of label (length p.conditions) number e.known e.values e.tick e.place
  unfolding item_of place_text field
  item_same p label number =
      let column = column_of (length p.conditions) e.known e.values e.tick in
      let first = label ++ decimal number in
      let place = text " " ++ field "place" e.place in
      rw (column_same p)
      (append_assoc (first ++ (column ++ text ")")) place (text ")\n")
      ∙ append_assoc first (column ++ text ")") (place ++ text ")\n")
      ∙ ap (λ (s : List ℕ). first ++ s) (append_assoc column (text ")") (place ++ text ")\n"))
      ∙ ap (λ (s : List ℕ). first ++ (column ++ (text ") (place " ++ s))) (append_assoc (decimal e.place) (text ")") (text ")\n")))

-- a row less those before it, tested against their number
shift_test : (r a b : ℕ) → a ≤ r → ltb (r - a) b ≡ ltb r (a + b)
shift_test r a b l = at (two (ltb r (a + b)))
  where
    at : (ltb r (a + b) ≡ true) ⊎ (ltb r (a + b) ≡ false) → ltb (r - a) b ≡ ltb r (a + b)
    at (inl e) = let h = ltb-true r (a + b) e in lt-ltb (r - a) b (omega arith) ∙ sym e
    at (inr e) = let h = ltb-false r (a + b) e in le-ltb (r - a) b (omega arith) ∙ sym e

module _ (p : Lines) (e : Entry) where
  -- how many processes, edges and conditions the plan has
  processes : ℕ
  processes = length p.processes

  edges : ℕ
  edges = length p.edges

  conditions : ℕ
  conditions = length p.conditions

  -- by the row: a process's, an edge's, a condition's, or none that the plan has
  pub entry_same : entry_line p e ≡ entry_text (length p.processes) (length p.edges) (length p.conditions) e
  unfolding entry_line entry_of processes edges conditions
  entry_same = any_row (two (ltb row processes))
    where
      row : ℕ
      row = e.row

      past_edges : processes + edges ≤ row →
          (ltb row (processes + edges + conditions) ≡ true) ⊎ (ltb row (processes + edges + conditions) ≡ false) →
          ltb row processes ≡ false → ltb row (processes + edges) ≡ false → entry_line p e ≡ entry_text processes edges conditions e
      past_edges l (inl t) f g =
          let s : row - processes - edges ≡ row - (processes + edges) = omega arith in
          rw (shift_test row processes edges (omega arith), s, shift_test row (processes + edges) conditions l, f, g, t)
          (item_same e p (text "(tell ") (row - (processes + edges)))
      past_edges l (inr t) f g =
          let s : row - processes - edges ≡ row - (processes + edges) = omega arith in
          rw (shift_test row processes edges (omega arith), s, shift_test row (processes + edges) conditions l, f, g, t)

      past_processes : processes ≤ row → (ltb row (processes + edges) ≡ true) ⊎ (ltb row (processes + edges) ≡ false) →
          ltb row processes ≡ false → entry_line p e ≡ entry_text processes edges conditions e
      past_processes l (inl t) f = rw (shift_test row processes edges l, f, t) (item_same e p (text "(send ") (row - processes))
      past_processes l (inr t) f = past_edges (ltb-false row (processes + edges) t) (two (ltb row (processes + edges + conditions))) f t

      any_row : (ltb row processes ≡ true) ⊎ (ltb row processes ≡ false) → entry_line p e ≡ entry_text processes edges conditions e
      any_row (inl t) = rw t (start_same e p)
      any_row (inr t) = past_processes (ltb-false row processes t) (two (ltb row (processes + edges))) t

pub frame_same : (f : Frame) → frame_line f ≡ frame_text f
unfolding frame_line frame_of
frame_same f =
    regroup (text "(frame ") (decimal f.tick ∷ text " " ∷ field "node" f.node ∷ text " " ∷ field "bytes" f.used ∷ text ")\n" ∷ [])
    ∙ rw (field_then "node" f.node, field_then "bytes" f.used)

pub refused_parts : (n : ℕ) → refused_line n ≡ labelled "(refused " n ++ text ")\n"
unfolding refused_line field
refused_parts n = ap (λ (s : List ℕ). text "(refused " ++ s) (append_assoc (decimal n) (text ")") (text "\n"))

pub refused_length : (n : ℕ) → length (refused_line n) ≡ 11 + length (decimal n)
refused_length n = omega (arith, ap length (refused_parts n), length-append (labelled "(refused " n) (text ")\n"))

pub passed_line_same : (n count : ℕ) → passed_line n count ≡ passed_of n count
unfolding passed_line passed_of
passed_line_same n count = regroup (text "(passed ") (field "node" n ∷ text " " ∷ decimal count ∷ text ")\n" ∷ []) ∙ rw (field_then "node" n, append-nil (text ")\n")) (parts (labelled "(passed (node " n) (decimal count))
  where
    parts : (a b : List ℕ) → a ++ (text ") " ++ (b ++ text ")\n")) ≡ a ++ ((text ") " ++ b) ++ text ")\n")
    parts a b = simp append_assoc

pub passed_same : (n : ℕ) (counts : List ℕ) → passed_lines n counts ≡ passed_text n counts
unfolding passed_lines passed_text
passed_same n [] = refl
passed_same n (count ∷ counts) = λ i. passed_line_same n count i ++ passed_same (suc n) counts i

totals_same : (delay : ℕ) (counts : List ℕ) → field "delay" delay ++ text "\n" ++ passed_lines 0 counts ≡ totals_of delay counts
unfolding totals_of field
totals_same delay counts = rw (passed_same 0 counts) (parts (labelled "(delay " delay) (passed_text 0 counts))
  where
    parts : (a c : List ℕ) → ((a ++ text ")") ++ text "\n") ++ c ≡ a ++ (text ")\n" ++ c)
    parts a c = simp append_assoc

pub listing_same : (p : Lines) (delay : ℕ) (words table frames : List ℕ) →
    words_listing p delay words table frames
    ≡ listing_of (length p.processes) (length p.edges) (length p.conditions) delay (take (length p.slots) words) table frames
unfolding words_listing listing listing_of
listing_same p delay words table frames =
    let counts = take (length p.slots) words in
    let es = each (entry_line p) (entries_of table) in
    let fs = each frame_line (frames_of frames) in
    rw (totals_same delay counts, ← each_equal (entry_same p) (entries_of table), ← each_equal frame_same (frames_of frames))
    (append_assoc (totals_of delay counts) es fs)
