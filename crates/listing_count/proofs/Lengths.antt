-- How long each line of a listing is: fixed lengths, and the digits of its numbers.
-- Assumes nothing.
use mathlib.Core.Path.{◌≡◌, sym, ◌∙◌}
use mathlib.Core.Bool.{true, false}
use mathlib.Core.Logic.{◌⊎◌, inl, inr}
use mathlib.Core.List.{List, ◌++◌}
use Prim.Native.Nat.{ℕ, ◌+◌, ◌-◌, ◌≤◌}
use native.Mathlib.Omega.{arith}
use borrow.Author.Tests.{ltb-true, ltb-false, lt-ltb, le-ltb}
use lib.Dec.{ltb}
use lib.ListN.{length, length-append}
use Rattle.lists.proofs.Tests.{two}
use Rattle.model.specs.Text.{text, decimal}
use Rattle.text_lines.specs.Label.{labelled}
use Rattle.listing_count.specs.Parts.{values_from, column_of, start_of, item_of, entries_text, frame_of, frames_text, passed_of, passed_text, totals_of, listing_of}

pub false_length : (k : ℕ) → length (labelled " (false " k ++ text ")") ≡ 9 + length (decimal k)
false_length k = simp length-append (omega arith)

pub true_length : (k : ℕ) → length (labelled " (true " k ++ text ")") ≡ 8 + length (decimal k)
true_length k = simp length-append (omega arith)

column_length : (conditions known values tick : ℕ) →
    length (column_of conditions known values tick) ≡ length (values_from conditions known values 0) + (12 + length (decimal tick))
unfolding column_of
column_length conditions known values tick = simp length-append (omega arith)

pub start_length : (conditions row known values tick : ℕ) →
    length (start_of conditions row known values tick)
    ≡ length (values_from conditions known values 0) + (22 + length (decimal row) + length (decimal tick))
unfolding start_of
start_length conditions row known values tick = simp length-append (omega (arith, column_length conditions known values tick))

pub item_length : (label : List ℕ) → length label ≡ 6 → (conditions number known values tick place : ℕ) →
    length (item_of label conditions number known values tick place)
    ≡ length (values_from conditions known values 0) + (30 + length (decimal number) + length (decimal tick) + length (decimal place))
unfolding item_of
item_length label six conditions number known values tick place = simp length-append (omega (arith, column_length conditions known values tick))

pub frame_length : (tick node used : ℕ) → length (frame_of tick node used) ≡ 26 + length (decimal tick) + length (decimal node) + length (decimal used)
unfolding frame_of
frame_length tick node used = simp length-append (omega arith)

pub passed_length : (node count : ℕ) → length (passed_of node count) ≡ 18 + length (decimal node) + length (decimal count)
unfolding passed_of
passed_length node count = simp length-append (omega arith)

pub totals_length : (delay : ℕ) (counts : List ℕ) → length (totals_of delay counts) ≡ 9 + length (decimal delay) + length (passed_text 0 counts)
unfolding totals_of
totals_length delay counts = simp length-append (omega arith)

pub listing_length : (processes edges conditions delay : ℕ) (counts table frames : List ℕ) →
    length (listing_of processes edges conditions delay counts table frames)
    ≡ 9 + length (decimal delay) + length (passed_text 0 counts) + (length (entries_text processes edges conditions table) + length (frames_text frames))
unfolding listing_of
listing_length processes edges conditions delay counts table frames =
    let es = entries_text processes edges conditions table in
    let fs = frames_text frames in
    omega (arith, length-append (totals_of delay counts) (es ++ fs), length-append es fs, totals_length delay counts)

-- a room of the bytes lent and one more, from which a text's parts are taken: it is used up where the text needs more
-- bytes than are lent
pub used_up : (lent first a b c : ℕ) → first ≤ lent → ltb (lent - first + 1 - a - b - c) 1 ≡ ltb lent (first + a + (b + c))
used_up lent first a b c h = at (two (ltb lent (first + a + (b + c))))
  where
    at : (ltb lent (first + a + (b + c)) ≡ true) ⊎ (ltb lent (first + a + (b + c)) ≡ false) → ltb (lent - first + 1 - a - b - c) 1 ≡ ltb lent (first + a + (b + c))
    at (inl e) = let l = ltb-true lent (first + a + (b + c)) e in lt-ltb (lent - first + 1 - a - b - c) 1 (omega arith) ∙ sym e
    at (inr e) = let l = ltb-false lent (first + a + (b + c)) e in le-ltb (lent - first + 1 - a - b - c) 1 (omega arith) ∙ sym e
