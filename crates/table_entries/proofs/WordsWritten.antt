-- The words of the entries are stored one after another: what is left to store gives the whole, and all words stand at
-- the front.
-- Assumes nothing.
use mathlib.Core.Path.{◌≡◌, refl, sym, ap, ◌∙◌}
use mathlib.Core.List.{List, [], ◌∷◌, ◌++◌}
use Prim.Native.Nat.{ℕ, zero, suc, ◌+◌, ◌-◌, ◌*◌, ◌≤◌, ◌<◌}
use native.Mathlib.Numerals.{add-one}
use native.Mathlib.Omega.{arith}
use lib.ListN.{length, get_or, take, length-append, length-take, drop_of_length-le}
use lib.Seq.{sets, slice, slice-cons, length-slice}
use Rattle.lists.specs.Lists.{each, upfrom}
use Rattle.lists.specs.Front.{front}
use Rattle.lists.proofs.Loops.{upfrom_start, upfrom_next, upfrom_end}
use Rattle.lists.proofs.Stores.{sets_append, sets_front}
use Rattle.table_entries.specs.Words.{five, row_part, table, Laid}

pub slice_next : (i b : ℕ) (list : List ℕ) → i < b → b ≤ length list → slice i b list ≡ get_or list i 0 ∷ slice (i + 1) b list
slice_next i b list l h = slice-cons i b list 0 l h ∙ ap (λ (k : ℕ). get_or list i 0 ∷ slice k b list) (sym (add-one i))

pub slice_none : (i b : ℕ) (list : List ℕ) → b ≤ i → slice i b list ≡ []
slice_none i b list l = drop_of_length-le (take b list) {i = i} (omega (arith, length-take b list))

-- the words of one row
abbrev row_words : ℕ → List ℕ → List ℕ
row_words row xs = each (five row) xs

words_length : (row : ℕ) (xs : List ℕ) → length (row_words row xs) ≡ 5 * length xs
words_length row [] = refl
words_length row (x ∷ xs) = let r = words_length row xs in omega arith

-- One turn of writing a row.
pub row_next : (list : List ℕ) (i b row : ℕ) (words : List ℕ) {next whole : List ℕ} → i < b → b ≤ length list →
    sets words (5 * i) (each (five row) (slice i b list)) ≡ whole → next ≡ sets words (5 * i) (five row (get_or list i 0)) →
    sets next (5 * (i + 1)) (each (five row) (slice (i + 1) b list)) ≡ whole
row_next list i b row words {next} {whole} l h e s =
    let x : ℕ = get_or list i 0 in
    let rest : List ℕ = row_words row (slice (i + 1) b list) in
    let q : 5 * (i + 1) ≡ 5 * i + 5 = omega arith in
    (λ j. sets (s j) (q j) rest)
    ∙ sym (sets_append (five row x) rest words (5 * i))
    ∙ ap (λ (xs : List ℕ). sets words (5 * i) (row_words row xs)) (sym (slice_next i b list l h))
    ∙ e

pub row_end : (list : List ℕ) (i b row : ℕ) (words : List ℕ) {whole : List ℕ} → b ≤ i → sets words (5 * i) (each (five row) (slice i b list)) ≡ whole → words ≡ whole
row_end list i b row words l e = ap (λ (xs : List ℕ). sets words (5 * i) (row_words row xs)) (sym (slice_none i b list l)) ∙ e

module _ (list ends : List ℕ) (rows : ℕ) (laid : Laid list ends rows) where
  abbrev end : ℕ → ℕ
  end r = get_or ends r 0

  abbrev words_of : ℕ → List ℕ
  words_of r = row_words r (row_part list ends r)

  -- the places rise to the last
  up : (d r : ℕ) → r + d ≡ rows → end r ≤ end rows
  up zero r e = let q : r ≡ rows = omega arith in rw q (omega arith)
  up (suc d) r e =
      let q : r + 1 + d ≡ rows = omega arith in
      let a = up d (r + 1) q in
      let b = laid.rising r (omega arith) in
      omega arith

  pub ends_up : (r : ℕ) → r ≤ rows → get_or ends r 0 ≤ get_or ends rows 0
  ends_up r l = up (rows - r) r (omega arith)

  row_part_length : (r : ℕ) → r < rows → end r + length (row_part list ends r) ≡ end (r + 1)
  row_part_length r l =
      omega (arith, length-slice (end r) (end (r + 1)) list (omega (arith, laid.long, laid.inside, ends_up (r + 1) (omega arith))), laid.rising r l)

  length_next : (r : ℕ) → r < rows → 5 * end r + length (words_of r) ≡ 5 * end (r + 1)
  length_next r l = omega (arith, row_part_length r l, words_length r (row_part list ends r))

  -- what is left of all words
  abbrev pub left : ℕ → List ℕ
  left r = each (λ q. each (five q) (row_part list ends q)) (upfrom r (rows - r))

  left_next : (r : ℕ) → r < rows → left r ≡ words_of r ++ left (r + 1)
  left_next r l = ap (each words_of) (upfrom_next rows r l)

  left_end : (r : ℕ) → rows ≤ r → left r ≡ []
  left_end r l = ap (each words_of) (upfrom_end rows r l)

  left_length : (d r : ℕ) → r + d ≡ rows → 5 * end r + length (left r) ≡ 5 * end rows
  left_length zero r e =
      let q : r ≡ rows = omega arith in
      omega (arith, ap length (left_end r (omega arith)), ap end q)
  left_length (suc d) r e =
      let q : r + 1 + d ≡ rows = omega arith in
      omega (arith, left_length d (r + 1) q, ap length (left_next r (omega arith)), length-append (words_of r) (left (r + 1)), length_next r (omega arith))

  pub table_length : length (table list ends rows) ≡ 5 * get_or ends rows 0
  unfolding table
  table_length = omega (arith, left_length rows 0 (omega arith), laid.start, ap (λ (xs : List ℕ). length (each words_of xs)) (upfrom_start rows))

  -- Before turn r what is left to store gives the whole.
  pub table_start : (words : List ℕ) → sets words (5 * get_or ends 0 0) (each (λ q. each (five q) (row_part list ends q)) (upfrom 0 (rows - 0))) ≡ sets words 0 (table list ends rows)
  unfolding table
  table_start words =
      let z : 5 * end 0 ≡ 0 = omega (arith, laid.start) in
      λ j. sets words (z j) (each words_of (sym (upfrom_start rows) j))

  pub table_next : (r : ℕ) (words : List ℕ) {next whole : List ℕ} → r < rows →
      sets words (5 * get_or ends r 0) (each (λ q. each (five q) (row_part list ends q)) (upfrom r (rows - r))) ≡ whole →
      next ≡ sets words (5 * get_or ends r 0) (each (five r) (slice (get_or ends r 0) (get_or ends (r + 1) 0) list)) →
      sets next (5 * get_or ends (r + 1) 0) (each (λ q. each (five q) (row_part list ends q)) (upfrom (r + 1) (rows - (r + 1)))) ≡ whole
  table_next r words {next} {whole} l e s =
      (λ j. sets (s j) (sym (length_next r l) j) (left (r + 1)))
      ∙ sym (sets_append (words_of r) (left (r + 1)) words (5 * end r))
      ∙ ap (sets words (5 * end r)) (sym (left_next r l))
      ∙ e

  pub table_end : (r : ℕ) (words lent : List ℕ) → rows ≤ r → 5 * get_or ends rows 0 ≤ length lent →
      sets words (5 * get_or ends r 0) (each (λ q. each (five q) (row_part list ends q)) (upfrom r (rows - r))) ≡ sets lent 0 (table list ends rows) →
      words ≡ front (table list ends rows) lent
  table_end r words lent l room e =
      ap (sets words (5 * end r)) (sym (left_end r l)) ∙ e ∙ sets_front (table list ends rows) lent (omega (arith, table_length))
