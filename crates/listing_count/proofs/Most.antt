-- How many bytes the lines of a listing have at most, by the digits of their numbers: of an entry, where the plan has
-- at most six conditions, and of the whole.
-- Assumes nothing.
use mathlib.Core.Path.{◌≡◌, refl, ap}
use mathlib.Core.Bool.{true, false}
use mathlib.Core.Logic.{◌⊎◌, inl, inr}
use mathlib.Core.List.{List, [], ◌∷◌}
use Prim.Native.Nat.{ℕ, zero, suc, ◌+◌, ◌-◌, ◌*◌, ◌/◌, ◌%◌, ◌^◌, ◌≤◌, ◌<◌}
use native.Mathlib.Nat.{mul-suc}
use native.Mathlib.Omega.{arith}
use borrow.Author.Tests.{ltb-true, ltb-false, eqb-true, eqb-false}
use lib.Dec.{eqb, ltb}
use lib.ListN.{length, length-append, get_or}
use Rattle.lists.proofs.Tests.{two}
use Rattle.model.specs.Text.{text}
use Rattle.text_grammar.proofs.Numbers.{decimal_length}
use Rattle.listing_count.specs.Parts.{value_at, values_from, item_of, entry_of, entries_text, frame_of, frames_text, passed_of, passed_text, listing_of, most_bytes}
use Rattle.listing_count.proofs.DigitCounts.{one_digit}
use Rattle.listing_count.proofs.Cases.{value_none, value_false, value_true, entry_start, entry_send, entry_tell, entry_none}
use Rattle.listing_count.proofs.Lengths.{passed_length, false_length, true_length, start_length, item_length, frame_length, listing_length}

-- a condition of a column, and n of them
value_most : (known values k : ℕ) → k < 10 → length (value_at known values k) ≤ 10
value_most known values k l = at (two (eqb (known % 2) 0)) (two (eqb (values % 2) 0))
  where
    at : (eqb (known % 2) 0 ≡ true) ⊎ (eqb (known % 2) 0 ≡ false) → (eqb (values % 2) 0 ≡ true) ⊎ (eqb (values % 2) 0 ≡ false) → length (value_at known values k) ≤ 10
    at (inl e) d = omega (arith, ap length (value_none known values k (eqb-true _ _ e)))
    at (inr e) (inl d) = omega (arith, ap length (value_false known values k (eqb-false _ _ e) (eqb-true _ _ d)), false_length k, one_digit k l)
    at (inr e) (inr d) = omega (arith, ap length (value_true known values k (eqb-false _ _ e) (eqb-false _ _ d)), true_length k, one_digit k l)

values_most : (n known values k : ℕ) → k + n ≤ 10 → length (values_from n known values k) ≤ 10 * n
unfolding values_from
values_most zero known values k l = omega arith
values_most (suc n) known values k l =
    omega (
      arith,
      length-append (value_at known values k) (values_from n (known / 2) (values / 2) (suc k)),
      value_most known values k (omega arith),
      values_most n (known / 2) (values / 2) (suc k) (omega arith),
    )

-- the line of an entry whose row, tick and place have at most so many digits, and one more
module _ (processes edges conditions row known values tick place r t q : ℕ) (few : conditions ≤ 6) (row_most : row < processes + edges + conditions → row < 10 ^ suc r)
    (tick_most : tick < 10 ^ suc t) (place_most : processes ≤ row → place < 10 ^ suc q) where
  abbrev line : List ℕ
  line = entry_of processes edges conditions row known values tick place

  abbrev most : ℕ
  most = 90 + (suc r + suc t + suc q)

  column : length (values_from conditions known values 0) ≤ 60
  column = omega (arith, values_most conditions known values 0 (omega arith))

  item_most : (label : List ℕ) → length label ≡ 6 → (number : ℕ) → number < 10 ^ suc r → processes ≤ row → length (item_of label conditions number known values tick place) ≤ most
  item_most label six number n h =
      omega (arith, item_length label six conditions number known values tick place, column, decimal_length t tick tick_most, decimal_length r number n, decimal_length q place (place_most h))

  pub line_most : length line ≤ most
  line_most = at (two (ltb row processes)) (two (ltb (row - processes) edges)) (two (ltb (row - processes - edges) conditions))
    where
      at : (ltb row processes ≡ true) ⊎ (ltb row processes ≡ false) → (ltb (row - processes) edges ≡ true) ⊎ (ltb (row - processes) edges ≡ false) →
          (ltb (row - processes - edges) conditions ≡ true) ⊎ (ltb (row - processes - edges) conditions ≡ false) → length line ≤ most
      at (inl a) b c =
          let h : row < processes = ltb-true row processes a in
          omega (
            arith,
            ap length (entry_start processes edges conditions row known values tick place h),
            start_length conditions row known values tick,
            column,
            decimal_length t tick tick_most,
            decimal_length r row (row_most (omega arith)),
          )
      at (inr a) (inl b) c =
          let h : processes ≤ row = ltb-false row processes a in
          let l : row - processes < edges = ltb-true (row - processes) edges b in
          let s = row_most (omega arith) in
          omega (arith, ap length (entry_send processes edges conditions row known values tick place h l), item_most (text "(send ") refl (row - processes) (omega arith) h)
      at (inr a) (inr b) (inl c) =
          let h : processes ≤ row = ltb-false row processes a in
          let l : edges ≤ row - processes = ltb-false (row - processes) edges b in
          let o : row - processes - edges < conditions = ltb-true (row - processes - edges) conditions c in
          let s = row_most (omega arith) in
          omega (
            arith,
            ap length (entry_tell processes edges conditions row known values tick place h l o),
            item_most (text "(tell ") refl (row - processes - edges) (omega arith) h,
          )
      at (inr a) (inr b) (inr c) =
          omega (arith, ap length (entry_none processes edges conditions row known values tick place (ltb-false _ _ a) (ltb-false _ _ b) (ltb-false _ _ c)))

-- words of at most ten digits
abbrev pub TenDigits : List ℕ → Type 0
TenDigits words = (i : ℕ) → get_or words i 0 < 10000000000

-- the lines of a table's words
pub entries_most : (processes edges conditions : ℕ) → conditions ≤ 6 → (words : List ℕ) → TenDigits words →
    length (entries_text processes edges conditions words) ≤ 120 * (length words / 5)
entries_most processes edges conditions l [] h = omega arith
entries_most processes edges conditions l (a ∷ []) h = omega arith
entries_most processes edges conditions l (a ∷ b ∷ []) h = omega arith
entries_most processes edges conditions l (a ∷ b ∷ c ∷ []) h = omega arith
entries_most processes edges conditions l (a ∷ b ∷ c ∷ d ∷ []) h = omega arith
entries_most processes edges conditions l (a ∷ b ∷ c ∷ d ∷ e ∷ words) h =
    omega (
      arith,
      length-append (entry_of processes edges conditions a b c d e) (entries_text processes edges conditions words),
      line_most processes edges conditions a b c d e 9 9 9 l (λ s. h 0) (h 3) (λ s. h 4),
      entries_most processes edges conditions l words (λ i. h (suc (suc (suc (suc (suc i)))))),
    )

-- the lines of a frame list's words
pub frames_most : (words : List ℕ) → TenDigits words → length (frames_text words) ≤ 56 * (length words / 3)
frames_most [] h = omega arith
frames_most (a ∷ []) h = omega arith
frames_most (a ∷ b ∷ []) h = omega arith
frames_most (a ∷ b ∷ c ∷ words) h =
    omega (
      arith,
      length-append (frame_of a b c) (frames_text words),
      frame_length a b c,
      decimal_length 9 a (h 0),
      decimal_length 9 b (h 1),
      decimal_length 9 c (h 2),
      frames_most words (λ i. h (suc (suc (suc i)))),
    )

-- the passed lines of at most ten nodes, with counts of at most d + 1 digits
pub passed_most : (d n : ℕ) (counts : List ℕ) → n + length counts ≤ 10 → ((i : ℕ) → get_or counts i 0 < 10 ^ suc d) → length (passed_text n counts) ≤ (20 + d) * length counts
unfolding passed_text
passed_most d n [] l h = omega arith
passed_most d n (count ∷ counts) l h =
    let r : length (passed_text (suc n) counts) ≤ (20 + d) * length counts = passed_most d (suc n) counts (omega arith) (λ i. h (suc i)) in
    let m : (20 + d) * suc (length counts) ≡ (20 + d) * length counts + (20 + d) = mul-suc (20 + d) (length counts) in
    omega (arith, length-append (passed_of n count) (passed_text (suc n) counts), passed_length n count, one_digit n (omega arith), decimal_length d count (h 0), r, m)

-- the whole listing
pub listing_most : (processes edges conditions delay : ℕ) (counts table frames : List ℕ) → conditions ≤ 6 → delay < 10000000000 → length counts ≤ 8 → TenDigits counts → TenDigits table →
    TenDigits frames → length (listing_of processes edges conditions delay counts table frames) ≤ most_bytes (length table) (length frames)
unfolding most_bytes
listing_most processes edges conditions delay counts table frames l d few m h k =
    omega (
      arith,
      listing_length processes edges conditions delay counts table frames,
      decimal_length 9 delay d,
      passed_most 9 0 counts (omega arith) m,
      entries_most processes edges conditions l table h,
      frames_most frames k,
    )
