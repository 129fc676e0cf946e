-- The met entries of one combination, in arrays by row: which entries are met, and what each of them stores.
-- Assumes nothing.
use Rattle.std.specs.Prelude.{◌≡◌, ℕ, ◌+◌, ◌^◌, ◌<◌, ◌≤◌, Bool, eqb, length, get_or, set, replicate, if◌then◌else◌}
use mathlib.Core.List.{List, [], ◌∷◌, Memᴰ as In}
use Rattle.std.specs.Int.Bits.{bit_and}
use Rattle.limits.specs.Limits.{ROWS}
use Rattle.model.specs.Table.{Entry, entries_of}
use Rattle.log_rows.specs.Rows.{Rows, with_comes, with_place}
use Rattle.checker_rows.specs.declared.met.MetRows.{MetRows}

-- the entry whose words begin at a place
abbrev pub entry_from : List ℕ → ℕ → Entry
entry_from words at =
    record {
      row = get_or words at 0;
      known = get_or words (at + 1) 0;
      values = get_or words (at + 2) 0;
      tick = get_or words (at + 3) 0;
      place = get_or words (at + 4) 0;
    }

-- an entry is met in the combination with number c: its values are the combination's at its known bits
abbrev pub met_in : ℕ → Entry → Bool
met_in c e = eqb e.values (bit_and c e.known)

-- how many entries of a row are met, with one more: 0, 1, or 2 for more
abbrev pub one_more : ℕ → ℕ
one_more n = if eqb n 0 then 1 else 2

-- What a met entry leaves in each array at its row, given what stood there: one more of them, the clock at which the
-- row is over, its place and its known bits.
abbrev pub counted : Entry → ℕ → ℕ
counted e x = one_more x

abbrev pub ends : List ℕ → Entry → ℕ → ℕ
ends lasting e x = e.tick + get_or lasting e.row 0 + 1

abbrev pub placed : Entry → ℕ → ℕ
placed e x = e.place

abbrev pub column : Entry → ℕ → ℕ
column e x = e.known

module _ (f : Entry → ℕ → ℕ) (c : ℕ) where
  -- an array by row after one entry, and after some entries in turn
  abbrev pub after : Entry → List ℕ → List ℕ
  after e xs = if met_in c e then set xs e.row (f e (get_or xs e.row 0)) else xs

  unfoldable pub after_all : List Entry → List ℕ → List ℕ
  after_all [] xs = xs
  after_all (e ∷ es) xs = after_all es (after e xs)

  -- an array by row after all entries of a table, with 0 where none is met
  unfoldable pub by_row : List ℕ → List ℕ
  by_row words = after_all (entries_of words) (replicate ROWS 0)

-- how often each row is met, and the known bits of the met columns
unfoldable pub met_rows : List ℕ → ℕ → MetRows
met_rows words c = record { count = by_row counted c words; known = by_row column c words }

-- when the met rows are over, and their places
abbrev pub met_comes : List ℕ → ℕ → List ℕ → List ℕ
met_comes words c lasting = by_row (ends lasting) c words

abbrev pub met_place : List ℕ → ℕ → List ℕ
met_place words c = by_row placed c words

-- the rows of a combination after one entry; with all that is met; before any
abbrev pub after_entry : List ℕ → ℕ → Entry → Rows → Rows
after_entry lasting c e s = with_place (after placed c e s.place) (with_comes (after (ends lasting) c e s.comes) s)

abbrev pub with_met : List ℕ → ℕ → List ℕ → Rows → Rows
with_met words c lasting s = with_place (met_place words c) (with_comes (met_comes words c lasting) s)

abbrev pub NoneMet : Rows → Type 0
NoneMet s = (s.comes ≡ replicate ROWS 0) × (s.place ≡ replicate ROWS 0)

-- every entry has a row of the arrays and a tick of at most nine digits
abbrev pub Rowed : List ℕ → Type 0
Rowed words = (e : Entry) → In e (entries_of words) → (e.row < ROWS) × (e.tick ≤ 999999999)

-- numbers of 32 bits
abbrev pub Small : List ℕ → Type 0
Small words = (i : ℕ) → i < length words → get_or words i 0 < 2 ^ 32
