-- Runs of a table's entries with one row, one tick and one place, whose lines differ in the column's conditions alone.
-- Assumes nothing.
use Rattle.std.specs.Prelude.{ℕ, suc, ◌+◌, ◌*◌, ◌≤◌, ◌≡◌, Bool, ◌&&◌, List, [], ◌∷◌, ◌++◌, eqb, leb, length, drop, get_or, if◌then◌else◌}
use Rattle.model.specs.Table.{Entry, entries_of}
use Rattle.listing_bytes.specs.Going.{Going}
use Rattle.listing_count.specs.Parts.{values_from, entry_of, entries_text}
use Rattle.listing_entries.specs.Lines.{begin_of}

-- an entry is of a row
unfoldable pub of_row : ℕ → Entry → Bool
of_row row e = eqb e.row row

-- an entry is of a row, a tick and a place
unfoldable pub of_run : ℕ → ℕ → ℕ → Entry → Bool
of_run row tick place e = eqb e.row row && (eqb e.tick tick && eqb e.place place)

-- an entry has the row, the tick and the place of the one from word `first` of a table on
abbrev pub run_of : List ℕ → ℕ → Entry → Bool
run_of table first = of_run (get_or table first 0) (get_or table (first + 3) 0) (get_or table (first + 4) 0)

-- the entry from word i of a table on
abbrev pub entry_from : List ℕ → ℕ → Entry
entry_from table i =
    record { row = get_or table i 0; known = get_or table (i + 1) 0; values = get_or table (i + 2) 0; tick = get_or table (i + 3) 0; place = get_or table (i + 4) 0 }

-- an entry stands in a table from word i on, and it passes a test
unfoldable pub stands : (Entry → Bool) → List ℕ → ℕ → Bool
stands f table i = leb (i + 5) (length table) && f (entry_from table i)

-- how many entries pass a test before the first that does not
unfoldable pub leading : (Entry → Bool) → List Entry → ℕ
leading f [] = 0
leading f (e ∷ es) = if f e then suc (leading f es) else 0

-- how many entries the run has that begins at word `first` of a table
abbrev pub run_entries : List ℕ → ℕ → ℕ
run_entries table first = leading (run_of table first) (entries_of (drop first table))

-- how many entries of its row follow each other from word `first` of a table on
abbrev pub row_entries : List ℕ → ℕ → ℕ
row_entries table first = leading (of_row (get_or table first 0)) (entries_of (drop first table))

-- the same, but one where the plan lacks the row
unfoldable pub same_entries : ℕ → ℕ → ℕ → List ℕ → ℕ → ℕ
same_entries processes edges conditions table first =
    if eqb (length (begin_of processes edges conditions (get_or table first 0))) 0 then 1 else row_entries table first

-- how the lines of a row that the plan has begin
pub record Begun (processes edges conditions row : ℕ) (begin : List ℕ) : Type 0 where
  pub whole : begin ≡ begin_of processes edges conditions row
  pub some : length begin ≡ 0 → ⊥

-- what each line of a row, a tick and a place begins and ends with
pub record Lined (processes edges conditions row tick place : ℕ) (begin last : List ℕ) : Type 0 where
  pub line : (known values : ℕ) → entry_of processes edges conditions row known values tick place ≡ begin ++ (values_from conditions known values 0 ++ last)
  pub begin_long : 8 ≤ length begin
  pub last_long : 8 ≤ length last

-- the lines of n entries are stored, from word `first` to word `next`
pub record Ran (processes edges conditions : ℕ) (table l m : List ℕ) (at first end next n : ℕ) : Type 0 where
  pub words : next ≡ first + 5 * n
  pub going : Going l m at end (entries_text processes edges conditions (drop first table)) (entries_text processes edges conditions (drop next table))
