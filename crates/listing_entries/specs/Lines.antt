-- How the lines of a row of a table begin and end, and the line of an entry that begins and ends as given.
-- Assumes nothing.
use Rattle.std.specs.Prelude.{ℕ, ◌+◌, ◌-◌, List, [], ◌++◌, ltb, get_or, if◌then◌else◌}
use Rattle.model.specs.Text.{text, decimal}
use Rattle.text_lines.specs.Label.{labelled}
use Rattle.listing_count.specs.Parts.{values_from}

-- how a line begins, up to the column's conditions, by its first word
abbrev pub begin_by : List ℕ → ℕ → List ℕ
begin_by label number = (label ++ decimal number) ++ text " (when"

-- how the lines of a row begin: nothing where the plan lacks the row
unfoldable pub begin_of : ℕ → ℕ → ℕ → ℕ → List ℕ
begin_of processes edges conditions row =
    if ltb row processes
    then begin_by (text "(start ") row
    else if ltb (row - processes) edges
    then begin_by (text "(send ") (row - processes)
    else if ltb (row - processes - edges) conditions
    then begin_by (text "(tell ") (row - processes - edges)
    else []

-- how the lines of a row end, behind the column's conditions
unfoldable pub end_of : ℕ → ℕ → ℕ → ℕ → List ℕ
end_of processes row tick place =
    if ltb row processes then labelled ") (at " tick ++ text "))\n" else labelled ") (at " tick ++ (labelled ") (place " place ++ text "))\n")

-- the line of the entry from word i of a table on, which begins and ends as given
abbrev pub line_at : List ℕ → List ℕ → ℕ → List ℕ → ℕ → List ℕ
line_at begin last conditions table i = begin ++ (values_from conditions (get_or table (i + 1) 0) (get_or table (i + 2) 0) 0 ++ last)
