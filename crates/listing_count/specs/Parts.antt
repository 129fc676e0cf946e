-- The lines of a listing as the labels and numbers that are counted and stored one after another, from the counts of a
-- plan and the words of a table and a frame list. proofs/Lines.antt shows that they are the lines of document 01.
-- Assumes nothing.
use Rattle.std.specs.Prelude.{ℕ, zero, suc, ◌+◌, ◌-◌, ◌*◌, ◌/◌, ◌%◌, List, [], ◌∷◌, ◌++◌, eqb, ltb, if◌then◌else◌}
use Rattle.lists.specs.Lists.{each}
use Rattle.model.specs.Text.{text, decimal}
use Rattle.text_lines.specs.Label.{labelled}
use Rattle.model.specs.Table.{Entry, Frame, entries_of, frames_of}

-- condition k of a column, by the lowest bits of two words
unfoldable pub value_at : ℕ → ℕ → ℕ → List ℕ
value_at known values k =
    if eqb (known % 2) 0 then [] else if eqb (values % 2) 0 then labelled " (false " k ++ text ")" else labelled " (true " k ++ text ")"

-- n conditions of a column from k on, by the n lowest bits of two words
unfoldable pub values_from : ℕ → ℕ → ℕ → ℕ → List ℕ
values_from zero known values k = []
values_from (suc n) known values k = value_at known values k ++ values_from n (known / 2) (values / 2) (suc k)

-- a column and its tick, up to the tick's last digit
unfoldable pub column_of : ℕ → ℕ → ℕ → ℕ → List ℕ
column_of conditions known values tick = text " (when" ++ (values_from conditions known values 0 ++ labelled ") (at " tick)

-- the line of a process
unfoldable pub start_of : ℕ → ℕ → ℕ → ℕ → ℕ → List ℕ
start_of conditions row known values tick = labelled "(start " row ++ (column_of conditions known values tick ++ text "))\n")

-- the line of an edge or a condition, by its first word
unfoldable pub item_of : List ℕ → ℕ → ℕ → ℕ → ℕ → ℕ → ℕ → List ℕ
item_of label conditions number known values tick place =
    (label ++ decimal number) ++ (column_of conditions known values tick ++ (labelled ") (place " place ++ text "))\n"))

-- the line of an entry: none where the plan lacks its row
unfoldable pub entry_of : ℕ → ℕ → ℕ → ℕ → ℕ → ℕ → ℕ → ℕ → List ℕ
entry_of processes edges conditions row known values tick place =
    if ltb row processes
    then start_of conditions row known values tick
    else if ltb (row - processes) edges
    then item_of (text "(send ") conditions (row - processes) known values tick place
    else if ltb (row - processes - edges) conditions
    then item_of (text "(tell ") conditions (row - processes - edges) known values tick place
    else []

-- the lines of a table
abbrev pub entry_text : ℕ → ℕ → ℕ → Entry → List ℕ
entry_text processes edges conditions e = entry_of processes edges conditions e.row e.known e.values e.tick e.place

abbrev pub entries_text : ℕ → ℕ → ℕ → List ℕ → List ℕ
entries_text processes edges conditions table = each (entry_text processes edges conditions) (entries_of table)

-- the line of a frame, and the lines of a frame list
unfoldable pub frame_of : ℕ → ℕ → ℕ → List ℕ
frame_of tick node used = labelled "(frame " tick ++ (labelled " (node " node ++ (labelled ") (bytes " used ++ text "))\n"))

abbrev pub frame_text : Frame → List ℕ
frame_text f = frame_of f.tick f.node f.used

abbrev pub frames_text : List ℕ → List ℕ
frames_text frames = each frame_text (frames_of frames)

-- the passed line of a node, the lines of some counts from node n on, and the line of the delay in front of them
unfoldable pub passed_of : ℕ → ℕ → List ℕ
passed_of node count = labelled "(passed (node " node ++ (labelled ") " count ++ text ")\n")

unfoldable pub passed_text : ℕ → List ℕ → List ℕ
passed_text n [] = []
passed_text n (count ∷ counts) = passed_of n count ++ passed_text (suc n) counts

unfoldable pub totals_of : ℕ → List ℕ → List ℕ
totals_of delay counts = labelled "(delay " delay ++ (text ")\n" ++ passed_text 0 counts)

-- the whole listing
unfoldable pub listing_of : ℕ → ℕ → ℕ → ℕ → List ℕ → List ℕ → List ℕ → List ℕ
listing_of processes edges conditions delay counts table frames =
    totals_of delay counts ++ (entries_text processes edges conditions table ++ frames_text frames)

-- the most bytes of a listing of so many words, for a plan of at most six conditions: of the lines of the delay and of
-- eight nodes, of each entry's line and of each frame's line
unfoldable pub most_bytes : ℕ → ℕ → ℕ
most_bytes words framewords = 251 + 120 * (words / 5) + 56 * (framewords / 3)
