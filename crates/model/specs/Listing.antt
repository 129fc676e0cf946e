-- Document 01, "Table and frame list": what the planning program prints, with the passed lines of document 02, point 3.
-- Assumes nothing.
use Rattle.std.specs.Prelude.{ℕ, suc, ◌/◌, ◌%◌, ◌^◌, Bool, ◌||◌, List, [], ◌∷◌, ◌++◌, eqb, ltb, length, take, if◌then◌else◌}
use Rattle.lists.specs.Lists.{each}
use Rattle.model.specs.Plan.{Lines, conditions}
use Rattle.model.specs.Bus.{rows, is_process, is_edge, row_edge, row_condition}
use Rattle.model.specs.Refusals.{Refusal, nothing, sentence, or_else, plan_refusal}
use Rattle.model.specs.Table.{Entry, Frame, Answer, turned_down, made, result, entry_words, frame_words, entries_of, frames_of, plan_answer}
use Rattle.model.specs.Text.{text, decimal, field, Reading, reads, not_read, Written, not_written, unless_refused}

-- "conditions in a `when` are the plan's too and ascend strictly"
unfoldable pub bit : ℕ → ℕ → Bool
bit n k = eqb (n / 2 ^ k % 2) 1

unfoldable pub value_text : Entry → ℕ → List ℕ
value_text e k = if bit e.known k then text " " ++ (if bit e.values k then field "true" k else field "false" k) else []

unfoldable pub column_text : Lines → Entry → List ℕ
column_text p e = text " (when" ++ each (value_text e) (conditions p) ++ text ") " ++ field "at" e.tick

unfoldable pub place_text : Entry → List ℕ
place_text e = text " " ++ field "place" e.place

-- "start, send and tell carry the number of a process, edge or condition that the plan has": a row that the plan lacks
-- has no line.
unfoldable pub entry_line : Lines → Entry → List ℕ
entry_line p e =
    if is_process p e.row
    then text "(start " ++ decimal e.row ++ column_text p e ++ text ")\n"
    else if is_edge p e.row
    then text "(send " ++ decimal (row_edge p e.row) ++ column_text p e ++ place_text e ++ text ")\n"
    else if ltb e.row (rows p)
    then text "(tell " ++ decimal (row_condition p e.row) ++ column_text p e ++ place_text e ++ text ")\n"
    else []

unfoldable pub frame_line : Frame → List ℕ
frame_line f = text "(frame " ++ decimal f.tick ++ text " " ++ field "node" f.node ++ text " " ++ field "bytes" f.used ++ text ")\n"

unfoldable pub refused_line : ℕ → List ℕ
refused_line n = field "refused" n ++ text "\n"

-- Document 02, point 3: "the listing's passed line becomes one line for each node, `(passed (node 0) 0)`, in node
-- order": the lines of some counts, from node n on
unfoldable pub passed_line : ℕ → ℕ → List ℕ
passed_line n count = text "(passed " ++ field "node" n ++ text " " ++ decimal count ++ text ")\n"

unfoldable pub passed_lines : ℕ → List ℕ → List ℕ
passed_lines n [] = []
passed_lines n (count ∷ counts) = passed_line n count ++ passed_lines (suc n) counts

unfoldable pub listing : Lines → ℕ → List ℕ → List Entry → List Frame → List ℕ
listing p delay passed es fs = field "delay" delay ++ text "\n" ++ passed_lines 0 passed ++ each (entry_line p) es ++ each frame_line fs

-- the listing of a table and a frame list as words, with the worst delay and the counts of the plan's nodes, which
-- stand in front of some words
unfoldable pub words_listing : Lines → ℕ → List ℕ → List ℕ → List ℕ → List ℕ
words_listing p delay passed table fs = listing p delay (take (length p.slots) passed) (entries_of table) (frames_of fs)

-- "A refusal prints `(refused 9)`, with its number, alone."
unfoldable pub printed : Lines → Answer → List ℕ
printed p (turned_down n) = refused_line n
printed p (made r) = listing p r.delay r.passed r.entries r.frames

-- "the planning program, reading standard input and lending 3,000 entries and 2,000 frames, prints", by what its input
-- reads as
unfoldable pub program_prints : Reading → List ℕ
program_prints (not_read n) = refused_line n
program_prints (reads p) = printed p (plan_answer p 15000 6000)

-- the listing of a plan: its worst delay, the pass-over counts of its nodes, start table and frame list
unfoldable pub plan_listing : Lines → List ℕ
plan_listing p = printed p (made (result p))

-- The listing of a plan in lent bytes, with 3,000 entries and 2,000 frames lent to the planner. 10: "The planner's
-- entries need more words, or a written text more bytes, than lent"; 11: "Its frames need more words than lent."
unfoldable pub listing_refusal : Lines → ℕ → Refusal
listing_refusal p lent =
    sentence 10 (ltb 15000 (length (entry_words (result p).entries)) || ltb lent (length (plan_listing p)))
    (sentence 11 (ltb 6000 (length (frame_words (result p).frames))) nothing)

unfoldable pub list_plan : Lines → ℕ → Written
list_plan p lent = unless_refused (or_else (plan_refusal p) (listing_refusal p lent)) (plan_listing p)

-- the same by what a text reads as
unfoldable pub list_reading : Reading → ℕ → Written
list_reading (not_read n) lent = not_written n
list_reading (reads p) lent = list_plan p lent
