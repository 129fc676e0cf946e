-- Theorems about the definitions of documents 01 and 02, for every plan in which refusals 2 to 9 find nothing. A
-- reader's guide, bottom up:
--
-- What is used everywhere
--   Good            the facts that refusals 2 to 9 leave of a plan, as a record
--   Active          who runs: a process is active just where all, or for `any` at least one, of its edges carry
--   Slots           how long slots and rounds can be; `first_beginning` is the first beginning of a node's slot at or
-- after a tick; at most one slot begins at a tick
--   Formed          what refusal 13 leaves of an entry, as a record
--   Occurrences     frames of slots that begin at their ticks, joined tick by tick
--   Rows            what is due of a row, who sends it, how long it lasts; what a log says of a row
--   Rules           the rules that a log keeps (`Kept`), and a table whose met entries keep them in every combination
-- (`Lawful`)
--
-- Planning is safe
--   Steps           what one tick of planning places
--   Choice          what it chooses: `urgency_law`, `starts_highest` for a free unit, `queue_ordered` for the messages
-- of a slot
--   NonAnticipation combinations that agree on what is known at a tick have the same plan up to and including it
--   UnchangedTicks      a tick at which nothing ends or arrives and no slot with a pending item begins changes nothing
--   OnlyDue, Once   only due rows are placed, each at most once
--   Events          which slot begins at a tick, what it goes by, and how many slots pass a ready item over
--   History         what stands in the log was placed at its tick, and what was over or known then stays so
--   Safety          `planning_keeps`: the log before every tick keeps the rules
--   Heads           of any plan: those that differ in the head alone are refused alike, and slots take the same items
--
-- Planning comes to an end
--   Potential, Frozen, Progress   what is left to do falls, and where nothing is left everything due is placed:
-- `everything_over`
--   Bound           `delay_within` document 01's bound, `planning_ends` there, and how large the bound can be
--   Sharing         the plans of two combinations that differ in one condition are the same until its value arrives,
-- and what was placed by then can be read
--                   off the finished plan
--
-- Sound tables
--   Columns         columns, bits and what is heard
--   Combinations    all combinations, and tests over them
--   Lawful          of a lawful table each due row is met exactly once, and no other; every entry is met in some
-- combination
--   Checks, Sound   `sound_iff`: refusals 12 to 20 find nothing just where the table is lawful
--   Counting        `too_many`: a table with more entries than combinations times rows has a row that is met twice
--
-- Runs
--   Calls           the calls of a unit at a tick give exactly the entries that fit
--   RunTick, RunHeard, RunLog   `run_matches`: a run of a sound table is, row by row, the entries that the combination
-- meets
--   Demand          `sound_runs_right`: every run of a sound table is right, in one theorem
--
-- The planner's own table
--   Entries         its entries are in order, and equal row, known and values make equal entries (`equal_places`)
--   OwnTable        `own_table_sound` with the delay given, and `planned_runs`: demand 3 for it
--   Words           entries and frames as words and back, and the listing of a result's words
--   Frames          every frame is used by an item of its node (`frame_used`), and every item has its frame
-- (`item_framed`)
--   Passed          what the slots of a node pass over in all combinations; the counts of the nodes add up to all of it
-- (`pass_overs_added`)
--
-- Printed tables
--   Listable        an entry that 13 lets pass can be listed
--   Framed          of a lawful table the frames that its entries give are exactly these: ascending ticks, each used by
-- an item, and every item framed
--   Accepted        a listing in which no sentence applies has a sound table, its frames and the plan's count
pub mod Good
pub mod Active
pub mod Slots
pub mod Formed
pub mod Occurrences
pub mod Rows
pub mod Rules
pub mod Steps
pub mod Choice
pub mod NonAnticipation
pub mod UnchangedTicks
pub mod OnlyDue
pub mod Once
pub mod Events
pub mod History
pub mod Safety
pub mod Heads
pub mod Potential
pub mod Frozen
pub mod Progress
pub mod Bound
pub mod Sharing
pub mod Columns
pub mod Combinations
pub mod Lawful
pub mod Checks
pub mod Sound
pub mod Counting
pub mod Calls
pub mod RunTick
pub mod RunHeard
pub mod RunLog
pub mod Demand
pub mod Entries
pub mod Words
pub mod OwnTable
pub mod Frames
pub mod Passed
pub mod Listable
pub mod Framed
pub mod Accepted
