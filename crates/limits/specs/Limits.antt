-- The limits of documents 01 and 02 by name, and what follows from them, for contracts, each with its sentence of a
-- document, or its reason; src/lib.rt has the same names for code, where code needs them.
-- Assumes nothing.
use Rattle.std.specs.Prelude.{ℕ, ◌+◌, ◌*◌}

-- "There are not 1 to 8 slots": the most slots that a plan has.
abbrev pub SLOTS : ℕ
SLOTS = 8

-- Each slot is another node's (refusal 4): the most nodes.
abbrev pub NODES : ℕ
NODES = SLOTS

-- A number that no node has.
abbrev pub NONODE : ℕ
NONODE = 8

-- "1 to 64 processes".
abbrev pub PROCESSES : ℕ
PROCESSES = 64

-- "at most 6 conditions".
abbrev pub CONDITIONS : ℕ
CONDITIONS = 6

-- "at most 128 edges".
abbrev pub EDGES : ℕ
EDGES = 128

-- "A combination gives every condition true or false": 2 to the 6 of them.
abbrev pub COMBINATIONS : ℕ
COMBINATIONS = 64

-- "Rows: processes, then edges, then conditions": the row of condition 0 is at most this.
abbrev pub CONDITIONROW : ℕ
CONDITIONROW = PROCESSES + EDGES

-- The most rows.
abbrev pub ROWS : ℕ
ROWS = CONDITIONROW + CONDITIONS

-- Where the entries of each row end in an array, and where those of row 0 begin.
abbrev pub ROWENDS : ℕ
ROWENDS = ROWS + 1

-- Where each group of an array begins, of at most 64 groups, and where the last one ends.
abbrev pub STARTS : ℕ
STARTS = PROCESSES + 1

-- The most entries of a start table: one for each combination and row.
abbrev pub ENTRIES : ℕ
ENTRIES = COMBINATIONS * ROWS

-- "five to an entry": their words.
abbrev pub TABLEWORDS : ℕ
TABLEWORDS = 5 * ENTRIES

-- The most frames of a frame list: one for each combination and item.
abbrev pub FRAMES : ℕ
FRAMES = COMBINATIONS * (EDGES + CONDITIONS)

-- "The frame list has three words for each slot occurrence": their words.
abbrev pub FRAMEWORDS : ℕ
FRAMEWORDS = 3 * FRAMES

-- "`byte` is outside 1 to 1,000": the most ticks that a byte lasts.
abbrev pub BYTE : ℕ
BYTE = 1000

-- "slot or edge bytes outside 1 to 64": the most bytes of a slot or of a message.
abbrev pub BYTES : ℕ
BYTES = 64

-- "ticks outside 1 to 100,000": the most ticks of a process.
abbrev pub TICKS : ℕ
TICKS = 100000

-- "`(head 0)`, 0 to 16 bytes" (document 02, point 1): the most bytes that a frame has beside its data.
abbrev pub HEAD : ℕ
HEAD = 16

-- "a slot lasts (bytes + head) × byte ticks": the longest slot, 80,000 ticks.
abbrev pub SLOTTICKS : ℕ
SLOTTICKS = (BYTES + HEAD) * BYTE

-- "a round is the sum of its slots": the longest round, 640,000 ticks.
abbrev pub ROUNDTICKS : ℕ
ROUNDTICKS = SLOTS * SLOTTICKS

-- "all ticks added up plus 2 × round × (edges + conditions)": no delay exceeds it, 177,920,000 ticks.
abbrev pub DELAY : ℕ
DELAY = PROCESSES * TICKS + 2 * ROUNDTICKS * (EDGES + CONDITIONS)

-- "tick above 999,999,999": the last tick that a table can hold.
abbrev pub LASTTICK : ℕ
LASTTICK = 999999999

-- "place above 63": the last byte of a frame that an item can begin at.
abbrev pub LASTPLACE : ℕ
LASTPLACE = 63

-- A clock is a tick plus 1: the last one at which planning looks for an event. No delay reaches it.
abbrev pub LASTCLOCK : ℕ
LASTCLOCK = LASTTICK + 1

-- A clock that stands for none: no event is left, no process ends, a value never arrives.
abbrev pub NEVER : ℕ
NEVER = 2000000000

-- Pass-over counts noted by condition and node, as the condition's value becomes known.
abbrev pub NOTED : ℕ
NOTED = CONDITIONS * NODES

-- What is noted of a combination: these, and its last counts by node.
abbrev pub COMBINATIONNOTES : ℕ
COMBINATIONNOTES = NOTED + NODES

-- The same of all combinations.
abbrev pub NOTES : ℕ
NOTES = COMBINATIONS * COMBINATIONNOTES

-- The most words of a plan's totals: of the table, of the frame list, the worst delay, and the count of each node.
abbrev pub TOTALS : ℕ
TOTALS = 3 + NODES

-- "The text exceeds 16,384 bytes": the most bytes of a plan text.
abbrev pub TEXT : ℕ
TEXT = 16384

-- "lending 3,000 entries": the most entries of a printed table.
abbrev pub PRINTEDENTRIES : ℕ
PRINTEDENTRIES = 3000

-- "and 2,000 frames": the most frames of a printed frame list.
abbrev pub PRINTEDFRAMES : ℕ
PRINTEDFRAMES = 2000

-- The words that the planning program lends for the table.
abbrev pub PRINTEDWORDS : ℕ
PRINTEDWORDS = 5 * PRINTEDENTRIES

-- The words that it lends for the frame list.
abbrev pub PRINTEDFRAMEWORDS : ℕ
PRINTEDFRAMEWORDS = 3 * PRINTEDFRAMES

-- The words that hold the frame list of as many entries: an entry is in one frame at most
abbrev pub ENTRYFRAMEWORDS : ℕ
ENTRYFRAMEWORDS = 3 * PRINTEDENTRIES

-- The bytes that it lends for a listing: no listing of as many entries has more. A delay has at most nine digits, a
-- count of a node five; an entry's line has at most 104 bytes, a frame's 38, and there are no more frames than entries
abbrev pub LISTING : ℕ
LISTING = 18 + 24 * NODES + (104 + 38) * PRINTEDENTRIES

-- "over 3,000 entries or 2,000 frames" (document 02, point 2): the most bytes of a listing that is of its form: a delay
-- line, a passed line for each node (point 3), and the longest lines of an entry and of a frame, with nine digits
-- wherever they may stand
abbrev pub LISTED : ℕ
LISTED = 18 + 28 * NODES + 111 * PRINTEDENTRIES + 53 * PRINTEDFRAMES

-- "A program reads a plan up to the first empty line, then a listing": the bytes that it lends for both, the line feed
-- of the empty line, and one byte more, so that a longer input is refused as its beginning is.
abbrev pub INPUT : ℕ
INPUT = TEXT + 1 + LISTED + 1

-- The bytes that it lends for its answer: the line of a refusal of ten digits is the longest that a function can write.
abbrev pub VERDICT : ℕ
VERDICT = 21

-- "A list of at most 8 windows" (document 02, point 5).
abbrev pub WINDOWS : ℕ
WINDOWS = 8

-- A window in memory: plan, first month and day, last month and day, first and last minute.
abbrev pub WINDOWNUMBERS : ℕ
WINDOWNUMBERS = 7

-- The numbers of as many windows.
abbrev pub WINDOWSNUMBERS : ℕ
WINDOWSNUMBERS = WINDOWS * WINDOWNUMBERS

-- "a span of minutes of the day, [..] 0 to 1,440": how many a day has.
abbrev pub DAYMINUTES : ℕ
DAYMINUTES = 1440

-- The most bytes of a text of a query and as many windows, with nine digits wherever they may stand.
abbrev pub SEASON : ℕ
SEASON = 59 + 18 + 141 * WINDOWS

-- The bytes that the program that tells which plan applies lends for it, and one byte more, so that a longer text is
-- refused as its beginning is.
abbrev pub SEASONINPUT : ℕ
SEASONINPUT = SEASON + 1

-- The bytes that the program that tells when a change takes effect lends: the line of a tick, and an input as above.
abbrev pub CHANGEINPUT : ℕ
CHANGEINPUT = 17 + INPUT

-- The bytes that it lends for its answer: a tick and a cycle of ten digits.
abbrev pub CHANGE : ℕ
CHANGE = 44

-- No accepted table has an entry past tick 999,999,999, so that its cycle is below this: a tick, the longest slot and two
-- rounds at most.
abbrev pub CYCLE : ℕ
CYCLE = LASTTICK + 2 * ROUNDTICKS + 1

-- "21 [..] 22" (document 02, point 2): the last refusal. Document 01 has 1 to 20.
abbrev pub LASTREFUSAL : ℕ
LASTREFUSAL = 22
