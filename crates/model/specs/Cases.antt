-- The worked cases of documents 01 and 02 and some of our own, gathered in tables with one theorem: what the
-- definitions compute is what is stated. Must-fail edits of a definition are refused here.
-- Assumes nothing.
use Rattle.std.specs.Prelude.{ℕ, ◌+◌, ◌*◌, ◌≡◌, refl, Bool, true, false, List, [], ◌∷◌, ◌++◌, map}
use Rattle.std.proofs.Common.{arith}
use lib.ListN.{take, drop, set, replicate}
use Rattle.model.specs.Plan.{Lines, PlanLine, Pick, by_urgency, by_number, waits_all, waits_any, Slot, Process, Edge, When, always, on, with_head}
use Rattle.model.specs.Bus.{round_beginning, first_beginning}
use Rattle.model.specs.Log.{delay, full_ticks}
use Rattle.model.specs.Planning.{planned}
use Rattle.model.specs.Refusals.{Refusal, nothing, refused}
use Rattle.model.specs.Table.{Result, entries_of, frames_of, result, plan_answer, Answer, turned_down, made, table_after, frames_after, counts_after, pass_over_count}
use Rattle.model.specs.Checking.{check}
use Rattle.model.specs.Lookup.{row_part, lookup}
use Rattle.model.specs.Text.{text, print, Written, wrote, not_written, write_plan}
use Rattle.model.specs.Listing.{printed, list_plan}
use Rattle.model.specs.ListingText.{States, Listed, listed, not_listed, listed_words, listed_frames, listed_counts, stated_refusal, plan_part, listing_part, check_prints}
use Rattle.model.specs.Firmware.{words_of, found_number}
use Rattle.model.specs.Run.{run_before}
use Rattle.model.specs.Demand.{starts_of}
use Rattle.model.specs.Seasons.{Day, windows_of, Told, tells, refuses, season_answer}
use Rattle.model.specs.SeasonText.{Season, season_text, season_prints}
use Rattle.model.specs.Cycle.{cycle_answer, change_answer, Changed, changes, no_change, tick_line, change_prints}
use Rattle.model.specs.Open.{computing}

-- What is asked of a plan, a table or the first 40 ticks of a run: the answer is bytes, words or ticks, or a number (0
-- where nothing is refused).
pub data Question : Type 0 where
  prints : Lines → Question
  lists : Lines → Question
  worst : Lines → Question
  delay_in : Lines → List Bool → Question
  passes : Lines → Question
  passes_in_all : Lines → Question
  first_slot : Lines → ℕ → ℕ → Question
  current_round : Lines → ℕ → Question
  lent : Lines → ℕ → ℕ → Question
  leaves : Lines → List ℕ → List ℕ → List ℕ → Question
  writes : Lines → ℕ → Question
  lists_in : Lines → ℕ → Question
  checks : Lines → List ℕ → ℕ → Question
  states : Lines → Result → Question
  lends : Listed → List ℕ → List ℕ → List ℕ → Question
  plan_of : List ℕ → Question
  listing_of : List ℕ → Question
  says : Refusal → Question
  row : List ℕ → ℕ → Question
  finds : Lines → List ℕ → ℕ → ℕ → ℕ → ℕ → ℕ → Question
  starts : Lines → List ℕ → List Bool → List ℕ → ℕ → Question
  plan_at : ℕ → List ℕ → Day → ℕ → Question
  cycle_of : Lines → List ℕ → ℕ → Question
  change_at : Lines → List ℕ → ℕ → ℕ → Question
  season_lines : Season → Question
  season_says : Told → Question
  tick_says : ℕ → Question
  change_says : Changed → Question

pub data Outcome : Type 0 where
  list : List ℕ → Outcome
  number : ℕ → Outcome
  told : Told → Outcome

pub record Case : Type 0 where
  pub asked : Question
  pub stated : Outcome

abbrev pub refusal_number : Refusal → ℕ
refusal_number nothing = 0
refusal_number (refused n) = n

abbrev pub answer_number : Answer → ℕ
answer_number (turned_down n) = n
answer_number (made r) = 0

abbrev pub written_number : Written → ℕ
written_number (wrote bytes) = 0
written_number (not_written n) = n

abbrev pub outcome : Question → Outcome
outcome (prints p) = list (print p)
outcome (lists p) = list (printed p (plan_answer p 15000 6000))
outcome (worst p) = number (result p).delay
outcome (delay_in p c) = number (delay p (full_ticks p) (planned p c).log)
outcome (passes p) = list (result p).passed
outcome (passes_in_all p) = number (pass_over_count p)
outcome (first_slot p n t) = number (first_beginning p n t)
outcome (current_round p t) = number (round_beginning p t)
outcome (lent p w f) = number (answer_number (plan_answer p w f))
outcome (leaves p ws fs ns) =
    let a : Answer = plan_answer p (lib.ListN.length ws) (lib.ListN.length fs) in
    list (table_after a ws ++ frames_after a fs ++ counts_after a ns)
outcome (writes p n) = number (written_number (write_plan p n))
outcome (lists_in p n) = number (written_number (list_plan p n))
outcome (checks p ws d) = number (refusal_number (check p ws d))
outcome (states p r) = number (refusal_number (stated_refusal p r))
outcome (lends l ws fs ns) = list (listed_words l ws ++ listed_frames l fs ++ listed_counts l ns)
outcome (plan_of input) = list (plan_part input)
outcome (listing_of input) = list (listing_part input)
outcome (says r) = list (check_prints r)
outcome (row ws r) = list (row_part ws r)
outcome (finds p bytes n t h v from) = number (found_number (lookup p (words_of bytes) n t h v from))
outcome (starts p ws c times i) = list (starts_of (run_before p ws (lookup p ws) c times 40) i)
outcome (plan_at plans ws d minute) = told (season_answer plans (windows_of ws) d minute)
outcome (cycle_of p ws d) = told (cycle_answer p ws d)
outcome (change_at p ws d t) = told (change_answer p ws d t)
outcome (season_lines s) = list (season_text s)
outcome (season_says t) = list (season_prints t)
outcome (tick_says t) = list (tick_line t)
outcome (change_says x) = list (change_prints x)

-- short forms of lines
abbrev pub slot : ℕ → ℕ → Slot
slot n b = record { node = n; bytes = b }

abbrev pub all_of : ℕ → ℕ → Process
all_of n t = record { node = n; ticks = t; waits = waits_all }

abbrev pub any_of : ℕ → ℕ → Process
any_of n t = record { node = n; ticks = t; waits = waits_any }

abbrev pub arc : ℕ → ℕ → ℕ → When → Edge
arc i j b w = record { from = i; to = j; bytes = b; when = w }

-- a plan line with 0 in the parts that document 02 adds: "document 01's cases have 0 there"
abbrev pub line : ℕ → Pick → PlanLine
line byte pick = record { byte = byte; head = 0; pick = pick }

-- S, with the ticks of process 0 and the bytes of the third edge
abbrev pub S-with : ℕ → ℕ → Lines
S-with ticks third =
    record {
      plan = line 2 by_urgency;
      slots = slot 0 2 ∷ slot 1 2 ∷ [];
      processes = all_of 0 ticks ∷ all_of 1 3 ∷ all_of 0 5 ∷ any_of 0 2 ∷ [];
      conditions = 0 ∷ [];
      edges = arc 0 1 1 (on true 0) ∷ arc 0 2 1 (on false 0) ∷ arc 1 3 third always ∷ arc 2 3 1 always ∷ [];
    }

abbrev pub S : Lines
S = S-with 4 2

abbrev pub words_S : List ℕ
words_S =
    0 ∷ 0 ∷ 0 ∷ 0 ∷ 0
    ∷ 1 ∷ 1 ∷ 1 ∷ 20 ∷ 0
    ∷ 2 ∷ 1 ∷ 0 ∷ 12 ∷ 0
    ∷ 3 ∷ 1 ∷ 0 ∷ 17 ∷ 0
    ∷ 3 ∷ 1 ∷ 1 ∷ 32 ∷ 0
    ∷ 4 ∷ 1 ∷ 1 ∷ 16 ∷ 0
    ∷ 6 ∷ 1 ∷ 1 ∷ 28 ∷ 0
    ∷ 8 ∷ 0 ∷ 0 ∷ 8 ∷ 0 ∷ []

-- the words of S's table with entry e's field f (row, known, values, tick, place) changed
abbrev pub edited : ℕ → ℕ → ℕ → List ℕ
edited e f v = set words_S (5 * e + f) v

-- "Byte 1, slots 4 (node 0) and 1 (node 1), process 0 of 1 tick on node 0 sending 3, 2 and 1 bytes to three processes
-- of 2 ticks on node 1"
abbrev pub packing : Lines
packing =
    record {
      plan = line 1 by_urgency;
      slots = slot 0 4 ∷ slot 1 1 ∷ [];
      processes = all_of 0 1 ∷ all_of 1 2 ∷ all_of 1 2 ∷ all_of 1 2 ∷ [];
      conditions = [];
      edges = arc 0 1 3 always ∷ arc 0 2 2 always ∷ arc 0 3 1 always ∷ [];
    }

-- its table, with the third message at a place
abbrev pub packing_words : ℕ → List ℕ
packing_words place =
    0 ∷ 0 ∷ 0 ∷ 0 ∷ 0
    ∷ 1 ∷ 0 ∷ 0 ∷ 9 ∷ 0
    ∷ 2 ∷ 0 ∷ 0 ∷ 14 ∷ 0
    ∷ 3 ∷ 0 ∷ 0 ∷ 11 ∷ 0
    ∷ 4 ∷ 0 ∷ 0 ∷ 5 ∷ 0
    ∷ 5 ∷ 0 ∷ 0 ∷ 10 ∷ 0
    ∷ 6 ∷ 0 ∷ 0 ∷ 5 ∷ place ∷ []

-- its table with a head of one byte, with the second message at a place
abbrev pub headed_packing_words : ℕ → List ℕ
headed_packing_words place =
    0 ∷ 0 ∷ 0 ∷ 0 ∷ 0
    ∷ 1 ∷ 0 ∷ 0 ∷ 12 ∷ 0
    ∷ 2 ∷ 0 ∷ 0 ∷ 19 ∷ 0
    ∷ 3 ∷ 0 ∷ 0 ∷ 14 ∷ 0
    ∷ 4 ∷ 0 ∷ 0 ∷ 7 ∷ 0
    ∷ 5 ∷ 0 ∷ 0 ∷ 14 ∷ place
    ∷ 6 ∷ 0 ∷ 0 ∷ 7 ∷ 3 ∷ []

-- byte 1 and slots of two nodes, with no conditions: processes and edges
abbrev pub plain : Pick → ℕ → ℕ → List Process → List Edge → Lines
plain pick a b ps es = record { plan = line 1 pick; slots = slot 0 a ∷ slot 1 b ∷ []; processes = ps; conditions = []; edges = es }

-- the same with conditions
abbrev pub deciding : ℕ → ℕ → List Process → List ℕ → List Edge → Lines
deciding a b ps cs es = record { plan = line 1 by_urgency; slots = slot 0 a ∷ slot 1 b ∷ []; processes = ps; conditions = cs; edges = es }

-- processes on one node
abbrev pub one_node : Pick → List Process → Lines
one_node pick ps = record { plan = line 1 pick; slots = slot 0 1 ∷ []; processes = ps; conditions = []; edges = [] }

abbrev pub case : Question → Outcome → Case
case q o = record { asked = q; stated = o }

-- The starred cases of document 01, in its order.
abbrev pub starred : List Case
starred =
    case (prints S) (list (text "(plan (byte 2) (head 0) (pick urgency))\n(slot (node 0) (bytes 2))\n(slot (node 1) (bytes 2))\n(process (node 0) (ticks 4) (waits all))\n(process (node 1) (ticks 3) (waits all))\n(process (node 0) (ticks 5) (waits all))\n(process (node 0) (ticks 2) (waits any))\n(condition (process 0))\n(edge (from 0) (to 1) (bytes 1) (when (true 0)))\n(edge (from 0) (to 2) (bytes 1) (when (false 0)))\n(edge (from 1) (to 3) (bytes 2) (when always))\n(edge (from 2) (to 3) (bytes 1) (when always))\n"))
    ∷ case (lists S) (list (text "(delay 34)\n(passed (node 0) 0)\n(passed (node 1) 0)\n(start 0 (when) (at 0))\n(start 1 (when (true 0)) (at 20))\n(start 2 (when (false 0)) (at 12))\n(start 3 (when (false 0)) (at 17))\n(start 3 (when (true 0)) (at 32))\n(send 0 (when (true 0)) (at 16) (place 0))\n(send 2 (when (true 0)) (at 28) (place 0))\n(tell 0 (when) (at 8) (place 0))\n(frame 8 (node 0) (bytes 1))\n(frame 16 (node 0) (bytes 1))\n(frame 28 (node 1) (bytes 2))\n"))
    ∷ case (worst (S-with 8 2)) (number 34)
    ∷ case (worst (S-with 9 2)) (number 42)
    ∷ case (delay_in (S-with 9 2) (false ∷ [])) (number 27)
    ∷ case (lists (S-with 4 3)) (list (text "(refused 9)\n"))
    ∷ case (checks S words_S 34) (number 0)
    ∷ case (checks S (edited 2 3 11) 34) (number 15)
    ∷ case (checks S (edited 4 3 31) 34) (number 16)
    ∷ case (checks S (edited 6 3 27) 34) (number 17)
    ∷ case (checks S (edited 2 1 0) 34) (number 14)
    ∷ case (checks S words_S 33) (number 20)
    ∷ case (lent S 39 9) (number 10)
    ∷ case (lent S 40 9) (number 0)
    ∷ case (lent S 40 8) (number 11)
    ∷ case (checks S [] 34) (number 14)
    ∷ case (lists packing) (list (text "(delay 16)\n(passed (node 0) 1)\n(passed (node 1) 0)\n(start 0 (when) (at 0))\n(start 1 (when) (at 9))\n(start 2 (when) (at 14))\n(start 3 (when) (at 11))\n(send 0 (when) (at 5) (place 0))\n(send 1 (when) (at 10) (place 0))\n(send 2 (when) (at 5) (place 3))\n(frame 5 (node 0) (bytes 4))\n(frame 10 (node 0) (bytes 2))\n"))
    ∷ case (checks packing (packing_words 3) 16) (number 0)
    ∷ case (checks packing (packing_words 2) 16) (number 19)
    ∷ []

-- "Where a planner goes astray", and the readings of docs/DECISIONS.md that change a table.
abbrev pub planning : List Case
planning =
    -- one process alone; two on a node, by urgency and by number; of one urgency the lower number goes first, the other
    -- when it has ended
    case (lists (one_node by_urgency (all_of 0 7 ∷ []))) (list (text "(delay 7)\n(passed (node 0) 0)\n(start 0 (when) (at 0))\n"))
    ∷ case (lists (one_node by_urgency (all_of 0 1 ∷ all_of 0 5 ∷ []))) (list (text "(delay 6)\n(passed (node 0) 0)\n(start 0 (when) (at 5))\n(start 1 (when) (at 0))\n"))
    ∷ case (lists (one_node by_number (all_of 0 1 ∷ all_of 0 5 ∷ []))) (list (text "(delay 6)\n(passed (node 0) 0)\n(start 0 (when) (at 0))\n(start 1 (when) (at 1))\n"))
    ∷ case (lists (one_node by_urgency (all_of 0 2 ∷ all_of 0 2 ∷ []))) (list (text "(delay 4)\n(passed (node 0) 0)\n(start 0 (when) (at 0))\n(start 1 (when) (at 2))\n"))
    -- a message ready exactly as its slot begins, at 3
    ∷ case (worst (plain by_urgency 2 1 (all_of 0 3 ∷ all_of 1 1 ∷ []) (arc 0 1 1 always ∷ []))) (number 6)
    -- an `any` process whose second input comes late, over the bus
    ∷ case (worst (plain by_urgency 1 1 (all_of 0 1 ∷ all_of 1 5 ∷ any_of 0 1 ∷ []) (arc 0 2 1 always ∷ arc 1 2 1 always ∷ []))) (number 7)
    -- columns list what was heard, and no more: condition 1 comes later than condition 0
    ∷ case (lists (deciding 1 1 (all_of 0 1 ∷ all_of 1 4 ∷ all_of 0 1 ∷ all_of 1 2 ∷ []) (0 ∷ 1 ∷ []) (arc 0 2 1 (on true 0) ∷ arc 1 3 1 (on false 1) ∷ [])))
    (list (text "(delay 8)\n(passed (node 0) 0)\n(passed (node 1) 0)\n(start 0 (when) (at 0))\n(start 1 (when) (at 0))\n(start 2 (when (true 0)) (at 3))\n(start 3 (when (false 0) (false 1)) (at 6))\n(start 3 (when (true 0) (false 1)) (at 6))\n(tell 0 (when) (at 2) (place 0))\n(tell 1 (when (false 0)) (at 5) (place 0))\n(tell 1 (when (true 0)) (at 5) (place 0))\n(frame 2 (node 0) (bytes 1))\n(frame 5 (node 1) (bytes 1))\n"))
    -- a broadcast goes before a message, and the frame's last used byte is the message's
    ∷ case (lists (deciding 4 1 (all_of 0 2 ∷ all_of 1 1 ∷ []) (0 ∷ []) (arc 0 1 2 always ∷ [])))
    (list (text "(delay 10)\n(passed (node 0) 0)\n(passed (node 1) 0)\n(start 0 (when) (at 0))\n(start 1 (when (false 0)) (at 9))\n(start 1 (when (true 0)) (at 9))\n(send 0 (when) (at 5) (place 1))\n(tell 0 (when) (at 5) (place 0))\n(frame 5 (node 0) (bytes 3))\n"))
    -- a message is sent though its receiver does not run; ties go to the lower process and the lower edge
    ∷ case (lists (deciding 1 1 (all_of 0 1 ∷ all_of 0 1 ∷ all_of 1 1 ∷ []) (0 ∷ []) (arc 0 2 1 (on true 0) ∷ arc 1 2 1 always ∷ [])))
    (list (text "(delay 8)\n(passed (node 0) 3)\n(passed (node 1) 0)\n(start 0 (when) (at 0))\n(start 1 (when) (at 1))\n(start 2 (when (true 0)) (at 7))\n(send 0 (when (true 0)) (at 4) (place 0))\n(send 1 (when (false 0)) (at 4) (place 0))\n(send 1 (when (true 0)) (at 6) (place 0))\n(tell 0 (when) (at 2) (place 0))\n(frame 2 (node 0) (bytes 1))\n(frame 4 (node 0) (bytes 1))\n(frame 6 (node 0) (bytes 1))\n"))
    -- pass-overs count slots, not items: three messages of 2 bytes and a slot of 2; and they count after the last
    -- process has ended
    ∷ case (passes (plain by_urgency 2 1 (all_of 0 1 ∷ all_of 1 1 ∷ all_of 1 1 ∷ all_of 1 1 ∷ []) (arc 0 1 2 always ∷ arc 0 2 2 always ∷ arc 0 3 2 always ∷ []))) (list (2 ∷ 0 ∷ []))
    ∷ case (passes (deciding 1 4 (all_of 0 1 ∷ all_of 0 1 ∷ []) (0 ∷ 1 ∷ []) [])) (list (4 ∷ 0 ∷ []))
    ∷ case (worst (deciding 1 4 (all_of 0 1 ∷ all_of 0 1 ∷ []) (0 ∷ 1 ∷ []) [])) (number 2)
    ∷ []

-- Refusals, tables, buffers, queries, lookups and runs beyond the starred ones.
abbrev pub answers : List Case
answers =
    -- 2 to 8, each on its own
    case (lent (one_node by_urgency []) 0 0) (number 2)
    ∷ case (lent (one_node by_urgency (all_of 0 0 ∷ [])) 0 0) (number 3)
    ∷ case (lent (one_node by_urgency (all_of 1 1 ∷ [])) 0 0) (number 4)
    ∷ case (lent (deciding 1 1 (all_of 0 1 ∷ []) (0 ∷ 0 ∷ []) []) 0 0) (number 5)
    ∷ case (lent (plain by_urgency 1 1 (all_of 0 1 ∷ all_of 0 1 ∷ []) (arc 1 0 1 always ∷ [])) 0 0) (number 6)
    ∷ case (lent (plain by_urgency 1 1 (all_of 0 1 ∷ all_of 0 1 ∷ []) (arc 0 1 1 always ∷ arc 0 1 2 always ∷ [])) 0 0) (number 7)
    ∷ case (lent (plain by_urgency 1 1 (all_of 0 1 ∷ all_of 0 1 ∷ []) (arc 0 1 1 (on true 0) ∷ [])) 0 0) (number 8)
    -- a local edge may be longer than the slot
    ∷ case (lent (plain by_urgency 1 1 (all_of 0 1 ∷ all_of 0 1 ∷ []) (arc 0 1 64 always ∷ [])) 10 0) (number 0)
    -- 12, 13 (a place, a known bit without condition), 16 before 17 (a broadcast at tick 0), 18
    ∷ case (checks S (take 39 words_S) 34) (number 12)
    ∷ case (checks S (edited 7 4 64) 34) (number 13)
    ∷ case (checks S (edited 0 1 2) 34) (number 13)
    ∷ case (checks S (edited 7 3 0) 34) (number 16)
    ∷ case (checks (one_node by_urgency (all_of 0 1 ∷ all_of 0 5 ∷ [])) (0 ∷ 0 ∷ 0 ∷ 0 ∷ 0 ∷ 1 ∷ 0 ∷ 0 ∷ 0 ∷ 0 ∷ []) 5) (number 18)
    -- a stated delay of ten digits can be right
    ∷ case (checks (one_node by_urgency (all_of 0 7 ∷ [])) (0 ∷ 0 ∷ 0 ∷ 999999999 ∷ 0 ∷ []) 1000000006) (number 0)
    -- buffers: a refusal leaves them, an accepted call leaves the words beyond its output
    ∷ case (leaves (one_node by_urgency (all_of 0 7 ∷ [])) (9 ∷ 9 ∷ 9 ∷ 9 ∷ []) (8 ∷ []) (7 ∷ [])) (list (9 ∷ 9 ∷ 9 ∷ 9 ∷ 8 ∷ 7 ∷ []))
    ∷ case (leaves (one_node by_urgency (all_of 0 7 ∷ [])) (9 ∷ 9 ∷ 9 ∷ 9 ∷ 9 ∷ 9 ∷ []) (8 ∷ []) (7 ∷ 7 ∷ [])) (list (0 ∷ 0 ∷ 0 ∷ 0 ∷ 0 ∷ 9 ∷ 8 ∷ 0 ∷ 7 ∷ []))
    ∷ case (writes S 473) (number 0)
    ∷ case (writes S 472) (number 10)
    -- a listing in lent bytes, of which there are enough, one too few, and none for a plan that 9 refuses
    ∷ case (lists_in S 421) (number 0)
    ∷ case (lists_in S 420) (number 10)
    ∷ case (lists_in (S-with 4 3) 0) (number 9)
    -- S's table, by its words, and its frame list
    ∷ case (leaves S (replicate 40 9) (replicate 9 8) (replicate 3 7)) (list (words_S ++ 8 ∷ 0 ∷ 1 ∷ 16 ∷ 0 ∷ 1 ∷ 28 ∷ 1 ∷ 2 ∷ 0 ∷ 0 ∷ 7 ∷ []))
    -- the row query: a row of two entries, none, a scattered row, stray words
    ∷ case (row words_S 3) (list (3 ∷ 1 ∷ 0 ∷ 17 ∷ 0 ∷ 3 ∷ 1 ∷ 1 ∷ 32 ∷ 0 ∷ []))
    ∷ case (row words_S 5) (list [])
    ∷ case (row (3 ∷ 0 ∷ 0 ∷ 0 ∷ 0 ∷ 0 ∷ 0 ∷ 0 ∷ 0 ∷ 0 ∷ 3 ∷ 0 ∷ 0 ∷ 0 ∷ 1 ∷ []) 3) (list (3 ∷ 0 ∷ 0 ∷ 0 ∷ 0 ∷ []))
    ∷ case (row (0 ∷ 0 ∷ 0 ∷ 0 ∷ 0 ∷ 3 ∷ 0 ∷ 0 ∷ 0 ∷ []) 3) (list [])
    -- the lookup over bytes: an entry of 20 bytes and 19 stray ones; its bits beyond the known are ignored; a tick, a
    -- node, an entry past it
    ∷ case (finds (one_node by_urgency (all_of 0 7 ∷ [])) (replicate 8 0 ++ 7 ∷ replicate 30 0) 0 0 0 0 0) (number 0)
    ∷ case (finds (one_node by_urgency (all_of 0 7 ∷ [])) (replicate 8 0 ++ 7 ∷ replicate 30 0) 0 0 0 0 1) (number 18446744073709551615)
    ∷ case (finds (one_node by_urgency (all_of 0 7 ∷ [])) (replicate 20 0) 1 0 0 0 0) (number 18446744073709551615)
    ∷ case (finds (one_node by_urgency (all_of 0 7 ∷ [])) (replicate 12 0 ++ 0 ∷ 1 ∷ 0 ∷ 0 ∷ replicate 4 0) 0 256 0 0 0) (number 0)
    ∷ case (finds (one_node by_urgency (all_of 0 0 ∷ [])) (replicate 20 0) 0 0 0 0 0) (number 18446744073709551612)
    -- runs of S: with full ticks, with none, of a process that is not due, of the other value; a broadcast before its
    -- decider's end counts for nothing, so that its value is never heard
    ∷ case (starts S words_S (true ∷ []) (4 ∷ 3 ∷ 5 ∷ 2 ∷ []) 3) (list (32 ∷ []))
    ∷ case (starts S words_S (true ∷ []) (0 ∷ 0 ∷ 0 ∷ 0 ∷ []) 1) (list (20 ∷ []))
    ∷ case (starts S words_S (true ∷ []) (4 ∷ 3 ∷ 5 ∷ 2 ∷ []) 2) (list [])
    ∷ case (starts S words_S (false ∷ []) (4 ∷ 3 ∷ 5 ∷ 2 ∷ []) 2) (list (12 ∷ []))
    ∷ case (starts S (edited 7 3 0) (false ∷ []) (4 ∷ 3 ∷ 5 ∷ 2 ∷ []) 2) (list [])
    ∷ []

-- Document 02, point 1: "Frames have a head and a tail." "S with head 0 prints the listing of document 01" (case 2 of
-- `starred`), "and for other heads tables are compared with the planning rules over the longer slots."
abbrev pub heads : List Case
heads =
    -- S and the packing case with a head of one byte: slots are longer, and a head takes no place in a frame; two slots
    -- of one byte with a head of 16: a message ready at 1 goes in the frame of 34, and arrives at 51
    case (lists (with_head S 1)) (list (text "(delay 50)\n(passed (node 0) 0)\n(passed (node 1) 0)\n(start 0 (when) (at 0))\n(start 1 (when (true 0)) (at 30))\n(start 2 (when (false 0)) (at 18))\n(start 3 (when (false 0)) (at 23))\n(start 3 (when (true 0)) (at 48))\n(send 0 (when (true 0)) (at 24) (place 0))\n(send 2 (when (true 0)) (at 42) (place 0))\n(tell 0 (when) (at 12) (place 0))\n(frame 12 (node 0) (bytes 1))\n(frame 24 (node 0) (bytes 1))\n(frame 42 (node 1) (bytes 2))\n"))
    ∷ case (lists (with_head packing 1)) (list (text "(delay 21)\n(passed (node 0) 1)\n(passed (node 1) 0)\n(start 0 (when) (at 0))\n(start 1 (when) (at 12))\n(start 2 (when) (at 19))\n(start 3 (when) (at 14))\n(send 0 (when) (at 7) (place 0))\n(send 1 (when) (at 14) (place 0))\n(send 2 (when) (at 7) (place 3))\n(frame 7 (node 0) (bytes 4))\n(frame 14 (node 0) (bytes 2))\n"))
    ∷ case (lists (with_head (plain by_urgency 1 1 (all_of 0 1 ∷ all_of 1 1 ∷ []) (arc 0 1 1 always ∷ [])) 16))
    (list (text "(delay 52)\n(passed (node 0) 0)\n(passed (node 1) 0)\n(start 0 (when) (at 0))\n(start 1 (when) (at 51))\n(send 0 (when) (at 34) (place 0))\n(frame 34 (node 0) (bytes 1))\n"))
    -- 3 of the plan line: a head of 16 bytes and of 17; 9 goes by the data, whatever the head
    ∷ case (writes (with_head S 16) 0) (number 10)
    ∷ case (writes (with_head S 17) 0) (number 3)
    ∷ case (writes (with_head (S-with 4 3) 16) 0) (number 9)
    -- the table of the packing case with a head: at place 0, and passing the slot's data by as much as the head;
    -- without the head its ticks are no beginnings of the slot
    ∷ case (checks (with_head packing 1) (headed_packing_words 0) 21) (number 0)
    ∷ case (checks (with_head packing 1) (headed_packing_words 3) 21) (number 19)
    ∷ case (checks packing (headed_packing_words 0) 21) (number 17)
    ∷ []

-- Document 02, point 2: "Check a printed table." What a listing of S states: a delay, the pass-over count of node 0,
-- with 0 for node 1, and the words of its entries and of its frames.
abbrev pub stating : ℕ → ℕ → List ℕ → List ℕ → Result
stating delay count words frames =
    record { delay = delay; passed = count ∷ 0 ∷ []; entries = entries_of words; frames = frames_of frames }

abbrev pub frames_S : List ℕ
frames_S = 8 ∷ 0 ∷ 1 ∷ 16 ∷ 0 ∷ 1 ∷ 28 ∷ 1 ∷ 2 ∷ []

-- S's table with the two entries of row 3 exchanged, and moved on by a round
abbrev pub exchanged_S : List ℕ
exchanged_S = take 15 words_S ++ 3 ∷ 1 ∷ 1 ∷ 32 ∷ 0 ∷ 3 ∷ 1 ∷ 0 ∷ 17 ∷ 0 ∷ drop 25 words_S

abbrev pub later_S : List ℕ
later_S =
    0 ∷ 0 ∷ 0 ∷ 8 ∷ 0
    ∷ 1 ∷ 1 ∷ 1 ∷ 28 ∷ 0
    ∷ 2 ∷ 1 ∷ 0 ∷ 20 ∷ 0
    ∷ 3 ∷ 1 ∷ 0 ∷ 25 ∷ 0
    ∷ 3 ∷ 1 ∷ 1 ∷ 40 ∷ 0
    ∷ 4 ∷ 1 ∷ 1 ∷ 24 ∷ 0
    ∷ 6 ∷ 1 ∷ 1 ∷ 36 ∷ 0
    ∷ 8 ∷ 0 ∷ 0 ∷ 16 ∷ 0 ∷ []

abbrev pub printed_tables : List Case
printed_tables =
    -- the planner's own; within a row in another order; moved on by a round: the passed lines are the plan's
    case (states S (stating 34 0 words_S frames_S)) (number 0)
    ∷ case (states S (stating 34 0 exchanged_S frames_S)) (number 0)
    ∷ case (states S (stating 42 0 later_S (16 ∷ 0 ∷ 1 ∷ 24 ∷ 0 ∷ 1 ∷ 36 ∷ 1 ∷ 2 ∷ []))) (number 0)
    -- no entry; frames in another order, one twice, one missing, one too wide; another count
    ∷ case (states S (stating 0 0 [] [])) (number 14)
    ∷ case (states S (stating 34 0 words_S (16 ∷ 0 ∷ 1 ∷ 8 ∷ 0 ∷ 1 ∷ 28 ∷ 1 ∷ 2 ∷ []))) (number 22)
    ∷ case (states S (stating 34 0 words_S (8 ∷ 0 ∷ 1 ∷ frames_S))) (number 22)
    ∷ case (states S (stating 34 0 words_S (take 6 frames_S))) (number 22)
    ∷ case (states S (stating 34 0 words_S (8 ∷ 0 ∷ 2 ∷ drop 3 frames_S))) (number 22)
    ∷ case (states S (stating 34 1 words_S frames_S)) (number 22)
    -- 20 before 22, 13 before both
    ∷ case (states S (stating 33 1 words_S frames_S)) (number 20)
    ∷ case (states S (stating 33 1 (edited 7 4 64) [])) (number 13)
    -- the words lent to the reader of listings: 21 leaves them, and what is read stands in front
    ∷ case (lends (not_listed 21) (9 ∷ 9 ∷ []) (8 ∷ []) (7 ∷ [])) (list (9 ∷ 9 ∷ 8 ∷ 7 ∷ []))
    ∷ case (lends (listed (stating 7 5 (0 ∷ 0 ∷ 0 ∷ 0 ∷ 0 ∷ []) (4 ∷ 0 ∷ 1 ∷ []))) (replicate 6 9) (replicate 4 8) (replicate 3 7)) (list (0 ∷ 0 ∷ 0 ∷ 0 ∷ 0 ∷ 9 ∷ 4 ∷ 0 ∷ 1 ∷ 8 ∷ 5 ∷ 0 ∷ 7 ∷ []))
    -- in the order in which the lines of a row stand
    ∷ case (lends (listed (stating 34 0 exchanged_S [])) (replicate 41 9) [] []) (list (exchanged_S ++ 9 ∷ 0 ∷ 0 ∷ []))
    -- the input up to its first empty line, and behind it; without an empty line, with one at the front, with several
    ∷ case (plan_of (text "(a)\n(b)\n\n(c)\n\n")) (list (text "(a)\n(b)\n"))
    ∷ case (listing_of (text "(a)\n(b)\n\n(c)\n\n")) (list (text "(c)\n\n"))
    ∷ case (plan_of (text "(a)\n(b)\n")) (list (text "(a)\n(b)\n"))
    ∷ case (listing_of (text "(a)\n(b)\n")) (list [])
    ∷ case (plan_of (text "\n(a)\n")) (list [])
    ∷ case (listing_of (text "\n(a)\n")) (list (text "(a)\n"))
    ∷ case (says nothing) (list (text "(accepted)\n"))
    ∷ case (says (refused 22)) (list (text "(refused 22)\n"))
    ∷ []

-- Document 02, point 3: "Pass-overs for each unit." Slots of one byte, node 1's first; node 0 sends three messages and
-- node 1 two, each of a byte.
abbrev pub crossed : Lines
crossed =
    record {
      plan = line 1 by_urgency;
      slots = slot 1 1 ∷ slot 0 1 ∷ [];
      processes = all_of 0 1 ∷ all_of 1 1 ∷ all_of 1 1 ∷ all_of 1 1 ∷ all_of 1 1 ∷ all_of 0 1 ∷ all_of 0 1 ∷ [];
      conditions = [];
      edges = arc 0 2 1 always ∷ arc 0 3 1 always ∷ arc 0 4 1 always ∷ arc 1 5 1 always ∷ arc 1 6 1 always ∷ [];
    }

-- what a listing of it states, with the counts of nodes 0 and 1
abbrev pub crossed_stating : ℕ → ℕ → Result
crossed_stating first second =
    let r : Result = result crossed in
    record { delay = r.delay; passed = first ∷ second ∷ []; entries = r.entries; frames = r.frames }

-- three slots of a byte in the order 2, 0, 1: node 2 decides a condition, tells it, and sends two messages
abbrev pub three_nodes : Lines
three_nodes =
    record {
      plan = line 1 by_urgency;
      slots = slot 2 1 ∷ slot 0 1 ∷ slot 1 1 ∷ [];
      processes = all_of 2 1 ∷ all_of 0 1 ∷ all_of 1 1 ∷ [];
      conditions = 0 ∷ [];
      edges = arc 0 1 1 always ∷ arc 0 2 1 (on true 0) ∷ [];
    }

abbrev pub passed_nodes : List Case
passed_nodes =
    -- in node order, whatever the slot order, and by the node whose slot it is
    case (lists crossed) (list (text "(delay 7)\n(passed (node 0) 2)\n(passed (node 1) 1)\n(start 0 (when) (at 0))\n(start 1 (when) (at 0))\n(start 2 (when) (at 2))\n(start 3 (when) (at 4))\n(start 4 (when) (at 6))\n(start 5 (when) (at 3))\n(start 6 (when) (at 5))\n(send 0 (when) (at 1) (place 0))\n(send 1 (when) (at 3) (place 0))\n(send 2 (when) (at 5) (place 0))\n(send 3 (when) (at 2) (place 0))\n(send 4 (when) (at 4) (place 0))\n(frame 1 (node 0) (bytes 1))\n(frame 2 (node 1) (bytes 1))\n(frame 3 (node 0) (bytes 1))\n(frame 4 (node 1) (bytes 1))\n(frame 5 (node 0) (bytes 1))\n"))
    ∷ case (passes three_nodes) (list (0 ∷ 0 ∷ 3 ∷ []))
    -- "Added up they give the old count": the slots that passed an item over, in all combinations
    ∷ case (passes_in_all crossed) (number 3)
    ∷ case (passes_in_all three_nodes) (number 3)
    ∷ case (passes_in_all packing) (number 1)
    ∷ case (passes_in_all S) (number 0)
    -- 22 compares node by node: its own; counts of two nodes exchanged; the sum on every line; the sum on the first
    ∷ case (states crossed (crossed_stating 2 1)) (number 0)
    ∷ case (states crossed (crossed_stating 1 2)) (number 22)
    ∷ case (states crossed (crossed_stating 3 3)) (number 22)
    ∷ case (states crossed (crossed_stating 3 0)) (number 22)
    ∷ []

-- Document 02, point 4: "Slot search without division." "The search gives the first beginning of a node's slot at or
-- after a tick." Of S, whose round lasts 8 ticks, and of plans with a head and with slots that do not stand in node
-- order.
abbrev pub slot_searches : List Case
slot_searches =
    -- a beginning equal to the tick is the first at or after it; one tick later it is a round later
    case (first_slot S 0 0) (number 0)
    ∷ case (first_slot S 0 1) (number 8)
    ∷ case (first_slot S 0 8) (number 8)
    ∷ case (first_slot S 1 0) (number 4)
    ∷ case (first_slot S 1 4) (number 4)
    ∷ case (first_slot S 1 5) (number 12)
    -- far from tick 0: rounds begin at multiples of 8
    ∷ case (first_slot S 0 100000) (number 100000)
    ∷ case (first_slot S 0 100001) (number 100008)
    ∷ case (first_slot S 1 999999999) (number 1000000004)
    -- with a head of one byte a round lasts 12 ticks; in `crossed` node 1's slot is the first
    ∷ case (first_slot (with_head S 1) 1 7) (number 18)
    ∷ case (first_slot crossed 0 2) (number 3)
    ∷ case (first_slot crossed 1 2) (number 2)
    -- the beginning of the current round: the last tick of a round, the first of the next, and far from tick 0
    ∷ case (current_round S 7) (number 0)
    ∷ case (current_round S 8) (number 8)
    ∷ case (current_round S 100007) (number 100000)
    ∷ case (current_round (with_head S 1) 100007) (number 99996)
    ∷ []

-- Document 02, point 5: "Winter and summer plans." The heating season over New Year, working hours in May, the whole year
-- from 5 May to 4 May in the last minute of each day, and plan 0 on 1 September, named by a window.
abbrev pub date : ℕ → ℕ → Day
date month day = record { month = month; day = day }

abbrev pub heating : List ℕ
heating = 1 ∷ 10 ∷ 1 ∷ 4 ∷ 30 ∷ 0 ∷ 1440 ∷ []

abbrev pub working_hours : List ℕ
working_hours = 2 ∷ 5 ∷ 1 ∷ 5 ∷ 31 ∷ 480 ∷ 1020 ∷ []

abbrev pub late_minute : List ℕ
late_minute = 3 ∷ 5 ∷ 5 ∷ 5 ∷ 4 ∷ 1439 ∷ 1440 ∷ []

abbrev pub first_september : List ℕ
first_september = 0 ∷ 9 ∷ 1 ∷ 9 ∷ 1 ∷ 0 ∷ 1440 ∷ []

abbrev pub year : List ℕ
year = heating ++ working_hours ++ first_september ++ late_minute

abbrev pub leap_day : List ℕ
leap_day = 1 ∷ 2 ∷ 29 ∷ 2 ∷ 29 ∷ 0 ∷ 1440 ∷ []

-- A process of 7 ticks, alone; and the same deciding a condition that nobody waits for, so that the last item arrives
-- after the last process has ended.
abbrev pub alone : Lines
alone =
    record {
      plan = line 1 by_urgency;
      slots = slot 0 5 ∷ [];
      processes = all_of 0 7 ∷ [];
      conditions = [];
      edges = [];
    }

abbrev pub told_last : Lines
told_last =
    record {
      plan = line 1 by_urgency;
      slots = slot 0 5 ∷ [];
      processes = all_of 0 7 ∷ [];
      conditions = 0 ∷ [];
      edges = [];
    }

abbrev pub seasons : List Case
seasons =
    -- "runs over New Year": the first day, the last of the year, the first of the year, the last day, and either side
    case (plan_at 4 year (date 10 1) 0) (told (tells 1))
    ∷ case (plan_at 4 year (date 12 31) 0) (told (tells 1))
    ∷ case (plan_at 4 year (date 1 1) 1439) (told (tells 1))
    ∷ case (plan_at 4 year (date 4 30) 720) (told (tells 1))
    ∷ case (plan_at 4 year (date 9 30) 600) (told (tells 0))
    -- "first included, last excluded"
    ∷ case (plan_at 4 year (date 5 1) 479) (told (tells 0))
    ∷ case (plan_at 4 year (date 5 1) 480) (told (tells 2))
    ∷ case (plan_at 4 year (date 5 31) 1019) (told (tells 2))
    ∷ case (plan_at 4 year (date 5 31) 1020) (told (tells 0))
    -- "both included"
    ∷ case (plan_at 4 year (date 6 1) 600) (told (tells 0))
    -- from 5 May to 4 May is the whole year; "Earlier windows go first", also one that names plan 0
    ∷ case (plan_at 4 year (date 5 4) 1439) (told (tells 3))
    ∷ case (plan_at 4 year (date 5 5) 1439) (told (tells 3))
    ∷ case (plan_at 4 year (date 9 1) 1439) (told (tells 0))
    -- "Months have at most 31, 29, 31 and so on days": 29 February is a day, 30 February none, in windows and queries
    ∷ case (plan_at 2 leap_day (date 2 29) 0) (told (tells 1))
    ∷ case (plan_at 2 leap_day (date 2 28) 0) (told (tells 0))
    ∷ case (plan_at 2 leap_day (date 3 1) 0) (told (tells 0))
    ∷ case (plan_at 2 leap_day (date 2 30) 0) (told (refuses 23))
    ∷ case (plan_at 2 (1 ∷ 2 ∷ 30 ∷ 3 ∷ 1 ∷ 0 ∷ 1440 ∷ []) (date 1 1) 0) (told (refuses 23))
    ∷ case (plan_at 2 (1 ∷ 1 ∷ 1 ∷ 4 ∷ 31 ∷ 0 ∷ 1440 ∷ []) (date 1 1) 0) (told (refuses 23))
    ∷ case (plan_at 2 leap_day (date 13 1) 0) (told (refuses 23))
    ∷ case (plan_at 2 leap_day (date 0 1) 0) (told (refuses 23))
    ∷ case (plan_at 2 leap_day (date 6 0) 0) (told (refuses 23))
    ∷ case (plan_at 2 leap_day (date 6 30) 1440) (told (refuses 23))
    -- spans: one that is empty, one that ends past the day
    ∷ case (plan_at 2 (1 ∷ 1 ∷ 1 ∷ 2 ∷ 1 ∷ 600 ∷ 600 ∷ []) (date 6 1) 0) (told (refuses 23))
    ∷ case (plan_at 2 (1 ∷ 1 ∷ 1 ∷ 2 ∷ 1 ∷ 600 ∷ 1441 ∷ []) (date 6 1) 0) (told (refuses 23))
    -- "plan 0 or a named plan not given"; no windows; 8 windows and 9; stray numbers
    ∷ case (plan_at 3 year (date 5 4) 1439) (told (refuses 23))
    ∷ case (plan_at 0 [] (date 2 29) 0) (told (refuses 23))
    ∷ case (plan_at 1 [] (date 2 29) 0) (told (tells 0))
    ∷ case (plan_at 4 (year ++ year) (date 5 20) 500) (told (tells 2))
    ∷ case (plan_at 4 (year ++ year ++ heating) (date 5 20) 500) (told (refuses 23))
    ∷ case (plan_at 2 (heating ++ (9 ∷ 9 ∷ 9 ∷ 9 ∷ 9 ∷ 9 ∷ [])) (date 12 1) 5) (told (tells 1))
    -- the cycle of S: a round lasts 8 ticks, the delay is 34; a multiple that is reached exactly; its refusals
    ∷ case (cycle_of S words_S 34) (told (tells 40))
    ∷ case (cycle_of S words_S 33) (told (refuses 20))
    ∷ case (cycle_of (S-with 4 3) words_S 34) (told (refuses 9))
    ∷ case (cycle_of alone (0 ∷ 0 ∷ 0 ∷ 3 ∷ 0 ∷ []) 10) (told (tells 10))
    ∷ case (cycle_of alone (0 ∷ 0 ∷ 0 ∷ 4 ∷ 0 ∷ []) 11) (told (tells 15))
    -- "nor the end of that table's last used slot": the value is told from 10 to 15, or from 15 to 20
    ∷ case (cycle_of told_last (0 ∷ 0 ∷ 0 ∷ 0 ∷ 0 ∷ 1 ∷ 0 ∷ 0 ∷ 10 ∷ 0 ∷ []) 7) (told (tells 15))
    ∷ case (cycle_of told_last (0 ∷ 0 ∷ 0 ∷ 0 ∷ 0 ∷ 1 ∷ 0 ∷ 0 ∷ 15 ∷ 0 ∷ []) 7) (told (tells 20))
    -- "takes effect at the first multiple of the cycle at or after it"
    ∷ case (change_at S words_S 34 0) (told (tells 0))
    ∷ case (change_at S words_S 34 1) (told (tells 40))
    ∷ case (change_at S words_S 34 40) (told (tells 40))
    ∷ case (change_at S words_S 34 41) (told (tells 80))
    ∷ case (change_at S words_S 34 999999999) (told (tells 1000000000))
    -- with a cycle of 999,999,998 ticks the answer passes 999,999,999
    ∷ case (change_at (record { plan = line 1 by_urgency; slots = slot 0 1 ∷ slot 1 1 ∷ []; processes = all_of 0 7 ∷ []; conditions = []; edges = [] })
    (0 ∷ 0 ∷ 0 ∷ 999999991 ∷ 0 ∷ []) 999999998 999999999) (told (tells 1999999996))
    -- 23 is "tried before anything else of the list": before 20, and before 9
    ∷ case (change_at S words_S 34 1000000000) (told (refuses 23))
    ∷ case (change_at S words_S 33 1000000000) (told (refuses 23))
    ∷ case (change_at (S-with 4 3) words_S 34 1000000000) (told (refuses 23))
    ∷ case (change_at S words_S 33 1) (told (refuses 20))
    -- the texts
    ∷ case (season_lines (record { day = date 5 1; minute = 480; plans = 3; windows = windows_of (heating ++ working_hours) })) (list (text "(ask (month 5) (day 1) (minute 480))\n(plans 3)\n(window (plan 1) (first (month 10) (day 1)) (last (month 4) (day 30)) (from 0) (to 1440))\n(window (plan 2) (first (month 5) (day 1)) (last (month 5) (day 31)) (from 480) (to 1020))\n"))
    ∷ case (season_says (tells 2)) (list (text "(plan 2)\n"))
    ∷ case (season_says (refuses 23)) (list (text "(refused 23)\n"))
    ∷ case (tick_says 57) (list (text "(tick 57)\n"))
    ∷ case (change_says (changes 40 80)) (list (text "(change (at 80) (cycle 40))\n"))
    ∷ case (change_says (no_change 20)) (list (text "(refused 20)\n"))
    ∷ []

abbrev pub Hold : List Case → Type 0
Hold cases = map (λ x. outcome x.asked) cases ≡ map (λ x. x.stated) cases

pub starred_hold : Hold starred
unfolding computing
starred_hold = refl

pub planning_hold : Hold planning
unfolding computing
planning_hold = refl

pub answers_hold : Hold answers
unfolding computing
answers_hold = refl

pub heads_hold : Hold heads
unfolding computing
heads_hold = refl

pub printed_tables_hold : Hold printed_tables
unfolding computing
printed_tables_hold = refl

pub passed_nodes_hold : Hold passed_nodes
unfolding computing
passed_nodes_hold = refl

pub slot_searches_hold : Hold slot_searches
unfolding computing
slot_searches_hold = refl

pub seasons_hold : Hold seasons
unfolding computing
seasons_hold = refl

-- S's listing states S's table.
pub S-states : States S (text "(delay 34)\n(passed (node 0) 0)\n(passed (node 1) 0)\n(start 0 (when) (at 0))\n(start 1 (when (true 0)) (at 20))\n(start 2 (when (false 0)) (at 12))\n(start 3 (when (false 0)) (at 17))\n(start 3 (when (true 0)) (at 32))\n(send 0 (when (true 0)) (at 16) (place 0))\n(send 2 (when (true 0)) (at 28) (place 0))\n(tell 0 (when) (at 8) (place 0))\n(frame 8 (node 0) (bytes 1))\n(frame 16 (node 0) (bytes 1))\n(frame 28 (node 1) (bytes 2))\n") (stating 34 0 words_S frames_S)
unfolding computing
S-states =
    record {
      count_for_each = refl;
      all_short = refl;
      all_listable = refl;
      in_order = refl;
      prints = refl;
      few_entries = omega arith;
      few_frames = omega arith;
    }
