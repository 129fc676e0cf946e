-- Document 01, "Table and frame list": entries, columns, frames, words, and the planner's answer with refusals 10 and
-- 11.
-- Assumes nothing.
use Rattle.std.specs.Prelude.{ℕ, zero, suc, ◌+◌, ◌*◌, ◌/◌, ◌%◌, max, Bool, true, not, ◌&&◌, ◌||◌, List, [], ◌∷◌, map, eqb, leb, ltb, length, if◌then◌else◌}
use Rattle.lists.specs.Lists.{keep, each, below, sum, greatest}
use Rattle.lists.specs.Ordered.{put_all}
use Rattle.lists.specs.Front.{front}
use Rattle.model.specs.Plan.{Lines, Slot}
use Rattle.model.specs.Activity.{Heard, unheard, heard, combinations}
use Rattle.model.specs.Bus.{beginning, rows, is_process, row_node, row_bytes}
use Rattle.model.specs.Log.{Placed, Log, of_row, full_ticks, over, known, delay}
use Rattle.model.specs.Planning.{State, view, passes_over, before, bound, planned}
use Rattle.model.specs.Refusals.{Refusal, nothing, refused, sentence, or_else, plan_refusal}

-- "five to an entry: row, bits of known conditions, their values, tick, place in the frame (0 for processes)"
pub record Entry : Type 0 where
  pub row : ℕ
  pub known : ℕ
  pub values : ℕ
  pub tick : ℕ
  pub place : ℕ

-- "Condition 0 is the lowest bit": the bits of what is heard, and of its values
abbrev pub known_bits : List Heard → ℕ
known_bits [] = 0
known_bits (unheard ∷ h) = 2 * known_bits h
known_bits (heard v ∷ h) = 1 + 2 * known_bits h

abbrev pub value_bits : List Heard → ℕ
value_bits [] = 0
value_bits (unheard ∷ h) = 2 * value_bits h
value_bits (heard v ∷ h) = (if v then 1 else 0) + 2 * value_bits h

-- "whose known bits are all heard, with the heard values at those bits": one bit, and the n lowest bits of words
abbrev pub bit_met : ℕ → ℕ → ℕ → ℕ → Bool
bit_met k v h w = eqb k 0 || (eqb h 1 && eqb v w)

unfoldable pub bits_met : ℕ → ℕ → ℕ → ℕ → ℕ → Bool
bits_met zero k v h w = true
bits_met (suc n) k v h w = bit_met (k % 2) (v % 2) (h % 2) (w % 2) && bits_met n (k / 2) (v / 2) (h / 2) (w / 2)

-- every one of the n lowest bits of a is one of b's
unfoldable pub bits_within : ℕ → ℕ → ℕ → Bool
bits_within zero a b = true
bits_within (suc n) a b = leb (a % 2) (b % 2) && bits_within n (a / 2) (b / 2)

-- an entry's column is met by what is heard
unfoldable pub column_met : List Heard → Entry → Bool
column_met h e = bits_met 32 e.known e.values (known_bits h) (value_bits h)

-- "An entry's column is everything known at its tick."
unfoldable pub entry_of : Lines → List Bool → Log → Placed → Entry
entry_of p c log x =
    let h : List Heard = known p c (over p (full_ticks p) log x.tick) in
    record { row = x.row; known = known_bits h; values = value_bits h; tick = x.tick; place = x.place }

-- "Equal entries stand once; order is row, tick, known, values." Entries equal in these four have equal places (laws),
-- so that the place decides nothing.
unfoldable pub key : Entry → List ℕ
key e = e.row ∷ e.tick ∷ e.known ∷ e.values ∷ e.place ∷ []

unfoldable pub one_of_two : Entry → Entry → Entry
one_of_two e f = f

-- the plan of each combination, and the table, row by row
pub record Planned : Type 0 where
  pub combination : List Bool
  pub state : State

unfoldable pub plans : Lines → List Planned
plans p = map (λ c. record { combination = c; state = planned p c }) (combinations p)

unfoldable pub made_entries : Lines → ℕ → Planned → List Entry
made_entries p r s = map (entry_of p s.combination s.state.log) (of_row s.state.log r)

unfoldable pub row_entries : Lines → List Planned → ℕ → List Entry
row_entries p ss r = put_all key one_of_two (each (made_entries p r) ss) []

-- "three words for each slot occurrence used in any combination: tick, node, greatest last used byte counted from 1;
-- ascending ticks".
-- One slot at most begins at a tick (laws), so that the tick tells the slot occurrence.
pub record Frame : Type 0 where
  pub tick : ℕ
  pub node : ℕ
  pub used : ℕ

unfoldable pub frame_of : Lines → Entry → Frame
frame_of p e = record { tick = e.tick; node = row_node p e.row; used = e.place + row_bytes p e.row }

unfoldable pub frame_key : Frame → List ℕ
frame_key f = f.tick ∷ []

unfoldable pub wider : Frame → Frame → Frame
wider f g = record { tick = g.tick; node = g.node; used = max f.used g.used }

unfoldable pub frames : Lines → List Entry → List Frame
frames p es = put_all frame_key wider (map (frame_of p) (keep (λ e. not (is_process p e.row)) es)) []

-- What the planner gives where nothing is refused. Document 02, point 3: "The planner now keeps a count for each
-- sending node": `passed`, in node order.
pub record Result : Type 0 where
  pub delay : ℕ
  pub passed : List ℕ
  pub entries : List Entry
  pub frames : List Frame

unfoldable pub passed_by : List Planned → ℕ → ℕ
passed_by ss n = sum (map (λ s. length (keep (eqb n) s.state.passed)) ss)

-- The old count. "The pass-over count sums, over all combinations, every slot in which a ready item of its node was not
-- taken": the slots of a combination that did so, each as often as it occurs, and how many there are in all of them.
-- "Added up they give the old count" (`pass_overs_added` in laws).
unfoldable pub passing_slots : Lines → List Bool → List Slot
passing_slots p c = each (λ t. keep (passes_over p (view p c (before p c t).log t) t) (beginning p t)) (below (bound p))

unfoldable pub pass_over_count : Lines → ℕ
pass_over_count p = sum (map (λ c. length (passing_slots p c)) (combinations p))

unfoldable pub result : Lines → Result
result p =
    let ss : List Planned = plans p in
    let es : List Entry = each (row_entries p ss) (below (rows p)) in
    record {
      delay = greatest (map (λ s. delay p (full_ticks p) s.state.log) ss);
      passed = map (passed_by ss) (below (length p.slots));
      entries = es;
      frames = frames p es;
    }

-- tables and frame lists as words, and the entries and frames of words, of which "stray last words are ignored"
abbrev pub entry_words : List Entry → List ℕ
entry_words [] = []
entry_words (e ∷ es) = e.row ∷ e.known ∷ e.values ∷ e.tick ∷ e.place ∷ entry_words es

abbrev pub frame_words : List Frame → List ℕ
frame_words [] = []
frame_words (f ∷ fs) = f.tick ∷ f.node ∷ f.used ∷ frame_words fs

abbrev pub entries_of : List ℕ → List Entry
entries_of [] = []
entries_of (a ∷ []) = []
entries_of (a ∷ b ∷ []) = []
entries_of (a ∷ b ∷ c ∷ []) = []
entries_of (a ∷ b ∷ c ∷ d ∷ []) = []
entries_of (a ∷ b ∷ c ∷ d ∷ e ∷ ws) = record { row = a; known = b; values = c; tick = d; place = e } ∷ entries_of ws

abbrev pub frames_of : List ℕ → List Frame
frames_of [] = []
frames_of (a ∷ []) = []
frames_of (a ∷ b ∷ []) = []
frames_of (a ∷ b ∷ c ∷ ws) = record { tick = a; node = b; used = c } ∷ frames_of ws

-- The planner's answer, given how many words are lent for entries and for frames: 2 to 9, then 10: "The planner's
-- entries need more words [..] than lent", then 11: "Its frames need more words than lent."
pub data Answer : Type 0 where
  turned_down : ℕ → Answer
  made : Result → Answer

unfoldable pub answered : Refusal → Result → Answer
answered nothing r = made r
answered (refused n) r = turned_down n

unfoldable pub room_refusal : Result → ℕ → ℕ → Refusal
room_refusal r words frame-room =
    sentence 10 (ltb words (length (entry_words r.entries))) (sentence 11 (ltb frame-room (length (frame_words r.frames))) nothing)

unfoldable pub plan_answer : Lines → ℕ → ℕ → Answer
plan_answer p words frame-room =
    let r : Result = result p in
    answered (or_else (plan_refusal p) (room_refusal r words frame-room)) r

-- What the lent words hold afterwards: "every lent buffer keeps its contents; an accepted call leaves words beyond its
-- output unchanged".
unfoldable pub table_after : Answer → List ℕ → List ℕ
table_after (turned_down n) lent = lent
table_after (made r) lent = front (entry_words r.entries) lent

unfoldable pub frames_after : Answer → List ℕ → List ℕ
frames_after (turned_down n) lent = lent
frames_after (made r) lent = front (frame_words r.frames) lent

unfoldable pub counts_after : Answer → List ℕ → List ℕ
counts_after (turned_down n) lent = lent
counts_after (made r) lent = front r.passed lent
