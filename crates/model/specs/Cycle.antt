-- Document 02, point 5, "Winter and summer plans": the cycle of an accepted table, when a change takes effect, and the runs
-- that begin one after another.
-- Assumes nothing.
use Rattle.std.specs.Prelude.{ℕ, ◌+◌, ◌-◌, ◌*◌, ◌%◌, ◌≤◌, ◌<◌, max, ◌≡◌, eqb, ltb, length, get_or, if◌then◌else◌}
use mathlib.Core.List.{List, ◌++◌, map, Memᴰ as In}
use Rattle.lists.specs.Lists.{greatest}
use Rattle.model.specs.Plan.{Lines}
use Rattle.model.specs.Bus.{round, is_process, transit}
use Rattle.model.specs.Log.{Placed, Log}
use Rattle.model.specs.Refusals.{Refusal, nothing, refused, sentence, plan_refusal}
use Rattle.model.specs.Table.{Entry, Result, entries_of, entry_words}
use Rattle.model.specs.Checking.{check}
use Rattle.model.specs.Text.{Reading, reads, not_read, AnswersText, text, field}
use Rattle.model.specs.Listing.{refused_line}
use Rattle.model.specs.ListingText.{States, stated_refusal, ChecksTexts, plan_part, listing_part}
use Rattle.model.specs.Firmware.{words_of}
use Rattle.model.specs.Demand.{Starts}
use Rattle.model.specs.Seasons.{Told, told_unless, told_number}

-- the first multiple of n at or after t
unfoldable pub first_multiple : ℕ → ℕ → ℕ
first_multiple n t = let past : ℕ = t % n in if eqb past 0 then t else (t - past) + n

-- "the end of that table's last used slot": an item's slot ends when the item arrives; 0 if the table has no items
unfoldable pub slot_end : Lines → Entry → ℕ
slot_end p e = if is_process p e.row then 0 else e.tick + transit p e.row

unfoldable pub last_slot_end : Lines → List Entry → ℕ
last_slot_end p es = greatest (map (slot_end p) es)

-- "the cycle being the smallest multiple of the round not below the stated delay of the accepted table that the running
-- plan is run by, nor the end of that table's last used slot"
unfoldable pub cycle : Lines → List ℕ → ℕ → ℕ
cycle p words stated = first_multiple (round p) (max stated (last_slot_end p (entries_of words)))

-- "A change wanted at a tick of the running plan takes effect at the first multiple of the cycle at or after it"
unfoldable pub effect : Lines → List ℕ → ℕ → ℕ → ℕ
effect p words stated wanted = first_multiple (cycle p words stated) wanted

-- the cycle of a table; "a table the checker refuses gets that refusal"
unfoldable pub cycle_answer : Lines → List ℕ → ℕ → Told
cycle_answer p words stated = told_unless (check p words stated) (cycle p words stated)

-- 23: "a tick above 999,999,999; tried before anything else of the list"
abbrev pub late : ℕ → Refusal → Refusal
late wanted next = sentence 23 (ltb 999999999 wanted) next

-- when a change takes effect
unfoldable pub change_answer : Lines → List ℕ → ℕ → ℕ → Told
change_answer p words stated wanted = told_unless (late wanted (check p words stated)) (effect p words stated wanted)

-- The same from C, for a plan text and a table's bytes: 1 to 9 of the text, and 23 before them.
unfoldable pub cycle_in : Reading → List ℕ → ℕ → Told
cycle_in (not_read n) words stated = told_unless (refused n) 0
cycle_in (reads p) words stated = cycle_answer p words stated

unfoldable pub change_in : Reading → List ℕ → ℕ → ℕ → Told
change_in (not_read n) words stated wanted = told_unless (late wanted (refused n)) 0
change_in (reads p) words stated wanted = change_answer p words stated wanted

pub record AnswersCycle (plan table : List ℕ) (stated answer : ℕ) : Type 0 where
  pub reading : Reading
  pub of_text : AnswersText plan reading
  pub is_told : answer ≡ told_number (cycle_in reading (words_of table) stated)

pub record AnswersChange (plan table : List ℕ) (stated wanted answer : ℕ) : Type 0 where
  pub reading : Reading
  pub of_text : AnswersText plan reading
  pub is_told : answer ≡ told_number (change_in reading (words_of table) stated wanted)

-- The same for a printed listing, as point 2 checks it: the cycle and the tick at which the change takes effect, or the
-- refusal.
pub data Changed : Type 0 where
  changes : (cycle at : ℕ) → Changed
  no_change : ℕ → Changed

pub data ChangesTexts (plan listing : List ℕ) (wanted : ℕ) : Changed → Type 0 where
  not_accepted : (n : ℕ) → ChecksTexts plan listing (refused n) → ChangesTexts plan listing wanted (no_change n)
  accepted : (p : Lines) (r : Result) → AnswersText plan (reads p) → plan_refusal p ≡ nothing → States p listing r → stated_refusal p r ≡ nothing →
      ChangesTexts plan listing wanted
      (changes (cycle p (entry_words r.entries) r.delay) (effect p (entry_words r.entries) r.delay wanted))

-- The input of the program: the tick in a line of its own, then a plan up to the first empty line, then a listing. The
-- documents fix no such line; the form is ours (docs/SEASONS.md).
unfoldable pub tick_line : ℕ → List ℕ
tick_line wanted = field "tick" wanted ++ text "\n"

pub record Wants (input : List ℕ) (wanted : ℕ) (rest : List ℕ) : Type 0 where
  pub small : wanted ≤ 999999999
  pub prints : tick_line wanted ++ rest ≡ input

-- An input that does not begin with a tick up to 999,999,999 is refused 23, "tried before anything else of the list".
pub data ChangesInput (input : List ℕ) : Changed → Type 0 where
  wants_nothing : ((wanted : ℕ) (rest : List ℕ) → Wants input wanted rest → ⊥) → ChangesInput input (no_change 23)
  wants_change : (wanted : ℕ) (rest : List ℕ) (x : Changed) → Wants input wanted rest → ChangesTexts (plan_part rest) (listing_part rest) wanted x →
      ChangesInput input x

unfoldable pub change_prints : Changed → List ℕ
change_prints (changes cycle at) = text "(change " ++ field "at" at ++ text " " ++ field "cycle" cycle ++ text ")\n"
change_prints (no_change n) = refused_line n

-- What units are run by: a plan, the words of its table, and the delay stated for it.
pub record Setting : Type 0 where
  pub plan : Lines
  pub words : List ℕ
  pub stated : ℕ

abbrev pub cycle_of : Setting → ℕ
cycle_of s = cycle s.plan s.words s.stated

abbrev pub effect_of : Setting → ℕ → ℕ
effect_of s wanted = effect s.plan s.words s.stated wanted

-- "At each multiple a run of one plan begins": with a change from one setting to the next wanted at a tick, which runs
-- begin, and when. Ticks count from tick 0 of the running plan. Until the change takes effect, the running plan's runs
-- begin at the multiples of its cycle; from then on the next plan's, at the multiples of that cycle counted from there.
pub data RunBegins (running next : Setting) (wanted : ℕ) : Setting → ℕ → Type 0 where
  before_effect : (k : ℕ) → k * cycle_of running < effect_of running wanted → RunBegins running next wanted running (k * cycle_of running)
  from_effect : (k : ℕ) → RunBegins running next wanted next (effect_of running wanted + k * cycle_of next)

-- "every process a run starts has ended and every item it sends has arrived" by a tick, where the run begins at another
pub record AllOver (p : Lines) (times : List ℕ) (log : Log) (begun by : ℕ) : Type 0 where
  pub ended : (i s : ℕ) → Starts p log i s → begun + (s + get_or times i 0) ≤ by
  pub arrived : (x : Placed) → In x log → length p.processes ≤ x.row → begun + (x.tick + transit p x.row) ≤ by
