-- Document 02, point 5: windows and a query as a text, in the plan text's style. The documents fix no such text; the form
-- is ours (docs/SEASONS.md).
-- Assumes nothing.
use Rattle.std.specs.Prelude.{ℕ, ◌≡◌, true, List, [], ◌∷◌, ◌++◌}
use Prim.Native.String.{String}
use Rattle.lists.specs.Lists.{all, each}
use Rattle.model.specs.Text.{text, field, short}
use Rattle.model.specs.Listing.{refused_line}
use Rattle.model.specs.Seasons.{Day, Window, Told, tells, refuses, season_answer}

-- "One bracket form a line, single spaces, each line ended by a line feed": the query first, then the count of plans, then
-- a line for each window.
unfoldable pub ask_line : Day → ℕ → List ℕ
ask_line d minute =
    text "(ask " ++ field "month" d.month ++ text " " ++ field "day" d.day ++ text " " ++ field "minute" minute ++ text ")\n"

unfoldable pub plans_line : ℕ → List ℕ
plans_line plans = field "plans" plans ++ text "\n"

unfoldable pub day_text : String → Day → List ℕ
day_text name d = text "(" ++ text name ++ text " " ++ field "month" d.month ++ text " " ++ field "day" d.day ++ text ")"

unfoldable pub window_line : Window → List ℕ
window_line w =
    text "(window " ++ field "plan" w.plan ++ text " " ++ day_text "first" w.first_day ++ text " " ++ day_text "last" w.last_day
    ++ text " " ++ field "from" w.first_minute ++ text " " ++ field "to" w.last_minute ++ text ")\n"

-- what a text asks: the month, day and minute, how many plans are given, and the windows
pub record Season : Type 0 where
  pub day : Day
  pub minute : ℕ
  pub plans : ℕ
  pub windows : List Window

unfoldable pub season_text : Season → List ℕ
season_text s = ask_line s.day s.minute ++ plans_line s.plans ++ each window_line s.windows

-- "numbers have one to nine decimal digits"
abbrev pub day_numbers : Day → List ℕ
day_numbers d = d.month ∷ d.day ∷ []

abbrev pub window_numbers : Window → List ℕ
window_numbers w = w.plan ∷ day_numbers w.first_day ++ day_numbers w.last_day ++ (w.first_minute ∷ w.last_minute ∷ [])

unfoldable pub season_numbers : Season → List ℕ
season_numbers s = day_numbers s.day ++ (s.minute ∷ s.plans ∷ []) ++ each window_numbers s.windows

-- a text asks what prints as it
pub record Asks (bytes : List ℕ) (s : Season) : Type 0 where
  pub all_short : all short (season_numbers s) ≡ true
  pub prints : season_text s ≡ bytes

unfoldable pub season_told : Season → Told
season_told s = season_answer s.plans s.windows s.day s.minute

-- What is answered to a text. 23 is "tried before anything else of the list", so that a text that is not of the form, and
-- asks nothing, is refused 23 as well.
pub data AnswersSeason (bytes : List ℕ) : Told → Type 0 where
  asks_nothing : ((s : Season) → Asks bytes s → ⊥) → AnswersSeason bytes (refuses 23)
  asks_for : (s : Season) → Asks bytes s → AnswersSeason bytes (season_told s)

-- "The answer [..] is the plan's number", in a line of its own
unfoldable pub season_prints : Told → List ℕ
season_prints (tells n) = field "plan" n ++ text "\n"
season_prints (refuses n) = refused_line n
