-- Document 02, point 5, "Winter and summer plans": windows, and which plan applies to a month, a day and a minute.
-- Assumes nothing.
use Rattle.std.specs.Prelude.{ℕ, ◌+◌, ◌-◌, ◌*◌, Bool, ◌&&◌, ◌||◌, List, [], ◌∷◌, map, eqb, leb, ltb, length, get_or, if◌then◌else◌}
use Rattle.lists.specs.Lists.{any, first}
use Rattle.model.specs.Refusals.{Refusal, nothing, refused, sentence, outside}

-- "first and last day as month and day"
pub record Day : Type 0 where
  pub month : ℕ
  pub day : ℕ

-- "A list of at most 8 windows names a plan each, by its number [..]: first and last day [..], both included, and a span
-- of minutes of the day, first included, last excluded"
pub record Window : Type 0 where
  pub plan : ℕ
  pub first_day : Day
  pub last_day : Day
  pub first_minute : ℕ
  pub last_minute : ℕ

-- "Months have at most 31, 29, 31 and so on days."
unfoldable pub days_in : ℕ → ℕ
days_in month = get_or (0 ∷ 31 ∷ 29 ∷ 31 ∷ 30 ∷ 31 ∷ 30 ∷ 31 ∷ 31 ∷ 30 ∷ 31 ∷ 30 ∷ 31 ∷ []) month 0

-- "a month outside 1 to 12, a day its month has not"
unfoldable pub no_day : Day → Bool
no_day d = outside 1 12 d.month || outside 1 (days_in d.month) d.day

-- a day's place in the year, by month and then by day: 4 May is 504
unfoldable pub in_year : Day → ℕ
in_year d = 100 * d.month + d.day

-- "first and last day [..], both included", and "A window whose last day comes before its first runs over New Year"
unfoldable pub has_day : Window → Day → Bool
has_day w d =
    let a : ℕ = in_year w.first_day in
    let b : ℕ = in_year w.last_day in
    if leb a b then leb a (in_year d) && leb (in_year d) b else leb a (in_year d) || leb (in_year d) b

-- "a span of minutes of the day, first included, last excluded"; "its minutes do not run over midnight"
unfoldable pub has_minute : Window → ℕ → Bool
has_minute w minute = leb w.first_minute minute && ltb minute w.last_minute

unfoldable pub window_applies : Day → ℕ → Window → Bool
window_applies d minute w = has_day w d && has_minute w minute

-- "Earlier windows go first, and plan 0 applies where none does."
unfoldable pub plan_for : List Window → Day → ℕ → ℕ
plan_for ws d minute = get_or (map (λ w. w.plan) (first (window_applies d minute) ws)) 0 0

-- 23, of a window: "a month outside 1 to 12, a day its month has not, a span whose first minute is not below its last or
-- whose last exceeds 1,440, [..] or a named plan not given"
unfoldable pub wrong_window : ℕ → Window → Bool
wrong_window plans w =
    no_day w.first_day || no_day w.last_day || leb w.last_minute w.first_minute || ltb 1440 w.last_minute || leb plans w.plan

-- 23, of all windows: "over 8 windows, [..] plan 0 or a named plan not given"
unfoldable pub wrong_windows : ℕ → List Window → Bool
wrong_windows plans ws = ltb 8 (length ws) || eqb plans 0 || any (wrong_window plans) ws

-- 23: "a query with such a month or day, a minute above 1,439"
unfoldable pub wrong_query : Day → ℕ → Bool
wrong_query d minute = no_day d || ltb 1439 minute

-- What is answered where a number is asked for: the number, or a refusal.
pub data Told : Type 0 where
  tells : ℕ → Told
  refuses : ℕ → Told

unfoldable pub told_unless : Refusal → ℕ → Told
told_unless nothing n = tells n
told_unless (refused r) n = refuses r

-- "The answer to a month, day and minute is the plan's number."
unfoldable pub season_answer : ℕ → List Window → Day → ℕ → Told
season_answer plans ws d minute = told_unless (sentence 23 (wrong_windows plans ws || wrong_query d minute) nothing) (plan_for ws d minute)

-- Windows as numbers in memory, seven to a window: plan, month and day of the first day, month and day of the last, first
-- and last minute. Stray last numbers, which make no window, are ignored.
abbrev pub windows_of : List ℕ → List Window
windows_of (plan ∷ month ∷ day ∷ last-month ∷ last_day ∷ from ∷ to ∷ rest) =
    record {
      plan = plan;
      first_day = record { month = month; day = day };
      last_day = record { month = last-month; day = last_day };
      first_minute = from;
      last_minute = to;
    } ∷ windows_of rest
windows_of [] = []
windows_of (a ∷ []) = []
windows_of (a ∷ b ∷ []) = []
windows_of (a ∷ b ∷ c ∷ []) = []
windows_of (a ∷ b ∷ c ∷ d ∷ []) = []
windows_of (a ∷ b ∷ c ∷ d ∷ e ∷ []) = []
windows_of (a ∷ b ∷ c ∷ d ∷ e ∷ f ∷ []) = []

-- The 64-bit number in which C is answered: the number that is told, or refusal n as 2^64 - 1 less n.
unfoldable pub told_number : Told → ℕ
told_number (tells n) = n
told_number (refuses n) = 18446744073709551615 - n
