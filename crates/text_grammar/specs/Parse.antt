-- The plan text read from left to right, as functions on lists of bytes: what stands at the front, and the rest.
-- Assumes nothing.
use Rattle.std.specs.Prelude.{ℕ, zero, suc, ◌+◌, ◌-◌, ◌*◌, Bool, true, false, ◌&&◌, List, [], ◌∷◌, eqb, leb, ltb, length, if◌then◌else◌}
use Rattle.model.specs.Plan.{Lines, PlanLine, Pick, by_urgency, by_number, Waits, waits_all, waits_any, Slot, Process, Edge, When, always, on}
use Rattle.model.specs.Text.{text}

pub data Parsed (A : Type 0) : Type 0 where
  none : Parsed A
  got : A → List ℕ → Parsed A

-- What follows one thing, or an answer where that thing does not stand; one thing and then what follows it; one thing
-- or else another.
abbrev pub if_got : {A B : Type 0} → Parsed A → (A → List ℕ → Parsed B) → Parsed B → Parsed B
if_got none f q = q
if_got (got x r) f q = f x r

abbrev pub and_then : {A B : Type 0} → Parsed A → (A → List ℕ → Parsed B) → Parsed B
and_then none f = none
and_then (got x r) f = f x r

abbrev pub or : {A : Type 0} → Parsed A → Parsed A → Parsed A
or none q = q
or (got x r) q = got x r

-- a word
unfoldable pub word_at : List ℕ → List ℕ → Parsed (Unit {0})
word_at [] s = got tt s
word_at (c ∷ w) [] = none
word_at (c ∷ w) (b ∷ s) = if eqb b c then word_at w s else none

-- A number and the byte behind it, a bracket or a blank. The first byte is a digit; a further digit follows no zero and
-- no number of nine digits.
unfoldable pub digit : ℕ → Bool
digit b = leb 48 b && leb b 57

unfoldable pub goes_on : ℕ → ℕ → Bool
goes_on n b = digit b && (ltb 0 n && leb n 99999999)

unfoldable pub digits_to : ℕ → ℕ → List ℕ → Parsed ℕ
digits_to end n [] = none
digits_to end n (b ∷ s) = if eqb b end then got n s else if goes_on n b then digits_to end (n * 10 + (b - 48)) s else none

unfoldable pub number_to : ℕ → List ℕ → Parsed ℕ
number_to end [] = none
number_to end (b ∷ s) = if digit b then digits_to end (b - 48) s else none

-- a number and a bracket
abbrev pub number_at : List ℕ → Parsed ℕ
number_at s = number_to 41 s

-- a word and then a number; the same with a word behind it; a word that stands for a value
unfoldable pub field_at : List ℕ → List ℕ → Parsed ℕ
field_at w s = and_then (word_at w s) (λ u r. number_at r)

unfoldable pub closed_at : List ℕ → List ℕ → List ℕ → Parsed ℕ
closed_at w e s = and_then (field_at w s) (λ n r. and_then (word_at e r) (λ u q. got n q))

unfoldable pub value_at : {A : Type 0} → List ℕ → A → List ℕ → Parsed A
value_at w x s = and_then (word_at w s) (λ u r. got x r)

-- the ends of the lines that close with a choice
unfoldable pub pick_at : List ℕ → Parsed Pick
pick_at s = or (value_at (text " (pick urgency))\n") by_urgency s) (value_at (text " (pick number))\n") by_number s)

unfoldable pub waits_at : List ℕ → Parsed Waits
waits_at s = or (value_at (text " (waits all))\n") waits_all s) (value_at (text " (waits any))\n") waits_any s)

unfoldable pub on_at : Bool → List ℕ → List ℕ → Parsed When
on_at v w s = and_then (closed_at w (text "))\n") s) (λ k r. got (on v k) r)

unfoldable pub when_at : List ℕ → Parsed When
when_at s =
    or (or (value_at (text " (when always))\n") always s) (on_at true (text " (when (true ") s)) (on_at false (text " (when (false ") s)

-- the lines
unfoldable pub plan_at : List ℕ → Parsed PlanLine
plan_at s =
    and_then (field_at (text "(plan (byte ") s) (λ n r. and_then (field_at (text " (head ") r) (λ h q.
    and_then (pick_at q) (λ k o. got (record { byte = n; head = h; pick = k }) o)))

unfoldable pub slot_at : List ℕ → Parsed Slot
slot_at s =
    and_then (field_at (text "(slot (node ") s) (λ n r. and_then (closed_at (text " (bytes ") (text ")\n") r) (λ b q. got (record { node = n; bytes = b }) q))

unfoldable pub process_at : List ℕ → Parsed Process
process_at s =
    and_then (field_at (text "(process (node ") s) (λ n r. and_then (field_at (text " (ticks ") r) (λ t q.
    and_then (waits_at q) (λ w o. got (record { node = n; ticks = t; waits = w }) o)))

unfoldable pub condition_at : List ℕ → Parsed ℕ
condition_at s = closed_at (text "(condition (process ") (text ")\n") s

unfoldable pub edge_at : List ℕ → Parsed Edge
edge_at s =
    and_then (field_at (text "(edge (from ") s) (λ f r. and_then (field_at (text " (to ") r) (λ t q. and_then (field_at (text " (bytes ") q) (λ b o.
    and_then (when_at o) (λ w m. got (record { from = f; to = t; bytes = b; when = w }) m))))

-- As many lines of one kind as follow. The first number bounds them; the length of the text is more than enough.
unfoldable pub run_in : {A : Type 0} → (List ℕ → Parsed A) → ℕ → List ℕ → Parsed (List A)
run_in line_at_lem zero s = got [] s
run_in line_at_lem (suc n) s = if_got (line_at_lem s) (λ x r. and_then (run_in line_at_lem n r) (λ xs q. got (x ∷ xs) q)) (got [] s)

unfoldable pub run_at : {A : Type 0} → (List ℕ → Parsed A) → List ℕ → Parsed (List A)
run_at line_at_lem s = run_in line_at_lem (length s) s

-- the whole text: the plan line, the runs in their order, and nothing behind them
unfoldable pub lines_at : List ℕ → Parsed Lines
lines_at s =
    and_then (plan_at s) (λ l r. and_then (run_at slot_at r) (λ ss q. and_then (run_at process_at q) (λ qs o.
    and_then (run_at condition_at o) (λ cs m. and_then (run_at edge_at m) (λ es k.
    got (record { plan = l; slots = ss; processes = qs; conditions = cs; edges = es }) k)))))

pub data Whole : Type 0 where
  no_lines : Whole
  got_lines : Lines → Whole

unfoldable pub to_end : Parsed Lines → Whole
to_end none = no_lines
to_end (got p []) = got_lines p
to_end (got p (b ∷ s)) = no_lines

unfoldable pub read_lines : List ℕ → Whole
read_lines s = to_end (lines_at s)
