-- Document 01, "The plan text": the printed form of a plan, what a text means, and the answers of reader and plan
-- writer.
-- Assumes nothing.
use Rattle.std.specs.Prelude.{ℕ, zero, suc, ◌+◌, ◌/◌, ◌%◌, ◌≤◌, ◌<◌, ◌≡◌, Bool, true, false, List, [], ◌∷◌, ◌++◌, ltb, length}
use Prim.Native.String.{String}
use Prim.Native.Char.{code}
use Rattle.lists.specs.Lists.{all, each}
use Rattle.lists.specs.Front.{front}
use Rattle.model.specs.Plan.{Lines, PlanLine, Pick, by_urgency, by_number, Waits, waits_all, waits_any, Slot, Process, Edge, When, always, on}
use Rattle.model.specs.Refusals.{Refusal, nothing, refused, sentence, or_else, plan_refusal}

-- the bytes of a text
abbrev pub text : String → List ℕ
text String.[] = []
text (String.◌∷◌ c s) = code c ∷ text s

-- "decimal digits and no needless leading zero". The first number bounds the digits; n itself is more than enough.
unfoldable pub digits : ℕ → ℕ → List ℕ
digits zero n = (48 + n) ∷ []
digits (suc more) n = elim (ltb n 10) [ true ↦ (48 + n) ∷ [] | false ↦ digits more (n / 10) ++ ((48 + n % 10) ∷ []) ]

unfoldable pub decimal : ℕ → List ℕ
decimal n = digits n n

-- `(name n)`
unfoldable pub field : String → ℕ → List ℕ
field name n = text "(" ++ text name ++ text " " ++ decimal n ++ text ")"

unfoldable pub pick_text : Pick → List ℕ
pick_text by_urgency = text "(pick urgency)"
pick_text by_number = text "(pick number)"

unfoldable pub waits_text : Waits → List ℕ
waits_text waits_all = text "(waits all)"
waits_text waits_any = text "(waits any)"

unfoldable pub when_text : When → List ℕ
when_text always = text "always"
when_text (on true k) = field "true" k
when_text (on false k) = field "false" k

-- "One bracket form a line, single spaces, each line ended by a line feed".
unfoldable pub slot_line : Slot → List ℕ
slot_line s = text "(slot " ++ field "node" s.node ++ text " " ++ field "bytes" s.bytes ++ text ")\n"

unfoldable pub process_line : Process → List ℕ
process_line q = text "(process " ++ field "node" q.node ++ text " " ++ field "ticks" q.ticks ++ text " " ++ waits_text q.waits ++ text ")\n"

unfoldable pub condition_line : ℕ → List ℕ
condition_line i = text "(condition " ++ field "process" i ++ text ")\n"

unfoldable pub edge_line : Edge → List ℕ
edge_line e =
    text "(edge " ++ field "from" e.from ++ text " " ++ field "to" e.to ++ text " " ++ field "bytes" e.bytes
    ++ text " (when " ++ when_text e.when ++ text "))\n"

-- Document 02, point 1: "The plan line gains `(head 0)`, .. after byte".
unfoldable pub plan_line : PlanLine → List ℕ
plan_line l =
    text "(plan " ++ field "byte" l.byte ++ text " " ++ field "head" l.head ++ text " " ++ pick_text l.pick
    ++ text ")\n"

-- the plan line as document 01 has it: "A plan text without a part that this or a later point adds is no longer of the
-- form"
abbrev pub headless_line : ℕ → Pick → List ℕ
headless_line byte pick = text "(plan " ++ field "byte" byte ++ text " " ++ pick_text pick ++ text ")\n"

-- "Line kinds stand in the order of this example".
unfoldable pub print : Lines → List ℕ
print p =
    plan_line p.plan ++ each slot_line p.slots ++ each process_line p.processes ++ each condition_line p.conditions ++ each edge_line p.edges

-- "numbers have one to nine decimal digits": all the numbers of some lines
unfoldable pub short : ℕ → Bool
short n = ltb n 1000000000

unfoldable pub when_numbers : When → List ℕ
when_numbers always = []
when_numbers (on v k) = k ∷ []

abbrev pub plan_numbers : PlanLine → List ℕ
plan_numbers l = l.byte ∷ l.head ∷ []

abbrev pub slot_numbers : Slot → List ℕ
slot_numbers s = s.node ∷ s.bytes ∷ []

abbrev pub process_numbers : Process → List ℕ
process_numbers q = q.node ∷ q.ticks ∷ []

abbrev pub condition_numbers : ℕ → List ℕ
condition_numbers i = i ∷ []

abbrev pub edge_numbers : Edge → List ℕ
edge_numbers e = e.from ∷ e.to ∷ e.bytes ∷ when_numbers e.when

unfoldable pub numbers : Lines → List ℕ
numbers p =
    plan_numbers p.plan
    ++ each slot_numbers p.slots
    ++ each process_numbers p.processes
    ++ each condition_numbers p.conditions
    ++ each edge_numbers p.edges

-- "A plan text means what its printed form says": a text means the lines that print as it.
pub record Means (bytes : List ℕ) (p : Lines) : Type 0 where
  pub all_short : all short (numbers p) ≡ true
  pub prints : print p ≡ bytes

-- What the reader answers: the lines that the text means, or a refusal. 1: "The text exceeds 16,384 bytes or is not of
-- the form above"; 2 to 9: the lines that it means break that sentence first.
pub data Reading : Type 0 where
  reads : Lines → Reading
  not_read : ℕ → Reading

unfoldable pub after_refusal : Refusal → Lines → Reading
after_refusal nothing p = reads p
after_refusal (refused n) p = not_read n

pub data AnswersText (bytes : List ℕ) : Reading → Type 0 where
  too_long : 16384 < length bytes → AnswersText bytes (not_read 1)
  of_no_form : ((p : Lines) → Means bytes p → ⊥) → AnswersText bytes (not_read 1)
  of_form : (p : Lines) → Means bytes p → length bytes ≤ 16384 → AnswersText bytes (after_refusal (plan_refusal p) p)

-- What a writer of bytes answers, given how many bytes are lent: the bytes, or a refusal; 10: "a written text [needs]
-- more bytes, than lent". And what the lent bytes hold afterwards.
pub data Written : Type 0 where
  wrote : List ℕ → Written
  not_written : ℕ → Written

unfoldable pub unless_refused : Refusal → List ℕ → Written
unless_refused nothing bytes = wrote bytes
unless_refused (refused n) bytes = not_written n

unfoldable pub fitting : ℕ → List ℕ → Refusal
fitting lent bytes = sentence 10 (ltb lent (length bytes)) nothing

unfoldable pub write_plan : Lines → ℕ → Written
write_plan p lent = unless_refused (or_else (plan_refusal p) (fitting lent (print p))) (print p)

unfoldable pub bytes_after : Written → List ℕ → List ℕ
bytes_after (not_written n) lent = lent
bytes_after (wrote bytes) lent = front bytes lent
