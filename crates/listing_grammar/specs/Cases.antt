-- What the program that checks a printed table answers, as a function on the whole input, and cases of it, computed. 0
-- is `(accepted)`.
-- Assumes nothing.
use Rattle.std.specs.Prelude.{ℕ, ◌≡◌, refl, true, false, List, [], ◌∷◌, ◌++◌, map, ltb, length}
use Prim.Native.String.{String}
use Rattle.lists.specs.Lists.{each}
use Rattle.model.specs.Plan.{Lines, by_urgency}
use Rattle.model.specs.Refusals.{Refusal, nothing, refused, plan_refusal}
use Rattle.model.specs.Text.{text, plan_line, print}
use Rattle.model.specs.ListingText.{stated_refusal, plan_part, listing_part}
use Rattle.model.specs.Cases.{S, line, refusal_number}
use Rattle.model.specs.Open.{computing}
use Rattle.text_grammar.specs.Parse.{Whole, no_lines, got_lines, read_lines, word_at, digit, goes_on, digits_to, number_to, field_at, closed_at, value_at, pick_at, waits_at, on_at, when_at, plan_at, slot_at, process_at, condition_at, edge_at, run_in, run_at, lines_at}
use Rattle.text_grammar.specs.Parse as plan
use Rattle.listing_grammar.specs.Parse.{Read, no_reading, read, read_listing, name_at, column_from, column_at, numbered_at, start_at, item_at, entry_at, frame_at, count_at, passed_at, listing_at, in_form, to_end}

unfoldable pub answer_listing : Lines → Read → Refusal
answer_listing p no_reading = refused 21
answer_listing p (read r) = stated_refusal p r

unfoldable pub answer_plan : Whole → List ℕ → Refusal
answer_plan no_lines s = refused 1
answer_plan (got_lines p) s =
    elim (plan_refusal p) [
      | nothing ↦ answer_listing p (read_listing (length p.slots) (length p.processes) (length p.edges) (length p.conditions) s)
      | refused n ↦ refused n
    ]

unfoldable pub check_input : List ℕ → Refusal
check_input input =
    elim (ltb 16384 (length (plan_part input))) [ true ↦ refused 1 | false ↦ answer_plan (read_lines (plan_part input)) (listing_part input) ]

pub record Case : Type 0 where
  pub listing : List String
  pub stated : ℕ

abbrev pub case : List String → ℕ → Case
case l n = record { listing = l; stated = n }

-- S's listing: its head, its starts up to 2, the two of 3, its items, its frames
abbrev pub head : String
head = "(delay 34)\n(passed (node 0) 0)\n(passed (node 1) 0)\n"

abbrev pub starts : String
starts = "(start 0 (when) (at 0))\n(start 1 (when (true 0)) (at 20))\n(start 2 (when (false 0)) (at 12))\n"

abbrev pub false_3 : String
false_3 = "(start 3 (when (false 0)) (at 17))\n"

abbrev pub true_3 : String
true_3 = "(start 3 (when (true 0)) (at 32))\n"

abbrev pub items : String
items = "(send 0 (when (true 0)) (at 16) (place 0))\n(send 2 (when (true 0)) (at 28) (place 0))\n(tell 0 (when) (at 8) (place 0))\n"

abbrev pub frame_8 : String
frame_8 = "(frame 8 (node 0) (bytes 1))\n"

abbrev pub frame_16 : String
frame_16 = "(frame 16 (node 0) (bytes 1))\n"

abbrev pub frame_28 : String
frame_28 = "(frame 28 (node 1) (bytes 2))\n"

-- listings behind S and an empty line
abbrev pub listings : List Case
listings =
    case (head ∷ starts ∷ false_3 ∷ true_3 ∷ items ∷ frame_8 ∷ frame_16 ∷ frame_28 ∷ []) 0
    -- within a row in any order
    ∷ case (head ∷ starts ∷ true_3 ∷ false_3 ∷ items ∷ frame_8 ∷ frame_16 ∷ frame_28 ∷ []) 0
    -- moved on by a round: the passed lines are the plan's
    ∷ case ("(delay 42)\n(passed (node 0) 0)\n(passed (node 1) 0)\n(start 0 (when) (at 8))\n(start 1 (when (true 0)) (at 28))\n(start 2 (when (false 0)) (at 20))\n(start 3 (when (false 0)) (at 25))\n(start 3 (when (true 0)) (at 40))\n(send 0 (when (true 0)) (at 24) (place 0))\n(send 2 (when (true 0)) (at 36) (place 0))\n(tell 0 (when) (at 16) (place 0))\n(frame 16 (node 0) (bytes 1))\n(frame 24 (node 0) (bytes 1))\n(frame 36 (node 1) (bytes 2))\n" ∷ []) 0
    -- nothing at all; head alone; a line too many; an empty line behind
    ∷ case [] 21
    ∷ case ("(delay 0)\n(passed (node 0) 0)\n(passed (node 1) 0)\n" ∷ []) 14
    ∷ case (head ∷ starts ∷ false_3 ∷ true_3 ∷ items ∷ frame_8 ∷ frame_16 ∷ frame_28 ∷ "x" ∷ []) 21
    ∷ case (head ∷ starts ∷ false_3 ∷ true_3 ∷ items ∷ frame_8 ∷ frame_16 ∷ frame_28 ∷ "\n" ∷ []) 21
    -- rows out of order, kinds out of order
    ∷ case (head ∷ false_3 ∷ true_3 ∷ starts ∷ items ∷ frame_8 ∷ frame_16 ∷ frame_28 ∷ []) 21
    ∷ case (head ∷ items ∷ starts ∷ false_3 ∷ true_3 ∷ frame_8 ∷ frame_16 ∷ frame_28 ∷ []) 21
    ∷ case (head ∷ starts ∷ false_3 ∷ true_3 ∷ frame_8 ∷ frame_16 ∷ frame_28 ∷ items ∷ []) 21
    -- frames out of order, doubled, missing; another count; 20 before 22
    ∷ case (head ∷ starts ∷ false_3 ∷ true_3 ∷ items ∷ frame_16 ∷ frame_8 ∷ frame_28 ∷ []) 22
    ∷ case (head ∷ starts ∷ false_3 ∷ true_3 ∷ items ∷ frame_8 ∷ frame_8 ∷ frame_16 ∷ frame_28 ∷ []) 22
    ∷ case (head ∷ starts ∷ false_3 ∷ true_3 ∷ items ∷ frame_8 ∷ frame_16 ∷ []) 22
    ∷ case ("(delay 34)\n(passed (node 0) 1)\n(passed (node 1) 0)\n" ∷ starts ∷ false_3 ∷ true_3 ∷ items ∷ frame_8 ∷ frame_16 ∷ frame_28 ∷ []) 22
    ∷ case ("(delay 33)\n(passed (node 0) 1)\n(passed (node 1) 0)\n" ∷ starts ∷ false_3 ∷ true_3 ∷ items ∷ frame_8 ∷ frame_16 ∷ []) 20
    -- the count of the other node: 22; the old line, another order, another node, one line too few, one too many
    ∷ case ("(delay 34)\n(passed (node 0) 0)\n(passed (node 1) 1)\n" ∷ starts ∷ false_3 ∷ true_3 ∷ items ∷ frame_8 ∷ frame_16 ∷ frame_28 ∷ []) 22
    ∷ case ("(delay 34)\n(passed 0)\n" ∷ starts ∷ false_3 ∷ true_3 ∷ items ∷ frame_8 ∷ frame_16 ∷ frame_28 ∷ []) 21
    ∷ case ("(delay 34)\n(passed (node 1) 0)\n(passed (node 0) 0)\n" ∷ starts ∷ false_3 ∷ true_3 ∷ items ∷ frame_8 ∷ frame_16 ∷ frame_28 ∷ []) 21
    ∷ case ("(delay 34)\n(passed (node 0) 0)\n(passed (node 2) 0)\n" ∷ starts ∷ false_3 ∷ true_3 ∷ items ∷ frame_8 ∷ frame_16 ∷ frame_28 ∷ []) 21
    ∷ case ("(delay 34)\n(passed (node 0) 0)\n" ∷ starts ∷ false_3 ∷ true_3 ∷ items ∷ frame_8 ∷ frame_16 ∷ frame_28 ∷ []) 21
    ∷ case ("(delay 34)\n(passed (node 0) 0)\n(passed (node 1) 0)\n(passed (node 2) 0)\n" ∷ starts ∷ false_3 ∷ true_3 ∷ items ∷ frame_8 ∷ frame_16 ∷ frame_28 ∷ []) 21
    -- a local edge and a place of 64 are of the form: 13
    ∷ case (head ∷ starts ∷ false_3 ∷ true_3 ∷ "(send 0 (when (true 0)) (at 16) (place 0))\n(send 1 (when (false 0)) (at 16) (place 0))\n(send 2 (when (true 0)) (at 28) (place 0))\n(tell 0 (when) (at 8) (place 0))\n" ∷ []) 13
    ∷ case (head ∷ "(send 0 (when) (at 0) (place 64))\n" ∷ []) 13
    -- numbers and conditions that the plan lacks, a condition twice, a start with a place, ten digits, a leading zero
    ∷ case (head ∷ "(start 4 (when) (at 0))\n" ∷ []) 21
    ∷ case (head ∷ "(start 0 (when (true 1)) (at 0))\n" ∷ []) 21
    ∷ case (head ∷ "(start 0 (when (true 0) (true 0)) (at 0))\n" ∷ []) 21
    ∷ case (head ∷ "(start 0 (when) (at 0) (place 0))\n" ∷ []) 21
    ∷ case ("(delay 1000000000)\n(passed (node 0) 0)\n(passed (node 1) 0)\n" ∷ []) 21
    ∷ case ("(delay 034)\n(passed (node 0) 0)\n(passed (node 1) 0)\n" ∷ []) 21
    ∷ []

abbrev pub input : List String → List ℕ
input l = print S ++ (10 ∷ each text l)

pub listings_hold : map (λ c. refusal_number (check_input (input c.listing))) listings ≡ map (λ c. c.stated) listings
unfolding check_input answer_plan answer_listing read_listing to_end in_form listing_at passed_at count_at frame_at entry_at item_at start_at numbered_at column_at column_from name_at read_lines plan.to_end lines_at run_at run_in edge_at condition_at process_at slot_at plan_at when_at on_at waits_at pick_at value_at closed_at field_at number_to digits_to goes_on digit word_at computing
listings_hold = refl

-- whole inputs: no empty line, an empty first line, an empty plan, a plan that is refused before its listing
pub record InputCase : Type 0 where
  pub bytes : List ℕ
  pub stated : ℕ

abbrev pub inputs : List InputCase
inputs =
    record { bytes = print S; stated = 21 }
    ∷ record { bytes = []; stated = 1 }
    ∷ record { bytes = 10 ∷ print S; stated = 1 }
    ∷ record { bytes = plan_line (line 2 by_urgency) ++ text "\nx"; stated = 2 }
    ∷ record { bytes = plan_line (line 2 by_urgency) ++ text "x\n\n"; stated = 1 }
    ∷ []

pub inputs_hold : map (λ c. refusal_number (check_input c.bytes)) inputs ≡ map (λ c. c.stated) inputs
unfolding check_input answer_plan answer_listing read_listing to_end in_form listing_at passed_at count_at frame_at entry_at item_at start_at numbered_at column_at column_from name_at read_lines plan.to_end lines_at run_at run_in edge_at condition_at process_at slot_at plan_at when_at on_at waits_at pick_at value_at closed_at field_at number_to digits_to goes_on digit word_at computing
inputs_hold = refl
