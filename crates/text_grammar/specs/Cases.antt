-- Cases of the reader, computed: numbers, and texts that are of the form or not. Must-fail edits of the reader are
-- refused here.
-- Assumes nothing.
use Rattle.std.specs.Prelude.{ℕ, ◌≡◌, refl, List, [], ◌∷◌, map}
use Prim.Native.String.{String}
use Rattle.model.specs.Plan.{Lines, by_number, waits_any}
use Rattle.model.specs.Text.{text}
use Rattle.text_grammar.specs.Parse.{Parsed, none, got, number_at, Whole, no_lines, got_lines, read_lines, word_at, digit, goes_on, digits_to, number_to, field_at, closed_at, value_at, pick_at, waits_at, on_at, when_at, plan_at, slot_at, process_at, condition_at, edge_at, run_in, run_at, lines_at, to_end}

pub record NumberCase : Type 0 where
  pub bytes : String
  pub stated : Parsed ℕ

abbrev pub numbers : List NumberCase
numbers =
    record { bytes = "0)"; stated = got 0 [] }
    ∷ record { bytes = "999999999) "; stated = got 999999999 (32 ∷ []) }
    ∷ record { bytes = "1000000000)"; stated = none }
    ∷ record { bytes = "00)"; stated = none }
    ∷ record { bytes = "07)"; stated = none }
    ∷ record { bytes = ")"; stated = none }
    ∷ record { bytes = "12"; stated = none }
    ∷ []

pub record TextCase : Type 0 where
  pub bytes : String
  pub stated : Whole

-- one process that waits for any, by number; what is stated for the texts that are of the form
abbrev pub small : Lines
small =
    record {
      plan = record { byte = 1; head = 3; pick = by_number };
      slots = record { node = 0; bytes = 2 } ∷ [];
      processes = record { node = 0; ticks = 7; waits = waits_any } ∷ [];
      conditions = [];
      edges = [];
    }

abbrev pub texts : List TextCase
texts =
    record { bytes = "(plan (byte 1) (head 3) (pick number))\n(slot (node 0) (bytes 2))\n(process (node 0) (ticks 7) (waits any))\n"; stated = got_lines small }
    ∷ record { bytes = ""; stated = no_lines }
    ∷ record { bytes = "(plan (byte 1) (head 3) (pick number))\n(slot (node 0) (bytes 2))\n(process (node 0) (ticks 7) (waits any))"; stated = no_lines }
    ∷ record { bytes = "(plan (byte 1) (pick number))\n(slot (node 0) (bytes 2))\n(process (node 0) (ticks 7) (waits any))\n"; stated = no_lines }
    ∷ record { bytes = "(plan (head 3) (byte 1) (pick number))\n(slot (node 0) (bytes 2))\n(process (node 0) (ticks 7) (waits any))\n"; stated = no_lines }
    ∷ record { bytes = "(plan (byte 1) (pick number) (head 3))\n(slot (node 0) (bytes 2))\n(process (node 0) (ticks 7) (waits any))\n"; stated = no_lines }
    ∷ record { bytes = "(plan (byte 1) (head 3) (head 3) (pick number))\n(slot (node 0) (bytes 2))\n(process (node 0) (ticks 7) (waits any))\n"; stated = no_lines }
    ∷ record { bytes = "(plan (byte 1) (head 1000000000) (pick number))\n(slot (node 0) (bytes 2))\n(process (node 0) (ticks 7) (waits any))\n"; stated = no_lines }
    ∷ record { bytes = "(plan (byte 1) (head 3) (pick number))\r\n"; stated = no_lines }
    ∷ record { bytes = "(plan (byte 1) (head 3) (pick number))\n\n"; stated = no_lines }
    ∷ record { bytes = "(plan (byte 1)  (head 3) (pick number))\n"; stated = no_lines }
    ∷ record { bytes = "(plan (byte 1) (head 3) (pick number))\n(process (node 0) (ticks 7) (waits any))\n(slot (node 0) (bytes 2))\n"; stated = no_lines }
    ∷ []

pub numbers_hold : map (λ c. number_at (text c.bytes)) numbers ≡ map (λ c. c.stated) numbers
unfolding number_to digits_to digit goes_on
numbers_hold = refl

pub texts_hold : map (λ c. read_lines (text c.bytes)) texts ≡ map (λ c. c.stated) texts
unfolding read_lines to_end lines_at run_at run_in edge_at condition_at process_at slot_at plan_at when_at on_at waits_at pick_at value_at closed_at field_at number_to digits_to goes_on digit word_at
texts_hold = refl
