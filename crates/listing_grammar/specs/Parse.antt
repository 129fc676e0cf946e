-- A listing text read from left to right, as functions on lists of bytes, by how many slots, processes, edges and
-- conditions the plan has.
-- Assumes nothing.
use Rattle.std.specs.Prelude.{ℕ, zero, suc, ◌+◌, ◌*◌, Bool, ◌&&◌, List, [], ◌∷◌, eqb, leb, ltb, length, if◌then◌else◌}
use Rattle.model.specs.Text.{text}
use Rattle.model.specs.Table.{Entry, Frame, Result}
use Rattle.model.specs.ListingText.{rows_in_order}
use Rattle.text_grammar.specs.Parse.{Parsed, none, got, if_got, and_then, or, word_at, number_to, field_at, closed_at, value_at, run_at}

-- the bits of a column: known conditions, and their values
pub record Column : Type 0 where
  pub known : ℕ
  pub values : ℕ

abbrev pub no_column : Column
no_column = record { known = 0; values = 0 }

-- a condition in front of those behind it: not named, false, true
abbrev pub unnamed : Column → Column
unnamed c = record { known = 2 * c.known; values = 2 * c.values }

abbrev pub named : ℕ → Column → Column
named v c = record { known = 1 + 2 * c.known; values = v + 2 * c.values }

-- condition k named, with its value
unfoldable pub name_at : ℕ → List ℕ → Parsed ℕ
name_at k s =
    if_got (field_at (text " (true ") s) (λ n r. if eqb n k then got 1 r else none)
    (and_then (field_at (text " (false ") s) (λ n r. if eqb n k then got 0 r else none))

-- The n conditions from k on and the bracket behind them: each is named or not, so that those named ascend.
unfoldable pub column_from : ℕ → ℕ → List ℕ → Parsed Column
column_from k zero s = value_at (text ")") no_column s
column_from k (suc n) s =
    elim (name_at k s) [
      | none ↦ and_then (column_from (suc k) n s) (λ c r. got (unnamed c) r)
      | got v q ↦ and_then (column_from (suc k) n q) (λ c r. got (named v c) r)
    ]

unfoldable pub column_at : ℕ → List ℕ → Parsed Column
column_at n s = and_then (word_at (text "(when") s) (λ u r. column_from 0 n r)

-- a word, a number and a blank
unfoldable pub numbered_at : List ℕ → List ℕ → Parsed ℕ
numbered_at w s = and_then (word_at w s) (λ u r. number_to 32 r)

-- a line of an entry: of a process; of an edge or a condition, whose rows begin at `base`
abbrev pub made_entry : ℕ → Column → ℕ → ℕ → Entry
made_entry row c tick place = record { row = row; known = c.known; values = c.values; tick = tick; place = place }

unfoldable pub start_at : ℕ → ℕ → List ℕ → Parsed Entry
start_at count conditions s =
    and_then (numbered_at (text "(start ") s) (λ i r. if ltb i count then (and_then (column_at conditions r) (λ c q.
    and_then (closed_at (text " (at ") (text ")\n") q) (λ t o. got (made_entry i c t 0) o))) else none)

unfoldable pub item_at : List ℕ → ℕ → ℕ → ℕ → List ℕ → Parsed Entry
item_at w base count conditions s =
    and_then (numbered_at w s) (λ i r. if ltb i count then (and_then (column_at conditions r) (λ c q. and_then (field_at (text " (at ") q) (λ t o.
    and_then (closed_at (text " (place ") (text ")\n") o) (λ l m. got (made_entry (base + i) c t l) m)))) else none)

unfoldable pub entry_at : ℕ → ℕ → ℕ → List ℕ → Parsed Entry
entry_at processes edges conditions s =
    or (or (start_at processes conditions s) (item_at (text "(send ") processes edges conditions s))
    (item_at (text "(tell ") (processes + edges) conditions conditions s)

unfoldable pub frame_at : List ℕ → Parsed Frame
frame_at s =
    and_then (numbered_at (text "(frame ") s) (λ t r. and_then (field_at (text "(node ") r) (λ n q.
    and_then (closed_at (text " (bytes ") (text ")\n") q) (λ b o. got (record { tick = t; node = n; used = b }) o)))

-- the passed line of a node, and those of as many nodes from n on
unfoldable pub count_at : ℕ → List ℕ → Parsed ℕ
count_at n s = and_then (closed_at (text "(passed (node ") (text " ") s) (λ m r. if eqb m n then closed_at [] (text "\n") r else none)

unfoldable pub passed_at : ℕ → ℕ → List ℕ → Parsed (List ℕ)
passed_at n zero s = got [] s
passed_at n (suc k) s = and_then (count_at n s) (λ m r. and_then (passed_at (suc n) k r) (λ ms q. got (m ∷ ms) q))

-- the whole text: delay, passed, entries, frames, and nothing behind them
unfoldable pub listing_at : ℕ → ℕ → ℕ → ℕ → List ℕ → Parsed Result
listing_at slots processes edges conditions s =
    and_then (closed_at (text "(delay ") (text "\n") s) (λ d r. and_then (passed_at 0 slots r) (λ ns q.
    and_then (run_at (entry_at processes edges conditions) q) (λ es o. and_then (run_at frame_at o) (λ fs m.
    got (record { delay = d; passed = ns; entries = es; frames = fs }) m))))

pub data Read : Type 0 where
  no_reading : Read
  read : Result → Read

-- of the form: nothing stands behind it, rows are in order, and there are no more lines than there may be
unfoldable pub in_form : Result → Bool
in_form r = rows_in_order 0 r.entries && (leb (length r.entries) 3000 && leb (length r.frames) 2000)

unfoldable pub to_end : Parsed Result → Read
to_end none = no_reading
to_end (got r []) = if in_form r then read r else no_reading
to_end (got r (b ∷ s)) = no_reading

unfoldable pub read_listing : ℕ → ℕ → ℕ → ℕ → List ℕ → Read
read_listing slots processes edges conditions s = to_end (listing_at slots processes edges conditions s)
