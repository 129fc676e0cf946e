-- The passed lines read into numbers, the lines of entries and of frames read into words, and the whole listing, in the
-- words of the grammar.
-- Assumes nothing.
use Rattle.std.specs.Prelude.{ℕ, ◌≤◌, ◌≡◌, Bool, true, false, ◌&&◌, List, leb, length, drop, Option, None, Some, Ok}
use Rattle.limits.specs.Limits.{PRINTEDENTRIES, PRINTEDFRAMES, PRINTEDWORDS, PRINTEDFRAMEWORDS}
use Rattle.lists.specs.Front.{front}
use Rattle.model.specs.Table.{Entry, Frame, Result, entry_words, frame_words}
use Rattle.model.specs.ListingText.{rows_in_order, listed}
use Rattle.text_grammar.specs.Parse.{Parsed, none, got, run_at}
use Rattle.listing_grammar.specs.Parse.{entry_at, frame_at, passed_at, Read, no_reading, read, read_listing}
use Rattle.listing_scanner.specs.declared.entries.Counts.{Counts}
use Rattle.listing_reader.specs.declared.reader.Stated.{Stated}
use Rattle.listing_reader.specs.Answer.{answer_of}

-- The passed lines from `at` to `next`, one for each node, and their counts stand in front.
pub record CountsFound (text : List ℕ) (at slots : ℕ) (before after : List ℕ) (next : ℕ) : Type 0 where
  pub counts : List ℕ
  pub read : passed_at 0 slots (drop at text) ≡ got counts (drop next text)
  pub within : next ≤ length text
  pub for_each : length counts ≡ slots
  pub held : after ≡ front counts before

-- what the answer for the passed lines says
abbrev pub PassedRead : List ℕ → ℕ → ℕ → List ℕ → List ℕ → Option ℕ → Type 0
PassedRead text at slots before after (Some next) = CountsFound text at slots before after next
PassedRead text at slots before after None = passed_at 0 slots (drop at text) ≡ none

-- the lines of entries, and of frames, that follow
abbrev pub entries_at : Counts → List ℕ → Parsed (List Entry)
entries_at c s = run_at (entry_at c.processes c.edges c.conditions) s

abbrev pub frames_at : List ℕ → Parsed (List Frame)
frames_at s = run_at frame_at s

-- what is asked of them besides
abbrev pub entries_in_form : List Entry → Bool
entries_in_form es = rows_in_order 0 es && leb (length es) PRINTEDENTRIES

abbrev pub frames_in_form : List Frame → Bool
frames_in_form fs = leb (length fs) PRINTEDFRAMES

-- Lines from `at` to `next`, as many as `count`, are all that follow and are in form, and their words stand in front.
pub record Found {A : Type 0} (run : List ℕ → Parsed (List A)) (in_form : List A → Bool)
    (words : List A → List ℕ) (text : List ℕ) (at : ℕ) (before after : List ℕ) (count next : ℕ) : Type 0 where
  pub lines : List A
  pub read : run (drop at text) ≡ got lines (drop next text)
  pub within : next ≤ length text
  pub form : in_form lines ≡ true
  pub all : count ≡ length lines
  pub held : after ≡ front (words lines) before

-- The lines that follow are not in form.
abbrev pub Formless : {A : Type 0} → (List ℕ → Parsed (List A)) → (List A → Bool) → List ℕ → ℕ → Type 0
Formless {A} run in_form text at = (xs : List A) (rest : List ℕ) → run (drop at text) ≡ got xs rest → in_form xs ≡ false

-- what the answers for entries and for frames say
abbrev pub EntriesRead : List ℕ → ℕ → Counts → List ℕ → List ℕ → Option (ℕ × ℕ) → Type 0
EntriesRead text at counts before after (Some r) =
    Found (entries_at counts) entries_in_form entry_words text at before after r.0 r.1
EntriesRead text at counts before after None = Formless (entries_at counts) entries_in_form text at

abbrev pub FramesRead : List ℕ → ℕ → List ℕ → List ℕ → Option (ℕ × ℕ) → Type 0
FramesRead text at before after (Some r) =
    Found frames_at frames_in_form frame_words text at before after r.0 r.1
FramesRead text at before after None = Formless frames_at frames_in_form text at

-- what the grammar reads of the whole text
abbrev pub reading : Counts → List ℕ → Read
reading c text = read_listing c.slots c.processes c.edges c.conditions text

-- The whole listing: what the grammar reads, no more than there is room for, its entries and its frames at the front of
-- the words, and the counts of its nodes at the front of the numbers.
pub record Lines-stated (text : List ℕ) (counts : Counts) (table frames passed table-now frames-now passed-now : List ℕ)
    (s : Stated) : Type 0 where
  pub states : Result
  pub of_text : reading counts text ≡ read states
  pub answer : Ok s ≡ answer_of (listed states)
  pub few_words : s.words ≤ PRINTEDWORDS
  pub few_framewords : s.framewords ≤ PRINTEDFRAMEWORDS
  pub words : table-now ≡ front (entry_words states.entries) table
  pub frame_words : frames-now ≡ front (frame_words states.frames) frames
  pub for_each : length states.passed ≡ counts.slots
  pub counted : passed-now ≡ front states.passed passed

-- what the answer for the whole says: nothing is read where there is none
abbrev pub LinesRead : List ℕ → Counts → List ℕ → List ℕ → List ℕ → List ℕ → List ℕ → List ℕ → Option Stated → Type 0
LinesRead text counts table frames passed table-now frames-now passed-now (Some s) =
    Lines-stated text counts table frames passed table-now frames-now passed-now s
LinesRead text counts table frames passed table-now frames-now passed-now None =
    reading counts text ≡ no_reading
