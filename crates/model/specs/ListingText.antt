-- Document 02, point 2, "Check a printed table": what a listing text means, refusals 21 and 22, and what the program
-- that checks a printed table prints. Point 3 has the passed lines.
-- Assumes nothing.
use Rattle.std.specs.Prelude.{ℕ, ◌^◌, ◌≤◌, ◌≡◌, Bool, true, not, ◌&&◌, ◌||◌, List, [], ◌∷◌, ◌++◌, eqb, leb, ltb, length, if◌then◌else◌}
use Rattle.lists.specs.Lists.{all, each, same_numbers}
use Rattle.lists.specs.Front.{front}
use Rattle.model.specs.Plan.{Lines}
use Rattle.model.specs.Bus.{rows, is_process}
use Rattle.model.specs.Refusals.{Refusal, nothing, refused, sentence, or_else, plan_refusal}
use Rattle.model.specs.Table.{Entry, Frame, Result, bits_within, frames, result, entry_words, frame_words}
use Rattle.model.specs.Checking.{table_refusal}
use Rattle.model.specs.Text.{text, short, reads, not_read, AnswersText}
use Rattle.model.specs.Listing.{listing, refused_line}

-- "start, send and tell carry the number of a process, edge or condition that the plan has; conditions in a `when` are
-- the plan's too": what a line can say of an entry. A start line has no place, and its entry has place 0. Local edges
-- and places above 63 are left to 13.
unfoldable pub listable : Lines → Entry → Bool
listable p e =
    ltb e.row (rows p)
    && ltb e.known (2 ^ length p.conditions)
    && ltb e.values (2 ^ length p.conditions)
    && bits_within (length p.conditions) e.values e.known
    && (not (is_process p e.row) || eqb e.place 0)

-- "Within a row lines may stand in any order, and are read in it; rows and kinds keep theirs". The first number is the
-- row before.
unfoldable pub rows_in_order : ℕ → List Entry → Bool
rows_in_order r [] = true
rows_in_order r (e ∷ es) = leb r e.row && rows_in_order e.row es

-- "numbers have one to nine decimal digits": those of a listing. The numbers of processes, edges and conditions are
-- below the plan's counts.
abbrev pub entry_numbers : Entry → List ℕ
entry_numbers e = e.tick ∷ e.place ∷ []

abbrev pub frame_numbers : Frame → List ℕ
frame_numbers f = f.tick ∷ f.node ∷ f.used ∷ []

unfoldable pub listing_numbers : Result → List ℕ
listing_numbers r = (r.delay ∷ r.passed) ++ each entry_numbers r.entries ++ each frame_numbers r.frames

-- "a listing as printed in document 01": a text states what prints as it. Point 3: "one line for each node [..], in
-- node order", and "A listing with the old line, other nodes or another order is not of the form." "over 3,000 entries
-- or 2,000 frames" is 21 as well.
pub record States (p : Lines) (bytes : List ℕ) (r : Result) : Type 0 where
  pub count_for_each : length r.passed ≡ length p.slots
  pub all_short : all short (listing_numbers r) ≡ true
  pub all_listable : all (listable p) r.entries ≡ true
  pub in_order : rows_in_order 0 r.entries ≡ true
  pub prints : listing p r.delay r.passed r.entries r.frames ≡ bytes
  pub few_entries : length r.entries ≤ 3000
  pub few_frames : length r.frames ≤ 2000

-- What the reader of listings answers, for the plan that it goes by: what the text states, or 21: "the listing is not
-- of its form, or has over 3,000 entries or 2,000 frames".
pub data Listed : Type 0 where
  listed : Result → Listed
  not_listed : ℕ → Listed

pub data AnswersListing (p : Lines) (bytes : List ℕ) : Listed → Type 0 where
  no_listing : ((r : Result) → States p bytes r → ⊥) → AnswersListing p bytes (not_listed 21)
  a_listing : (r : Result) → States p bytes r → AnswersListing p bytes (listed r)

-- what the words lent for entries, for frames and for the counts of the nodes hold afterwards
unfoldable pub listed_words : Listed → List ℕ → List ℕ
listed_words (not_listed n) lent = lent
listed_words (listed r) lent = front (entry_words r.entries) lent

unfoldable pub listed_frames : Listed → List ℕ → List ℕ
listed_frames (not_listed n) lent = lent
listed_frames (listed r) lent = front (frame_words r.frames) lent

unfoldable pub listed_counts : Listed → List ℕ → List ℕ
listed_counts (not_listed n) lent = lent
listed_counts (listed r) lent = front r.passed lent

-- 22: "its frame lines are not those its entries give, or its passed line is not the plan's pass-over count, tried
-- after 20"; "frame lines out of order meet 22". The counts, one for each node since point 3, are those of the plan's
-- own planning, whatever the listing's table is.
unfoldable pub other_frames : Lines → Result → Bool
other_frames p r = not (same_numbers (frame_words r.frames) (frame_words (frames p r.entries)))

unfoldable pub other_counts : Lines → Result → Bool
other_counts p r = not (same_numbers r.passed (result p).passed)

-- what is refused of what a listing states, for a plan in which 2 to 9 find nothing: 12 to 20, and then 22
unfoldable pub stated_refusal : Lines → Result → Refusal
stated_refusal p r =
    or_else (table_refusal p (entry_words r.entries) r.delay)
    (sentence 22 (other_frames p r || other_counts p r) nothing)

-- the same of a listing text by what it is read as: 21 is "tried after 9", and so before these
unfoldable pub listed_refusal : Lines → Listed → Refusal
listed_refusal p (not_listed n) = refused n
listed_refusal p (listed r) = stated_refusal p r

-- What is answered to a listing text for a plan in memory: 2 to 9 of the plan, 21, 12 to 20, 22.
pub data ChecksListing (p : Lines) (bytes : List ℕ) : Refusal → Type 0 where
  by_plan : (n : ℕ) → plan_refusal p ≡ refused n → ChecksListing p bytes (refused n)
  by_listing : (l : Listed) → plan_refusal p ≡ nothing → AnswersListing p bytes l →
      ChecksListing p bytes (listed_refusal p l)

-- The same for a plan text: 1 to 9 of the text, 21, 12 to 20, 22.
pub data ChecksTexts (plan bytes : List ℕ) : Refusal → Type 0 where
  no_plan : (n : ℕ) → AnswersText plan (not_read n) → ChecksTexts plan bytes (refused n)
  a_plan : (p : Lines) (r : Refusal) → AnswersText plan (reads p) → ChecksListing p bytes r →
      ChecksTexts plan bytes r

-- "A program reads a plan up to the first empty line, then a listing [..]. Without an empty line the listing is empty."
-- The test says that a line begins here.
unfoldable pub before_empty : Bool → List ℕ → List ℕ
before_empty begins [] = []
before_empty begins (b ∷ s) = if eqb b 10 && begins then [] else (b ∷ before_empty (eqb b 10) s)

unfoldable pub after_empty : Bool → List ℕ → List ℕ
after_empty begins [] = []
after_empty begins (b ∷ s) = if eqb b 10 && begins then s else after_empty (eqb b 10) s

unfoldable pub plan_part : List ℕ → List ℕ
plan_part input = before_empty true input

unfoldable pub listing_part : List ℕ → List ℕ
listing_part input = after_empty true input

-- what is answered to the whole input
abbrev pub ChecksInput : List ℕ → Refusal → Type 0
ChecksInput input r = ChecksTexts (plan_part input) (listing_part input) r

-- "prints `(accepted)` or the refusal"
unfoldable pub check_prints : Refusal → List ℕ
check_prints nothing = text "(accepted)\n"
check_prints (refused n) = refused_line n
