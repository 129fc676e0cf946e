-- Document 01, "Refused, in checking order", and refusals 21 and 22 of document 02, as lists of sentences, each with
-- whether it applies; the first of a list that applies; and what it means that an answer keeps to it.
-- Assumes nothing.
use Rattle.std.specs.Prelude.{ℕ, ◌-◌, ◌%◌, ◌≤◌, ◌<◌, ◌≡◌, Bool, not, ◌||◌, List, [], ◌∷◌, ◌++◌, eqb, ltb, length}
use Rattle.limits.specs.Limits.{LASTREFUSAL}
use Rattle.lists.specs.Lists.{any}
use Rattle.model.specs.Plan.{Lines, edges}
use Rattle.model.specs.Refusals.{Refusal, nothing, refused, sentence, wrong_counts, wrong_sizes, wrong_nodes, wrong_deciders, wrong_ends, twin_edges, wrong_when, too_long}
use Rattle.model.specs.Text.{Means}
use Rattle.model.specs.Table.{Result, result, entry_words, frame_words, entries_of}
use Rattle.model.specs.Listing.{plan_listing}
use Rattle.model.specs.ListingText.{States, other_frames, other_counts}
use Rattle.model.specs.Checking.{ill_formed, in_some, not_once, uses_unknown, too_early, off_slot, overlap, share_byte, greatest_delay}

-- a sentence of the list: its number, and whether it applies
pub record Sentence : Type 0 where
  pub number : ℕ
  pub applies : Bool

abbrev pub says : ℕ → Bool → Sentence
says n b = record { number = n; applies = b }

-- "Each sentence is tried over the whole input before the next": the number of the first that applies, or nothing
unfoldable pub first : List Sentence → Refusal
first [] = nothing
first (s ∷ ss) = sentence s.number s.applies (first ss)

-- 2 to 9, on the lines of a plan
unfoldable pub plan_sentences : Lines → List Sentence
plan_sentences p =
    says 2 (wrong_counts p)
    ∷ says 3 (wrong_sizes p)
    ∷ says 4 (wrong_nodes p)
    ∷ says 5 (wrong_deciders p)
    ∷ says 6 (any (wrong_ends p) p.edges)
    ∷ says 7 (twin_edges p.edges)
    ∷ says 8 (any (wrong_when p) p.edges)
    ∷ says 9 (any (too_long p) (edges p))
    ∷ []

-- 10, on a text to be written and the number of bytes lent
unfoldable pub bytes_sentences : List ℕ → ℕ → List Sentence
bytes_sentences bytes lent = says 10 (ltb lent (length bytes)) ∷ []

-- 10 and 11, on what the planner makes and the numbers of words lent for entries and for frames
unfoldable pub room_sentences : Result → ℕ → ℕ → List Sentence
room_sentences r words room = says 10 (ltb words (length (entry_words r.entries))) ∷ says 11 (ltb room (length (frame_words r.frames))) ∷ []

-- 10 and 11, on the listing of a plan and the number of bytes lent: 3,000 entries and 2,000 frames are listed at most
unfoldable pub listing_sentences : Lines → ℕ → List Sentence
listing_sentences p lent =
    says 10 (ltb 15000 (length (entry_words (result p).entries)) || ltb lent (length (plan_listing p)))
    ∷ says 11 (ltb 6000 (length (frame_words (result p).frames)))
    ∷ []

-- 12 to 20, on a table's words and the delay stated for it
unfoldable pub table_sentences : Lines → List ℕ → ℕ → List Sentence
table_sentences p words stated =
    says 12 (not (eqb (length words % 5) 0))
    ∷ says 13 (any (ill_formed p) (entries_of words))
    ∷ says 14 (in_some p (not_once p (entries_of words)))
    ∷ says 15 (in_some p (uses_unknown p (entries_of words)))
    ∷ says 16 (in_some p (too_early p (entries_of words)))
    ∷ says 17 (in_some p (off_slot p (entries_of words)))
    ∷ says 18 (in_some p (overlap p (entries_of words)))
    ∷ says 19 (in_some p (share_byte p (entries_of words)))
    ∷ says 20 (not (eqb stated (greatest_delay p (entries_of words))))
    ∷ []

-- x is the first of a list that applies
abbrev pub FirstOf : List Sentence → Refusal → Type 0
FirstOf sentences x = first sentences ≡ x

-- x is the first that applies to a text: 1, "The text exceeds 16,384 bytes or is not of the form above", or the first
-- of a list on the lines that it means
pub data FirstOfText (text : List ℕ) (on : Lines → List Sentence) : Refusal → Type 0 where
  exceeds : 16384 < length text → FirstOfText text on (refused 1)
  not_of_the_form : ((p : Lines) → Means text p → ⊥) → FirstOfText text on (refused 1)
  of_lines : (p : Lines) → Means text p → length text ≤ 16384 → FirstOfText text on (first (on p))

-- 22, on what a listing states
unfoldable pub frame_sentences : Lines → Result → List Sentence
frame_sentences p r = says 22 (other_frames p r || other_counts p r) ∷ []

-- x is the first that applies to a listing, where 2 to 9 find nothing in its plan: 21, "the listing is not of its form,
-- or has over 3,000 entries or 2,000 frames", or the first of 12 to 20 and 22 on what it states
pub data FirstOfListing (p : Lines) (bytes : List ℕ) : Refusal → Type 0 where
  not_of_its_form : ((r : Result) → States p bytes r → ⊥) → FirstOfListing p bytes (refused 21)
  of_what_it_states : (r : Result) → States p bytes r →
      FirstOfListing p bytes (first (table_sentences p (entry_words r.entries) r.delay ++ frame_sentences p r))

-- the same for any plan: 2 to 9 first
pub data FirstOfCheck (p : Lines) (bytes : List ℕ) : Refusal → Type 0 where
  of_plan : (n : ℕ) → FirstOf (plan_sentences p) (refused n) → FirstOfCheck p bytes (refused n)
  of_listing : (x : Refusal) → FirstOf (plan_sentences p) nothing → FirstOfListing p bytes x → FirstOfCheck p bytes x

-- and for a plan text: 1 first
pub data FirstOfTexts (text bytes : List ℕ) : Refusal → Type 0 where
  text_exceeds : 16384 < length text → FirstOfTexts text bytes (refused 1)
  text_not_of_the_form : ((p : Lines) → Means text p → ⊥) → FirstOfTexts text bytes (refused 1)
  of_text : (p : Lines) (x : Refusal) → Means text p → length text ≤ 16384 → FirstOfCheck p bytes x →
      FirstOfTexts text bytes x

-- An answer keeps to the first refusal that applies. `Refused-with n` says that the answer is refusal n, `Unchanged`
-- that every lent buffer holds what it held, `Result` that the answer is a result.
pub record KeepsTo (Is-first : Refusal → Type 0) (Refused-with : ℕ → Type 0) (Unchanged Result : Type 0) : Type 0 where
  pub refused_first : (n : ℕ) → Refused-with n → Is-first (refused n) × Unchanged
  pub first_refused : (n : ℕ) → Is-first (refused n) → Refused-with n
  pub otherwise : Is-first nothing → Result

-- the number in which a C function answers refusal n: n below 2^64 - 1
abbrev pub InNumber : ℕ → ℕ → Type 0
InNumber answer n = (1 ≤ n) × (n ≤ LASTREFUSAL) × (answer ≡ 18446744073709551615 - n)
