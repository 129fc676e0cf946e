-- Document 02, point 2: "Check a printed table." Over calls of the functions (specs/Calls.antt); that each keeps to the
-- first refusal that applies is part of demand 1.
-- Assumes nothing.
use Rattle.std.specs.Prelude.{Ok, ℕ, ◌^◌, ◌≤◌, ◌<◌, ◌≡◌, ◌↔◌, true, length, take}
use mathlib.Core.List.{List, ◌∷◌, ◌++◌, Memᴰ as In}
use Rattle.limits.specs.Limits.{INPUT}
use Rattle.lists.specs.Front.{front}
use Rattle.model.specs.Plan.{Lines}
use Rattle.model.specs.Refusals.{Refusal, nothing}
use Rattle.model.specs.Text.{Means}
use Rattle.model.specs.Table.{Entry, Result, result, frames, entry_words, frame_words, entries_of}
use Rattle.model.specs.Checking.{Sound}
use Rattle.model.specs.Listing.{listing}
use Rattle.model.specs.ListingText.{States, rows_in_order, ChecksInput, check_prints}
use Rattle.model.specs.Demand.{RunsRight}
use Rattle.plan.specs.declared.Plan.{Plan}
use Rattle.plan.specs.Memory.{lines}
use Rattle.demands.specs.Calls.{Outcome}
use Rattle.demands.specs.Calls as calls
use Rattle.demands.specs.Kernel.{Answers, ByLookup, asked}
use Rattle.demands.specs.Sentences.{plan_sentences, room_sentences, FirstOf, FirstOfText}
use Rattle.demands.specs.Two.{NotRefused}

-- "An accepted listing has everything an accepted table has": what it states is a sound table with its delay, the
-- frames that the entries give, and the plan's pass-over counts, node by node
pub record AcceptedListing (p : Lines) (bytes : List ℕ) : Type 0 where
  pub stated : Result
  pub states : States p bytes stated
  pub sound : Sound p (entry_words stated.entries) stated.delay
  pub its_frames : stated.frames ≡ frames p stated.entries
  pub its_counts : stated.passed ≡ (result p).passed

-- the same for the lines that a text of at most 16,384 bytes means
pub record AcceptedFor (text bytes : List ℕ) : Type 0 where
  pub plan : Lines
  pub means : Means text plan
  pub short : length text ≤ 16384
  pub accepted : AcceptedListing plan bytes

-- the listing of a table with a stated delay: the plan's pass-over counts, and the frames that the entries give
abbrev pub listing_of : Lines → List ℕ → ℕ → List ℕ
listing_of p table delay = listing p delay (result p).passed (entries_of table) (frames p (entries_of table))

-- a table that a listing can state: its delay has nine digits, its value words 32 bits, its rows stand in order, and it
-- is not too long
pub record CanBeListed (p : Lines) (table : List ℕ) (delay : ℕ) : Type 0 where
  pub nine_digits : delay < 1000000000
  pub value_words : (e : Entry) → In e (entries_of table) → e.values < 2 ^ 32
  pub in_order : rows_in_order 0 (entries_of table) ≡ true
  pub few_entries : length (entries_of table) ≤ 3000
  pub few_frames : length (frames p (entries_of table)) ≤ 2000

pub record Point2 : Type 0 where
  -- "a listing as printed in document 01": a text states at most one table
  pub one_meaning : (p : Lines) → FirstOf (plan_sentences p) nothing → (bytes : List ℕ) (r s : Result) →
      States p bytes r → States p bytes s → r ≡ s
  -- "An accepted listing has everything an accepted table has", and no other is accepted: `checker::check_listing`, and
  -- `riscadru_check_listing`
  pub accepts : (p : Plan) (bytes : List ℕ) (r : Outcome (Unit {0})) → calls.CheckListing p bytes r →
      (r ≡ Ok tt) ↔ AcceptedListing (lines p) bytes
  pub c_accepts : (text bytes : List ℕ) (answer : ℕ) → calls.CCheckListing text bytes answer →
      (answer ≡ 0) ↔ AcceptedFor text bytes
  -- what an accepted listing states is accepted as words, too, and every run of it is right, with answers of
  -- `kernel::lookup`
  pub accepted_as_words : (p : Plan) (bytes : List ℕ) → calls.CheckListing p bytes (Ok tt) → (s : Result) →
      States (lines p) bytes s → (r : Outcome (Unit {0})) → calls.CheckTable p (entry_words s.entries) s.delay r → r ≡ Ok tt
  pub runs_right : (p : Plan) (bytes : List ℕ) → calls.CheckListing p bytes (Ok tt) → (s : Result) →
      States (lines p) bytes s → (answers : Answers) → ByLookup p (entry_words s.entries) answers →
      RunsRight (lines p) (entry_words s.entries) s.delay (asked answers)
  -- what the planner prints is accepted: by `program::list_plan`, by `riscadru_plan_listing`, and, behind the plan and
  -- an empty line, by the two programs
  pub planned_accepted : (text out out-now : List ℕ) (count : ℕ) → calls.ListPlan text out out-now (Ok count) →
      (answer : ℕ) → calls.CCheckListing text (take count out-now) answer → answer ≡ 0
  pub c_planned_accepted : (text out out-now : List ℕ) (count : ℕ) → calls.CPlanListing text out out-now count → NotRefused count →
      (answer : ℕ) → calls.CCheckListing text (take count out-now) answer → answer ≡ 0
  pub printed_accepted : (text out out-now : List ℕ) (count : ℕ) → calls.PrintAll text out out-now count →
      FirstOfText text (λ p. plan_sentences p ++ room_sentences (result p) 15000 6000) nothing →
      (verdict verdict-now : List ℕ) (many : ℕ) → calls.PrintCheck (text ++ (10 ∷ take count out-now)) verdict verdict-now many →
      (many ≡ length (check_prints nothing)) × (verdict-now ≡ front (check_prints nothing) verdict)
  -- "A printed table read and printed again is byte for byte the same": what a text states, in whatever order the lines
  -- of a row stand, written by `listing::write_listing` into bytes that suffice, from words that begin with its counts
  pub printed_again : (p : Plan) (bytes : List ℕ) (s : Result) → States (lines p) bytes s → (out out-now : List ℕ) (r : Outcome ℕ) →
      (passed : List ℕ) → take (length (lines p).slots) passed ≡ s.passed →
      calls.WriteListing p s.delay passed (entry_words s.entries) (frame_words s.frames) out out-now r →
      length bytes ≤ length out → (r ≡ Ok (length bytes)) × (out-now ≡ front bytes out)
  -- and an accepted table, printed and read, is that table, and accepted
  pub read_again : (p : Plan) (table : List ℕ) (delay : ℕ) → calls.CheckTable p table delay (Ok tt) →
      CanBeListed (lines p) table delay → (s : Result) → States (lines p) (listing_of (lines p) table delay) s →
      (entry_words s.entries ≡ table) × (s.delay ≡ delay)
  pub listed_accepted : (p : Plan) (table : List ℕ) (delay : ℕ) → calls.CheckTable p table delay (Ok tt) →
      CanBeListed (lines p) table delay → (r : Outcome (Unit {0})) → calls.CheckListing p (listing_of (lines p) table delay) r →
      r ≡ Ok tt
  -- an input that is longer than the bytes that the program lends is answered as its beginning
  pub longer_alike : (input : List ℕ) → INPUT ≤ length input → (x : Refusal) → ChecksInput (take INPUT input) x → ChecksInput input x
