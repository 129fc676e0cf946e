-- What the answer of the listing reader stands for, and what the lent words hold after it.
-- Assumes nothing.
use Rattle.std.specs.Prelude.{ℕ, ◌≡◌, List, Result, Ok, Err, length}
use Rattle.model.specs.Plan.{Lines}
use Rattle.model.specs.Refusals.{nothing, plan_refusal}
use Rattle.model.specs.Table.{entry_words, frame_words}
use Rattle.model.specs.ListingText.{Listed, listed, not_listed, AnswersListing, listed_words, listed_frames, listed_counts}
use Rattle.refusals.specs.declared.Refusal.{Refusal}
use Rattle.refusals.specs.Numbers.{numbered}
use Rattle.listing_reader.specs.declared.reader.Stated.{Stated}

-- a plan has so many slots, processes, edges and conditions
pub record Counted (p : Lines) (slots processes edges conditions : ℕ) : Type 0 where
  pub its_slots : slots ≡ length p.slots
  pub its_processes : processes ≡ length p.processes
  pub its_edges : edges ≡ length p.edges
  pub its_conditions : conditions ≡ length p.conditions

-- some plan in which refusals 2 to 9 find nothing has so many
pub record SomePlan (slots processes edges conditions : ℕ) : Type 0 where
  pub plan : Lines
  pub passes : plan_refusal plan ≡ nothing
  pub counted : Counted plan slots processes edges conditions

-- the answer in memory: a refusal's number, or how many words entries and frames have, and the delay
unfoldable pub answer_of : Listed → Result Stated ℕ
answer_of (not_listed n) = Err n
answer_of (listed r) =
    Ok (record {
      words = length (entry_words r.entries);
      framewords = length (frame_words r.frames);
      delay = r.delay;
    })

-- A text is read for a plan: what it states, or 21, and the lent words afterwards.
pub record ReadsListing (p : Lines) (bytes : List ℕ) (r : Result Stated Refusal) (table frames passed table-now frames-now passed-now : List ℕ) : Type 0 where
  pub reading : Listed
  pub of_text : AnswersListing p bytes reading
  pub answer : numbered r ≡ answer_of reading
  pub words : table-now ≡ listed_words reading table
  pub frame_words : frames-now ≡ listed_frames reading frames
  pub counts : passed-now ≡ listed_counts reading passed
