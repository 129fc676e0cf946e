-- Demand 1: "Whoever calls, with whatever text, plan, table or buffer, gets a result or the first refusal in the list
-- that applies; a refusal changes no word of any buffer." One field for each function that is called, over its calls
-- (specs/Calls.antt).
-- Assumes nothing.
use Rattle.std.specs.Prelude.{Option, None, Some, Ok, Err, ℕ, ◌+◌, ◌/◌, ◌≤◌, ◌<◌, ◌≡◌, ◌⊎◌, List, ◌++◌, length, take, drop}
use Rattle.lists.specs.Front.{front}
use Rattle.model.specs.Plan.{Lines}
use Rattle.model.specs.Refusals.{refused}
use Rattle.model.specs.Refusals as m
use Rattle.model.specs.Text.{print, Means}
use Rattle.model.specs.Table.{result, entries_of}
use Rattle.model.specs.Listing.{words_listing, refused_line}
use Rattle.model.specs.ListingText.{plan_part, listing_part, check_prints}
use Rattle.model.specs.Firmware.{words_of}
use Rattle.plan.specs.declared.Plan.{Plan}
use Rattle.plan.specs.Memory.{lines, empty_plan}
use Rattle.refusals.specs.Numbers.{numbered}
use Rattle.plan_refusals.specs.Answer.{refusal_of}
use Rattle.planner_table.specs.declared.Made.{Made}
use Rattle.kernel_rows.specs.Part.{words_on}
use Rattle.demands.specs.Calls.{Outcome}
use Rattle.demands.specs.Calls as calls
use Rattle.demands.specs.Sentences.{
  Sentence,
  plan_sentences,
  bytes_sentences,
  room_sentences,
  listing_sentences,
  table_sentences,
  FirstOf,
  FirstOfText,
  FirstOfCheck,
  FirstOfTexts,
  KeepsTo,
  InNumber,
}

-- words that lie in a lent table, as a part of it
pub record LiesIn (place : ℕ × ℕ) (table : List ℕ) (part-place : ℕ × ℕ) (part : List ℕ) : Type 0 where
  pub from : ℕ
  pub at : part-place ≡ words_on place from
  pub within : from + length part ≤ length table
  pub words : part ≡ take (length part) (drop from table)

pub record Demand1 : Type 2 where
  -- "Whoever calls": the code of each function keeps its contract, and no contract asks anything
  pub code_keeps : calls.CodeKeeps
  pub asks_nothing : calls.AsksNothing
  -- to every text one refusal applies first, or none
  pub some_first : (text : List ℕ) (on : Lines → List Sentence) → (x : m.Refusal) × FirstOfText text on x
  pub one_first : (text : List ℕ) (on : Lines → List Sentence) (x y : m.Refusal) → FirstOfText text on x → FirstOfText text on y → x ≡ y
  -- and so to every plan text with a listing
  pub some_first_of_texts : (text listing : List ℕ) → (x : m.Refusal) × FirstOfTexts text listing x
  pub one_first_of_texts : (text listing : List ℕ) (x y : m.Refusal) → FirstOfTexts text listing x → FirstOfTexts text listing y → x ≡ y
  -- `plan::empty`: no sentence is tried
  pub starting : (p : Plan) → calls.Empty p → p ≡ empty_plan
  -- `plan_refusals::refuse`
  pub refusing : (p : Plan) (r : Outcome (Unit {0})) → calls.Refuse p r → FirstOf (plan_sentences (lines p)) (refusal_of r)
  -- `text_reader::read_plan`: a refusal hands out no plan
  pub reading : (text : List ℕ) (r : Outcome Plan) → calls.ReadPlan text r →
      KeepsTo (FirstOfText text plan_sentences) (λ n. numbered r ≡ Err n) (Unit {0})
      ((p : Plan) × (r ≡ Ok p) × Means text (lines p))
  -- `text_writer::write_plan`
  pub writing : (p : Plan) (out out-now : List ℕ) (r : Outcome ℕ) → calls.WritePlan p out out-now r →
      KeepsTo (FirstOf (plan_sentences (lines p) ++ bytes_sentences (print (lines p)) (length out))) (λ n. numbered r ≡ Err n)
      (out-now ≡ out) ((n : ℕ) × (r ≡ Ok n))
  -- `planner::plan_table`
  pub planning : (p : Plan) (table frames passed table-now frames-now passed-now : List ℕ) (r : Outcome Made) →
      calls.PlanTable p table frames passed table-now frames-now passed-now r →
      KeepsTo (FirstOf (plan_sentences (lines p) ++ room_sentences (result (lines p)) (length table) (length frames))) (λ n. numbered r ≡ Err n)
      ((table-now ≡ table) × (frames-now ≡ frames) × (passed-now ≡ passed)) ((m : Made) × (r ≡ Ok m))
  -- `listing::write_listing`
  pub listing_words : (p : Plan) (delay : ℕ) (passed table frames out out-now : List ℕ) (r : Outcome ℕ) →
      calls.WriteListing p delay passed table frames out out-now r →
      KeepsTo (FirstOf (bytes_sentences (words_listing (lines p) delay passed table frames) (length out))) (λ n. numbered r ≡ Err n)
      (out-now ≡ out) ((n : ℕ) × (r ≡ Ok n))
  -- `listing::write_refusal`
  pub listing_refusal : (number : ℕ) (out out-now : List ℕ) (r : Outcome ℕ) → calls.WriteRefusal number out out-now r →
      KeepsTo (FirstOf (bytes_sentences (refused_line number) (length out))) (λ n. numbered r ≡ Err n)
      (out-now ≡ out) ((n : ℕ) × (r ≡ Ok n))
  -- `program::list_plan`
  pub listing_plan : (text out out-now : List ℕ) (r : Outcome ℕ) → calls.ListPlan text out out-now r →
      KeepsTo (FirstOfText text (λ p. plan_sentences p ++ listing_sentences p (length out))) (λ n. numbered r ≡ Err n)
      (out-now ≡ out) ((n : ℕ) × (r ≡ Ok n))
  -- `program::print_all`, which the planning program runs: the first refusal that applies, with room for 3,000 entries
  -- and 2,000 frames, is printed
  pub printing : (text out out-now : List ℕ) (count : ℕ) → calls.PrintAll text out out-now count → (n : ℕ) →
      FirstOfText text (λ p. plan_sentences p ++ room_sentences (result p) 15000 6000) (refused n) →
      (count ≡ length (refused_line n)) × (out-now ≡ front (refused_line n) out)
  -- `checker::check_table`: nothing is lent for writing
  pub checking : (p : Plan) (table : List ℕ) (delay : ℕ) (r : Outcome (Unit {0})) → calls.CheckTable p table delay r →
      KeepsTo (FirstOf (plan_sentences (lines p) ++ table_sentences (lines p) table delay)) (λ n. numbered r ≡ Err n)
      (Unit {0}) (r ≡ Ok tt)
  -- `checker::check_listing`: nothing is lent for writing
  pub checking_listing : (p : Plan) (listing : List ℕ) (r : Outcome (Unit {0})) → calls.CheckListing p listing r →
      KeepsTo (FirstOfCheck (lines p) listing) (λ n. numbered r ≡ Err n) (Unit {0}) (r ≡ Ok tt)
  -- `check_program::print_check`, which the program that checks a printed table runs: the first refusal that applies is
  -- printed, or that there is none
  pub printing_check : (input out out-now : List ℕ) (count : ℕ) → calls.PrintCheck input out out-now count → (x : m.Refusal) →
      FirstOfTexts (plan_part input) (listing_part input) x →
      (count ≡ length (check_prints x)) × (out-now ≡ front (check_prints x) out)
  -- `kernel::lookup`: an entry that the table has, or none
  pub looking_up : (p : Plan) (table : List ℕ) (node tick heard values from : ℕ) (r : Outcome (Option ℕ)) →
      calls.Lookup p table node tick heard values from r →
      KeepsTo (FirstOf (plan_sentences (lines p))) (λ n. numbered r ≡ Err n)
      (Unit {0}) ((r ≡ Ok None) ⊎ ((i : ℕ) × (i < length (entries_of table)) × (r ≡ Ok (Some i))))
  -- `kernel_rows::row_entries`: no sentence applies, and what is handed back lies in the lent table
  pub row : (place : ℕ × ℕ) (table : List ℕ) (r : ℕ) (part-place : ℕ × ℕ) (part : List ℕ) →
      calls.RowEntries place table r part-place part → LiesIn place table part-place part
  -- `riscadru_copy_plan`
  pub c_copying : (text out out-now : List ℕ) (answer : ℕ) → calls.CCopyPlan text out out-now answer →
      KeepsTo (FirstOfText text (λ p. plan_sentences p ++ bytes_sentences (print p) (length out))) (InNumber answer)
      (out-now ≡ out) (answer ≤ length out)
  -- `riscadru_plan_table`: four bytes to a word
  pub c_planning : (text table frames totals table-now frames-now totals-now : List ℕ) (answer : ℕ) →
      calls.CPlanTable text table frames totals table-now frames-now totals-now answer →
      KeepsTo (FirstOfText text (λ p. plan_sentences p ++ room_sentences (result p) (length table / 4) (length frames / 4))) (InNumber answer)
      ((table-now ≡ table) × (frames-now ≡ frames) × (totals-now ≡ totals)) (answer ≤ length table)
  -- `riscadru_plan_listing`
  pub c_listing_plan : (text out out-now : List ℕ) (answer : ℕ) → calls.CPlanListing text out out-now answer →
      KeepsTo (FirstOfText text (λ p. plan_sentences p ++ listing_sentences p (length out))) (InNumber answer)
      (out-now ≡ out) (answer ≤ length out)
  -- `riscadru_check_table`: nothing is lent for writing
  pub c_checking : (text table : List ℕ) (delay answer : ℕ) → calls.CCheckTable text table delay answer →
      KeepsTo (FirstOfText text (λ p. plan_sentences p ++ table_sentences p (words_of table) delay)) (InNumber answer)
      (Unit {0}) (answer ≡ 0)
  -- `riscadru_check_listing`: nothing is lent for writing
  pub c_checking_listing : (text listing : List ℕ) (answer : ℕ) → calls.CCheckListing text listing answer →
      KeepsTo (FirstOfTexts text listing) (InNumber answer) (Unit {0}) (answer ≡ 0)
  -- `riscadru_lookup`: none as 2^64 - 1, or the number of an entry that the table has. The table has fewer than 2^64
  -- bytes, as every lent slice: its length is a number of 64 bits. So an entry's number is never one in which a refusal
  -- is answered.
  pub c_looking_up : (text table : List ℕ) (node tick heard values from answer : ℕ) → length table < 18446744073709551616 →
      calls.CLookup text table node tick heard values from answer →
      KeepsTo (FirstOfText text plan_sentences) (InNumber answer)
      (Unit {0}) ((answer ≡ 18446744073709551615) ⊎ (answer < length (entries_of (words_of table))))
  -- `riscadru_row_start` and `riscadru_row_length`: no sentence applies, and the part lies within the lent bytes
  pub c_row : (table : List ℕ) (r start many : ℕ) → calls.CRowStart table r start → calls.CRowLength table r many →
      start + many ≤ length table
