-- What is known of a call of each function is what its contract in the code says, in the definitions that the `ensures`
-- is written with; the code keeps these contracts, and they ask nothing of a caller.
-- Assumes nothing.
use Rattle.std.specs.Prelude.{Option}
use Prim.Native.Nat.{ℕ, ◌*◌}
use mathlib.Core.Path.{◌≡◌}
use mathlib.Core.List.{List}
use lib.ListN.{length}
use Rattle.model.specs.Refusals.{plan_refusal}
use Rattle.model.specs.Text.{AnswersText, write_plan, bytes_after}
use Rattle.model.specs.Table.{plan_answer, table_after, frames_after, counts_after}
use Rattle.model.specs.Listing.{words_listing, refused_line}
use Rattle.model.specs.Checking.{check}
use Rattle.model.specs.Lookup.{lookup, row_start, row_length, row_part}
use Rattle.model.specs.Firmware.{words_of, AnswersLookup}
use Rattle.refusals.specs.Numbers.{numbered}
use Rattle.plan.specs.declared.Plan.{Plan}
use Rattle.planner_table.specs.declared.Made.{Made}
use Rattle.plan.specs.Memory.{lines, empty_plan}
use Rattle.plan_refusals.specs.Answer.{refusal_of}
use Rattle.text_reader.specs.Answer.{reading_of}
use Rattle.text_lines.specs.Answer as writer
use Rattle.planner_table.specs.Planner as planner
use Rattle.listing.specs.Answer as listing
use Rattle.program.specs.Listing.{ListsPlan}
use Rattle.program.specs.Printing.{Prints}
use Rattle.checker_table.specs.Verdict as checker
use Rattle.checker_listing.specs.Listing as checker-listing
use Rattle.check_program.specs.Answer as check-program
use Rattle.kernel_rows.specs.Part.{words_on}
use Rattle.kernel.specs.Finding.{found_of}
use Rattle.c_check.specs.Checks.{Checks}
use Rattle.c_text.specs.Copy.{Copies}
use Rattle.c_text.specs.Listing.{Lists}
use Rattle.c_interface.specs.Tables.{Tables}
use Rattle.c_interface.specs.Listings.{ChecksListingText}
use Rattle.demands.specs.Calls.{CodeKeeps, AsksNothing}
use Rattle.demands.specs.Calls.{Outcome}
use Rattle.demands.specs.Calls as calls
use Rattle.plan.proofs.empty.Met as empty-met
use Rattle.plan_refusals.proofs.refuse.Met as refuse-met
use Rattle.text_reader.proofs.read_plan.Met as read-plan-met
use Rattle.text_writer.proofs.write_plan.Met as write-plan-met
use Rattle.planner.proofs.plan_table.Met as plan-table-met
use Rattle.listing.proofs.write_listing.Met as write-listing-met
use Rattle.listing.proofs.write_refusal.Met as write-refusal-met
use Rattle.program.proofs.list_plan.Met as list-plan-met
use Rattle.program.proofs.print_all.Met as print-all-met
use Rattle.checker.proofs.check_table.Met as check-table-met
use Rattle.checker.proofs.check_listing.Met as check-listing-met
use Rattle.check_program.proofs.print_check.Met as print-check-met
use Rattle.kernel_rows.proofs.row_entries.Met as row-entries-met
use Rattle.kernel.proofs.lookup.Met as lookup-met
use Rattle.c_interface.proofs.riscadru_copy_plan.Met as c-copy-plan-met
use Rattle.c_interface.proofs.riscadru_plan_table.Met as c-plan-table-met
use Rattle.c_interface.proofs.riscadru_plan_listing.Met as c-plan-listing-met
use Rattle.c_interface.proofs.riscadru_check_table.Met as c-check-table-met
use Rattle.c_interface.proofs.riscadru_check_listing.Met as c-check-listing-met
use Rattle.c_interface.proofs.riscadru_lookup.Met as c-lookup-met
use Rattle.c_interface.proofs.riscadru_row_start.Met as c-row-start-met
use Rattle.c_interface.proofs.riscadru_row_length.Met as c-row-length-met

pub empty_says : {p : Plan} → calls.Empty p → p ≡ empty_plan
empty_says (calls.empty c) = c.learnt

pub refuse_says : {p : Plan} {r : Outcome (Unit {0})} → calls.Refuse p r → refusal_of r ≡ plan_refusal (lines p)
refuse_says (calls.refuse c) = c.learnt

pub read_plan_says : {text : List ℕ} {r : Outcome Plan} → calls.ReadPlan text r → AnswersText text (reading_of r)
read_plan_says (calls.read_plan c) = c.learnt

-- what the contract of `text_writer::write_plan` says
abbrev pub WritePlanSaid : Plan → (out out-now : List ℕ) → Outcome ℕ → Type 0
WritePlanSaid p out out-now r =
    (numbered r ≡ writer.answer_of (write_plan (lines p) (length out))) × (out-now ≡ bytes_after (write_plan (lines p) (length out)) out)

pub write_plan_says : {p : Plan} {out out-now : List ℕ} {r : Outcome ℕ} → calls.WritePlan p out out-now r → WritePlanSaid p out out-now r
write_plan_says (calls.write_plan c) = (c.learnt.0, c.learnt.1)

-- what the contract of `planner::plan_table` says
abbrev pub PlanTableSaid : Plan → (table frames passed table-now frames-now passed-now : List ℕ) → Outcome Made → Type 0
PlanTableSaid p table frames passed table-now frames-now passed-now r =
    (numbered r ≡ planner.answer_of (plan_answer (lines p) (length table) (length frames)))
    × (table-now ≡ table_after (plan_answer (lines p) (length table) (length frames)) table)
    × (frames-now ≡ frames_after (plan_answer (lines p) (length table) (length frames)) frames)
    × (passed-now ≡ counts_after (plan_answer (lines p) (length table) (length frames)) passed)

pub plan_table_says : {p : Plan} {table frames passed table-now frames-now passed-now : List ℕ} {r : Outcome Made} → calls.PlanTable p table frames passed table-now frames-now passed-now r →
    PlanTableSaid p table frames passed table-now frames-now passed-now r
plan_table_says (calls.plan_table c) = (c.learnt.0, c.learnt.1.0, c.learnt.1.1.0, c.learnt.1.1.1)

-- what the contract of `listing::write_listing` says
abbrev pub WriteListingSaid : Plan → (delay : ℕ) → (passed table frames out out-now : List ℕ) → Outcome ℕ → Type 0
WriteListingSaid p delay passed table frames out out-now r =
    (numbered r ≡ writer.answer_of (listing.written_of (length out) (words_listing (lines p) delay passed table frames)))
    × (out-now ≡ bytes_after (listing.written_of (length out) (words_listing (lines p) delay passed table frames)) out)

pub write_listing_says : {p : Plan} {delay : ℕ} {passed table frames out out-now : List ℕ} {r : Outcome ℕ} → calls.WriteListing p delay passed table frames out out-now r → WriteListingSaid p delay passed table frames out out-now r
write_listing_says (calls.write_listing c) = (c.learnt.0, c.learnt.1)

-- what the contract of `listing::write_refusal` says
abbrev pub WriteRefusalSaid : ℕ → (out out-now : List ℕ) → Outcome ℕ → Type 0
WriteRefusalSaid number out out-now r =
    (numbered r ≡ writer.answer_of (listing.written_of (length out) (refused_line number)))
    × (out-now ≡ bytes_after (listing.written_of (length out) (refused_line number)) out)

pub write_refusal_says : {number : ℕ} {out out-now : List ℕ} {r : Outcome ℕ} → calls.WriteRefusal number out out-now r → WriteRefusalSaid number out out-now r
write_refusal_says (calls.write_refusal c) = (c.learnt.0, c.learnt.1)

pub list_plan_says : {text out out-now : List ℕ} {r : Outcome ℕ} → calls.ListPlan text out out-now r → ListsPlan text out out-now r
list_plan_says (calls.list_plan c) = c.learnt

pub print_all_says : {text out out-now : List ℕ} {count : ℕ} → calls.PrintAll text out out-now count → Prints text out out-now count
print_all_says (calls.print_all c) = c.learnt

pub check_table_says : {p : Plan} {table : List ℕ} {delay : ℕ} {r : Outcome (Unit {0})} → calls.CheckTable p table delay r → numbered r ≡ checker.answer_of (check (lines p) table delay)
check_table_says (calls.check_table c) = c.learnt

pub check_listing_says : {p : Plan} {listing : List ℕ} {r : Outcome (Unit {0})} → calls.CheckListing p listing r → checker-listing.Checks (lines p) listing r
check_listing_says (calls.check_listing c) = c.learnt

pub print_check_says : {input out out-now : List ℕ} {count : ℕ} → calls.PrintCheck input out out-now count → check-program.Prints input out out-now count
print_check_says (calls.print_check c) = c.learnt

-- what the contract of `kernel_rows::row_entries` says
abbrev pub RowEntriesSaid : (place : ℕ × ℕ) → List ℕ → ℕ → (part-place : ℕ × ℕ) → List ℕ → Type 0
RowEntriesSaid place table row part-place part =
    (part-place ≡ words_on place (row_start table row)) × (part ≡ row_part table row)

pub row_entries_says : {place : ℕ × ℕ} {table : List ℕ} {row : ℕ} {part-place : ℕ × ℕ} {part : List ℕ} → calls.RowEntries place table row part-place part → RowEntriesSaid place table row part-place part
row_entries_says (calls.row_entries c) = (c.learnt.0, c.learnt.1)

pub lookup_says : {p : Plan} {table : List ℕ} {node tick heard values from : ℕ} {r : Outcome (Option ℕ)} → calls.Lookup p table node tick heard values from r →
    numbered r ≡ found_of (lookup (lines p) table node tick heard values from)
lookup_says (calls.lookup c) = c.learnt

pub c_copy_plan_says : {text out out-now : List ℕ} {answer : ℕ} → calls.CCopyPlan text out out-now answer → Copies text out out-now answer
c_copy_plan_says (calls.c_copy_plan c) = c.learnt

pub c_plan_table_says : {text table frames totals table-now frames-now totals-now : List ℕ} {answer : ℕ} → calls.CPlanTable text table frames totals table-now frames-now totals-now answer →
    Tables text table frames totals table-now frames-now totals-now answer
c_plan_table_says (calls.c_plan_table c) = c.learnt

pub c_plan_listing_says : {text out out-now : List ℕ} {answer : ℕ} → calls.CPlanListing text out out-now answer → Lists text out out-now answer
c_plan_listing_says (calls.c_plan_listing c) = c.learnt

pub c_check_table_says : {text table : List ℕ} {delay answer : ℕ} → calls.CCheckTable text table delay answer → Checks text table delay answer
c_check_table_says (calls.c_check_table c) = c.learnt

pub c_check_listing_says : {text listing : List ℕ} {answer : ℕ} → calls.CCheckListing text listing answer → ChecksListingText text listing answer
c_check_listing_says (calls.c_check_listing c) = c.learnt

pub c_lookup_says : {text table : List ℕ} {node tick heard values from answer : ℕ} → calls.CLookup text table node tick heard values from answer →
    AnswersLookup text table node tick heard values from answer
c_lookup_says (calls.c_lookup c) = c.learnt

pub c_row_start_says : {table : List ℕ} {row answer : ℕ} → calls.CRowStart table row answer → answer ≡ 4 * row_start (words_of table) row
c_row_start_says (calls.c_row_start c) = c.learnt

pub c_row_length_says : {table : List ℕ} {row answer : ℕ} → calls.CRowLength table row answer → answer ≡ 4 * row_length (words_of table) row
c_row_length_says (calls.c_row_length c) = c.learnt

pub code_keeps : CodeKeeps
code_keeps =
    record {
      empty = empty-met.met;
      refuse = refuse-met.met;
      read_plan = read-plan-met.met;
      write_plan = write-plan-met.met;
      plan_table = plan-table-met.met;
      write_listing = write-listing-met.met;
      write_refusal = write-refusal-met.met;
      list_plan = list-plan-met.met;
      print_all = print-all-met.met;
      check_table = check-table-met.met;
      check_listing = check-listing-met.met;
      print_check = print-check-met.met;
      row_entries = row-entries-met.met;
      lookup = lookup-met.met;
      c_copy_plan = c-copy-plan-met.met;
      c_plan_table = c-plan-table-met.met;
      c_plan_listing = c-plan-listing-met.met;
      c_check_table = c-check-table-met.met;
      c_check_listing = c-check-listing-met.met;
      c_lookup = c-lookup-met.met;
      c_row_start = c-row-start-met.met;
      c_row_length = c-row-length-met.met;
    }

pub asks_nothing : AsksNothing
asks_nothing =
    record {
      empty = λ κs a. tt;
      refuse = λ κs a. tt;
      read_plan = λ κs a. tt;
      write_plan = λ κs a. tt;
      plan_table = λ κs a. tt;
      write_listing = λ κs a. tt;
      write_refusal = λ κs a. tt;
      list_plan = λ κs a. tt;
      print_all = λ κs a. tt;
      check_table = λ κs a. tt;
      check_listing = λ κs a. tt;
      print_check = λ κs a. tt;
      row_entries = λ κs a. tt;
      lookup = λ κs a. tt;
      c_copy_plan = λ κs a. tt;
      c_plan_table = λ κs a. tt;
      c_plan_listing = λ κs a. tt;
      c_check_table = λ κs a. tt;
      c_check_listing = λ κs a. tt;
      c_lookup = λ κs a. tt;
      c_row_start = λ κs a. tt;
      c_row_length = λ κs a. tt;
    }
