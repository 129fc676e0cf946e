-- Whatever values a function's contract allows are those of a call: the relations of specs/Calls.antt say no more
-- than the contracts, so that the demands, which are stated over them, are not about nothing.
-- Assumes nothing.
use Rattle.std.specs.Prelude.{Option}
use Prim.Native.Nat.{ℕ, ◌*◌}
use mathlib.Core.Path.{◌≡◌}
use mathlib.Core.List.{List, []}
use Rattle.model.specs.Refusals.{plan_refusal}
use Rattle.model.specs.Text.{AnswersText}
use Rattle.model.specs.Checking.{check}
use Rattle.model.specs.Lookup.{lookup, row_start, row_length}
use Rattle.model.specs.Firmware.{words_of, AnswersLookup}
use Rattle.refusals.specs.Numbers.{numbered}
use Rattle.plan.specs.declared.Plan.{Plan}
use Rattle.planner_table.specs.declared.Made.{Made}
use Rattle.plan.specs.Memory.{lines, empty_plan}
use Rattle.plan_refusals.specs.Answer.{refusal_of}
use Rattle.text_reader.specs.Answer.{reading_of}
use Rattle.program.specs.Listing.{ListsPlan}
use Rattle.program.specs.Printing.{Prints}
use Rattle.checker_table.specs.Verdict as checker
use Rattle.checker_listing.specs.Listing as checker-listing
use Rattle.check_program.specs.Answer as check-program
use Rattle.kernel.specs.Finding.{found_of}
use Rattle.c_check.specs.Checks.{Checks}
use Rattle.c_text.specs.Copy.{Copies}
use Rattle.c_text.specs.Listing.{Lists}
use Rattle.c_interface.specs.Tables.{Tables}
use Rattle.c_interface.specs.Listings.{ChecksListingText}
use denote.Ref.{Bor, MutBor}
use Rattle.demands.specs.Calls.{Outcome}
use Rattle.demands.specs.Calls as calls
use Rattle.demands.proofs.Contracts.{WritePlanSaid, PlanTableSaid, WriteListingSaid, WriteRefusalSaid, RowEntriesSaid}

-- a reference to a value, wherever it lies
abbrev lent_at : {X : Type 0} → ℕ × ℕ → X → Bor X
lent_at place x = record { ref_ptr = place; now = x }

abbrev lent : {X : Type 0} → X → Bor X
lent x = lent_at (0, 0) x

-- a reference through which a value may be changed
abbrev lent_mut : {X : Type 0} → X → MutBor X
lent_mut x = record { ref_ptr = (0, 0); ghost_name = 0; now = x }

pub empty_called : (p : Plan) → p ≡ empty_plan → calls.Empty p
empty_called p e =
    calls.empty (record { lifetimes = tt; handed = tt; result = p; ended = tt; learnt = e })

pub refuse_called : (p : Plan) (r : Outcome (Unit {0})) → refusal_of r ≡ plan_refusal (lines p) → calls.Refuse p r
refuse_called p r e =
    calls.refuse (record { lifetimes = tt; handed = (p, tt); result = r; ended = (p, tt); learnt = e })

pub read_plan_called : (text : List ℕ) (r : Outcome Plan) → AnswersText text (reading_of r) → calls.ReadPlan text r
read_plan_called text r e =
    calls.read_plan (record { lifetimes = ([], tt); handed = (lent text, tt); result = r; ended = (lent text, tt); learnt = e })

pub write_plan_called : (p : Plan) (out out-now : List ℕ) (r : Outcome ℕ) → WritePlanSaid p out out-now r → calls.WritePlan p out out-now r
write_plan_called p out out-now r e =
    calls.write_plan (record { lifetimes = ([], tt); handed = (p, (lent_mut out, tt)); result = r; ended = (p, (lent_mut out-now, tt)); learnt = (e.0, e.1) })

pub plan_table_called : (p : Plan) (table frames passed table-now frames-now passed-now : List ℕ) (r : Outcome Made) → PlanTableSaid p table frames passed table-now frames-now passed-now r →
    calls.PlanTable p table frames passed table-now frames-now passed-now r
plan_table_called p table frames passed table-now frames-now passed-now r e =
    calls.plan_table (record { lifetimes = ([], ([], ([], tt))); handed = (p, (lent_mut table, (lent_mut frames, (lent_mut passed, tt)))); result = r; ended = (p, (lent_mut table-now, (lent_mut frames-now, (lent_mut passed-now, tt)))); learnt = (e.0, (e.1, (e.2, e.3))) })

pub write_listing_called : (p : Plan) (delay : ℕ) (passed table frames out out-now : List ℕ) (r : Outcome ℕ) → WriteListingSaid p delay passed table frames out out-now r → calls.WriteListing p delay passed table frames out out-now r
write_listing_called p delay passed table frames out out-now r e =
    calls.write_listing (record { lifetimes = ([], ([], tt)); handed = (p, (delay, (lent passed, (lent table, (lent frames, (lent_mut out, tt)))))); result = r; ended = (p, (delay, (lent passed, (lent table, (lent frames, (lent_mut out-now, tt)))))); learnt = (e.0, e.1) })

pub write_refusal_called : (number : ℕ) (out out-now : List ℕ) (r : Outcome ℕ) → WriteRefusalSaid number out out-now r → calls.WriteRefusal number out out-now r
write_refusal_called number out out-now r e =
    calls.write_refusal (record { lifetimes = ([], tt); handed = (number, (lent_mut out, tt)); result = r; ended = (number, (lent_mut out-now, tt)); learnt = (e.0, e.1) })

pub list_plan_called : (text out out-now : List ℕ) (r : Outcome ℕ) → ListsPlan text out out-now r → calls.ListPlan text out out-now r
list_plan_called text out out-now r e =
    calls.list_plan (record { lifetimes = ([], ([], tt)); handed = (lent text, (lent_mut out, tt)); result = r; ended = (lent text, (lent_mut out-now, tt)); learnt = e })

pub print_all_called : (text out out-now : List ℕ) (r : ℕ) → Prints text out out-now r → calls.PrintAll text out out-now r
print_all_called text out out-now r e =
    calls.print_all (record { lifetimes = ([], ([], tt)); handed = (lent text, (lent_mut out, tt)); result = r; ended = (lent text, (lent_mut out-now, tt)); learnt = e })

pub check_table_called : (p : Plan) (table : List ℕ) (delay : ℕ) (r : Outcome (Unit {0})) → numbered r ≡ checker.answer_of (check (lines p) table delay) → calls.CheckTable p table delay r
check_table_called p table delay r e =
    calls.check_table (record { lifetimes = ([], tt); handed = (p, (lent table, (delay, tt))); result = r; ended = (p, (lent table, (delay, tt))); learnt = e })

pub check_listing_called : (p : Plan) (listing : List ℕ) (r : Outcome (Unit {0})) → checker-listing.Checks (lines p) listing r → calls.CheckListing p listing r
check_listing_called p listing r e =
    calls.check_listing (record { lifetimes = ([], tt); handed = (p, (lent listing, tt)); result = r; ended = (p, (lent listing, tt)); learnt = e })

pub print_check_called : (input out out-now : List ℕ) (r : ℕ) → check-program.Prints input out out-now r → calls.PrintCheck input out out-now r
print_check_called input out out-now r e =
    calls.print_check (record { lifetimes = ([], ([], tt)); handed = (lent input, (lent_mut out, tt)); result = r; ended = (lent input, (lent_mut out-now, tt)); learnt = e })

pub row_entries_called : (place : ℕ × ℕ) (table : List ℕ) (row : ℕ) (part-place : ℕ × ℕ) (part : List ℕ) → RowEntriesSaid place table row part-place part → calls.RowEntries place table row part-place part
row_entries_called place table row part-place part e =
    calls.row_entries (record { lifetimes = ([], tt); handed = (lent_at place table, (row, tt)); result = lent_at part-place part; ended = (lent_at place table, (row, tt)); learnt = (e.0, e.1) })

pub lookup_called : (p : Plan) (table : List ℕ) (node tick heard values from : ℕ) (r : Outcome (Option ℕ)) → numbered r ≡ found_of (lookup (lines p) table node tick heard values from) → calls.Lookup p table node tick heard values from r
lookup_called p table node tick heard values from r e =
    calls.lookup (record { lifetimes = ([], tt); handed = (p, (lent table, (node, (tick, (heard, (values, (from, tt))))))); result = r; ended = (p, (lent table, (node, (tick, (heard, (values, (from, tt))))))); learnt = e })

pub c_copy_plan_called : (text out out-now : List ℕ) (r : ℕ) → Copies text out out-now r → calls.CCopyPlan text out out-now r
c_copy_plan_called text out out-now r e =
    calls.c_copy_plan (record { lifetimes = ([], ([], tt)); handed = (lent text, (lent_mut out, tt)); result = r; ended = (lent text, (lent_mut out-now, tt)); learnt = e })

pub c_plan_table_called : (text table frames totals table-now frames-now totals-now : List ℕ) (r : ℕ) → Tables text table frames totals table-now frames-now totals-now r → calls.CPlanTable text table frames totals table-now frames-now totals-now r
c_plan_table_called text table frames totals table-now frames-now totals-now r e =
    calls.c_plan_table (record { lifetimes = ([], ([], ([], ([], tt)))); handed = (lent text, (lent_mut table, (lent_mut frames, (lent_mut totals, tt)))); result = r; ended = (lent text, (lent_mut table-now, (lent_mut frames-now, (lent_mut totals-now, tt)))); learnt = e })

pub c_plan_listing_called : (text out out-now : List ℕ) (r : ℕ) → Lists text out out-now r → calls.CPlanListing text out out-now r
c_plan_listing_called text out out-now r e =
    calls.c_plan_listing (record { lifetimes = ([], ([], tt)); handed = (lent text, (lent_mut out, tt)); result = r; ended = (lent text, (lent_mut out-now, tt)); learnt = e })

pub c_check_table_called : (text table : List ℕ) (delay r : ℕ) → Checks text table delay r → calls.CCheckTable text table delay r
c_check_table_called text table delay r e =
    calls.c_check_table (record { lifetimes = ([], ([], tt)); handed = (lent text, (lent table, (delay, tt))); result = r; ended = (lent text, (lent table, (delay, tt))); learnt = e })

pub c_check_listing_called : (text listing : List ℕ) (r : ℕ) → ChecksListingText text listing r → calls.CCheckListing text listing r
c_check_listing_called text listing r e =
    calls.c_check_listing (record { lifetimes = ([], ([], tt)); handed = (lent text, (lent listing, tt)); result = r; ended = (lent text, (lent listing, tt)); learnt = e })

pub c_lookup_called : (text table : List ℕ) (node tick heard values from r : ℕ) → AnswersLookup text table node tick heard values from r → calls.CLookup text table node tick heard values from r
c_lookup_called text table node tick heard values from r e =
    calls.c_lookup (record { lifetimes = ([], ([], tt)); handed = (lent text, (lent table, (node, (tick, (heard, (values, (from, tt))))))); result = r; ended = (lent text, (lent table, (node, (tick, (heard, (values, (from, tt))))))); learnt = e })

pub c_row_start_called : (table : List ℕ) (row r : ℕ) → r ≡ 4 * row_start (words_of table) row → calls.CRowStart table row r
c_row_start_called table row r e =
    calls.c_row_start (record { lifetimes = ([], tt); handed = (lent table, (row, tt)); result = r; ended = (lent table, (row, tt)); learnt = e })

pub c_row_length_called : (table : List ℕ) (row r : ℕ) → r ≡ 4 * row_length (words_of table) row → calls.CRowLength table row r
c_row_length_called table row r e =
    calls.c_row_length (record { lifetimes = ([], tt); handed = (lent table, (row, tt)); result = r; ended = (lent table, (row, tt)); learnt = e })
