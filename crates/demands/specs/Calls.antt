-- Calls of the functions that users call. For each of them a relation says: a call that was handed these values ended
-- with this result, and left this in what was lent. All that is known of the call is what the function's contract
-- says, as the compiler reads it from the `ensures` in the code (`Learnt` of the function's `Reads`); the code of
-- each function keeps its contract (`CodeKeeps`), and no contract asks anything of a caller (`AsksNothing`). The
-- demands are stated over these relations.
-- Assumes nothing.
use Rattle.std.specs.Prelude.{ℕ, List, Option, Result}
use borrow.Fn.Kinds.{ParamKind, ResultKind, Dens, res_t, ended_of, In, Out}
use contract.Lifetimes.{Lfts}
use denote.Triple.Clauses.{AtExit}
use Rattle.plan.specs.declared.Plan.{Plan}
use Rattle.refusals.specs.declared.Refusal.{Refusal}
use Rattle.planner_table.specs.declared.Made.{Made}
use Rattle.plan.proofs.empty.Statement as empty-statement
use Rattle.plan.proofs.empty.Kinds as empty-kinds
use Rattle.plan.proofs.empty.Reads as empty-reads
use Rattle.plan_refusals.proofs.refuse.Statement as refuse-statement
use Rattle.plan_refusals.proofs.refuse.Kinds as refuse-kinds
use Rattle.plan_refusals.proofs.refuse.Reads as refuse-reads
use Rattle.text_reader.proofs.read_plan.Statement as read-plan-statement
use Rattle.text_reader.proofs.read_plan.Kinds as read-plan-kinds
use Rattle.text_reader.proofs.read_plan.Reads as read-plan-reads
use Rattle.text_writer.proofs.write_plan.Statement as write-plan-statement
use Rattle.text_writer.proofs.write_plan.Kinds as write-plan-kinds
use Rattle.text_writer.proofs.write_plan.Reads as write-plan-reads
use Rattle.planner.proofs.plan_table.Statement as plan-table-statement
use Rattle.planner.proofs.plan_table.Kinds as plan-table-kinds
use Rattle.planner.proofs.plan_table.Reads as plan-table-reads
use Rattle.listing.proofs.write_listing.Statement as write-listing-statement
use Rattle.listing.proofs.write_listing.Kinds as write-listing-kinds
use Rattle.listing.proofs.write_listing.Reads as write-listing-reads
use Rattle.listing.proofs.write_refusal.Statement as write-refusal-statement
use Rattle.listing.proofs.write_refusal.Kinds as write-refusal-kinds
use Rattle.listing.proofs.write_refusal.Reads as write-refusal-reads
use Rattle.program.proofs.list_plan.Statement as list-plan-statement
use Rattle.program.proofs.list_plan.Kinds as list-plan-kinds
use Rattle.program.proofs.list_plan.Reads as list-plan-reads
use Rattle.program.proofs.print_all.Statement as print-all-statement
use Rattle.program.proofs.print_all.Kinds as print-all-kinds
use Rattle.program.proofs.print_all.Reads as print-all-reads
use Rattle.checker.proofs.check_table.Statement as check-table-statement
use Rattle.checker.proofs.check_table.Kinds as check-table-kinds
use Rattle.checker.proofs.check_table.Reads as check-table-reads
use Rattle.checker.proofs.check_listing.Statement as check-listing-statement
use Rattle.checker.proofs.check_listing.Kinds as check-listing-kinds
use Rattle.checker.proofs.check_listing.Reads as check-listing-reads
use Rattle.check_program.proofs.print_check.Statement as print-check-statement
use Rattle.check_program.proofs.print_check.Kinds as print-check-kinds
use Rattle.check_program.proofs.print_check.Reads as print-check-reads
use Rattle.kernel_rows.proofs.row_entries.Statement as row-entries-statement
use Rattle.kernel_rows.proofs.row_entries.Kinds as row-entries-kinds
use Rattle.kernel_rows.proofs.row_entries.Reads as row-entries-reads
use Rattle.kernel.proofs.lookup.Statement as lookup-statement
use Rattle.kernel.proofs.lookup.Kinds as lookup-kinds
use Rattle.kernel.proofs.lookup.Reads as lookup-reads
use Rattle.c_interface.proofs.riscadru_copy_plan.Statement as c-copy-plan-statement
use Rattle.c_interface.proofs.riscadru_copy_plan.Kinds as c-copy-plan-kinds
use Rattle.c_interface.proofs.riscadru_copy_plan.Reads as c-copy-plan-reads
use Rattle.c_interface.proofs.riscadru_plan_table.Statement as c-plan-table-statement
use Rattle.c_interface.proofs.riscadru_plan_table.Kinds as c-plan-table-kinds
use Rattle.c_interface.proofs.riscadru_plan_table.Reads as c-plan-table-reads
use Rattle.c_interface.proofs.riscadru_plan_listing.Statement as c-plan-listing-statement
use Rattle.c_interface.proofs.riscadru_plan_listing.Kinds as c-plan-listing-kinds
use Rattle.c_interface.proofs.riscadru_plan_listing.Reads as c-plan-listing-reads
use Rattle.c_interface.proofs.riscadru_check_table.Statement as c-check-table-statement
use Rattle.c_interface.proofs.riscadru_check_table.Kinds as c-check-table-kinds
use Rattle.c_interface.proofs.riscadru_check_table.Reads as c-check-table-reads
use Rattle.c_interface.proofs.riscadru_check_listing.Statement as c-check-listing-statement
use Rattle.c_interface.proofs.riscadru_check_listing.Kinds as c-check-listing-kinds
use Rattle.c_interface.proofs.riscadru_check_listing.Reads as c-check-listing-reads
use Rattle.c_interface.proofs.riscadru_lookup.Statement as c-lookup-statement
use Rattle.c_interface.proofs.riscadru_lookup.Kinds as c-lookup-kinds
use Rattle.c_interface.proofs.riscadru_lookup.Reads as c-lookup-reads
use Rattle.c_interface.proofs.riscadru_row_start.Statement as c-row-start-statement
use Rattle.c_interface.proofs.riscadru_row_start.Kinds as c-row-start-kinds
use Rattle.c_interface.proofs.riscadru_row_start.Reads as c-row-start-reads
use Rattle.c_interface.proofs.riscadru_row_length.Statement as c-row-length-statement
use Rattle.c_interface.proofs.riscadru_row_length.Kinds as c-row-length-kinds
use Rattle.c_interface.proofs.riscadru_row_length.Reads as c-row-length-reads

-- A call of a function with parameters of the kinds `ps` and a result of the kind `r`, of which a caller learns
-- `Learnt`: the values handed, the result, and what is lent as the call ends.
pub record Call {n : ℕ} (ps : List (ParamKind n)) (r : ResultKind n) (Learnt : Out n ps r) : Type 0 where
  pub lifetimes : Lfts n
  pub handed : Dens lifetimes ps
  pub result : (res_t r lifetimes).Denot
  pub ended : AtExit (ended_of n ps r) lifetimes
  pub learnt : Learnt lifetimes handed result ended

-- what a function answers: a result, or the refusal that applies
abbrev pub Outcome : Type 0 → Type 0
Outcome A = Result A Refusal

-- whatever values a call is handed, what `requires` asks of them holds
abbrev pub Total : {n : ℕ} (ps : List (ParamKind n)) → In n ps → Type 0
Total {n} ps Asked = (κs : Lfts n) (a : Dens κs ps) → Asked κs a

-- `plan::empty`: the plan to start from
pub data Empty : (plan : Plan) → Type 0 where
  empty : (c : Call empty-kinds.ps empty-kinds.r empty-reads.Learnt) →
      Empty c.result

-- `plan_refusals::refuse`: a plan, and the refusal found
pub data Refuse : (plan : Plan) → (answer : Outcome (Unit {0})) → Type 0 where
  refuse : (c : Call refuse-kinds.ps refuse-kinds.r refuse-reads.Learnt) →
      Refuse c.handed.0 c.result

-- `text_reader::read_plan`: a text, and what it is read as
pub data ReadPlan : (text : List ℕ) → (answer : Outcome Plan) → Type 0 where
  read_plan : (c : Call read-plan-kinds.ps read-plan-kinds.r read-plan-reads.Learnt) →
      ReadPlan c.handed.0.now c.result

-- `text_writer::write_plan`: a plan and the bytes lent, those bytes afterwards, and the answer
pub data WritePlan : (plan : Plan) → (out out-now : List ℕ) → (answer : Outcome ℕ) → Type 0 where
  write_plan : (c : Call write-plan-kinds.ps write-plan-kinds.r write-plan-reads.Learnt) →
      WritePlan c.handed.0 c.handed.1.0.now c.ended.1.0.now c.result

-- `planner::plan_table`: a plan and the words lent for table, frame list and the counts of the nodes, those words
-- afterwards, and the answer
pub data PlanTable : (plan : Plan) → (table frames passed table-now frames-now passed-now : List ℕ) → (answer : Outcome Made) → Type 0 where
  plan_table : (c : Call plan-table-kinds.ps plan-table-kinds.r plan-table-reads.Learnt) →
      PlanTable c.handed.0 c.handed.1.0.now c.handed.1.1.0.now c.handed.1.1.1.0.now c.ended.1.0.now
      c.ended.1.1.0.now c.ended.1.1.1.0.now c.result

-- `listing::write_listing`: a plan, delay, counts of the nodes, table, frame list and the bytes lent, those bytes
-- afterwards, and the answer
pub data WriteListing : (plan : Plan) → (delay : ℕ) → (passed table frames out out-now : List ℕ) → (answer : Outcome ℕ) → Type 0 where
  write_listing : (c : Call write-listing-kinds.ps write-listing-kinds.r write-listing-reads.Learnt) →
      WriteListing c.handed.0 c.handed.1.0 c.handed.1.1.0.now c.handed.1.1.1.0.now c.handed.1.1.1.1.0.now c.handed.1.1.1.1.1.0.now c.ended.1.1.1.1.1.0.now c.result

-- `listing::write_refusal`: a number and the bytes lent, those bytes afterwards, and the answer
pub data WriteRefusal : (number : ℕ) → (out out-now : List ℕ) → (answer : Outcome ℕ) → Type 0 where
  write_refusal : (c : Call write-refusal-kinds.ps write-refusal-kinds.r write-refusal-reads.Learnt) →
      WriteRefusal c.handed.0 c.handed.1.0.now c.ended.1.0.now c.result

-- `program::list_plan`: a text and the bytes lent, those bytes afterwards, and the answer
pub data ListPlan : (text out out-now : List ℕ) → (answer : Outcome ℕ) → Type 0 where
  list_plan : (c : Call list-plan-kinds.ps list-plan-kinds.r list-plan-reads.Learnt) →
      ListPlan c.handed.0.now c.handed.1.0.now c.ended.1.0.now c.result

-- `program::print_all`: a text and the bytes lent, those bytes afterwards, and how many were written
pub data PrintAll : (text out out-now : List ℕ) → (count : ℕ) → Type 0 where
  print_all : (c : Call print-all-kinds.ps print-all-kinds.r print-all-reads.Learnt) →
      PrintAll c.handed.0.now c.handed.1.0.now c.ended.1.0.now c.result

-- `checker::check_table`: a plan, a table and the delay stated for it, and the answer
pub data CheckTable : (plan : Plan) → (table : List ℕ) → (delay : ℕ) → (answer : Outcome (Unit {0})) → Type 0 where
  check_table : (c : Call check-table-kinds.ps check-table-kinds.r check-table-reads.Learnt) →
      CheckTable c.handed.0 c.handed.1.0.now c.handed.1.1.0 c.result

-- `checker::check_listing`: a plan and a listing text, and the answer
pub data CheckListing : (plan : Plan) → (listing : List ℕ) → (answer : Outcome (Unit {0})) → Type 0 where
  check_listing : (c : Call check-listing-kinds.ps check-listing-kinds.r check-listing-reads.Learnt) →
      CheckListing c.handed.0 c.handed.1.0.now c.result

-- `check_program::print_check`: an input and the bytes lent, those bytes afterwards, and how many were written
pub data PrintCheck : (input out out-now : List ℕ) → (count : ℕ) → Type 0 where
  print_check : (c : Call print-check-kinds.ps print-check-kinds.r print-check-reads.Learnt) →
      PrintCheck c.handed.0.now c.handed.1.0.now c.ended.1.0.now c.result

-- `kernel_rows::row_entries`: where a table lies, its words and a row; where the part handed back lies, and its words
pub data RowEntries : (place : ℕ × ℕ) → (table : List ℕ) → (row : ℕ) → (part-place : ℕ × ℕ) → (part : List ℕ) → Type 0 where
  row_entries : (c : Call row-entries-kinds.ps row-entries-kinds.r row-entries-reads.Learnt) →
      RowEntries c.handed.0.ref_ptr c.handed.0.now c.handed.1.0 c.result.ref_ptr c.result.now

-- `kernel::lookup`: a plan, a table, node, tick, heard bits, values and the entry to begin at, and the answer
pub data Lookup : (plan : Plan) → (table : List ℕ) → (node tick heard values from : ℕ) → (answer : Outcome (Option ℕ)) → Type 0 where
  lookup : (c : Call lookup-kinds.ps lookup-kinds.r lookup-reads.Learnt) →
      Lookup c.handed.0 c.handed.1.0.now c.handed.1.1.0 c.handed.1.1.1.0 c.handed.1.1.1.1.0 c.handed.1.1.1.1.1.0 c.handed.1.1.1.1.1.1.0 c.result

-- `riscadru_copy_plan`: a text and the bytes lent, those bytes afterwards, and the number answered
pub data CCopyPlan : (text out out-now : List ℕ) → (answer : ℕ) → Type 0 where
  c_copy_plan : (c : Call c-copy-plan-kinds.ps c-copy-plan-kinds.r c-copy-plan-reads.Learnt) →
      CCopyPlan c.handed.0.now c.handed.1.0.now c.ended.1.0.now c.result

-- `riscadru_plan_table`: a text and the bytes lent for table, frame list and totals, those bytes afterwards, and the
-- number answered
pub data CPlanTable : (text table frames totals table-now frames-now totals-now : List ℕ) → (answer : ℕ) → Type 0 where
  c_plan_table : (c : Call c-plan-table-kinds.ps c-plan-table-kinds.r c-plan-table-reads.Learnt) →
      CPlanTable c.handed.0.now c.handed.1.0.now c.handed.1.1.0.now c.handed.1.1.1.0.now c.ended.1.0.now c.ended.1.1.0.now c.ended.1.1.1.0.now c.result

-- `riscadru_plan_listing`: a text and the bytes lent, those bytes afterwards, and the number answered
pub data CPlanListing : (text out out-now : List ℕ) → (answer : ℕ) → Type 0 where
  c_plan_listing : (c : Call c-plan-listing-kinds.ps c-plan-listing-kinds.r c-plan-listing-reads.Learnt) →
      CPlanListing c.handed.0.now c.handed.1.0.now c.ended.1.0.now c.result

-- `riscadru_check_table`: a text, a table's bytes and the delay stated for it, and the number answered
pub data CCheckTable : (text table : List ℕ) → (delay answer : ℕ) → Type 0 where
  c_check_table : (c : Call c-check-table-kinds.ps c-check-table-kinds.r c-check-table-reads.Learnt) →
      CCheckTable c.handed.0.now c.handed.1.0.now c.handed.1.1.0 c.result

-- `riscadru_check_listing`: a plan text and a listing text, and the number answered
pub data CCheckListing : (text listing : List ℕ) → (answer : ℕ) → Type 0 where
  c_check_listing : (c : Call c-check-listing-kinds.ps c-check-listing-kinds.r c-check-listing-reads.Learnt) →
      CCheckListing c.handed.0.now c.handed.1.0.now c.result

-- `riscadru_lookup`: a text, a table's bytes, node, tick, heard bits, values and the entry to begin at, and the
-- number answered
pub data CLookup : (text table : List ℕ) → (node tick heard values from answer : ℕ) → Type 0 where
  c_lookup : (c : Call c-lookup-kinds.ps c-lookup-kinds.r c-lookup-reads.Learnt) →
      CLookup c.handed.0.now c.handed.1.0.now c.handed.1.1.0 c.handed.1.1.1.0 c.handed.1.1.1.1.0 c.handed.1.1.1.1.1.0 c.handed.1.1.1.1.1.1.0 c.result

-- `riscadru_row_start`: a table's bytes and a row, and the number answered
pub data CRowStart : (table : List ℕ) → (row answer : ℕ) → Type 0 where
  c_row_start : (c : Call c-row-start-kinds.ps c-row-start-kinds.r c-row-start-reads.Learnt) →
      CRowStart c.handed.0.now c.handed.1.0 c.result

-- `riscadru_row_length`: a table's bytes and a row, and the number answered
pub data CRowLength : (table : List ℕ) → (row answer : ℕ) → Type 0 where
  c_row_length : (c : Call c-row-length-kinds.ps c-row-length-kinds.r c-row-length-reads.Learnt) →
      CRowLength c.handed.0.now c.handed.1.0 c.result

-- The code of each function, as the compiler hands it on, keeps the function's contract: its result, what is lent as it
-- ends, and that it ends and does not trap.
pub record CodeKeeps : Type 2 where
  pub empty : {M : Type 1} → empty-statement.statement M
  pub refuse : {M : Type 1} → refuse-statement.statement M
  pub read_plan : {M : Type 1} → read-plan-statement.statement M
  pub write_plan : {M : Type 1} → write-plan-statement.statement M
  pub plan_table : {M : Type 1} → plan-table-statement.statement M
  pub write_listing : {M : Type 1} → write-listing-statement.statement M
  pub write_refusal : {M : Type 1} → write-refusal-statement.statement M
  pub list_plan : {M : Type 1} → list-plan-statement.statement M
  pub print_all : {M : Type 1} → print-all-statement.statement M
  pub check_table : {M : Type 1} → check-table-statement.statement M
  pub check_listing : {M : Type 1} → check-listing-statement.statement M
  pub print_check : {M : Type 1} → print-check-statement.statement M
  pub row_entries : {M : Type 1} → row-entries-statement.statement M
  pub lookup : {M : Type 1} → lookup-statement.statement M
  pub c_copy_plan : {M : Type 1} → c-copy-plan-statement.statement M
  pub c_plan_table : {M : Type 1} → c-plan-table-statement.statement M
  pub c_plan_listing : {M : Type 1} → c-plan-listing-statement.statement M
  pub c_check_table : {M : Type 1} → c-check-table-statement.statement M
  pub c_check_listing : {M : Type 1} → c-check-listing-statement.statement M
  pub c_lookup : {M : Type 1} → c-lookup-statement.statement M
  pub c_row_start : {M : Type 1} → c-row-start-statement.statement M
  pub c_row_length : {M : Type 1} → c-row-length-statement.statement M

-- No contract asks anything of a caller.
pub record AsksNothing : Type 0 where
  pub empty : Total empty-kinds.ps empty-reads.Asked
  pub refuse : Total refuse-kinds.ps refuse-reads.Asked
  pub read_plan : Total read-plan-kinds.ps read-plan-reads.Asked
  pub write_plan : Total write-plan-kinds.ps write-plan-reads.Asked
  pub plan_table : Total plan-table-kinds.ps plan-table-reads.Asked
  pub write_listing : Total write-listing-kinds.ps write-listing-reads.Asked
  pub write_refusal : Total write-refusal-kinds.ps write-refusal-reads.Asked
  pub list_plan : Total list-plan-kinds.ps list-plan-reads.Asked
  pub print_all : Total print-all-kinds.ps print-all-reads.Asked
  pub check_table : Total check-table-kinds.ps check-table-reads.Asked
  pub check_listing : Total check-listing-kinds.ps check-listing-reads.Asked
  pub print_check : Total print-check-kinds.ps print-check-reads.Asked
  pub row_entries : Total row-entries-kinds.ps row-entries-reads.Asked
  pub lookup : Total lookup-kinds.ps lookup-reads.Asked
  pub c_copy_plan : Total c-copy-plan-kinds.ps c-copy-plan-reads.Asked
  pub c_plan_table : Total c-plan-table-kinds.ps c-plan-table-reads.Asked
  pub c_plan_listing : Total c-plan-listing-kinds.ps c-plan-listing-reads.Asked
  pub c_check_table : Total c-check-table-kinds.ps c-check-table-reads.Asked
  pub c_check_listing : Total c-check-listing-kinds.ps c-check-listing-reads.Asked
  pub c_lookup : Total c-lookup-kinds.ps c-lookup-reads.Asked
  pub c_row_start : Total c-row-start-kinds.ps c-row-start-reads.Asked
  pub c_row_length : Total c-row-length-kinds.ps c-row-length-reads.Asked
