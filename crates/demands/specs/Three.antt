-- Demand 3: "The planner and the table checker share one notion of a sound table": the checker accepts exactly the
-- sound tables, what the planner writes is accepted with the delay that it gives, and of an accepted table every run
-- is right, and exact with full ticks (`RunsRight` in crates/model/specs/Demand.antt). Over calls of the functions
-- (specs/Calls.antt): in memory, from C, and for a table that is accepted as words and looked up as bytes.
-- Assumes nothing.
use Rattle.std.specs.Prelude.{Ok, ℕ, ◌≤◌, ◌<◌, ◌≡◌, ◌↔◌, List, length, take, get_or}
use Rattle.model.specs.Plan.{Lines}
use Rattle.model.specs.Text.{Means}
use Rattle.model.specs.Checking.{Sound}
use Rattle.model.specs.Demand.{RunsRight}
use Rattle.model.specs.Firmware.{words_of}
use Rattle.plan.specs.declared.Plan.{Plan}
use Rattle.plan.specs.Memory.{lines}
use Rattle.planner_table.specs.declared.Made.{Made}
use Rattle.demands.specs.Calls.{Outcome}
use Rattle.demands.specs.Calls as calls
use Rattle.demands.specs.Kernel.{Answers, ByLookup, asked, Numbers, ByCLookup, asked_numbers}
use Rattle.demands.specs.Two.{NotRefused}

-- a text of at most 16,384 bytes means lines for which a table is sound
pub record SoundFor (text words : List ℕ) (delay : ℕ) : Type 0 where
  pub plan : Lines
  pub means : Means text plan
  pub short : length text ≤ 16384
  pub sound : Sound plan words delay

pub record Demand3 : Type 0 where
  -- `checker::check_table` accepts exactly the sound tables
  pub accepts : (p : Plan) (table : List ℕ) (delay : ℕ) (r : Outcome (Unit {0})) → calls.CheckTable p table delay r →
      (r ≡ Ok tt) ↔ Sound (lines p) table delay
  -- it accepts what `planner::plan_table` wrote, as many words as that says, with the delay that it gave
  pub planned_accepted : (p : Plan) (table frames passed table-now frames-now passed-now : List ℕ) (m : Made) →
      calls.PlanTable p table frames passed table-now frames-now passed-now (Ok m) → (r : Outcome (Unit {0})) →
      calls.CheckTable p (take m.words table-now) m.delay r → r ≡ Ok tt
  -- every run of a table that it accepted, with answers of `kernel::lookup`
  pub runs_right : (p : Plan) (table : List ℕ) (delay : ℕ) → calls.CheckTable p table delay (Ok tt) → (answers : Answers) →
      ByLookup p table answers → RunsRight (lines p) table delay (asked answers)
  -- `riscadru_check_table` answers 0 exactly where the table is sound for the lines that the text means
  pub c_accepts : (text table : List ℕ) (delay answer : ℕ) → calls.CCheckTable text table delay answer →
      (answer ≡ 0) ↔ SoundFor text (words_of table) delay
  -- it answers 0 to what `riscadru_plan_table` wrote, as many bytes as that says, with the delay in the totals, if at
  -- least twelve bytes are lent for these
  pub c_planned_accepted : (text table frames totals table-now frames-now totals-now : List ℕ) (count : ℕ) →
      calls.CPlanTable text table frames totals table-now frames-now totals-now count → NotRefused count → 12 ≤ length totals → (answer : ℕ) →
      calls.CCheckTable text (take count table-now) (get_or (words_of totals-now) 2 0) answer → answer ≡ 0
  -- every run of a table that it accepted, with answers of `riscadru_lookup`; a lent slice has fewer than 2^64 bytes
  pub c_runs_right : (text table : List ℕ) (delay : ℕ) → length table < 18446744073709551616 → calls.CCheckTable text table delay 0 → (p : Lines) →
      Means text p → (answers : Numbers) → ByCLookup text table p answers → RunsRight p (words_of table) delay (asked_numbers answers)
  -- every run of a table that `checker::check_table` accepted as words, with answers of `riscadru_lookup` to bytes of
  -- which these are the words, and to a text that means the plan's lines
  pub words_as_bytes : (p : Plan) (table : List ℕ) (delay : ℕ) → calls.CheckTable p table delay (Ok tt) → (text bytes : List ℕ) →
      Means text (lines p) → length text ≤ 16384 → words_of bytes ≡ table → length bytes < 18446744073709551616 → (answers : Numbers) →
      ByCLookup text bytes (lines p) answers → RunsRight (lines p) table delay (asked_numbers answers)
