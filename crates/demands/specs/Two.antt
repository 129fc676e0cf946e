-- Demand 2: "A plan text means what its printed form says, and writing a plan and reading it give each other back.
-- Table, frame list, pass-over count and worst delay are those of list scheduling on a conditional process graph over
-- TDMA slots, as laid down in document 01, ties included." Over calls of the functions (specs/Calls.antt). The printed
-- form of lines is `print` (crates/model/specs/Text.antt), and list scheduling is `result`
-- (crates/model/specs/Table.antt), which rests on `step` and `dispatch_order` (crates/model/specs/Planning.antt).
-- Assumes nothing.
use Rattle.std.specs.Prelude.{Ok, ℕ, ◌+◌, ◌*◌, ◌≤◌, ◌<◌, ◌≡◌, ◌⊎◌, true, length, take, get_or}
use mathlib.Core.List.{List, ◌++◌, map, Memᴰ as In}
use Rattle.lists.specs.Lists.{greatest}
use Rattle.lists.specs.Front.{front}
use Rattle.lists.specs.Ordered.{Ranked}
use Rattle.model.specs.Plan.{Lines, by_urgency, by_number, process, edge, out_of}
use Rattle.model.specs.Log.{Placed}
use Rattle.model.specs.Planning.{View, urgencies, weights, queue, candidate, unit_starts, bound}
use Rattle.model.specs.Refusals.{nothing}
use Rattle.model.specs.Text.{print, Means}
use Rattle.model.specs.Table.{result, entry_words, frame_words}
use Rattle.model.specs.Listing.{plan_listing}
use Rattle.c_words.specs.Bytes.{bytes_of}
use Rattle.plan.specs.declared.Plan.{Plan}
use Rattle.plan.specs.Memory.{lines}
use Rattle.planner_table.specs.declared.Made.{Made}
use Rattle.c_plan.specs.Filled.{totals_of}
use Rattle.demands.specs.Calls.{Outcome}
use Rattle.demands.specs.Calls as calls
use Rattle.demands.specs.Sentences.{FirstOf, plan_sentences, room_sentences, InNumber}

-- "highest first, ties to the lower number": x goes before y by a weight
abbrev pub GoesFirst : (ℕ → ℕ) → ℕ → ℕ → Type 0
GoesFirst weight x y = (weight y < weight x) ⊎ ((weight x ≡ weight y) × (x < y))

-- the number answered is not that of a refusal
abbrev pub NotRefused : ℕ → Type 0
NotRefused answer = (n : ℕ) → InNumber answer n → ⊥

-- what the planner made is what list scheduling gives for the plan's lines; words beyond stay as they were
pub record Scheduled (p : Lines) (table frames passed table-now frames-now passed-now : List ℕ) (m : Made) : Type 0 where
  pub start_table : table-now ≡ front (entry_words (result p).entries) table
  pub frame_list : frames-now ≡ front (frame_words (result p).frames) frames
  pub words : m.words ≡ length (entry_words (result p).entries)
  pub framewords : m.framewords ≡ length (frame_words (result p).frames)
  pub worst_delay : m.delay ≡ (result p).delay
  pub pass_overs : passed-now ≡ front (result p).passed passed

-- the same as bytes, four to a word, the lowest first
pub record ScheduledBytes (p : Lines) (table frames totals table-now frames-now totals-now : List ℕ) (answer : ℕ) : Type 0 where
  pub start_table : table-now ≡ front (bytes_of (entry_words (result p).entries)) table
  pub frame_list : frames-now ≡ front (bytes_of (frame_words (result p).frames)) frames
  pub total_words : totals-now ≡ front (take (length totals) (bytes_of (totals_of (result p)))) totals
  pub count : answer ≡ 4 * length (entry_words (result p).entries)

-- a text means lines to which no sentence applies, those on room for 3,000 entries and 2,000 frames included
pub record Plans (text : List ℕ) (p : Lines) : Type 0 where
  pub means : Means text p
  pub short : length text ≤ 16384
  pub fine : FirstOf (plan_sentences p ++ room_sentences (result p) 15000 6000) nothing

-- a text's plan is listed: the text means lines, and their listing stands at the front of the lent bytes
pub record ListedPlan (text out out-now : List ℕ) (count : ℕ) : Type 0 where
  pub plan : Lines
  pub means : Means text plan
  pub counted : count ≡ length (plan_listing plan)
  pub bytes : out-now ≡ front (plan_listing plan) out

pub record Demand2 : Type 0 where
  -- `text_reader::read_plan`: the plan that is read prints as the text, and no other lines do; lines to which no
  -- sentence applies are read from their text; two texts that are read as the same lines are the same
  pub meaning : (text : List ℕ) (p : Plan) → calls.ReadPlan text (Ok p) → print (lines p) ≡ text
  pub only_meaning : (text : List ℕ) (p : Plan) → calls.ReadPlan text (Ok p) → (q : Lines) → Means text q → q ≡ lines p
  pub is_read : (text : List ℕ) (r : Outcome Plan) → calls.ReadPlan text r → (q : Lines) → Means text q → length text ≤ 16384 → FirstOf (plan_sentences q) nothing →
      (p : Plan) × (r ≡ Ok p) × (lines p ≡ q)
  pub one_text : (text other : List ℕ) (p q : Plan) → calls.ReadPlan text (Ok p) → calls.ReadPlan other (Ok q) →
      lines p ≡ lines q → text ≡ other
  -- `text_writer::write_plan`, then `read_plan` on the bytes written: a plan with the same lines
  pub written_read : (p : Plan) (out out-now : List ℕ) (n : ℕ) → calls.WritePlan p out out-now (Ok n) → (r : Outcome Plan) →
      calls.ReadPlan (take n out-now) r → (q : Plan) × (r ≡ Ok q) × (lines q ≡ lines p)
  -- `read_plan`, then `write_plan` into bytes that suffice: the text, byte for byte, at their front
  pub read_written : (text : List ℕ) (p : Plan) → calls.ReadPlan text (Ok p) → (out out-now : List ℕ) (w : Outcome ℕ) →
      length text ≤ length out → calls.WritePlan p out out-now w → (w ≡ Ok (length text)) × (out-now ≡ front text out)
  -- `riscadru_copy_plan`: the text again
  pub c_copied : (text out out-now : List ℕ) (answer : ℕ) → calls.CCopyPlan text out out-now answer → NotRefused answer →
      (answer ≡ length text) × (out-now ≡ front text out)
  -- `planner::plan_table`
  pub scheduled : (p : Plan) (table frames passed table-now frames-now passed-now : List ℕ) (m : Made) →
      calls.PlanTable p table frames passed table-now frames-now passed-now (Ok m) →
      Scheduled (lines p) table frames passed table-now frames-now passed-now m
  -- `riscadru_plan_table`: for the lines that the text means
  pub c_scheduled : (text table frames totals table-now frames-now totals-now : List ℕ) (answer : ℕ) →
      calls.CPlanTable text table frames totals table-now frames-now totals-now answer → NotRefused answer →
      (p : Lines) × Means text p × ScheduledBytes p table frames totals table-now frames-now totals-now answer
  -- `program::list_plan` and `riscadru_plan_listing`
  pub listed : (text out out-now : List ℕ) (n : ℕ) → calls.ListPlan text out out-now (Ok n) → ListedPlan text out out-now n
  pub c_listed : (text out out-now : List ℕ) (answer : ℕ) → calls.CPlanListing text out out-now answer → NotRefused answer →
      ListedPlan text out out-now answer
  -- `program::print_all`, which the planning program runs
  pub printed : (text out out-now : List ℕ) (count : ℕ) → calls.PrintAll text out out-now count → (p : Lines) → Plans text p →
      (count ≡ length (plan_listing p)) × (out-now ≡ front (plan_listing p) out)
  -- "No delay exceeds all ticks added up plus 2 × round × (edges + conditions)."
  pub bounded : (p : Lines) → FirstOf (plan_sentences p) nothing → (result p).delay ≤ bound p
  -- Ties, in the definitions that `result` rests on. "Urgency of a process: its ticks plus the greatest urgency among
  -- those its edges lead to, 0 if none"; with pick number all weigh the same, which leaves the number.
  pub urgency : (p : Lines) → FirstOf (plan_sentences p) nothing → (i : ℕ) → i < length p.processes →
      get_or (urgencies p) i 0 ≡ (process p i).ticks + greatest (map (λ e. get_or (urgencies p) (edge p e).to 0) (out_of p i))
  pub by_weight : (p : Lines) → (p.plan.pick ≡ by_urgency → weights p ≡ urgencies p) × (p.plan.pick ≡ by_number → (i : ℕ) → get_or (weights p) i 0 ≡ 0)
  -- "Each free node starts its ready process of highest urgency, ties to the lower number."
  pub starts_first : (p : Lines) (v : View) (t u : ℕ) (x : Placed) → In x (unit_starts p v t u) → (candidate p v u x.row ≡ true) ×
      ((j : ℕ) → j < length p.processes → candidate p v u j ≡ true → (x.row ≡ j → ⊥) → GoesFirst (λ i. get_or (weights p) i 0) x.row j)
  -- "messages by urgency of the receiver, highest first, ties to the lower edge number (pick number: edge number
  -- alone)": the order in which a slot tries them
  pub sends_first : (p : Lines) → Ranked (GoesFirst (λ e. get_or (weights p) (edge p e).to 0)) (queue p)
