-- A run of lines of one kind, read into a plan: the lines that the grammar reads, the position behind them, and the
-- whole plan afterwards.
-- Assumes nothing.
use Rattle.std.specs.Prelude.{ℕ, ◌≤◌, ◌≡◌, List, map, length, take, drop}
use Rattle.limits.specs.Limits.{SLOTS, PROCESSES, CONDITIONS, EDGES}
use Rattle.lists.specs.Front.{front}
use Rattle.model.specs.Plan as m
use Rattle.text_grammar.specs.Parse.{Parsed, got, slot_at, process_at, condition_at, edge_at, run_at}
use Rattle.plan.specs.declared.PlanLine.{PlanLine}
use Rattle.plan.specs.declared.Slot.{Slot}
use Rattle.plan.specs.declared.Process.{Process}
use Rattle.plan.specs.declared.Edge.{Edge}
use Rattle.plan.specs.declared.Plan.{Plan}
use Rattle.plan.specs.Memory.{held_slot, held_process, held_edge}
use Rattle.text_reader.specs.declared.line_runs.Filled.{Filled}

-- a plan by its fields; then with another plan line, and with another count and array of one kind of line
abbrev pub plan_from : PlanLine → ℕ → List Slot → ℕ → List Process → ℕ → List ℕ → ℕ → List Edge → Plan
plan_from line slots slot processes process conditions condition edges edge =
    record {
      line = line;
      slots = slots;
      slot = slot;
      processes = processes;
      process = process;
      conditions = conditions;
      condition = condition;
      edges = edges;
      edge = edge;
    }

abbrev pub with_line : Plan → PlanLine → Plan
with_line p line =
    plan_from line p.slots p.slot p.processes p.process p.conditions p.condition p.edges
    p.edge

abbrev pub with_slots : Plan → ℕ → List Slot → Plan
with_slots p n xs =
    plan_from p.line n xs p.processes p.process p.conditions p.condition p.edges p.edge

abbrev pub with_processes : Plan → ℕ → List Process → Plan
with_processes p n xs =
    plan_from p.line p.slots p.slot n xs p.conditions p.condition p.edges p.edge

abbrev pub with_conditions : Plan → ℕ → List ℕ → Plan
with_conditions p n xs =
    plan_from p.line p.slots p.slot p.processes p.process n xs p.edges p.edge

abbrev pub with_edges : Plan → ℕ → List Edge → Plan
with_edges p n xs =
    plan_from p.line p.slots p.slot p.processes p.process p.conditions p.condition n xs

-- A kind of line: in the model and in memory, how it is read, how it is held in memory, how many a plan has room for,
-- the plan's array of them, and the plan with another count and array.
pub record Kind : Type 1 where
  pub Line : Type 0
  pub Held : Type 0
  pub line_at : List ℕ → Parsed Line
  pub hold : Line → Held
  pub room : ℕ
  pub array : Plan → List Held
  pub with_lines : Plan → ℕ → List Held → Plan

abbrev pub slots : Kind
slots =
    record {
      Line = m.Slot;
      Held = Slot;
      line_at = slot_at;
      hold = held_slot;
      room = SLOTS;
      array = λ p. p.slot;
      with_lines = with_slots;
    }

abbrev pub processes : Kind
processes =
    record {
      Line = m.Process;
      Held = Process;
      line_at = process_at;
      hold = held_process;
      room = PROCESSES;
      array = λ p. p.process;
      with_lines = with_processes;
    }

abbrev pub conditions : Kind
conditions =
    record {
      Line = ℕ;
      Held = ℕ;
      line_at = condition_at;
      hold = λ i. i;
      room = CONDITIONS;
      array = λ p. p.condition;
      with_lines = with_conditions;
    }

abbrev pub edges : Kind
edges =
    record {
      Line = m.Edge;
      Held = Edge;
      line_at = edge_at;
      hold = held_edge;
      room = EDGES;
      array = λ p. p.edge;
      with_lines = with_edges;
    }

-- the array with lines in front, as many as there is room for, and behind them what it held before
abbrev pub filled : (kind : Kind) → List kind.Line → List kind.Held → List kind.Held
filled kind lines before = front (take kind.room (map kind.hold lines)) before

-- The lines of a kind from `at` on, read into a plan: it then has as many as there are, and its array is filled with
-- them. Nothing else of it changes.
pub record Run (kind : Kind) (text : List ℕ) (at : ℕ) (before : Plan) (r : Filled) : Type 0 where
  pub lines : List kind.Line
  pub read : run_at kind.line_at (drop at text) ≡ got lines (drop r.next text)
  pub within : r.next ≤ length text
  pub plan : r.plan ≡ kind.with_lines before (length lines) (filled kind lines (kind.array before))
