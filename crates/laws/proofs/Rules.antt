-- The rules that a log keeps, and a table whose met entries keep them in every combination, as records that can be read
-- aloud.
-- Planning keeps the rules (Safety), a sound table does (Sound), and a run uses them (Demand).
-- Assumes nothing.
use mathlib.Core.Path.{◌≡◌}
use mathlib.Core.Logic.{◌⊎◌}
use mathlib.Core.Bool.{Bool, true, false}
use mathlib.Core.List.{List, map, Memᴰ as In}
use Prim.Native.Nat.{ℕ, ◌+◌, ◌≤◌, ◌<◌}
use lib.ListN.{length}
use Rattle.lists.specs.Lists.{repeated}
use Rattle.model.specs.Plan.{Lines, process, edge, into, unit}
use Rattle.model.specs.Activity.{meets, carries, all_heard}
use Rattle.model.specs.Bus.{begins, rows, edge_row, sender, row_node, row_bytes, slot_of}
use Rattle.model.specs.Log.{Placed, Log, delivered, placed}
use Rattle.model.specs.Table.{Entry, known_bits, bits_within, column_met}
use Rattle.model.specs.Checking.{due, ill_formed, met_log, greatest_delay}
use Rattle.laws.proofs.Rows.{done_by, known_by}

-- a member of the log is a process's start, or an item
pub record Start (p : Lines) (log : Log) (x : Placed) : Type 0 where
  pub member : In x log
  pub low : x.row < length p.processes

pub record Item (p : Lines) (log : Log) (x : Placed) : Type 0 where
  pub member : In x log
  pub high : length p.processes ≤ x.row

pub record Kept (p : Lines) (c : List Bool) (log : Log) : Type 0 where
  pub once : repeated (map (λ x. x.row) log) ≡ false
  pub only_due : (x : Placed) → In x log → (x.row < rows p) × (due p c x.row ≡ true)
  pub after_inputs : (x : Placed) → Start p log x → (e : ℕ) → In e (into p x.row) → carries p c e ≡ true →
      delivered p (known_by p c log x.tick) (done_by p log x.tick) e ≡ true
  pub after_sender : (x : Placed) → Item p log x → done_by p log x.tick (sender p x.row) ≡ true
  pub when_met : (x : Placed) → In x log → (e : ℕ) → e < length p.edges → x.row ≡ edge_row p e → meets (known_by p c log x.tick) (edge p e).when ≡ true
  pub in_slot : (x : Placed) → Item p log x → begins p (row_node p x.row) x.tick ≡ true
  pub no_overlap : (x y : Placed) → Start p log x → Start p log y → unit p x.row ≡ unit p y.row → (x.row ≡ y.row → ⊥) →
      (x.tick + (process p x.row).ticks ≤ y.tick) ⊎ (y.tick + (process p y.row).ticks ≤ x.tick)
  pub in_frame : (x : Placed) → Item p log x → x.place + row_bytes p x.row ≤ (slot_of p (row_node p x.row)).bytes
  pub no_share : (x y : Placed) → Item p log x → Item p log y → x.tick ≡ y.tick → row_node p x.row ≡ row_node p y.row → (x.row ≡ y.row → ⊥) →
      (x.place + row_bytes p x.row ≤ y.place) ⊎ (y.place + row_bytes p y.row ≤ x.place)

-- In every combination the met entries keep the rules, everything due is among them, and columns name only what is
-- known.
pub record Lawful (p : Lines) (es : List Entry) (stated : ℕ) : Type 0 where
  pub formed : (e : Entry) → In e es → ill_formed p e ≡ false
  pub keeps : (c : List Bool) → length c ≡ length p.conditions → Kept p c (met_log es c)
  pub all_there : (c : List Bool) → length c ≡ length p.conditions → (r : ℕ) → r < rows p → due p c r ≡ true → placed (met_log es c) r ≡ true
  pub known_columns : (c : List Bool) → length c ≡ length p.conditions → (e : Entry) → In e es → column_met (all_heard c) e ≡ true →
      bits_within 32 e.known (known_bits (known_by p c (met_log es c) e.tick)) ≡ true
  pub worst : stated ≡ greatest_delay p es
