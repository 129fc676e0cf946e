-- Document 02, point 1: "Frames have a head and a tail." Its sentences beyond the form of the plan line, which demand 2
-- is about, and the limits that follow. Demands 1 to 3 are over plans with a head.
-- Assumes nothing.
use Rattle.std.specs.Prelude.{ℕ, ◌+◌, ◌*◌, ◌≤◌, ◌<◌, ◌≡◌, Bool, true, false, length}
use mathlib.Core.List.{List, ◌++◌, Memᴰ as In}
use Rattle.limits.specs.Limits.{HEAD, SLOTTICKS, ROUNDTICKS, DELAY}
use Rattle.model.specs.Plan.{Lines, Slot, Pick, with_head}
use Rattle.model.specs.Bus.{slot_ticks, round, slot_of, row_node, row_bytes}
use Rattle.model.specs.Log.{Placed}
use Rattle.model.specs.Planning.{View, takes, passes_over, planned}
use Rattle.model.specs.Refusals.{Refusal, nothing, refused, wrong_counts}
use Rattle.model.specs.Table.{Entry, result}
use Rattle.model.specs.Checking.{share_byte}
use Rattle.model.specs.Text.{headless_line, short}
use Rattle.demands.specs.Sentences.{Sentence, plan_sentences, FirstOf, FirstOfText}

pub record Point1 : Type 0 where
  -- "a slot lasts (bytes + head) × byte ticks."
  pub slot_lasts : (p : Lines) (s : Slot) → slot_ticks p s ≡ (s.bytes + p.plan.head) * p.plan.byte
  -- "0 to 16 bytes": with another head of these a plan meets the same refusal, also 9
  pub refused_alike : (p : Lines) (head : ℕ) → p.plan.head ≤ HEAD → head ≤ HEAD → (x : Refusal) → FirstOf (plan_sentences p) x →
      FirstOf (plan_sentences (with_head p head)) x
  -- "Figures above 16 meet refusal 3", where 2 finds nothing
  pub above_refused : (p : Lines) → wrong_counts p ≡ false → HEAD < p.plan.head → FirstOf (plan_sentences p) (refused 3)
  -- "Capacity and places still count data only": with another head a slot that begins with the same view takes the same
  -- items at the same places, and passes the same over; what is planned ends within the slot's data; and 19 is found of
  -- the same tables
  pub takes_alike : (p : Lines) (head : ℕ) (v : View) (t : ℕ) (s : Slot) → takes (with_head p head) v t s ≡ takes p v t s
  pub passes_alike : (p : Lines) (head : ℕ) (v : View) (t : ℕ) (s : Slot) → passes_over (with_head p head) v t s ≡ passes_over p v t s
  pub within_data : (p : Lines) → FirstOf (plan_sentences p) nothing → (c : List Bool) → length c ≡ length p.conditions → (x : Placed) →
      In x (planned p c).log → length p.processes ≤ x.row → x.place + row_bytes p x.row ≤ (slot_of p (row_node p x.row)).bytes
  pub shares_alike : (p : Lines) (head : ℕ) (es : List Entry) (c : List Bool) → share_byte (with_head p head) es c ≡ share_byte p es c
  -- "A plan text without a part that this or a later point adds is no longer of the form": 1 is the first that applies
  pub headless_refused : (byte : ℕ) (pick : Pick) (rest : List ℕ) → short byte ≡ true → (on : Lines → List Sentence) (x : Refusal) →
      FirstOfText (headless_line byte pick ++ rest) on x → x ≡ refused 1
  -- how long a slot, a round and a delay can be
  pub slot_most : (p : Lines) → FirstOf (plan_sentences p) nothing → (s : Slot) → In s p.slots → slot_ticks p s ≤ SLOTTICKS
  pub round_most : (p : Lines) → FirstOf (plan_sentences p) nothing → round p ≤ ROUNDTICKS
  pub delay_most : (p : Lines) → FirstOf (plan_sentences p) nothing → (result p).delay ≤ DELAY
