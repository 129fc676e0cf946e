-- A plan in which refusals 2 to 9 find nothing, arrays that hold its plan index, and arrays by row that hold the
-- entries of a table that a combination meets: what the laws of refusals 15 to 19 are about.
-- Assumes nothing.
use mathlib.Core.Path.{◌≡◌, ◌∙◌}
use mathlib.Core.Bool.{Bool, false, not}
use mathlib.Core.List.{List, Memᴰ as In}
use Prim.Native.Nat.{ℕ, suc, ◌+◌}
use lib.ListN.{length, get_or}
use Rattle.lists.specs.Lists.{any, keep}
use Rattle.model.specs.Plan.{Lines}
use Rattle.model.specs.Bus.{is_process}
use Rattle.model.specs.Log.{Placed, Log, full_ticks, over}
use Rattle.model.specs.Table.{Entry}
use Rattle.model.specs.Checking.{ill_formed, met_entries, met_log}
use Rattle.laws.proofs.Good.{Good}
use Rattle.log_queries.specs.Reading.{came_by}
use Rattle.log_queries.specs.Holding.{Held}
use Rattle.log_queries.proofs.Held.{held_logged}
use Rattle.log_queries.proofs.Placing.{placed_at}
use Rattle.plan_index.specs.declared.PlanIndex.{PlanIndex}
use Rattle.plan_layout.specs.Indexed.{Indexed}

-- Refusal 13 finds nothing in the entries of the table, and the arrays hold those that the combination meets: their
-- ticks and places (`comes`, `place`), each row once, and the known bits of their columns (`bits`).
pub record MetPlan : Type 0 where
  pub plan : Lines
  pub sound : Good plan
  pub index : PlanIndex
  pub indexed : Indexed plan index
  pub entries : List Entry
  pub combination : List Bool
  pub comes : List ℕ
  pub place : List ℕ
  pub bits : List ℕ
  pub formed : any (ill_formed plan) entries ≡ false
  pub held : Held plan (met_log entries combination) comes place
  pub columns : (e : Entry) → In e (met_entries entries combination) → get_or bits e.row 0 ≡ e.known

module _ (m : MetPlan) where
  -- how many processes there are, and how many processes and edges
  abbrev pub P# : ℕ
  P# = length m.plan.processes

  abbrev pub T# : ℕ
  T# = length m.plan.processes + length m.plan.edges

  -- the log of the met entries, its items, and what the arrays have at a row
  abbrev pub log : Log
  log = met_log m.entries m.combination

  abbrev pub items : Log
  items = keep (λ x. not (is_process m.plan x.row)) log

  abbrev pub at : ℕ → Placed
  at r = placed_at m.plan m.comes m.place r

  pub conditionrow_same : m.index.conditionrow ≡ T#
  conditionrow_same = m.indexed.first_condition_row ∙ (λ i. m.indexed.processes_count i + m.indexed.edges_count i)

  -- what is over by a met row's tick
  pub over_same : (t : ℕ) → over m.plan (full_ticks m.plan) log t ≡ came_by m.comes (suc t)
  over_same t = (held_logged m.plan log m.comes m.place m.held).over_by t
