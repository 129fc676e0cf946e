-- What the arrays hold where planning stands at an event: the log before its tick, and what the clocks of the slot
-- under way and of the next row over say of it.
-- Assumes nothing.
use Rattle.std.specs.Prelude.{ℕ, suc, ◌+◌, ◌-◌, ◌*◌, ◌≤◌, ◌<◌, ◌≡◌, ◌⊎◌, Bool, true, false, eqb, length, get_or}
use mathlib.Core.List.{List, [], Memᴰ as In}
use Rattle.lists.specs.Lists.{keep}
use Rattle.model.specs.Plan.{Lines, Slot}
use Rattle.model.specs.Activity.{may_run}
use Rattle.model.specs.Bus.{slot_ticks, begins, condition_row}
use Rattle.model.specs.Log.{known}
use Rattle.model.specs.Planning.{view, starts, before}
use Rattle.log_queries.specs.Reading.{came_by}
use Rattle.log_queries.specs.Holding.{Held, Runs}
use Rattle.planner_dispatch.specs.Busy.{Busy}
use Rattle.planner_combination.specs.Events.{Moment}

-- a clock at which a slot ends that began before tick t, or one that is past
pub data SlotEnd (p : Lines) (t x : ℕ) : Type 0 where
  past : x ≤ suc t → SlotEnd p t x
  ahead : (s : Slot) (o : ℕ) → In s p.slots → begins p s.node o ≡ true → o < t → x ≡ suc o + slot_ticks p s → SlotEnd p t x

-- planning of combination c stands before tick t
pub record At (p : Lines) (c : List Bool) (t : ℕ) (m : Moment) : Type 0 where
  pub clock : m.u ≡ suc t
  pub held : Held p (before p c t).log m.comes m.place
  pub ends : Busy p m.comes m.busy (suc t)
  pub items_sent : (r : ℕ) → length p.processes ≤ r → (get_or m.comes r 0 ≤ suc t) ⊎ (get_or m.comes r 0 ≡ m.slotend)
  pub slotend_end : SlotEnd p t m.slotend
  pub broadcasts_heard : (k : ℕ) → k < length p.conditions → (get_or m.comes (condition_row p k) 0 ≤ t) ⊎ (get_or m.comes (condition_row p k) 0 ≡ m.broadcastend)
  pub broadcastend_end : SlotEnd p t m.broadcastend
  pub running : eqb m.broadcastend m.u ≡ false → Runs m.run (may_run p (known p c (came_by m.comes (suc t))))
  pub no_starts : eqb m.come m.u ≡ false → starts p (view p c (before p c t).log t) t ≡ []
  pub counts : (n : ℕ) → n < length p.slots → get_or m.passed n 0 ≡ length (keep (eqb n) (before p c t).passed)
  pub passed_long : length m.passed ≡ 8
  pub noting : (k : ℕ) → k < length p.conditions → 0 < get_or m.comes (condition_row p k) 0 → get_or m.comes (condition_row p k) 0 ≤ t → (n : ℕ) → n < length p.slots →
      get_or m.noted (k * 8 + n) 0 ≡ length (keep (eqb n) (before p c (get_or m.comes (condition_row p k) 0 - 1)).passed)
  pub noted_long : length m.noted ≡ 48
