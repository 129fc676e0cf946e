-- Where a run of events begins, and what each event of it may be called with, by the rows of a combination and what is
-- kept by node.
-- Assumes nothing.
use Prim.Native.Nat.{ℕ, ◌-◌, ◌≤◌}
use native.Mathlib.Nat.{zero-mod}
use native.Mathlib.Omega.{arith}
use mathlib.Core.Path.{◌≡◌, refl, sym, ap, ◌∙◌, subst}
use mathlib.Core.List.{List}
use lib.ListN.{replicate}
use Rattle.bus_timetable.specs.Bus.{Carried}
use Rattle.bus_timetable.proofs.Rounds.{carried_from}
use Rattle.plan_index.specs.declared.PlanIndex.{PlanIndex}
use Rattle.log_rows.specs.Rows.{Rows}
use Rattle.planner_nodes.specs.Nodes.{Nodes, with_nextsend, with_lastarrival}
use Rattle.planner_sends.specs.Clocks.{no_event}
use Rattle.planner_combination.specs.declared.event.Clocks.{Clocks}
use Rattle.planner_combination.specs.Events.{Moment, last_event, from_clock, next, Fits}
use Rattle.planner_combination.specs.Kept.{Kept, Queued}
use Rattle.planner_combination.specs.Ending.{Ending}
use Rattle.planner_combination.specs.Planning.{moment_of, AtEvent, EventDone, Plannable}
use Rattle.planner_combination.proofs.Keeping.{kept_start, queued_start}
use Rattle.planner_combination.proofs.EventParts.{next_later}
use Rattle.planner_combination.proofs.EventRuns.{Going, going_start, going_on}

-- A run of events has come to these clocks, rows and nodes from a first moment, in a combination that leaves `unmet`
-- unmet.
pub record Come (b : PlanIndex) (unmet : List ℕ) (first : Moment) (c : Clocks) (s : Rows) (ns : Nodes) : Type 0 where
  pub same : s.unmet ≡ unmet
  pub going : Going b unmet first (moment_of c s ns)
  pub kept : Kept b unmet (moment_of c s ns) ns.lastarrival ns.nextsend
  pub ending : Ending b.slots c.u ns.busy c.ends
  pub queued : Queued b unmet (moment_of c s ns) ns.wait ns.waitend
  pub carried : Carried b.round c.begun (c.u - 1)

-- the clocks at which it begins
abbrev pub at_start : ℕ → Clocks
at_start start = record { u = start; come = start; slotend = 0; broadcastend = start; ends = start; begun = 0 }

module _ (b : PlanIndex) (f : Fits b) where
  pub come_start : (start : ℕ) (s : Rows) (ns : Nodes) → Plannable b start s ns → (n0 : Nodes) → n0 ≡ with_nextsend (replicate 8 no_event) (with_lastarrival (replicate 8 start) ns) →
      Come b s.unmet (from_clock start ns.busy s.comes s.place ns.passed ns.noted) (at_start start) s n0
  come_start start s ns p n0 q =
      subst (λ (x : Nodes). Come b s.unmet (from_clock start ns.busy s.comes s.place ns.passed ns.noted) (at_start start) s x) (sym q)
      (record {
        same = refl;
        going = going_start b s.unmet start ns.busy s.comes s.place ns.passed ns.noted p.no_run p.start_one p.counts p.counts_long;
        kept = kept_start b f s.unmet start s.run ns.busy s.comes s.place ns.passed ns.noted _ _ p.start_one p.comes_long p.begins refl refl;
        ending = record { end_now = λ n l e. refl; end_ahead = λ d. absurd (d refl) };
        queued = queued_start b f s.unmet start s.run ns.busy s.comes s.place ns.passed ns.noted _ _ p.no_wait p.no_waitend;
        carried = record { beginning = zero-mod b.round; by = omega arith };
      })

  module _ (unmet : List ℕ) (first : Moment) (c : Clocks) (s : Rows) (ns : Nodes) (h : Come b unmet first c s ns) (low : c.u ≤ last_event) where
    pub at_event : AtEvent b c s ns
    at_event =
        record {
          kept = subst (λ (x : List ℕ). Kept b x (moment_of c s ns) ns.lastarrival ns.nextsend) (sym h.same) h.kept;
          ending = h.ending;
          queued = subst (λ (x : List ℕ). Queued b x (moment_of c s ns) ns.wait ns.waitend) (sym h.same) h.queued;
          low = low;
          carried = h.carried;
          counts = h.going.counts_low;
          counts_long = h.going.counts_long;
        }

    module _ (c' : Clocks) (s' : Rows) (ns' : Nodes) (d : EventDone b c s ns c' s' ns') where
      pub moved : moment_of c' s' ns' ≡ next b unmet (moment_of c s ns)
      moved = d.moved ∙ (λ i. next b (h.same i) (moment_of c s ns))

      pub come_on : Come b unmet first c' s' ns'
      come_on =
          record {
            same = d.unmet ∙ h.same;
            going = subst (Going b unmet first) (sym moved) (going_on b unmet f h.going low);
            kept = subst (λ (x : List ℕ). Kept b x (moment_of c' s' ns') ns'.lastarrival ns'.nextsend) h.same d.kept;
            ending = d.ending;
            queued = subst (λ (x : List ℕ). Queued b x (moment_of c' s' ns') ns'.wait ns'.waitend) h.same d.queued;
            carried = subst (λ (x : ℕ). Carried b.round x (c'.u - 1)) (sym d.begun_now) (carried_from b.round (c.u - 1) (c'.u - 1) (omega (arith, ap (λ (m : Moment). m.u) moved, next_later b unmet f (moment_of c s ns) low)));
          }
