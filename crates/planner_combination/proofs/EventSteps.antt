-- The steps of an event one after another, by what each leaves of the rows and of what is kept by node: what the next
-- one may be called with, and where they lead.
-- Assumes nothing.
use Rattle.std.specs.Prelude.{if◌then◌else◌}
use Prim.Native.Nat.{ℕ, ◌-◌, ◌≤◌, ◌<◌}
use mathlib.Core.Path.{◌≡◌, sym, ◌∙◌, subst}
use mathlib.Core.List.{List}
use lib.Dec.{eqb}
use lib.ListN.{length, get_or, set}
use Rattle.model.specs.Listing.{bit}
use Rattle.bus_timetable.specs.Bus.{round_beginning_at}
use Rattle.plan_index.specs.declared.PlanIndex.{PlanIndex}
use Rattle.log_rows.specs.Rows.{Rows, with_run}
use Rattle.planner_nodes.specs.Nodes.{Nodes, with_noted}
use Rattle.log_queries.specs.Reading.{part}
use Rattle.log_queries.specs.Hearing.{heard_by}
use Rattle.log_queries.specs.Queries.{running_from}
use Rattle.planner_dispatch.specs.Dispatching.{NothingNew}
use Rattle.planner_dispatch.specs.ChangedNodes.{Soonest}
use Rattle.planner_sends.specs.Clocks.{new_at, sending_node_by, sooner_by, ends_now, changes_at, event_now}
use Rattle.planner_sends.specs.NextSends.{next_round, update_by, pending_at, waiting_at, UpdatedAll, Timed, Updatable, Updates}
use Rattle.planner_packing.specs.Slot.{bus, fill_with, taken_in, left_with, arrive_with, SlotSent}
use Rattle.planner_packing.specs.declared.slot.Ends.{Ends}
use Rattle.planner_packing.specs.Sending.{Sendable, Sends}
use Rattle.planner_combination.specs.declared.event.Clocks.{Clocks}
use Rattle.planner_combination.specs.Events.{Moment, hears, begins_with, begun_by, waiting, messages, notes, Fits}
use Rattle.planner_combination.specs.Planning.{moment_of, noted_in, Begun, AtEvent, EventDone}
use Rattle.planner_combination.proofs.Keeping.{not_looked, nothing_new, node_low}
use Rattle.planner_combination.proofs.WholeEvent.{roomy_now, waits_now, remote_now, event-whole}

-- when the slots of a plan index are
pub timed : (b : PlanIndex) → Fits b → Timed b
timed b f =
    record { round_one = f.round_one; round_most = f.round_most; reciprocals = f.reciprocals; decided = f.decided; offset_most = f.offset_most; lasts_most = f.lasts_small; queue_rising = f.queue_rising }

module _ (b : PlanIndex) (f : Fits b) (c : Clocks) (s : Rows) (ns : Nodes) (o : AtEvent b c s ns) (n1 : Nodes) (noting : n1 ≡ with_noted (noted_in b s c.broadcastend c.u ns) ns)
    (s1 : Rows) (hearing : s1 ≡ with_run (running_from b s c.u c.broadcastend) s) (look : ℕ) (look_is : look ≡ changes_at c.broadcastend c.ends c.u)
    (new : ℕ) (mask : new < 256) (New-is : c.come ≡ c.u → (n : ℕ) → n < 8 → bit new n ≡ new_at n1.lastarrival n1.busy c.u n) where
  abbrev m : Moment
  m = moment_of c s ns

  -- the mask by what was kept before the counts were noted
  new_then : c.come ≡ c.u → (n : ℕ) → n < 8 → bit new n ≡ new_at ns.lastarrival ns.busy c.u n
  new_then q n l = New-is q n l ∙ (λ i. new_at (noting i).lastarrival (noting i).busy c.u n)

  pub updatable : Updatable b c.broadcastend c.u new n1
  updatable =
      subst (λ (x : Nodes). Updatable b c.broadcastend c.u new x) (sym noting)
      (record { mask = mask; nothing_new = not_looked b f s.unmet m ns.lastarrival ns.nextsend o.kept new new_then; roomy = o.queued.roomy })

  module _ (n2 : Nodes) (updates : Updates b s1 look c.broadcastend c.u n1 n2) where
    -- where the nodes' last processes end, as before
    ends_then : n2.busy ≡ ns.busy
    ends_then = (λ i. (updates.rest i).busy) ∙ (λ i. (noting i).busy)

    run_then : s1.run ≡ hears b s.unmet m
    unfolding hears heard_by
    run_then = λ i. (hearing i).run

    pub nothing_starts : NothingNew b s1 n2.busy c.u new
    nothing_starts =
        subst (λ (x : List ℕ). NothingNew b s1 x c.u new) (sym ends_then)
        (subst (λ (x : Rows). NothingNew b x ns.busy c.u new) (sym hearing)
        (nothing_new b f s.unmet m ns.lastarrival ns.nextsend o.kept (running_from b s c.u c.broadcastend) (sym (λ i. (hearing i).run) ∙ run_then) new new_then))

    updated : UpdatedAll c.broadcastend c.u look b.slots ns.busy b.queuefirst (messages b s.unmet s.comes c.u) ns.wait ns.waitend n2.wait n2.waitend
    unfolding messages
    updated =
        subst (λ (y : Rows). UpdatedAll c.broadcastend c.u look b.slots ns.busy b.queuefirst (waiting_at b y c.u) ns.wait ns.waitend n2.wait n2.waitend) hearing
        (subst (λ (x : Nodes). UpdatedAll c.broadcastend c.u look b.slots x.busy b.queuefirst (waiting_at b s1 c.u) x.wait x.waitend n2.wait n2.waitend) noting
        updates.waits)

    update_is : n2.nextsend ≡ update_by c.broadcastend c.u (waiting b s.unmet s.comes c.u) ns.busy b.round b.offset look b.slots ns.nextsend
    unfolding waiting
    update_is =
        updates.nextsend
        ∙ (λ i. update_by c.broadcastend c.u (pending_at b (hearing i) c.u) (noting i).busy b.round b.offset look b.slots (noting i).nextsend)

    module _ (first : ℕ) (s2 : Rows) (n3 : Nodes) (began : Begun b c.come c.u s1 n2 s2 n3 first) (n : ℕ) (n-is : n ≡ sending_node_by n3.nextsend c.u b.slots) where
      sending : n ≡ sending_node_by n2.nextsend c.u b.slots
      sending = n-is ∙ (λ i. sending_node_by (began.nodes i).nextsend c.u b.slots)

      counts_then : n3.passed ≡ ns.passed
      counts_then = (λ i. (began.nodes i).passed) ∙ (λ i. (updates.rest i).passed) ∙ (λ i. (noting i).passed)

      pub sendable : Sendable b n3 n c.u
      sendable =
          let waits = waits_now b f s.unmet m ns.lastarrival ns.nextsend o.kept new new_then c.ends o.ending look look_is ns.wait ns.waitend o.queued n2.wait n2.waitend updated n2.nextsend update_is o.low n sending in
          subst (λ (x : Nodes). Sendable b x n c.u) (sym began.nodes)
          (record {
            node = node_low b f s.unmet m ns.lastarrival ns.nextsend o.kept new new_then c.ends o.ending look look_is n2.nextsend update_is o.low n sending;
            counts = λ k. subst (λ (x : List ℕ). get_or x k 0 ≤ c.u) (sym ((λ i. (updates.rest i).passed) ∙ (λ i. (noting i).passed))) (o.counts k);
            sent = remote_now b f s.unmet m ns.lastarrival ns.nextsend o.kept new new_then c.ends o.ending look look_is ns.wait ns.waitend o.queued n2.wait n2.waitend updated n2.nextsend update_is o.low n sending;
            begins = λ l. (waits n l).begins;
            ends = λ l. (waits n l).ends;
            roomy = roomy_now b f s.unmet m ns.lastarrival ns.nextsend o.kept new new_then c.ends o.ending look look_is ns.wait ns.waitend o.queued n2.wait n2.waitend updated n2.nextsend update_is o.low n sending;
          })

      -- the places of the rows, and what arrived, as before
      places_then : s2.place ≡ s.place
      places_then = (λ i. (began.rows i).place) ∙ (λ i. (hearing i).place)

      arrivals_then : n3.lastarrival ≡ ns.lastarrival
      arrivals_then = (λ i. (began.nodes i).lastarrival) ∙ (λ i. (updates.rest i).lastarrival) ∙ (λ i. (noting i).lastarrival)

      abbrev waiting_there : Nodes → List ℕ
      waiting_there x = part x.wait (get_or b.queuefirst n 0) (get_or x.waitend n 0)

      module _ (r : Ends) (s3 : Rows) (n4 : Nodes) (sends : Sends b n c.u (record { slotend = c.slotend; broadcastend = c.broadcastend }) s2 n3 r s3 n4) (ends come u : ℕ)
          (ends_is : ends ≡ ends_now c.ends first n4.busy c.u b.slots) (come-is : come ≡ sooner_by ends r.slotend c.u) (u-is : u ≡ event_now n4.nextsend come 8) (begun₁ : ℕ) (begun_is : begun₁ ≡ round_beginning_at b.round (c.u - 1)) where
        run_now : s3.run ≡ s1.run
        run_now = (λ i. (sends.rows_rest i).run) ∙ (λ i. (began.rows i).run)

        run_is : s3.run ≡ hears b s.unmet m
        run_is = run_now ∙ run_then

        ends_now_is : n4.busy ≡ n3.busy
        ends_now_is = λ i. (sends.nodes_rest i).busy

        busy_is : n4.busy ≡ (begins_with b s.unmet s3.run m).busy
        unfolding begins_with
        busy_is =
            ends_now_is
            ∙ (λ i. (began.nodes i).busy)
            ∙ (λ i.
            (begun_by c.come b.processes b.remote b.from b.knownby (hearing i).unmet (sym run_now i) b.asany b.intofirst b.into c.u b.dispatchfirst b.dispatch b.ticks b.slots
            (record { busy = ends_then i; comes = (hearing i).comes })).busy)

        rows_is : s2.comes ≡ (begins_with b s.unmet s3.run m).comes
        unfolding begins_with
        rows_is =
            (λ i. (began.rows i).comes)
            ∙ (λ i.
            (begun_by c.come b.processes b.remote b.from b.knownby (hearing i).unmet (sym run_now i) b.asany b.intofirst b.into c.u b.dispatchfirst b.dispatch b.ticks b.slots
            (record { busy = ends_then i; comes = (hearing i).comes })).comes)

        soonest : length ns.busy ≡ 8 → Soonest b.slots c.u ns.busy n4.busy first
        soonest =
            subst (λ (x : List ℕ). length ns.busy ≡ 8 → Soonest b.slots c.u ns.busy x first) (sym ends_now_is)
            (subst (λ (x : List ℕ). length x ≡ 8 → Soonest b.slots c.u x n3.busy first) ends_then began.soonest)

        left_then : SlotSent b.slots n b.queuefirst (left_with b.processes b.conditionrow b.conditions b.decider b.node b.bytes b.lasts b.rooms n c.u (waiting_there n2) s2.comes s.place) n2.wait n2.waitend n4.wait n4.waitend
        left_then =
            subst
            (λ (x : List ℕ).
            SlotSent b.slots n b.queuefirst (left_with b.processes b.conditionrow b.conditions b.decider b.node b.bytes b.lasts b.rooms n c.u (waiting_there n2) s2.comes x) n2.wait n2.waitend n4.wait n4.waitend)
            places_then
            (subst
            (λ (x : Nodes).
            SlotSent b.slots n b.queuefirst (left_with b.processes b.conditionrow b.conditions b.decider b.node b.bytes b.lasts b.rooms n c.u (waiting_there x) s2.comes s2.place) x.wait x.waitend n4.wait n4.waitend)
            began.nodes sends.waits)

        noted_is : n4.noted ≡ notes b s.unmet m
        unfolding notes
        noted_is = (λ i. (sends.nodes_rest i).noted) ∙ (λ i. (began.nodes i).noted) ∙ (λ i. (updates.rest i).noted) ∙ (λ i. (noting i).noted)

        pub event_done : EventDone b c s ns (record { u = u; come = come; slotend = r.slotend; broadcastend = r.broadcastend; ends = ends; begun = begun₁ }) s3 n4
        event_done =
            let whole =
            event-whole b f s.unmet m ns.lastarrival ns.nextsend o.kept new new_then c.ends o.ending look look_is ns.wait ns.waitend o.queued n2.wait n2.waitend updated n2.nextsend update_is o.low n sending
            s3.run run_is n4.busy s2.comes busy_is rows_is r.slotend r.broadcastend s3.comes s3.place n4.passed
            (sends.taken
            ∙ (λ i.
            if eqb n b.slots
            then bus c.slotend c.broadcastend s2.comes (places_then i) (counts_then i)
            else fill_with b.processes b.conditionrow b.conditions b.decider b.node b.bytes b.lasts b.rooms n c.u (waiting_there (began.nodes i)) (bus c.slotend c.broadcastend s2.comes (places_then i) (counts_then i))))
            n4.lastarrival n4.nextsend n4.wait n4.waitend
            (sends.arrivals
            ∙ (λ i.
            if eqb n b.slots
            then arrivals_then i
            else arrive_with b.processes b.conditionrow b.conditions b.decider b.node b.bytes b.lasts b.rooms n c.u b.remote b.slots (waiting_there (began.nodes i)) s2.comes (places_then i) (arrivals_then i)))
            (sends.slot
            ∙ (λ i.
            if eqb n b.slots
            then (began.nodes i).nextsend
            else set (began.nodes i).nextsend n (next_round b.round c.u (taken_in b.processes b.conditionrow b.conditions b.decider b.node b.bytes b.lasts b.rooms n c.u (waiting_there (began.nodes i)) s2.comes (places_then i)).short)))
            left_then first soonest ends come u ends_is come-is u-is n4.noted noted_is in
            record {
              moved = whole.0;
              begun_now = begun_is;
              unmet = (λ i. (sends.rows_rest i).unmet) ∙ (λ i. (began.rows i).unmet) ∙ (λ i. (hearing i).unmet);
              kept = whole.1.0;
              ending = whole.1.1.0;
              queued = whole.1.1.1;
            }
