-- What is found in one combination is what refusals 14 to 19 say of it, and its delay where 14 finds nothing.
-- Assumes nothing.
use Rattle.std.specs.Prelude.{if◌then◌else◌}
use mathlib.Core.Path.{◌≡◌, sym, ap, ◌∙◌, subst}
use mathlib.Core.Logic.{◌⊎◌, inl, inr}
use mathlib.Core.Bool.{Bool, true, false}
use mathlib.Core.List.{List, []}
use Prim.Native.Nat.{ℕ, ◌^◌, ◌<◌}
use lib.ListN.{length, get_or}
use Rattle.lists.proofs.Tests.{two}
use Rattle.model.specs.Plan.{Lines}
use Rattle.model.specs.Activity.{combinations}
use Rattle.model.specs.Log.{full_ticks, delay}
use Rattle.model.specs.Table.{Entry, entries_of}
use Rattle.model.specs.Checking.{met_log, not_once, uses_unknown, too_early, off_slot, overlap, share_byte}
use Rattle.laws.proofs.Good.{Good, good}
use Rattle.log_queries.specs.Reading.{last_end_by}
use Rattle.log_queries.proofs.Readings.{last_end_link}
use Rattle.plan_index.specs.declared.PlanIndex.{PlanIndex}
use Rattle.plan_layout.specs.Unmet.{unmet_in}
use Rattle.plan_layout.proofs.Bounds.{bounded}
use Rattle.checker_rows.specs.MetRows.{met_rows, met_comes, met_place, Rowed}
use Rattle.checker_rows.specs.Due.{active_by, due_of, miscounted_by}
use Rattle.checker_rows.proofs.ColumnBits.{numbered_length}
use Rattle.checker_rows.proofs.DueMade.{row_order}
use Rattle.checker_rows.proofs.DueOfModel.{active_runs}
use Rattle.checker_rows.proofs.MetOfModel.{rowed, miscounts_link, known_at, held}
use Rattle.checker_rows.proofs.MetPlan.{MetPlan}
use Rattle.checker_rows.proofs.MetBounds.{readable}
use Rattle.checker_rules.proofs.SlotBounds.{slotted}
use Rattle.checker_rules.proofs.RulesOfModel.{uses_unknown_link, off_slot_link, overlap_link}
use Rattle.checker_frames.proofs.FrameBounds.{sized}
use Rattle.checker_frames.proofs.SharingOfModel.{share_link}
use Rattle.checker_inputs.proofs.InputsOfModel.{too_early_link}
use Rattle.checker_table.specs.FirstRefusal.{first_of, first_in, Tried}
use Rattle.checker_table.specs.Combinations.{rows_in, found_by, Tabled}

module _ (b : PlanIndex) (words : List ℕ) (t : Tabled b words) where
  -- what `met_rows` requires
  pub table_rowed : Rowed words
  table_rowed = rowed t.plan t.passes words t.formed

  module _ (c : ℕ) (l : c < 2 ^ b.conditions) where
    abbrev p : Lines
    p = t.plan

    abbrev es : List Entry
    es = entries_of words

    abbrev C : List Bool
    C = get_or (combinations p) c []

    g : Good p
    g = good p t.passes

    pub few : c < 2 ^ length t.plan.conditions
    few = subst (λ (n : ℕ). c < 2 ^ n) t.indexed.conditions_count l

    abbrev missing : Bool
    missing = miscounted_by (met_rows words c).count (due_of b c) b.rows

    once_link : missing ≡ not_once p es C
    once_link = miscounts_link p t.passes words t.formed t.small b t.indexed c few

    abbrev meets : missing ≡ false → MetPlan
    meets e =
        let o : not_once p es C ≡ false = sym once_link ∙ e in
        record {
          plan = p;
          sound = g;
          index = b;
          indexed = t.indexed;
          entries = es;
          combination = C;
          comes = met_comes words c b.span;
          place = met_place words c;
          bits = (met_rows words c).known;
          formed = t.formed;
          held = held p t.passes words t.formed t.small b t.indexed c few o;
          columns = known_at p t.passes words t.formed t.small b t.indexed c few o;
        }

    -- what 15 to 19 require
    pub tried : miscounted_by (met_rows words c).count (due_of b c) b.rows ≡ false → Tried b (rows_in b words c)
    tried e =
        let m = meets e in
        record { bounded = bounded p b t.indexed; row_order = row_order p b t.indexed; readable = readable m; slotted = slotted m; sized = sized m }

    first_link : missing ≡ false →
        first_in b (rows_in b words c) (met_rows words c).known ≡ first_of (uses_unknown p es C) (too_early p es C) (off_slot p es C) (overlap p es C) (share_byte p es C)
    unfolding first_in
    first_link e =
        let m = meets e in
        λ i.
        first_of (uses_unknown_link m i)
        (too_early_link m (numbered_length p g c few) (unmet_in b c) (active_by b (unmet_in b c)) (t.indexed.holds c few) (active_runs p g b t.indexed c few) i)
        (off_slot_link m i)
        (overlap_link m i)
        (share_link m i)

    -- the first refusal of a combination
    pub found_first : (found_by b words c).first
        ≡ (if not_once t.plan (entries_of words) (get_or (combinations t.plan) c []) then 14 else
        first_of (uses_unknown t.plan (entries_of words) (get_or (combinations t.plan) c [])) (too_early t.plan (entries_of words) (get_or (combinations t.plan) c []))
        (off_slot t.plan (entries_of words) (get_or (combinations t.plan) c [])) (overlap t.plan (entries_of words) (get_or (combinations t.plan) c []))
        (share_byte t.plan (entries_of words) (get_or (combinations t.plan) c [])))
    unfolding found_by
    found_first = at (two missing)
      where
        at : (missing ≡ true) ⊎ (missing ≡ false) → (found_by b words c).first
            ≡ (if not_once p es C then 14 else first_of (uses_unknown p es C) (too_early p es C) (off_slot p es C) (overlap p es C) (share_byte p es C))
        at (inl e) = rw (e, sym once_link ∙ e)
        at (inr e) = rw (e, sym once_link ∙ e) (first_link e)

    -- its delay, where 14 finds nothing
    pub found_delay : not_once t.plan (entries_of words) (get_or (combinations t.plan) c []) ≡ false →
        (found_by b words c).delay ≡ delay t.plan (full_ticks t.plan) (met_log (entries_of words) (get_or (combinations t.plan) c []))
    unfolding found_by
    found_delay o =
        let e : missing ≡ false = once_link ∙ o in
        rw e (ap (last_end_by (met_comes words c b.span)) t.indexed.processes_count ∙ last_end_link p (met_log es C) (met_comes words c b.span) (met_place words c) (meets e).held)
