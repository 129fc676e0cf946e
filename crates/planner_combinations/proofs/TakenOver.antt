-- A combination takes over from its source: the rows cut at the clock, the ends among them and the counts noted say
-- where its planning stands there, and what it has before that clock makes the same entries as in the source. Planned
-- on from there and stored, it is one combination more (`one_of`).
-- Assumes nothing.
use mathlib.Core.Path.{◌≡◌, refl, sym, ap, ◌∙◌, subst, subst₂}
use mathlib.Core.Logic.{◌⊎◌, inl, inr}
use mathlib.Core.Bool.{true, false}
use mathlib.Core.List.Memᴰ.{head as here}
use mathlib.Core.List.{List, Memᴰ as In}
use Prim.Native.Nat.{ℕ, zero, suc, ◌+◌, ◌-◌, ◌*◌, ◌^◌, ◌≤◌, ◌<◌}
use native.Mathlib.Omega.{arith}
use lib.Dec.{eqb, leb}
use lib.ListN.{length, get_or, set}
use borrow.Author.Tests.{eq-eqb, ne_eqb, leb-true, leb-false}
use Rattle.lists.specs.Lists.{keep}
use Rattle.lists.proofs.Tests.{two}
use Rattle.lists.proofs.Members.{keep_in}
use Rattle.lists.proofs.Fill.{fill_at, fill_past, fill_length, zeros_at}
use Rattle.model.specs.Plan.{Lines}
use Rattle.model.specs.Bus.{rows as all_rows, condition_row}
use Rattle.model.specs.Log.{Placed, Log}
use Rattle.model.specs.Planning.{State, before, planned}
use Rattle.model.specs.Refusals.{nothing, plan_refusal}
use Rattle.model.specs.Table.{made_entries}
use Rattle.laws.proofs.Good.{good}
use Rattle.laws.proofs.Bound.{bound_small}
use Rattle.laws.proofs.Sharing.{in_plan, plan_in, Shared, made_same}
use Rattle.log_queries.specs.Reading.{last_end_by}
use Rattle.log_queries.specs.Holding.{Row, absent, stands, Held}
use Rattle.plan_index.specs.declared.PlanIndex.{PlanIndex}
use Rattle.plan_layout.specs.Unmet.{unmet_by}
use Rattle.plan_layout.specs.Indexed.{Indexed}
use Rattle.planner_combination.specs.Events.{Ended, from_clock}
use Rattle.planner_combination.specs.Standing.{At}
use Rattle.table_entries.specs.Logs.{block, numbered, plan_of}
use Rattle.log_rows.specs.Rows.{Rows}
use Rattle.planner_nodes.specs.Nodes.{Nodes}
use Rattle.planner_prefix.specs.Stored.{added, RowsKept, NotesKept}
use Rattle.planner_prefix.specs.declared.prefix.Source.{Source}
use Rattle.planner_prefix.specs.Prefix.{no_value, arrival, cut, ends_below, source_among, counts_from, notes_from, counts_at, PrefixShared, begins, goes_on}
use Rattle.planner_combinations.specs.Combinations.{log_of, Ready, Earlier, TakenOver, One}
use Rattle.table_entries.proofs.EntriesOfModel.{block_at}
use Rattle.planner_prefix.proofs.Sources.{Sourced, sourced, arrival_never, arrival_at, width, from_less, from_within, elsewhere}
use Rattle.planner_combinations.proofs.PrefixOfModel.{by_bound, prefix_until, prefix_never}
use Rattle.planner_combinations.proofs.OnePlanned.{ready_first, CombinationPlanned, passes_few, passes_late, combination_of, stored_of}

module _ (p : Lines) (passes : plan_refusal p ≡ nothing) (b : PlanIndex) (o : Indexed p b) (c : ℕ) (l : c < 2 ^ length p.conditions) (comes place notes : List ℕ) (e : Earlier p c comes place notes)
    (s : Source) (given : Sourced comes b.conditionrow b.conditions c s) where
  abbrev d : ℕ
  d = s.from

  abbrev j : ℕ
  j = s.condition

  x : Sourced comes b.conditionrow (length p.conditions) c s
  x = subst (λ (n : ℕ). Sourced comes b.conditionrow n c s) o.conditions_count given

  few : length p.conditions ≤ 6
  few = omega (arith, o.conditions_count, o.few_conditions)

  few_slots : length p.slots ≤ 8
  few_slots = omega (arith, o.slots_count, o.few_slots)

  source_less : s.from < c
  source_less = from_less p few c l comes b.conditionrow s x

  source_within : s.from < 2 ^ length p.conditions
  source_within = from_within p few c l comes b.conditionrow s x

  else_same : (k : ℕ) → (k ≡ s.condition → ⊥) → get_or (numbered p c) k false ≡ get_or (numbered p s.from) k false
  else_same = elsewhere p few c l comes b.conditionrow s x

  held : Held p (log_of p s.from) (block comes s.from) (block place s.from)
  held = e.held d source_less

  -- the clock at which the value arrives
  abbrev value : ℕ
  value = get_or (block comes s.from) (condition_row p s.condition) 0

  clock_is : s.clock ≡ arrival value
  clock_is =
      let k = x.condition_in in
      let q : d * 198 + condition_row p j ≡ d * 198 + b.conditionrow + j = omega (arith, o.first_condition_row, o.processes_count, o.edges_count) in
      x.arrives ∙ ap arrival (sym (block_at comes d (condition_row p j) (omega (arith, few, o.processes_count, o.edges_count, o.few_processes, o.few_edges)) ∙ ap (λ (n : ℕ). get_or comes n 0) q))

  -- the counts and what is noted
  abbrev counts : List ℕ
  counts = counts_from notes (counts_at s) b.slots

  abbrev noted : List ℕ
  noted = notes_from notes (s.from * 56)

  counts_long : length counts ≡ 8
  unfolding counts_from
  counts_long = fill_length 8 (λ n. get_or notes (counts_at s + n) 0) b.slots

  noted_long : length noted ≡ 48
  unfolding notes_from
  noted_long = fill_length 48 (λ i. get_or notes (d * 56 + i) 0) 48

  count_at : (n : ℕ) → n < length p.slots → get_or counts n 0 ≡ get_or notes (counts_at s + n) 0
  unfolding counts_from
  count_at n m = fill_at 8 (λ n. get_or notes (counts_at s + n) 0) b.slots n o.few_slots (omega (arith, o.slots_count))

  count_past : (n : ℕ) → length p.slots ≤ n → get_or counts n 0 ≡ 0
  unfolding counts_from
  count_past n m = fill_past 8 (λ n. get_or notes (counts_at s + n) 0) b.slots n (omega (arith, o.slots_count))

  note_at : (k n : ℕ) → k < length p.conditions → n < length p.slots → get_or noted (k * 8 + n) 0 ≡ get_or notes (s.from * 56 + (k * 8 + n)) 0
  unfolding notes_from
  note_at k n h m = fill_at 48 (λ i. get_or notes (d * 56 + i) 0) 48 (k * 8 + n) (omega arith) (omega (arith, few, few_slots))

  noting : (k : ℕ) → k < length p.conditions → 0 < get_or (block comes s.from) (condition_row p k) 0 → (n : ℕ) → n < length p.slots →
      get_or noted (k * 8 + n) 0 ≡ length (keep (eqb n) (before p (numbered p s.from) (get_or (block comes s.from) (condition_row p k) 0 - 1)).passed)
  noting k h z n m = note_at k n h m ∙ e.noting d source_less k h z n m

  abbrev Same : ℕ → Type 0
  Same t = Shared p passes (numbered p c) (numbered p s.from) (width p c l) (width p s.from source_within) s.condition else_same t

  -- where planning stands at a clock
  abbrev Stands : ℕ → Type 0
  Stands t =
      At p (numbered p c) t (from_clock s.clock (ends_below b.node (cut (block comes s.from) b.span s.clock) b.processes) (cut (block comes s.from) b.span s.clock) (block place s.from) counts noted)

  record Taken : Type 0 where
    tick : ℕ
    clock : s.clock ≡ suc tick
    stands_there : Stands tick
    same_until : Same tick
    few_counts : (n : ℕ) → get_or counts n 0 ≤ s.clock

  few_then : (u : ℕ) → ((n : ℕ) → n < length p.slots → get_or counts n 0 ≤ u) → (n : ℕ) → get_or counts n 0 ≤ u
  few_then u f n = at (two (leb (length p.slots) n))
    where
      at : (leb (length p.slots) n ≡ true) ⊎ (leb (length p.slots) n ≡ false) → get_or counts n 0 ≤ u
      at (inl q) = omega (arith, count_past n (leb-true _ _ q))
      at (inr q) = f n (leb-false _ _ q)

  taken : Taken
  unfolding counts_at
  taken = at value refl
    where
      at : (v : ℕ) → value ≡ v → Taken
      at zero q =
          let k : s.clock ≡ no_value = clock_is ∙ arrival_never value q in
          let w : counts_at s ≡ d * 56 + 48 = rw (eq-eqb s.clock no_value k) in
          let own : (n : ℕ) → n < length p.slots → get_or counts n 0 ≡ length (keep (eqb n) (planned p (numbered p d)).passed) =
          λ n m. count_at n m ∙ ap (λ (y : ℕ). get_or notes (y + n) 0) w ∙ e.counts d source_less n m in
          let r = prefix_never p passes (numbered p c) (numbered p d) (width p c l) (width p d source_within) j x.condition_in else_same (block comes d) (block place d) b.span b.node noted held o.spans
          o.node_small o.nodes noting noted_long q counts counts_long own in
          record {
            tick = 1999999999;
            clock = k;
            stands_there =
                subst₂ (λ (u n : ℕ). At p (numbered p c) 1999999999 (from_clock u (ends_below b.node (cut (block comes d) b.span u) n) (cut (block comes d) b.span u) (block place d) counts noted))
                (sym k) (sym o.processes_count) r.0;
            same_until = r.1;
            few_counts = few_then s.clock (λ n m. omega (arith, own n m, passes_few p passes n d source_within, k));
          }
      at (suc t) q =
          let k : s.clock ≡ suc t = clock_is ∙ arrival_at value t q in
          let z = by_bound p passes (numbered p d) (width p d source_within) (block comes d) (block place d) held (condition_row p j) in
          let w : counts_at s ≡ d * 56 + j * 8 = rw (ne_eqb s.clock no_value (λ h. absurd (omega (arith, h, k, q, z, bound_small p (good p passes))))) in
          let own : (n : ℕ) → n < length p.slots → get_or counts n 0 ≡ get_or noted (j * 8 + n) 0 =
          λ n m. count_at n m ∙ ap (λ (y : ℕ). get_or notes y 0) (omega (arith, w)) ∙ sym (note_at j n x.condition_in m) in
          let r = prefix_until p passes (numbered p c) (numbered p d) (width p c l) (width p d source_within) j x.condition_in else_same (block comes d) (block place d) b.span b.node noted held o.spans
          o.node_small o.nodes noting noted_long t q counts counts_long own in
          record {
            tick = t;
            clock = k;
            stands_there =
                subst₂ (λ (u n : ℕ). At p (numbered p c) t (from_clock u (ends_below b.node (cut (block comes d) b.span u) n) (cut (block comes d) b.span u) (block place d) counts noted))
                (sym k) (sym o.processes_count) r.0;
            same_until = r.1;
            few_counts = few_then s.clock
                (λ n m. omega (arith, own n m ∙ noting j x.condition_in (omega (arith, q)) n m, passes_late p passes n d (value - 1), q, k));
          }

  next_ready : Ready p c s.clock (ends_below b.node (cut (block comes s.from) b.span s.clock) b.processes) (cut (block comes s.from) b.span s.clock) (block place s.from)
      (counts_from notes (counts_at s) b.slots) (notes_from notes (s.from * 56))
  next_ready = record { tick = taken.tick; at_tick = taken.stands_there }

  next_few : (n : ℕ) → get_or (counts_from notes (counts_at s) b.slots) n 0 ≤ s.clock
  next_few = taken.few_counts

  -- a row that starts before the clock makes the same entry in the source
  next_taken : (rows_after places-after : List ℕ) → Held p (log_of p c) rows_after places-after → TakenOver p c rows_after b.span s.clock
  next_taken rows_after places-after h r m some early = at (h.row r)
    where
      at : Row p (log_of p c) r (get_or rows_after r 0) (get_or places-after r 0) → (f : ℕ) × (f < c) × (made_entries p r (plan_of p c) ≡ made_entries p r (plan_of p f))
      at (absent n z) = absurd (some z)
      at (stands u n z) =
          let y : Placed = record { row = r; tick = u; place = get_or places-after r 0 } in
          let i : In y (log_of p c) = (keep_in (λ y. eqb y.row r) (log_of p c) (subst (λ (ys : Log). In y ys) (sym n) (here refl))).0 in
          let w : u < taken.tick = omega (arith, z, early, o.spans r m, taken.clock) in
          let k : In y (before p (numbered p d) taken.tick).log =
          subst (λ (st : State). In y st.log) (sym (taken.same_until.same taken.tick (omega arith))) (plan_in p passes (numbered p c) (width p c l) taken.tick y i w) in (
            d,
            source_less,
            made_same p passes (numbered p c) (numbered p d) (width p c l) (width p d source_within) j else_same taken.tick taken.same_until y
                (in_plan p passes (numbered p d) (width p d source_within) taken.tick y k) w,
          )

  -- the same of arrays that were filled so
  next_ready_of : (ends rows_then places_then counts_then noted-then : List ℕ) → rows_then ≡ cut (block comes s.from) b.span s.clock → places_then ≡ block place s.from →
      ends ≡ ends_below b.node rows_then b.processes → counts_then ≡ counts_from notes (counts_at s) b.slots → noted-then ≡ notes_from notes (s.from * 56) →
      Ready p c s.clock ends rows_then places_then counts_then noted-then
  next_ready_of ends rows_then places_then counts_then noted-then r v w y z =
      let ends_is : ends ≡ ends_below b.node (cut (block comes d) b.span s.clock) b.processes = w ∙ ap (λ (xs : List ℕ). ends_below b.node xs b.processes) r in
      rw (ends_is, r, v, y, z) next_ready

-- A combination is planned from what it takes over, and stored.
module _ (p : Lines) (passes : plan_refusal p ≡ nothing) (b : PlanIndex) (o : Indexed p b) (c : ℕ) (l : c < 2 ^ length p.conditions) (comes place notes : List ℕ) (e : Earlier p c comes place notes)
    (clock : ℕ) (rows places ends counts noted : List ℕ)
    (given : PrefixShared b.processes b.conditionrow b.conditions b.slots c clock b.node b.span comes place notes rows places ends counts noted) where
  abbrev Resumes : Type 0
  Resumes = PrefixShared b.processes b.conditionrow b.conditions b.slots c clock b.node b.span comes place notes rows places ends counts noted

  abbrev source : Source
  source = source_among comes b.conditionrow c b.conditions

  source_of : 0 < c → Sourced comes b.conditionrow b.conditions c source
  source_of some = sourced comes b.conditionrow c b.conditions some (subst (λ (n : ℕ). c < 2 ^ n) (sym o.conditions_count) l)

  pub prefix_ready : Ready p c clock ends rows places counts noted
  prefix_ready = at given
    where
      at : Resumes → Ready p c clock ends rows places counts noted
      at (begins z u r q f n m) = subst (λ (x : ℕ). Ready p c x ends rows places counts noted) (sym u) (ready_first p c ends rows places counts noted f r q n m)
      at (goes_on some t) =
          subst (λ (x : ℕ). Ready p c x ends rows places counts noted) (sym t.until)
          (next_ready_of p passes b o c l comes place notes e source (source_of some) ends rows places counts noted t.rows_cut t.places_whole t.ends_last t.counts_then t.notes_then)

  pub prefix_few : (n : ℕ) → get_or counts n 0 ≤ clock
  prefix_few n = at given
    where
      at : Resumes → get_or counts n 0 ≤ clock
      at (begins z u r q f k m) = omega (arith, ap (λ (xs : List ℕ). get_or xs n 0) k, zeros_at 8 n)
      at (goes_on some t) = omega (arith, t.until, ap (λ (xs : List ℕ). get_or xs n 0) t.counts_then, next_few p passes b o c l comes place notes e source (source_of some) n)

  prefix_taken : (rows_after places-after : List ℕ) → Held p (log_of p c) rows_after places-after → TakenOver p c rows_after b.span clock
  prefix_taken rows_after places-after h = at given
    where
      -- nothing starts before clock 1
      none : (r : ℕ) → r < all_rows p → Row p (log_of p c) r (get_or rows_after r 0) (get_or places-after r 0) → (get_or rows_after r 0 ≡ 0 → ⊥) → 1 ≤ get_or rows_after r 0 - get_or b.span r 0
      none r m (absent n z) some = absurd (some z)
      none r m (stands u n z) some = omega (arith, z, o.spans r m)

      at : Resumes → TakenOver p c rows_after b.span clock
      at (begins z u w q f k m) = λ r y some early. absurd (omega (arith, u, early, none r y (h.row r) some))
      at (goes_on some t) =
          subst (λ (x : ℕ). TakenOver p c rows_after b.span x) (sym t.until) (next_taken p passes b o c l comes place notes e source (source_of some) rows_after places-after h)

  pub one_of : (unmet : List ℕ) → unmet ≡ unmet_by b.kind b.condition b.edges c → (s : Rows) (ns : Nodes) →
      Ended b unmet (from_clock clock ends rows places counts noted) s.comes s.place ns.passed ns.noted → {latest : ℕ} → latest ≡ last_end_by s.comes b.processes → (since passed : List ℕ) → length passed ≡ 8 →
      {comes-after place_after since-after notes_after passed-after : List ℕ} →
      RowsKept c s comes place comes-after place_after → NotesKept c ns notes notes_after → passed-after ≡ added ns.passed passed b.slots → since-after ≡ set since c clock →
      One p b.span c latest comes place since notes passed comes-after place_after since-after notes_after passed-after
  one_of unmet q s ns f {latest} y since passed long r m t z =
      let k : CombinationPlanned p c s.comes s.place ns.passed ns.noted =
      combination_of p passes b o c l unmet q clock ends rows places counts noted prefix_ready s.comes s.place ns.passed ns.noted f in
      let x = stored_of p passes b o c latest s ns k y comes place notes passed long r m t in
      record { stored = x; clock = clock; since_stored = z; taken_over = prefix_taken x.rows x.places x.held }
