-- The combinations are planned one after another: their logs, what is noted of them and what they take over, the worst
-- delay and the pass-over counts so far, and in the end those of the whole plan.
-- Assumes nothing.
use mathlib.Core.Path.{◌≡◌, refl, sym, ap, ◌∙◌, subst, subst₂}
use mathlib.Core.Bool.{Bool, true, false}
use mathlib.Core.List.{List, [], ◌∷◌, ◌++◌, map}
use Prim.Native.Nat.{ℕ, ◌+◌, ◌-◌, ◌*◌, ◌^◌, ◌≤◌, ◌<◌, max}
use native.Mathlib.Numerals.{add-one}
use native.Mathlib.Omega.{arith}
use lib.Dec.{eqb}
use lib.ListN.{length, get_or, replicate, length-replicate, length-set}
use lib.Seq.{sets, length-sets, get_or-set_same, get_or-set_other}
use borrow.Author.Tests.{eqb-true, eqb-false}
use Rattle.lists.specs.Lists.{keep, below, sum, greatest}
use Rattle.lists.proofs.Fill.{zeros_at}
use Rattle.lists.proofs.Keep.{map_append, map_map, below_last}
use Rattle.lists.proofs.Places.{list_below}
use Rattle.model.specs.Plan.{Lines}
use Rattle.model.specs.Activity.{combinations}
use Rattle.model.specs.Bus.{rows, condition_row}
use Rattle.model.specs.Log.{full_ticks, delay}
use Rattle.model.specs.Planning.{planned}
use Rattle.model.specs.Refusals.{nothing, plan_refusal}
use Rattle.model.specs.Table.{Planned, plans, passed_by, result}
use Rattle.bitset.proofs.Numbered.{combinations_count}
use Rattle.log_queries.specs.Holding.{Held}
use Rattle.plan_index.specs.declared.PlanIndex.{PlanIndex}
use Rattle.plan_layout.specs.Indexed.{Indexed}
use Rattle.table_entries.specs.Logs.{block, numbered, plan_of}
use Rattle.planner_combinations.specs.Combinations.{Laid_out, Before, log_of, delay_of, passes_by, passes_of, Stored, TakenOver, One, First, PlannedAll}
use Rattle.table_entries.proofs.EntriesOfModel.{block_at}
use Rattle.planner_combinations.proofs.Storing.{block_stored, block_before, notes_own, notes_last, notes_others}
use Rattle.planner_combinations.proofs.OnePlanned.{passes_few}

-- the greatest and the sum with one more at the end
greatest_last : (xs : List ℕ) (x : ℕ) → greatest (xs ++ (x ∷ [])) ≡ max (greatest xs) x
greatest_last [] x = omega arith
greatest_last (y ∷ ys) x = omega (arith, greatest_last ys x)

sum_last : (xs : List ℕ) (x : ℕ) → sum (xs ++ (x ∷ [])) ≡ sum xs + x
sum_last [] x = omega arith
sum_last (y ∷ ys) x = omega (arith, sum_last ys x)

map_below : (f : ℕ → ℕ) (n : ℕ) → map f (below (n + 1)) ≡ map f (below n) ++ (f n ∷ [])
map_below f n = ap (λ (k : ℕ). map f (below k)) (add-one n) ∙ ap (map f) (below_last n) ∙ map_append f (below n) (n ∷ [])

-- The combinations below n are planned, whatever plan the plan index is of.
pub record Sofar (b : PlanIndex) (n latest : ℕ) (comes place since notes passed : List ℕ) : Type 0 where
  pub comes_long : length comes ≡ 12672
  pub place_long : length place ≡ 12672
  pub since_long : length since ≡ 64
  pub notes_long : length notes ≡ 3584
  pub passed_long : length passed ≡ 8
  pub passed_few : (k : ℕ) → k < b.slots → get_or passed k 0 ≤ 198 * n
  pub first : (p : Lines) → plan_refusal p ≡ nothing → Indexed p b → First p b.span n latest comes place since notes passed

pub sofar_before : {b : PlanIndex} {n latest : ℕ} {comes place since notes passed : List ℕ} → Sofar b n latest comes place since notes passed → Before b n comes place notes passed
sofar_before s = record { place_long = s.place_long; passed_long = s.passed_long; passed_few = s.passed_few; earlier = λ p f o. (s.first p f o).earlier }

pub sofar_start : (b : PlanIndex) (comes place since : List ℕ) {notes passed : List ℕ} → length comes ≡ 12672 → length place ≡ 12672 → length since ≡ 64 → length notes ≡ 3584 → passed ≡ replicate 8 0 →
    Sofar b 0 0 comes place since notes passed
sofar_start b comes place since c d s m e =
    record {
      comes_long = c;
      place_long = d;
      since_long = s;
      notes_long = m;
      passed_long = ap length e ∙ length-replicate {A = ℕ} 8 0;
      passed_few = λ k l. omega (arith, ap (λ (xs : List ℕ). get_or xs k 0) e, zeros_at 8 k);
      first = λ p f o.
          record {
            earlier = record { held = λ c l. absurd (omega arith); noting = λ c l. absurd (omega arith); counts = λ c l. absurd (omega arith) };
            taken_over = λ c l. absurd (omega arith);
            delay = refl;
            counted = λ k l. ap (λ (xs : List ℕ). get_or xs k 0) e ∙ zeros_at 8 k;
          };
    }

module _ (p : Lines) (lasting : List ℕ) (n latest last : ℕ) (comes place since notes passed comes-after place_after since-after notes_after passed-after : List ℕ) (small : n < 64)
    (few : length p.conditions ≤ 6) (few_slots : length p.slots ≤ 8)
    (comes_long : length comes ≡ 12672) (place_long : length place ≡ 12672) (since_long : length since ≡ 64) (notes_long : length notes ≡ 3584)
    (f : First p lasting n latest comes place since notes passed) (o : One p lasting n last comes place since notes passed comes-after place_after since-after notes_after passed-after) where
  abbrev k : Stored p n last comes place notes passed comes-after place_after notes_after passed-after
  k = o.stored

  -- combination n's part, and an earlier one's
  own_rows : block comes-after n ≡ o.stored.rows
  own_rows = ap (λ (xs : List ℕ). block xs n) k.rows_stored ∙ block_stored comes k.rows n k.held.comes_long (omega arith)

  own_places : block place_after n ≡ o.stored.places
  own_places = ap (λ (xs : List ℕ). block xs n) k.places_stored ∙ block_stored place k.places n k.held.place_long (omega arith)

  old_rows : (c : ℕ) → c < n → block comes-after c ≡ block comes c
  old_rows c l = ap (λ (xs : List ℕ). block xs c) k.rows_stored ∙ block_before comes k.rows n c l

  old_places : (c : ℕ) → c < n → block place_after c ≡ block place c
  old_places c l = ap (λ (xs : List ℕ). block xs c) k.places_stored ∙ block_before place k.places n c l

  own_noted : (i : ℕ) → i < 48 → get_or notes_after (n * 56 + i) 0 ≡ get_or o.stored.noted i 0
  own_noted i l = ap (λ (xs : List ℕ). get_or xs (n * 56 + i) 0) k.notes_stored ∙ notes_own notes k.noted k.counts n k.noted_long k.counts_long (omega arith) i l

  own_counts : (i : ℕ) → i < 8 → get_or notes_after (n * 56 + 48 + i) 0 ≡ get_or o.stored.counts i 0
  own_counts i l = ap (λ (xs : List ℕ). get_or xs (n * 56 + 48 + i) 0) k.notes_stored ∙ notes_last notes k.noted k.counts n k.noted_long k.counts_long (omega arith) i l

  old_notes : (i : ℕ) → i < n * 56 → get_or notes_after i 0 ≡ get_or notes i 0
  old_notes i l = ap (λ (xs : List ℕ). get_or xs i 0) k.notes_stored ∙ notes_others notes k.noted k.counts n k.noted_long k.counts_long (omega arith) i l

  -- what holds of the combinations below n and of n holds of those below n + 1
  either : (P : ℕ → Type 0) → ((c : ℕ) → c < n → P c) → P n → (c : ℕ) → c < n + 1 → P c
  either P below-n at_n c l = at (eqb c n) refl
    where
      at : (t : Bool) → eqb c n ≡ t → P c
      at true e = subst P (sym (eqb-true c n e)) at_n
      at false e = below-n c (let q : c ≡ n → ⊥ = eqb-false c n e in omega (arith, q))

  held_next : (c : ℕ) → c < n + 1 → Held p (log_of p c) (block comes-after c) (block place_after c)
  held_next =
      either (λ c. Held p (log_of p c) (block comes-after c) (block place_after c))
      (λ c m. subst₂ (λ (xs ys : List ℕ). Held p (log_of p c) xs ys) (sym (old_rows c m)) (sym (old_places c m)) (f.earlier.held c m))
      (subst₂ (λ (xs ys : List ℕ). Held p (log_of p n) xs ys) (sym own_rows) (sym own_places) k.held)

  noting_next : (c : ℕ) → c < n + 1 → (j : ℕ) → j < length p.conditions → 0 < get_or (block comes-after c) (condition_row p j) 0 → (m : ℕ) → m < length p.slots →
      get_or notes_after (c * 56 + (j * 8 + m)) 0 ≡ passes_by p m c (get_or (block comes-after c) (condition_row p j) 0 - 1)
  noting_next =
      either (λ c. (j : ℕ) → j < length p.conditions → 0 < get_or (block comes-after c) (condition_row p j) 0 → (m : ℕ) → m < length p.slots →
      get_or notes_after (c * 56 + (j * 8 + m)) 0 ≡ passes_by p m c (get_or (block comes-after c) (condition_row p j) 0 - 1))
      (λ c l j x z m y.
      let q = old_rows c l in
      old_notes (c * 56 + (j * 8 + m)) (omega (arith, few, few_slots))
      ∙ f.earlier.noting c l j x (subst (λ (xs : List ℕ). 0 < get_or xs (condition_row p j) 0) q z) m y
      ∙ ap (λ (xs : List ℕ). passes_by p m c (get_or xs (condition_row p j) 0 - 1)) (sym q))
      (λ j x z m y.
      own_noted (j * 8 + m) (omega (arith, few, few_slots))
      ∙ k.noting j x (subst (λ (xs : List ℕ). 0 < get_or xs (condition_row p j) 0) own_rows z) m y
      ∙ ap (λ (xs : List ℕ). passes_by p m n (get_or xs (condition_row p j) 0 - 1)) (sym own_rows))

  counts_next : (c : ℕ) → c < n + 1 → (m : ℕ) → m < length p.slots → get_or notes_after (c * 56 + 48 + m) 0 ≡ passes_of p m c
  counts_next =
      either (λ c. (m : ℕ) → m < length p.slots → get_or notes_after (c * 56 + 48 + m) 0 ≡ passes_of p m c)
      (λ c l m y. old_notes (c * 56 + 48 + m) (omega (arith, few_slots)) ∙ f.earlier.counts c l m y)
      (λ m y. own_counts m (omega (arith, few_slots)) ∙ k.counts_own m y)

  taken_next : (c : ℕ) → c < n + 1 → TakenOver p c (block comes-after c) lasting (get_or since-after c 0)
  taken_next =
      either (λ c. TakenOver p c (block comes-after c) lasting (get_or since-after c 0))
      (λ c l.
      subst₂ (λ (xs : List ℕ) (u : ℕ). TakenOver p c xs lasting u) (sym (old_rows c l))
      (sym (ap (λ (xs : List ℕ). get_or xs c 0) o.since_stored ∙ get_or-set_other since n c o.clock 0 (λ q. absurd (omega arith)))) (f.taken_over c l))
      (subst₂ (λ (xs : List ℕ) (u : ℕ). TakenOver p n xs lasting u) (sym own_rows)
      (sym (ap (λ (xs : List ℕ). get_or xs n 0) o.since_stored ∙ get_or-set_same since n o.clock 0 (omega arith))) o.taken_over)

  first_next : First p lasting (n + 1) (max latest last) comes-after place_after since-after notes_after passed-after
  first_next =
      record {
        earlier = record { held = held_next; noting = noting_next; counts = counts_next };
        taken_over = taken_next;
        delay = omega (arith, f.delay, k.delay, ap greatest (map_below (delay_of p) n), greatest_last (map (delay_of p) (below n)) (delay_of p n));
        counted = λ i l.
            k.counted i l ∙ ap (λ (x : ℕ). x + passes_of p i n) (f.counted i l) ∙ sym (ap sum (map_below (passes_of p i) n) ∙ sum_last (map (passes_of p i) (below n)) (passes_of p i n));
      }

-- One turn.
pub sofar_next : (b : PlanIndex) (i : Laid_out b) (n latest last : ℕ) {next : ℕ} (comes place since notes passed comes-after place_after since-after notes_after passed-after : List ℕ) → n < 64 → n < 2 ^ b.conditions →
    Sofar b n latest comes place since notes passed →
    ((p : Lines) → plan_refusal p ≡ nothing → Indexed p b → One p b.span n last comes place since notes passed comes-after place_after since-after notes_after passed-after) → next ≡ max latest last →
    Sofar b (n + 1) next comes-after place_after since-after notes_after passed-after
sofar_next b i n latest last {next} comes place since notes passed comes-after place_after since-after notes_after passed-after small l s o q =
    let p : Lines = i.plan in
    let x : One p b.span n last comes place since notes passed comes-after place_after since-after notes_after passed-after = o p i.passes i.indexed in
    let w : Stored p n last comes place notes passed comes-after place_after notes_after passed-after = x.stored in
    let k : b.slots ≡ length p.slots = i.indexed.slots_count in
    record {
      comes_long = ap length w.rows_stored ∙ length-sets comes (n * 198) w.rows ∙ s.comes_long;
      place_long = ap length w.places_stored ∙ length-sets place (n * 198) w.places ∙ s.place_long;
      since_long = ap length x.since_stored ∙ length-set since n x.clock ∙ s.since_long;
      notes_long =
          ap length w.notes_stored ∙ length-sets (sets notes (n * 56) w.noted) (n * 56 + 48) w.counts ∙ length-sets notes (n * 56) w.noted ∙ s.notes_long;
      passed_long = w.passed_long;
      passed_few = λ m h.
          omega (
            arith,
            w.counted m (omega arith),
            s.passed_few m h,
            passes_few p i.passes m n (subst (λ (k : ℕ). n < 2 ^ k) i.indexed.conditions_count l),
          );
      first = λ p f g.
          subst (λ (x : ℕ). First p b.span (n + 1) x comes-after place_after since-after notes_after passed-after) (sym q)
          (first_next p b.span n latest last comes place since notes passed comes-after place_after since-after notes_after passed-after small
          (omega (arith, g.conditions_count, g.few_conditions)) (omega (arith, g.slots_count, g.few_slots))
          s.comes_long s.place_long s.since_long s.notes_long (s.first p f g) (o p f g));
    }

-- what a function of the plans gives, combination by combination
plans_below : (p : Lines) (f : Planned → ℕ) → map f (plans p) ≡ map (λ c. f (plan_of p c)) (below (2 ^ length p.conditions))
unfolding plans
plans_below p f =
    let mk : List Bool → Planned = λ c. record { combination = c; state = planned p c } in
    ap (λ (cs : List (List Bool)). map f (map mk cs)) (sym (list_below [] (combinations p) (2 ^ length p.conditions) (combinations_count (length p.conditions))))
    ∙ ap (map f) (map_map mk (λ c. numbered p c) (below (2 ^ length p.conditions)))
    ∙ map_map f (λ c. plan_of p c) (below (2 ^ length p.conditions))

-- All combinations.
pub sofar_end : (b : PlanIndex) (n latest : ℕ) (comes place since notes passed : List ℕ) → n ≡ 2 ^ b.conditions → n ≤ 64 → Sofar b n latest comes place since notes passed →
    (p : Lines) → plan_refusal p ≡ nothing → Indexed p b → PlannedAll p b.span (record { delay = latest; passed = passed }) comes place since
unfolding result passed_by
sofar_end b n latest comes place since notes passed e few s p fine o =
    let f : First p b.span n latest comes place since notes passed = s.first p fine o in
    let q : n ≡ 2 ^ length p.conditions = e ∙ ap (λ (k : ℕ). 2 ^ k) o.conditions_count in
    let k : b.slots ≡ length p.slots = o.slots_count in
    let small : rows p ≤ 198 = omega (arith, o.processes_count, o.edges_count, o.conditions_count, o.few_processes, o.few_edges, o.few_conditions) in
    record {
      held = λ c l. f.earlier.held c (omega arith);
      taken_over = λ r c l m some early.
          let w : get_or (block comes c) r 0 ≡ get_or comes (c * 198 + r) 0 = block_at comes c r (omega arith) in
          f.taken_over c (omega arith) r l (λ z. some (sym w ∙ z)) (omega (arith, w));
      delay =
          f.delay ∙ ap (λ (m : ℕ). greatest (map (delay_of p) (below m))) q
          ∙ ap greatest (sym (plans_below p (λ s. delay p (full_ticks p) s.state.log)));
      passed = λ m l.
          f.counted m l ∙ ap (λ (k : ℕ). sum (map (passes_of p m) (below k))) q
          ∙ ap sum (sym (plans_below p (λ s. length (keep (eqb m) s.state.passed))));
      passed_few = λ m l. omega (arith, s.passed_few m (omega arith));
    }
