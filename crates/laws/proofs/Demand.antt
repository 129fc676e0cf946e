-- Demand 3: whoever runs a sound table by the lookup's answers has a run that is right, whole and for every
-- combination.
-- Assumes nothing.
use mathlib.Core.Path.{◌≡◌, sym, ap, ◌∙◌, subst}
use mathlib.Core.Logic.{◌⊎◌, inl, inr}
use mathlib.Core.Bool.{Bool, true, false}
use mathlib.Core.List.{List, map, Memᴰ as In}
use Prim.Native.Nat.{ℕ, ◌+◌, ◌≤◌, ◌<◌}
use native.Mathlib.Omega.{arith}
use lib.Dec.{eqb, ltb}
use lib.ListN.{length, get_or, replicate, length-replicate}
use borrow.Author.Tests.{eqb-true, eq-eqb, lt-ltb, ltb-true}
use Rattle.lists.specs.Lists.{greatest}
use Rattle.lists.proofs.Tests.{two}
use Rattle.lists.proofs.Members.{in_keep, keep_in, map_in, in_below, empty}
use Rattle.lists.proofs.Keep.{keep_all}
use Rattle.lists.proofs.Sums.{greatest_le, greatest_in, some_greatest}
use Rattle.model.specs.Plan.{Lines, process, edge, into, unit}
use Rattle.model.specs.Activity.{combinations}
use Rattle.model.specs.Bus.{rows, is_process}
use Rattle.model.specs.Log.{Placed, Log, of_row, full_ticks, delivered, process_end, delay}
use Rattle.model.specs.Table.{Entry, entries_of}
use Rattle.model.specs.Checking.{Sound, met_log, greatest_delay}
use Rattle.model.specs.Run.{Ask, whole_run}
use Rattle.model.specs.Demand.{starts_of, Starts, Right, Within, Answered, SoundRunsRight}
use Rattle.laws.proofs.Combinations.{in_combinations, combination_length}
use Rattle.laws.proofs.Good.{good}
use Rattle.laws.proofs.Lawful.{in_ticks, row_count, due_once}
use Rattle.laws.proofs.Rows.{process_due, full_tick, full_length, done_by, known_by}
use Rattle.laws.proofs.Rules.{Start, Kept, Lawful}
use Rattle.laws.proofs.RunHeard.{Upto, delivers_too}
use Rattle.laws.proofs.RunLog.{run_matches, run_part}
use Rattle.laws.proofs.Sound.{sound_iff}

-- the end of a start, and of an item
start_end : (p : Lines) (times : List ℕ) (x : Placed) → x.row < length p.processes → process_end p times x ≡ x.tick + get_or times x.row 0
unfolding process_end
start_end p times x l = rw (lt-ltb x.row (length p.processes) l)

item_end : (p : Lines) (times : List ℕ) (x : Placed) → is_process p x.row ≡ false → process_end p times x ≡ 0
unfolding process_end
item_end p times x e = rw e

module _ (p : Lines) (words : List ℕ) (stated : ℕ) (ask : Ask) (sound : Sound p words stated) (told : Answered p words ask) where
  abbrev es : List Entry
  es = entries_of words

  s : Lawful p (entries_of words) stated
  s = ((sound_iff p words stated).0 sound).2

  module _ (c : List Bool) (cl : length c ≡ length p.conditions) (times : List ℕ) (within : Within p times) where
    abbrev M : Log
    M = met_log (entries_of words) c

    abbrev N : Log
    N = whole_run p words ask c times

    keeps : Kept p c M
    keeps = s.keeps c cl

    last : (x : Placed) → In x M → x.tick < 1000000000
    last x m = let t = in_ticks p es stated s c cl x m in omega arith

    part : Upto p M N 1000000000
    unfolding whole_run
    part = run_part p words stated ask sound told c cl times within 1000000000 (omega arith)

    -- the whole run, row by row
    same_row : (r : ℕ) → r < rows p → of_row N r ≡ of_row M r
    unfolding whole_run
    same_row r l =
        run_matches p words stated ask sound told c cl times within 1000000000 (omega arith) r l
        ∙ keep_all (λ x. ltb x.tick 1000000000) (of_row M r) (λ x m. lt-ltb x.tick 1000000000 (last x (keep_in (λ x. eqb x.row r) M m).0))

    -- a start of the run is one of the table's
    start : (i u : ℕ) → Starts p N i u → (x : Placed) × Start p M x × (x.row ≡ i) × (x.tick ≡ u)
    unfolding starts_of
    start i u m =
        let x = map_in (λ x. x.tick) (of_row N i) m.at in
        let k = keep_in (λ x. eqb x.row i) N x.1 in
        let q : x.0.row ≡ i = eqb-true _ _ k.1 in
        let l = m.is_one in
        (x.0, record { member = part.from x.0 (omega arith) k.0; low = omega arith }, q, sym x.2)

    ends_by : (i u : ℕ) (m : Starts p N i u) → u + get_or times i 0 ≤ (start i u m).0.tick + (process p (start i u m).0.row).ticks
    ends_by i u m = let x = start i u m in let q = x.3 in omega (arith, within.bounded x.0.row x.1.low, ap (λ (k : ℕ). get_or times k 0) x.2)

    alone_too : (i j u v : ℕ) (m : Starts p N i u) (n : Starts p N j v) →
        ((start i u m).0.tick + (process p (start i u m).0.row).ticks ≤ (start j v n).0.tick) ⊎ ((start j v n).0.tick + (process p (start j v n).0.row).ticks ≤ (start i u m).0.tick) →
        (u + get_or times i 0 ≤ v) ⊎ (v + get_or times j 0 ≤ u)
    alone_too i j u v m n (inl l) = inl (omega (arith, ends_by i u m, (start j v n).3))
    alone_too i j u v m n (inr l) = inr (omega (arith, ends_by j v n, (start i u m).3))

    ends_in_delay : (x : Placed) → Start p M x → x.tick + (process p x.row).ticks ≤ delay p (full_ticks p) M
    unfolding delay
    ends_in_delay x m =
        omega (arith, greatest_in (process_end p (full_ticks p)) M x m.member, start_end p (full_ticks p) x m.low, full_tick p x.row)

    delay_in_stated : delay p (full_ticks p) M ≤ stated
    unfolding greatest_delay
    delay_in_stated = omega (arith, greatest_in (λ c. delay p (full_ticks p) (met_log es c)) (combinations p) c (in_combinations p c cl), s.worst)

    run_right : Right p c times stated N
    unfolding starts_of
    run_right =
        record {
          starts_once = λ i l a.
              let x = due_once p es stated s c cl i (omega arith) (process_due p c i l ∙ a) in
              (x.0.tick, ap (map (λ x. x.tick)) (same_row i (omega arith) ∙ x.1));
          none_other = λ i l a.
              ap (map (λ x. x.tick)) (same_row i (omega arith) ∙ empty (of_row M i) (row_count p es stated s c cl i (omega arith) ∙ rw (process_due p c i l ∙ a)));
          after_inputs = λ i u m e l q f.
              let x = start i u m in
              let n : In e (into p x.0.row) = in_keep (λ e. eqb (edge p e).to x.0.row) (in_below (length p.edges) e l) (eq-eqb _ _ (q ∙ sym x.2)) in
              delivers_too p c (good p ((sound_iff p words stated).0 sound).0) times within M 1000000000 keeps N part e u l (let z = last x.0 x.1.member in let y = x.3 in omega arith)
              (subst (λ (t : ℕ). delivered p (known_by p c M t) (done_by p M t) e ≡ true) x.3 (keeps.after_inputs x.0 x.1 e n f));
          alone = λ i j u v m n d q.
              let x = start i u m in
              let y = start j v n in
              alone_too i j u v m n (keeps.no_overlap x.0 y.0 x.1 y.1 (ap (unit p) x.2 ∙ q ∙ ap (unit p) (sym y.2)) (λ z. d (sym x.2 ∙ z ∙ y.2)));
          in_time = λ i u m. let x = start i u m in omega (arith, ends_by i u m, ends_in_delay x.0 x.1, delay_in_stated);
        }

  -- with full ticks the run's delay is the table's
  full : Within p (full_ticks p)
  full = record { count = full_length p; bounded = λ i l. omega (arith, full_tick p i) }

  module _ (c : List Bool) (cl : length c ≡ length p.conditions) where
    abbrev full_run : Log
    full_run = whole_run p words ask c (full_ticks p)

    abbrev met : Log
    met = met_log (entries_of words) c

    full_part : Upto p met full_run 1000000000
    full_part = part c cl (full_ticks p) full

    abbrev end : Placed → ℕ
    end = process_end p (full_ticks p)

    run_delay : delay p (full_ticks p) full_run ≡ delay p (full_ticks p) met
    unfolding delay
    run_delay =
        let a : greatest (map end full_run) ≤ greatest (map end met) = greatest_le end _ full_run (λ x m. at x m (two (is_process p x.row))) in
        let b : greatest (map end met) ≤ greatest (map end full_run) =
        greatest_le end _ met (λ x m. greatest_in end full_run x (full_part.to x m (last c cl (full_ticks p) full x m))) in
        omega arith
      where
        at : (x : Placed) → In x full_run → (is_process p x.row ≡ true) ⊎ (is_process p x.row ≡ false) → end x ≤ greatest (map end met)
        at x m (inl e) =
            let l : x.row < length p.processes = ltb-true _ _ e in
            greatest_in end met x (full_part.from x (omega arith) m)
        at x m (inr e) = omega (arith, item_end p (full_ticks p) x e)

  exact : (c : List Bool) × (length c ≡ length p.conditions) × (delay p (full_ticks p) (whole_run p words ask c (full_ticks p)) ≡ stated)
  unfolding greatest_delay
  exact =
      let none : List Bool = replicate (length p.conditions) false in
      let y = some_greatest (λ c. delay p (full_ticks p) (met_log es c)) (combinations p) none (in_combinations p none (length-replicate (length p.conditions) false)) in
      let l : length y.0 ≡ length p.conditions = combination_length p y.0 y.1 in
      (y.0, l, run_delay y.0 l ∙ y.2 ∙ sym s.worst)

pub sound_runs_right : SoundRunsRight
sound_runs_right p words stated ask sound told =
    record { right = λ c times cl within. run_right p words stated ask sound told c cl times within; exact = exact p words stated ask sound told }
