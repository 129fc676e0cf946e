-- One tick of a run by a lawful table: where what is heard is what the table says, the log gains exactly the met
-- entries of that tick.
-- Assumes nothing.
use Rattle.std.specs.Prelude.{if◌then◌else◌}
use mathlib.Core.Path.{◌≡◌, refl, sym, ap, ◌∙◌}
use mathlib.Core.Bool.{Bool, true, false, ◌&&◌}
use mathlib.Core.List.{List, [], ◌∷◌, ◌++◌, map}
use Prim.Native.Nat.{ℕ, suc, ◌^◌, ◌<◌, ◌≤◌}
use native.Mathlib.Nat.{zero-add, pow-le-pow_right}
use native.Mathlib.Omega.{arith}
use lib.Dec.{eqb, ltb}
use lib.ListN.{length}
use borrow.Author.Tests.{eq-eqb, ne_eqb, eqb-true, eqb-false, lt-ltb, le-ltb, ltb-true, ltb-false}
use Rattle.lists.specs.Lists.{keep, each, below}
use Rattle.lists.proofs.Tests.{same_test, at_most, and_false, and_true}
use Rattle.lists.proofs.Members.{UptoOne, upto_one, one_or_none}
use Rattle.lists.proofs.Keep.{map_map, keep_append, keep_map, keep_keep, keep_same, keep_false, keep_each, each_one, each_same}
use Rattle.model.specs.Plan.{Lines}
use Rattle.model.specs.Activity.{Heard, all_heard}
use Rattle.model.specs.Bus.{rows, sender, row_node}
use Rattle.model.specs.Log.{Log, of_row, placed}
use Rattle.model.specs.Refusals.{nothing, plan_refusal}
use Rattle.model.specs.Table.{Entry, entries_of, known_bits, value_bits, bits_met, bits_within, column_met}
use Rattle.model.specs.Checking.{own, met_entries, met_log}
use Rattle.model.specs.Lookup.{fits}
use Rattle.model.specs.Run.{Ask, hears, stamp, entry_at, given, tick_log}
use Rattle.model.specs.Demand.{Answered}
use Rattle.laws.proofs.Calls.{answers}
use Rattle.laws.proofs.Columns.{met_more, met_known, known_part, known_small, value_most}
use Rattle.laws.proofs.Good.{Good, good}
use Rattle.laws.proofs.Lawful.{count_one, formed_row}
use Rattle.laws.proofs.Rows.{sender_in, done_by, known_by, known_length}
use Rattle.laws.proofs.Rules.{Lawful}

-- the starts and items of T, and those before it, are those before T + 1
till_next : (T : ℕ) (xs : Log) → UptoOne xs → keep (λ x. eqb x.tick T) xs ++ keep (λ x. ltb x.tick T) xs ≡ keep (λ x. ltb x.tick (suc T)) xs
till_next T [] u = refl
till_next T (x ∷ []) u = at (eqb x.tick T) (ltb x.tick T) refl refl
  where
    at : (a b : Bool) → eqb x.tick T ≡ a → ltb x.tick T ≡ b → (if a then (x ∷ []) else []) ++ (if b then (x ∷ []) else []) ≡ (if ltb x.tick (suc T) then (x ∷ []) else [])
    at true true e l = let q : x.tick ≡ T = eqb-true _ _ e in let m : x.tick < T = ltb-true _ _ l in absurd (omega arith)
    at true false e l = let q : x.tick ≡ T = eqb-true _ _ e in rw (lt-ltb x.tick (suc T) (omega arith))
    at false true e l = let m : x.tick < T = ltb-true _ _ l in rw (lt-ltb x.tick (suc T) (omega arith))
    at false false e l =
        let m : T ≤ x.tick = ltb-false _ _ l in
        let q : x.tick ≡ T → ⊥ = eqb-false _ _ e in
        rw (le-ltb x.tick (suc T) (at_most T x.tick m (λ z. q (sym z))))
till_next T (x ∷ y ∷ ys) u = absurd u

-- an entry of tick T, stamped with T
stamp_own : (T : ℕ) (f : Entry → Bool) (xs : List Entry) → map (stamp T) (keep (λ e. f e && eqb e.tick T) xs) ≡ map own (keep (λ e. f e && eqb e.tick T) xs)
stamp_own T f [] = refl
stamp_own T f (x ∷ xs) = at (f x) (eqb x.tick T) refl _ (stamp_own T f xs)
  where
    at : (a b : Bool) → eqb x.tick T ≡ b → (r : List Entry) → map (stamp T) r ≡ map own r → map (stamp T) (if a && b then (x ∷ r) else r) ≡ map own (if a && b then (x ∷ r) else r)
    at false b e r q = q
    at true false e r q = q
    at true true e r q = λ i. record { row = x.row; tick = sym (eqb-true x.tick T e) i; place = x.place } ∷ q i

module _ (p : Lines) (words : List ℕ) (stated : ℕ) (ask : Ask) (fine : plan_refusal p ≡ nothing) (s : Lawful p (entries_of words) stated)
    (told : Answered p words ask) (c : List Bool) (cl : length c ≡ length p.conditions) (times : List ℕ) (T : ℕ) (early : T < 1000000000) where
  abbrev es : List Entry
  es = entries_of words

  abbrev M : Log
  M = met_log (entries_of words) c

  -- what is heard at T, and the entries that fit there
  abbrev h : List Heard
  h = known_by p c (met_log (entries_of words) c) T

  abbrev test : ℕ → Entry → Bool
  test n e = fits p n T (known_bits h) (value_bits h) e

  -- the entries of row r and tick T that the combination meets
  abbrev due_now : ℕ → Entry → Bool
  due_now r e = (column_met (all_heard c) e && eqb e.row r) && eqb e.tick T

  g : Good p
  g = good p fine

  wrong_node : (n r : ℕ) → (n ≡ row_node p r → ⊥) → (e : Entry) → (test n e && eqb e.row r) ≡ false
  unfolding fits
  wrong_node n r d e = at (eqb e.row r) refl
    where
      at : (b : Bool) → eqb e.row r ≡ b → (test n e && b) ≡ false
      at false q = and_false (test n e)
      at true q =
          let f : eqb (row_node p e.row) n ≡ false = ne_eqb _ _ (λ z. d (sym z ∙ ap (row_node p) (eqb-true _ _ q))) in
          simp (f, and_false)

  module _ (e : Entry) (within : column_met (all_heard c) e ≡ true → bits_within 32 e.known (known_bits (known_by p c M e.tick)) ≡ true) where
    -- at T an entry's column is met by what is heard just where the combination meets it
    met_heard : e.tick ≡ T → bits_met 32 e.known e.values (known_bits h) (value_bits h) ≡ column_met (all_heard c) e
    unfolding column_met
    met_heard q =
        same_test _ _ (met_more 32 e.known e.values (known_part p c cl _))
        (λ m. met_known 32 e.known e.values (known_part p c cl _) (rw q at (within m)) m)

    right_node : (r : ℕ) → ltb e.row (rows p) ≡ true → (test (row_node p r) e && eqb e.row r) ≡ due_now r e
    unfolding fits
    right_node r l = at (eqb e.row r) (eqb e.tick T) refl refl
      where
        at : (a b : Bool) → eqb e.row r ≡ a → eqb e.tick T ≡ b → (test (row_node p r) e && a) ≡ ((column_met (all_heard c) e && a) && b)
        at false b q s = and_false (test (row_node p r) e) ∙ sym (ap (λ (z : Bool). z && b) (and_false (column_met (all_heard c) e)))
        at true false q s = simp (s, and_false)
        at true true q s =
            let f : eqb (row_node p e.row) (row_node p r) ≡ true = eq-eqb _ _ (ap (row_node p) (eqb-true _ _ q)) in
            simp (l, f, s, met_heard (eqb-true _ _ s), and_true)

  met_at : (r : ℕ) → keep (λ x. eqb x.tick T) (of_row M r) ≡ map own (keep (due_now r) es)
  unfolding met_log met_entries
  met_at r =
      let met : Entry → Bool = column_met (all_heard c) in
      ap (keep (λ x. eqb x.tick T)) (keep_map (λ x. eqb x.row r) own (keep met es) ∙ ap (map own) (keep_keep (λ e. eqb e.row r) met es))
      ∙ keep_map (λ x. eqb x.tick T) own (keep (λ e. met e && eqb e.row r) es)
      ∙ ap (map own) (keep_keep (λ e. eqb e.tick T) (λ e. met e && eqb e.row r) es)

  node_in : (r : ℕ) → r < rows p → row_node p r < length p.slots
  unfolding row_node
  node_in r l = g.node_in (sender p r) (sender_in p g r l)

  -- the entries given to all units at T, of one row
  given_row : (r : ℕ) → r < rows p → of_row (each (λ n. map (stamp T) (keep (test n) es)) (below (length p.slots))) r ≡ keep (λ x. eqb x.tick T) (of_row M r)
  given_row r l =
      let here-row : ℕ → Entry → Bool = λ n e. test n e && eqb e.row r in
      keep_each (λ x. eqb x.row r) (λ n. map (stamp T) (keep (test n) es)) (below (length p.slots))
      ∙ each_same _ (λ n. map (stamp T) (keep (here-row n) es)) 0 (length p.slots)
      (λ n _. keep_map (λ x. eqb x.row r) (stamp T) (keep (test n) es) ∙ ap (map (stamp T)) (keep_keep (λ e. eqb e.row r) (test n) es))
      ∙ each_one (λ n. map (stamp T) (keep (here-row n) es)) (row_node p r) 0 (length p.slots)
      (λ n d. ap (map (stamp T)) (keep_false (here-row n) es (wrong_node n r d))) (omega arith) (omega (arith, node_in r l))
      ∙ ap (map (stamp T)) (keep_same _ (due_now r) es (λ e m. right_node e (s.known_columns c cl e m) r (lt-ltb _ _ (formed_row p e (s.formed e m)).0)))
      ∙ stamp_own T (λ e. column_met (all_heard c) e && eqb e.row r) es
      ∙ sym (met_at r)

  -- at most six conditions are known
  small : known_bits h < 64
  small =
      let n : length h ≤ 6 = omega (arith, known_length p c (done_by p M T), g.few_conditions) in
      let q : 2 ^ length h ≤ 2 ^ 6 = pow-le-pow_right (omega arith) n in
      omega (arith, known_small h)

  given_to : (n : ℕ) → n < length p.slots → map (λ i. stamp T (entry_at words i)) (given words ask T h n) ≡ map (stamp T) (keep (test n) es)
  unfolding given
  given_to n u =
      sym (map_map (stamp T) (entry_at words) (given words ask T h n))
      ∙ ap (map (stamp T)) (answers p words n T (known_bits h) (value_bits h) (ask n T (known_bits h) (value_bits h)) fine u
      (λ from l. told n T (known_bits h) (value_bits h) from u early small (omega (arith, value_most h, small)) l))

  -- one tick of the run, row by row
  pub tick_row : (N : Log) → hears p c times N T ≡ h → (r : ℕ) → r < rows p → of_row N r ≡ keep (λ x. ltb x.tick T) (of_row M r) →
      of_row (tick_log p words ask c times T N) r ≡ keep (λ x. ltb x.tick (suc T)) (of_row M r)
  unfolding tick_log
  tick_row N heard-is r l same =
      let gives : List Heard → ℕ → Log = λ k n. map (λ i. stamp T (entry_at words i)) (given words ask T k n) in
      ap (λ (k : List Heard). of_row (each (gives k) (below (length p.slots)) ++ N) r) heard-is
      ∙ keep_append (λ x. eqb x.row r) (each (gives h) (below (length p.slots))) N
      ∙ (λ i. of_row (each_same (gives h) (λ n. map (stamp T) (keep (test n) es)) 0 (length p.slots) (λ n u. given_to n (rw zero-add at u)) i) r ++ same i)
      ∙ (λ i. given_row r l i ++ keep (λ x. ltb x.tick T) (of_row M r))
      ∙ till_next T (of_row M r) (upto_one (of_row M r) (rw (count_one M r (s.keeps c cl).once) (one_or_none (placed M r))))
