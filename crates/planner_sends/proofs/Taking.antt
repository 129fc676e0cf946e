-- The scan of the messages that wait, message by message: those before place j are taken or left, and what is still to
-- be tried gives the whole answer.
-- Assumes nothing.
use Rattle.std.specs.Prelude.{if◌then◌else◌}
use mathlib.Core.Path.{◌≡◌, refl, sym, ap, ◌∙◌, subst}
use mathlib.Core.Bool.{Bool, true, false, ◌&&◌}
use mathlib.Core.List.{List, [], ◌∷◌, ◌++◌, append-nil, append_assoc}
use Prim.Native.Nat.{ℕ, ◌+◌, ◌-◌, ◌≤◌, ◌<◌}
use native.Mathlib.Omega.{arith}
use lib.Dec.{leb, ltb}
use lib.ListN.{get_or, set}
use borrow.Author.Tests.{leb-true, leb-false, lt-ltb, le-ltb, le-leb, lt-leb}
use Rattle.log_queries.specs.Reading.{part}
use Rattle.log_queries.proofs.ArrayParts.{part_end, part_next, part_in}
use Rattle.planner_sends.specs.Packing.{Load, load, laid, passed, tried, fits_in, try_one, take_all, left_of, arrive_taken, Listed}
use Rattle.planner_sends.proofs.Places.{part_same, part_last, listed_join, listed_none, listed_small}

module _ (processes : ℕ) (bytes : List ℕ) (room end : ℕ) (remote : List ℕ) where
  abbrev fit : ℕ → Load → Bool
  fit = fits_in processes bytes room end

  abbrev one : ℕ → Load → Load
  one = try_one processes bytes room end

  abbrev all : List ℕ → Load → Load
  all = take_all processes bytes room end

  abbrev rest : List ℕ → Load → List ℕ
  rest = left_of processes bytes room end

  abbrev arrivals : List ℕ → Load → List ℕ → List ℕ
  arrivals = arrive_taken processes bytes room end remote

  one_yes : (e : ℕ) (s : Load) → fit e s ≡ true → one e s ≡ laid end (processes + e) (get_or bytes e 0) s
  unfolding tried
  one_yes e s q = ap (λ (b : Bool). if b then laid end (processes + e) (get_or bytes e 0) s else passed s) q

  one_no : (e : ℕ) (s : Load) → fit e s ≡ false → one e s ≡ passed s
  unfolding tried
  one_no e s q = ap (λ (b : Bool). if b then laid end (processes + e) (get_or bytes e 0) s else passed s) q

  -- whether a message fits, by the bytes left
  module _ (used : ℕ) (short : Bool) (comes place : List ℕ) (low : used ≤ room) where
    abbrev now : Load
    now = load used short comes place

    fit_yes : (e : ℕ) → (room - used ≡ 0 → ⊥) → leb (get_or bytes e 0) (room - used) ≡ true → fit e now ≡ true
    fit_yes e d q =
        let l : get_or bytes e 0 ≤ room - used = leb-true _ _ q in
        (λ i. lt-ltb used room (omega (arith, d)) i && le-leb (used + get_or bytes e 0) room (omega arith) i)

    fit_no : (e : ℕ) → leb (get_or bytes e 0) (room - used) ≡ false → fit e now ≡ false
    fit_no e q =
        let l : room - used < get_or bytes e 0 = leb-false _ _ q in
        ap (λ (b : Bool). ltb used room && b) (lt-leb (used + get_or bytes e 0) room (omega arith)) ∙ none (ltb used room)
      where
        none : (b : Bool) → (b && false) ≡ false
        none true = refl
        none false = refl

    fit_full : (e : ℕ) → room - used ≡ 0 → fit e now ≡ false
    fit_full e q = ap (λ (b : Bool). b && leb (used + get_or bytes e 0) room) (le-ltb used room (omega arith))

  -- one message more, which is taken or left
  module _ (e : ℕ) (es : List ℕ) (s : Load) where
    rest_yes : fit e s ≡ true → rest (e ∷ es) s ≡ rest es (one e s)
    unfolding left_of
    rest_yes q = ap (λ (b : Bool). if b then rest es (one e s) else (e ∷ rest es (one e s))) q

    rest_no : fit e s ≡ false → rest (e ∷ es) s ≡ e ∷ rest es (one e s)
    unfolding left_of
    rest_no q = ap (λ (b : Bool). if b then rest es (one e s) else (e ∷ rest es (one e s))) q

    all_next : all (e ∷ es) s ≡ all es (one e s)
    unfolding take_all
    all_next = refl

    arrivals_yes : fit e s ≡ true → (st : List ℕ) → arrivals (e ∷ es) s st ≡ arrivals es (one e s) (set st (get_or remote e 0 - 1) end)
    unfolding arrive_taken
    arrivals_yes q st = ap (λ (b : Bool). arrivals es (one e s) (if b then set st (get_or remote e 0 - 1) end else st)) q

    arrivals_no : fit e s ≡ false → (st : List ℕ) → arrivals (e ∷ es) s st ≡ arrivals es (one e s) st
    unfolding arrive_taken
    arrivals_no q st = ap (λ (b : Bool). arrivals es (one e s) (if b then set st (get_or remote e 0 - 1) end else st)) q

  none_all : (s : Load) → all [] s ≡ s
  unfolding take_all
  none_all s = refl

  none_rest : (s : Load) → rest [] s ≡ []
  unfolding left_of
  none_rest s = refl

  none_arrivals : (s : Load) (st : List ℕ) → arrivals [] s st ≡ st
  unfolding arrive_taken
  none_arrivals s st = refl

  -- messages that do not fit are passed over: what stands from place i on is as what stands from place j on, and those
  -- between are left
  pub record Passing (wait : List ℕ) (z used : ℕ) (comes place : List ℕ) (i : ℕ) (before : Bool) (j : ℕ) (short : Bool) : Type 0 where
    pub from : i ≤ j
    pub takes : take_all processes bytes room end (part wait i z) (load used before comes place) ≡ take_all processes bytes room end (part wait j z) (load used short comes place)
    pub leaves : left_of processes bytes room end (part wait i z) (load used before comes place) ≡ part wait i j ++ left_of processes bytes room end (part wait j z) (load used short comes place)
    pub arriving : (st : List ℕ) → arrive_taken processes bytes room end remote (part wait i z) (load used before comes place) st ≡ arrive_taken processes bytes room end remote (part wait j z) (load used short comes place) st

  module _ (wait : List ℕ) (z used : ℕ) (comes place : List ℕ) (i : ℕ) (before : Bool) where
    abbrev pass : ℕ → Bool → Type 0
    pass = Passing wait z used comes place i before

    pub passing_start : Passing wait z used comes place i before i before
    passing_start =
        record {
          from = omega arith;
          takes = refl;
          leaves = sym (ap (λ (xs : List ℕ). xs ++ rest (part wait i z) (load used before comes place)) (part_end wait i i (omega arith)));
          arriving = λ st. refl;
        }

    pub passing_next : (j : ℕ) (short : Bool) → used ≤ room → j < z → leb (get_or bytes (get_or wait j 0) 0) (room - used) ≡ false →
        Passing wait z used comes place i before j short → Passing wait z used comes place i before (j + 1) true
    unfolding passed
    passing_next j short low l q h =
        let s : Load = load used short comes place in
        let e : ℕ = get_or wait j 0 in
        let es : List ℕ = part wait (j + 1) z in
        let p : part wait j z ≡ e ∷ es = part_next wait j z l in
        let f : fit e s ≡ false = fit_no used short comes place low e q in
        let o : one e s ≡ load used true comes place = one_no e s f in
        record {
          from = omega (arith, h.from);
          takes = h.takes ∙ ap (λ (xs : List ℕ). all xs s) p ∙ all_next e es s ∙ ap (all es) o;
          leaves =
              h.leaves
              ∙ ap (λ (xs : List ℕ). part wait i j ++ xs) (ap (λ (xs : List ℕ). rest xs s) p ∙ rest_no e es s f ∙ ap (λ (t : Load). e ∷ rest es t) o)
              ∙ append_last (part wait i j) e (rest es (load used true comes place))
              ∙ ap (λ (xs : List ℕ). xs ++ rest es (load used true comes place)) (sym (part_last wait i j h.from));
          arriving = λ st. h.arriving st ∙ ap (λ (xs : List ℕ). arrivals xs s st) p ∙ arrivals_no e es s f st ∙ ap (λ (t : Load). arrivals es t st) o;
        }
      where
        append_last : (xs : List ℕ) (x : ℕ) (ys : List ℕ) → (xs ++ (x ∷ ys)) ≡ (xs ++ (x ∷ [])) ++ ys
        append_last xs x ys = sym (append_assoc xs (x ∷ []) ys)

  -- a full slot takes nothing more
  full_all : (es : List ℕ) (used : ℕ) (short : Bool) (comes place : List ℕ) → used ≤ room → room - used ≡ 0 → all es (load used true comes place) ≡ load used true comes place
  unfolding passed
  full_all [] used short comes place low q = none_all (load used true comes place)
  full_all (e ∷ es) used short comes place low q =
      all_next e es (load used true comes place) ∙ ap (all es) (one_no e (load used true comes place) (fit_full used true comes place low e q)) ∙ full_all es used short comes place low q

  full_rest : (es : List ℕ) (used : ℕ) (short : Bool) (comes place : List ℕ) → used ≤ room → room - used ≡ 0 → rest es (load used short comes place) ≡ es
  unfolding passed
  full_rest [] used short comes place low q = none_rest (load used short comes place)
  full_rest (e ∷ es) used short comes place low q =
      let f = fit_full used short comes place low e q in
      rest_no e es (load used short comes place) f
      ∙ ap (λ (xs : List ℕ). e ∷ xs) (ap (rest es) (one_no e (load used short comes place) f) ∙ full_rest es used true comes place low q)

  full_arrivals : (es : List ℕ) (used : ℕ) (short : Bool) (comes place st : List ℕ) → used ≤ room → room - used ≡ 0 → arrivals es (load used short comes place) st ≡ st
  unfolding passed
  full_arrivals [] used short comes place st low q = none_arrivals (load used short comes place) st
  full_arrivals (e ∷ es) used short comes place st low q =
      let f = fit_full used short comes place low e q in
      arrivals_no e es (load used short comes place) f st ∙ ap (λ (t : Load). arrivals es t st) (one_no e (load used short comes place) f) ∙ full_arrivals es used true comes place st low q

  -- the scan as a whole: `first` and `wait₀` are what it begins with
  module _ (wait₀ : List ℕ) (a z : ℕ) (first : Load) (lastarrival₀ : List ℕ) where
    abbrev whole : List ℕ
    whole = part wait₀ a z

    -- before place j
    pub record Taking (wait : List ℕ) (used : ℕ) (short : Bool) (comes place lastarrival : List ℕ) (k j : ℕ) : Type 0 where
      pub low : used ≤ room
      pub kept : k ≤ j
      pub upto : j ≤ z
      pub listed : Listed wait₀ wait a k (part wait a k)
      pub small : (bound : ℕ) → ((i : ℕ) → get_or wait₀ i 0 < bound) → (i : ℕ) → get_or wait i 0 < bound
      pub takes : take_all processes bytes room end (part wait₀ a z) first ≡ take_all processes bytes room end (part wait₀ j z) (load used short comes place)
      pub leaves : left_of processes bytes room end (part wait₀ a z) first ≡ part wait a k ++ left_of processes bytes room end (part wait₀ j z) (load used short comes place)
      pub arriving : arrive_taken processes bytes room end remote (part wait₀ a z) first lastarrival₀ ≡ arrive_taken processes bytes room end remote (part wait₀ j z) (load used short comes place) lastarrival

    -- at the end: what stands from place i on is left
    pub record Done (wait : List ℕ) (used : ℕ) (short : Bool) (comes place lastarrival : List ℕ) (k i : ℕ) : Type 0 where
      pub listed : Listed wait₀ wait a k (part wait a k)
      pub takes : load used short comes place ≡ take_all processes bytes room end (part wait₀ a z) first
      pub leaves : left_of processes bytes room end (part wait₀ a z) first ≡ part wait a k ++ part wait i z
      pub arriving : lastarrival ≡ arrive_taken processes bytes room end remote (part wait₀ a z) first lastarrival₀

    -- the same with equal names
    pub taking_as : (wait : List ℕ) {used used' : ℕ} (short : Bool) {comes comes' place place' lastarrival lastarrival' : List ℕ} (k j : ℕ) → used' ≡ used → comes' ≡ comes → place' ≡ place → lastarrival' ≡ lastarrival →
        Taking wait used short comes place lastarrival k j → Taking wait used' short comes' place' lastarrival' k j
    taking_as wait {used} {used'} short {comes} {comes'} {place} {place'} {lastarrival} {lastarrival'} k j p q r t h =
        subst (λ (n : ℕ). Taking wait n short comes' place' lastarrival' k j) (sym p)
        (subst (λ (xs : List ℕ). Taking wait used short xs place' lastarrival' k j) (sym q)
        (subst (λ (xs : List ℕ). Taking wait used short comes xs lastarrival' k j) (sym r) (subst (λ (xs : List ℕ). Taking wait used short comes place xs k j) (sym t) h)))

    pub done_as : (wait : List ℕ) (used : ℕ) (short short' : Bool) (comes place lastarrival : List ℕ) (k i : ℕ) → short' ≡ short → Done wait used short comes place lastarrival k i → Done wait used short' comes place lastarrival k i
    done_as wait used short short' comes place lastarrival k i q h = subst (λ (b : Bool). Done wait used b comes place lastarrival k i) (sym q) h

    pub taking_start : first.used ≤ room → a ≤ z → Taking wait₀ first.used first.short first.comes first.place lastarrival₀ a a
    taking_start l m =
        let q : part wait₀ a a ≡ [] = part_end wait₀ a a (omega arith) in
        record {
          low = l;
          kept = omega arith;
          upto = m;
          listed = subst (Listed wait₀ wait₀ a a) (sym q) (listed_none wait₀ a);
          small = λ bound f. f;
          takes = refl;
          leaves = sym (ap (λ (xs : List ℕ). xs ++ rest whole first) q);
          arriving = refl;
        }

    module _ (wait : List ℕ) (used : ℕ) (short : Bool) (comes place lastarrival : List ℕ) (k i : ℕ) (h : Taking wait used short comes place lastarrival k i) where
      -- what is still to be tried stands where it stood
      same : (j : ℕ) → k ≤ j → get_or wait j 0 ≡ get_or wait₀ j 0
      same j l = h.listed.past j l

      ahead : (j : ℕ) → i ≤ j → part wait j z ≡ part wait₀ j z
      ahead j l = part_same wait wait₀ j z (λ x lo hi. same x (omega (arith, h.kept)))

      -- the candidates end
      pub done_end : z ≤ i → Done wait used short comes place lastarrival k i
      done_end l =
          let q : part wait₀ i z ≡ [] = part_end wait₀ i z l in
          record {
            listed = h.listed;
            takes = sym (h.takes ∙ ap (λ (xs : List ℕ). all xs (load used short comes place)) q ∙ none_all (load used short comes place));
            leaves =
                h.leaves ∙ ap (λ (xs : List ℕ). part wait a k ++ xs) (ap (λ (xs : List ℕ). rest xs (load used short comes place)) q ∙ none_rest (load used short comes place) ∙ sym (part_end wait i z l));
            arriving = sym (h.arriving ∙ ap (λ (xs : List ℕ). arrivals xs (load used short comes place) lastarrival) q ∙ none_arrivals (load used short comes place) lastarrival);
          }

      -- the slot is full
      pub done_full : i < z → room - used ≡ 0 → Done wait used true comes place lastarrival k i
      unfolding passed
      done_full l q =
          let e : ℕ = get_or wait₀ i 0 in
          let es : List ℕ = part wait₀ (i + 1) z in
          let p : part wait₀ i z ≡ e ∷ es = part_next wait₀ i z l in
          let s : Load = load used short comes place in
          record {
            listed = h.listed;
            takes =
                sym (h.takes ∙ ap (λ (xs : List ℕ). all xs s) p ∙ all_next e es s ∙ ap (all es) (one_no e s (fit_full used short comes place h.low e q)) ∙ full_all es used short comes place h.low q);
            leaves = h.leaves ∙ ap (λ (xs : List ℕ). part wait a k ++ xs) (full_rest (part wait₀ i z) used short comes place h.low q ∙ sym (ahead i (omega arith)));
            arriving = sym (h.arriving ∙ full_arrivals (part wait₀ i z) used short comes place lastarrival h.low q);
          }

      module _ (j : ℕ) (late : Bool) (g : Passing wait z used comes place i short j late) where
        takes_on : take_all processes bytes room end whole first ≡ all (part wait j z) (load used late comes place)
        takes_on = h.takes ∙ sym (ap (λ (xs : List ℕ). all xs (load used short comes place)) (ahead i (omega arith))) ∙ g.takes

        leaves_on : rest whole first ≡ part wait a k ++ (part wait i j ++ rest (part wait j z) (load used late comes place))
        leaves_on = h.leaves ∙ ap (λ (xs : List ℕ). part wait a k ++ xs) (sym (ap (λ (xs : List ℕ). rest xs (load used short comes place)) (ahead i (omega arith))) ∙ g.leaves)

        arrivals_on : arrivals whole first lastarrival₀ ≡ arrivals (part wait j z) (load used late comes place) lastarrival
        arrivals_on = h.arriving ∙ sym (ap (λ (xs : List ℕ). arrivals xs (load used short comes place) lastarrival) (ahead i (omega arith))) ∙ g.arriving lastarrival

        -- the candidates end among those that do not fit
        pub done_passed : z ≤ j → j ≤ z → Done wait used late comes place lastarrival k i
        done_passed l m =
            let q : part wait j z ≡ [] = part_end wait j z l in
            let r : j ≡ z = omega arith in
            record {
              listed = h.listed;
              takes = sym (takes_on ∙ ap (λ (xs : List ℕ). all xs (load used late comes place)) q ∙ none_all (load used late comes place));
              leaves =
                  leaves_on
                  ∙ ap (λ (xs : List ℕ). part wait a k ++ (part wait i j ++ xs)) (ap (λ (xs : List ℕ). rest xs (load used late comes place)) q ∙ none_rest (load used late comes place))
                  ∙ ap (λ (xs : List ℕ). part wait a k ++ xs) (append-nil (part wait i j) ∙ ap (part wait i) r);
              arriving = sym (arrivals_on ∙ ap (λ (xs : List ℕ). arrivals xs (load used late comes place) lastarrival) q ∙ none_arrivals (load used late comes place) lastarrival);
            }

        -- one that fits is taken, and those passed over stand behind the others that are left
        pub taking_next : (wait' : List ℕ) (k' : ℕ) → j < z → (room - used ≡ 0 → ⊥) → leb (get_or bytes (get_or wait j 0) 0) (room - used) ≡ true → Listed wait wait' k k' (part wait i j) → k' ≡ k + (j - i) →
            Taking wait' (used + get_or bytes (get_or wait j 0) 0) late (set comes (processes + get_or wait j 0) end) (set place (processes + get_or wait j 0) used)
            (set lastarrival (get_or remote (get_or wait j 0) 0 - 1) end) k' (j + 1)
        unfolding laid
        taking_next wait' k' l d q m r =
            let e : ℕ = get_or wait j 0 in
            let es : List ℕ = part wait (j + 1) z in
            let p : part wait j z ≡ e ∷ es = part_next wait j z l in
            let s : Load = load used late comes place in
            let f : fit e s ≡ true = fit_yes used late comes place h.low e d q in
            let o : one e s ≡ load (used + get_or bytes e 0) late (set comes (processes + e) end) (set place (processes + e) used) = one_yes e s f in
            let n : es ≡ part wait₀ (j + 1) z = ahead (j + 1) (omega (arith, g.from)) in
            let b : get_or bytes e 0 ≤ room - used = leb-true _ _ q in
            let w = listed_join wait₀ wait wait' a k k' (part wait a k) (part wait i j) h.listed m in
            record {
              low = omega (arith, h.low);
              kept = omega (arith, r, h.kept, g.from);
              upto = omega arith;
              listed = subst (Listed wait₀ wait' a k') (sym w.holds) w;
              small = λ bound t. listed_small wait wait' k k' (part wait i j) m bound (h.small bound t) (λ x y. let v = part_in wait i j y in omega (arith, v.3, h.small bound t v.0));
              takes = takes_on ∙ ap (λ (xs : List ℕ). all xs s) p ∙ all_next e es s ∙ (λ x. all (n x) (o x));
              leaves =
                  leaves_on
                  ∙ ap (λ (xs : List ℕ). part wait a k ++ (part wait i j ++ xs)) (ap (λ (xs : List ℕ). rest xs s) p ∙ rest_yes e es s f ∙ (λ x. rest (n x) (o x)))
                  ∙ sym (append_assoc (part wait a k) (part wait i j) _)
                  ∙ ap (λ (xs : List ℕ). xs ++ rest (part wait₀ (j + 1) z) (load (used + get_or bytes e 0) late (set comes (processes + e) end) (set place (processes + e) used))) (sym w.holds);
              arriving = arrivals_on ∙ ap (λ (xs : List ℕ). arrivals xs s lastarrival) p ∙ arrivals_yes e es s f lastarrival ∙ (λ x. arrivals (n x) (o x) (set lastarrival (get_or remote e 0 - 1) end));
            }

    -- the rest moved down behind those that are left
    pub done_moved : (wait : List ℕ) (used : ℕ) (short : Bool) (comes place lastarrival : List ℕ) (k i : ℕ) (wait' : List ℕ) (r : ℕ) → Done wait used short comes place lastarrival k i → Listed wait wait' k r (part wait i z) →
        Listed wait₀ wait' a r (left_of processes bytes room end (part wait₀ a z) first)
    done_moved wait used short comes place lastarrival k i wait' r h m =
        subst (Listed wait₀ wait' a r) (sym h.leaves) (listed_join wait₀ wait wait' a k r (part wait a k) (part wait i z) h.listed m)
