-- What a slot leaves: after it has taken its items, its node has an item pending just where a ready item was not taken.
-- Assumes nothing.
use Rattle.std.specs.Prelude.{if◌then◌else◌}
use mathlib.Core.Path.{◌≡◌, refl, sym, ap, ◌∙◌, subst}
use mathlib.Core.Logic.{◌⊎◌, inl, inr}
use mathlib.Core.Bool.{Bool, true, false, not, ◌&&◌, ◌||◌, or_comm}
use mathlib.Core.List.Memᴰ.{head as here}
use mathlib.Core.List.Memᴰ.{tail as there}
use mathlib.Core.List.{List, [], ◌∷◌, Memᴰ as In}
use Prim.Native.Nat.{ℕ, zero, suc, ◌+◌, ◌-◌, ◌≤◌, ◌<◌}
use native.Mathlib.Omega.{arith}
use lib.Dec.{eqb, leb, ltb}
use lib.ListN.{length, get_or, set, length-set}
use lib.Seq.{get_or-set_same, get_or-set_other}
use borrow.Author.Tests.{eqb-true, eqb-false, eq-eqb, ne_eqb, ltb-true, ltb-false, leb-true, lt-ltb, le-ltb, le-leb}
use Rattle.lists.specs.Lists.{any, keep, below, repeated}
use Rattle.lists.proofs.Tests.{two, both, clash, and_false, or_false, or_right}
use Rattle.lists.proofs.Members.{any_same, any_kept, keep_in, below_in}
use Rattle.lists.proofs.Keep.{keep_same}
use Rattle.lists.proofs.Different.{keep_different, different_parts, different_upfrom}
use Rattle.bitset.specs.Masks.{members, mask_from}
use Rattle.bitset.proofs.Built.{built_members}
use Rattle.log_queries.specs.Reading.{came_by, placed_by, part, message_by}
use Rattle.planner_sends.specs.Packing.{Load, load, broadcasts_by, waits_by, pending_by, laid, passed, tried, broadcast_all, all_broadcast, try_send, send_all, try_one, take_all, left_of, arrive_taken, arrive_one, arrive_each, broadcasts_sent, send_by}
use Rattle.planner_sends.proofs.Rows.{set_either, came_kept}

again : (b : Bool) → not (not b) ≡ true → b ≡ true
again true e = refl
again false e = e

-- a row that is placed or not, by what stands there
placed_not : (comes : List ℕ) (r : ℕ) → get_or comes r 0 ≡ 0 → placed_by comes r ≡ false
unfolding placed_by
placed_not comes r q = ap (λ (x : ℕ). not (eqb x 0)) q

placed_now : (comes : List ℕ) (r : ℕ) → (get_or comes r 0 ≡ 0 → ⊥) → placed_by comes r ≡ true
unfolding placed_by
placed_now comes r d = ap not (ne_eqb (get_or comes r 0) 0 d)

pub placed_row : (comes comes' : List ℕ) (r : ℕ) → get_or comes' r 0 ≡ get_or comes r 0 → placed_by comes' r ≡ placed_by comes r
unfolding placed_by
placed_row comes comes' r q = ap (λ (x : ℕ). not (eqb x 0)) q

-- an item that waits is not placed, and a broadcast that waits is one of the node's
pub waits_free : (processes : ℕ) (from knownby unmet : List ℕ) (u : ℕ) (comes : List ℕ) (e : ℕ) → waits_by processes from knownby unmet comes u e ≡ true → get_or comes (processes + e) 0 ≡ 0
unfolding waits_by placed_by
waits_free processes from knownby unmet u comes e w =
    eqb-true _ _ (again _ (both (not (not (eqb (get_or comes (processes + e) 0) 0))) (message_by from knownby unmet comes u e) w).0)

pub broadcasts_free : (conditionrow : ℕ) (decider node : List ℕ) (n u : ℕ) (comes : List ℕ) (k : ℕ) → broadcasts_by conditionrow decider node comes n u k ≡ true → (get_or node (get_or decider k 0) 0 ≡ n) × (get_or comes (conditionrow + k) 0 ≡ 0)
unfolding broadcasts_by placed_by
broadcasts_free conditionrow decider node n u comes k w =
    let a = both (eqb (get_or node (get_or decider k 0) 0) n && not (not (eqb (get_or comes (conditionrow + k) 0) 0))) (came_by comes u (get_or decider k 0)) w in
    let c = both (eqb (get_or node (get_or decider k 0) 0) n) (not (not (eqb (get_or comes (conditionrow + k) 0) 0))) a.0 in
    (eqb-true _ _ c.0, eqb-true _ _ (again _ c.1))

-- rows that change only from not placed to the slot's end, which is after the clock
module _ (u end : ℕ) (late : u < end) where
  abbrev Grown : List ℕ → List ℕ → Type 0
  Grown comes comes' = (r : ℕ) → (get_or comes' r 0 ≡ get_or comes r 0) ⊎ ((get_or comes r 0 ≡ 0) × (get_or comes' r 0 ≡ end))

  grown_on : (xs ys zs : List ℕ) → Grown xs ys → Grown ys zs → Grown xs zs
  grown_on xs ys zs g h r = at (g r) (h r)
    where
      at : (get_or ys r 0 ≡ get_or xs r 0) ⊎ ((get_or xs r 0 ≡ 0) × (get_or ys r 0 ≡ end)) → (get_or zs r 0 ≡ get_or ys r 0) ⊎ ((get_or ys r 0 ≡ 0) × (get_or zs r 0 ≡ end)) →
          (get_or zs r 0 ≡ get_or xs r 0) ⊎ ((get_or xs r 0 ≡ 0) × (get_or zs r 0 ≡ end))
      at (inl p) (inl q) = inl (q ∙ p)
      at (inl p) (inr q) = inr (sym p ∙ q.0, q.1)
      at (inr p) (inl q) = inr (p.0, q ∙ p.1)
      at (inr p) (inr q) = inr (p.0, q.1)

  grown_set : (xs : List ℕ) (i : ℕ) → get_or xs i 0 ≡ 0 → Grown xs (set xs i end)
  grown_set xs i z r = at (two (eqb r i)) (set_either xs i end r)
    where
      at : (eqb r i ≡ true) ⊎ (eqb r i ≡ false) → (get_or (set xs i end) r 0 ≡ get_or xs r 0) ⊎ (get_or (set xs i end) r 0 ≡ end) →
          (get_or (set xs i end) r 0 ≡ get_or xs r 0) ⊎ ((get_or xs r 0 ≡ 0) × (get_or (set xs i end) r 0 ≡ end))
      at e (inl q) = inl q
      at (inl e) (inr q) = inr (ap (λ (k : ℕ). get_or xs k 0) (eqb-true r i e) ∙ z, q)
      at (inr e) (inr q) = inl (get_or-set_other xs i r end 0 (eqb-false r i e))

  -- what is placed stays placed
  placed_grown : (xs ys : List ℕ) → Grown xs ys → (r : ℕ) → placed_by xs r ≡ true → placed_by ys r ≡ true
  placed_grown xs ys g r p = at (g r)
    where
      at : (get_or ys r 0 ≡ get_or xs r 0) ⊎ ((get_or xs r 0 ≡ 0) × (get_or ys r 0 ≡ end)) → placed_by ys r ≡ true
      at (inl q) = placed_row xs ys r q ∙ p
      at (inr q) = clash p (placed_not xs r q.0)

  -- messages
  module _ (processes : ℕ) (from knownby unmet bytes : List ℕ) (room : ℕ) where
    abbrev waits : List ℕ → ℕ → Bool
    waits comes e = waits_by processes from knownby unmet comes u e

    message_same : (xs ys : List ℕ) → Grown xs ys → (e : ℕ) → message_by from knownby unmet ys u e ≡ message_by from knownby unmet xs u e
    unfolding message_by
    message_same xs ys g e =
        let c : came_by ys u ≡ came_by xs u = came_kept u end late xs ys g in
        λ j. eqb (get_or unmet e 0) 0 && (c j (get_or from e 0) && c j (get_or knownby e 0))

    waits_placed : (xs : List ℕ) (e : ℕ) → placed_by xs (processes + e) ≡ true → waits xs e ≡ false
    unfolding waits_by
    waits_placed xs e p = rw p refl

    waits_gone : (xs ys : List ℕ) → Grown xs ys → (e : ℕ) → waits xs e ≡ false → waits ys e ≡ false
    unfolding waits_by
    waits_gone xs ys g e w = at (two (placed_by xs (processes + e)))
      where
        at : (placed_by xs (processes + e) ≡ true) ⊎ (placed_by xs (processes + e) ≡ false) → (not (placed_by ys (processes + e)) && message_by from knownby unmet ys u e) ≡ false
        at (inl p) = rw (placed_grown xs ys g (processes + e) p) refl
        at (inr p) =
            let m : message_by from knownby unmet xs u e ≡ false = sym (ap (λ (z : Bool). not z && message_by from knownby unmet xs u e) p) ∙ w in
            ap (λ (z : Bool). not (placed_by ys (processes + e)) && z) (message_same xs ys g e ∙ m) ∙ and_false (not (placed_by ys (processes + e)))

    waits_stay : (xs ys : List ℕ) → Grown xs ys → (e : ℕ) → get_or ys (processes + e) 0 ≡ get_or xs (processes + e) 0 → waits ys e ≡ waits xs e
    unfolding waits_by
    waits_stay xs ys g e q = λ j. not (placed_row xs ys (processes + e) q j) && message_same xs ys g e j

    abbrev fits : ℕ → Load → Bool
    fits e s = ltb s.used room && leb (s.used + get_or bytes e 0) room

    data Step (e : ℕ) (s s' : Load) : Type 0 where
      skip : waits s.comes e ≡ false → s' ≡ s → Step e s s'
      take : waits s.comes e ≡ true → fits e s ≡ true → s' ≡ laid end (processes + e) (get_or bytes e 0) s → Step e s s'
      pass : waits s.comes e ≡ true → fits e s ≡ false → s' ≡ passed s → Step e s s'

    step : (e : ℕ) (s : Load) → Step e s (try_send processes from knownby unmet bytes room u end e s)
    unfolding try_send tried
    step e s = at (waits s.comes e) refl (fits e s) refl
      where
        at : (a : Bool) → waits s.comes e ≡ a → (b : Bool) → fits e s ≡ b → Step e s (if a then (if b then laid end (processes + e) (get_or bytes e 0) s else passed s) else s)
        at false p b q = skip p refl
        at true p true q = take p q refl
        at true p false q = pass p q refl

    -- what one message changes
    step_grown : (e : ℕ) (s s' : Load) → Step e s s' → Grown s.comes s'.comes
    unfolding laid passed
    step_grown e s s' (skip w q) = λ r. inl (ap (λ (z : Load). get_or z.comes r 0) q)
    step_grown e s s' (pass w f q) = λ r. inl (ap (λ (z : Load). get_or z.comes r 0) q)
    step_grown e s s' (take w f q) = subst (λ (z : Load). Grown s.comes z.comes) (sym q) (grown_set s.comes (processes + e) (waits_free processes from knownby unmet u s.comes e w))

    step_used : (e : ℕ) (s s' : Load) → Step e s s' → s.used ≤ s'.used
    unfolding laid passed
    step_used e s s' (skip w q) = omega (arith, ap (λ (z : Load). z.used) q)
    step_used e s s' (pass w f q) = omega (arith, ap (λ (z : Load). z.used) q)
    step_used e s s' (take w f q) = omega (arith, ap (λ (z : Load). z.used) q)

    step_long : (e : ℕ) (s s' : Load) → Step e s s' → length s'.comes ≡ length s.comes
    unfolding laid passed
    step_long e s s' (skip w q) = ap (λ (z : Load). length z.comes) q
    step_long e s s' (pass w f q) = ap (λ (z : Load). length z.comes) q
    step_long e s s' (take w f q) = ap (λ (z : Load). length z.comes) q ∙ length-set s.comes (processes + e) end

    abbrev one : ℕ → Load → Load
    one e s = try_send processes from knownby unmet bytes room u end e s

    abbrev all : List ℕ → Load → Load
    all es s = send_all processes from knownby unmet bytes room u end es s

    all_grown : (es : List ℕ) (s : Load) → Grown s.comes (all es s).comes
    unfolding send_all
    all_grown [] s = λ r. inl refl
    all_grown (e ∷ es) s = grown_on s.comes (one e s).comes (all es (one e s)).comes (step_grown e s (one e s) (step e s)) (all_grown es (one e s))

    all_long : (es : List ℕ) (s : Load) → length (all es s).comes ≡ length s.comes
    unfolding send_all
    all_long [] s = refl
    all_long (e ∷ es) s = all_long es (one e s) ∙ step_long e s (one e s) (step e s)

    -- a message that does not fit never does
    unfit : (e : ℕ) (s s' : Load) → s.used ≤ s'.used → fits e s ≡ false → fits e s' ≡ false
    unfit e s s' l h = at (two (fits e s'))
      where
        at : (fits e s' ≡ true) ⊎ (fits e s' ≡ false) → fits e s' ≡ false
        at (inr q) = q
        at (inl q) =
            let p = both (ltb s'.used room) (leb (s'.used + get_or bytes e 0) room) q in
            let x : s'.used < room = ltb-true _ _ p.0 in
            let y : s'.used + get_or bytes e 0 ≤ room = leb-true _ _ p.1 in
            clash (rw (lt-ltb s.used room (omega arith), le-leb (s.used + get_or bytes e 0) room (omega arith)) refl) h

    step_other : (d e : ℕ) (s s' : Load) → fits e s ≡ false → Step d s s' → get_or s'.comes (processes + e) 0 ≡ get_or s.comes (processes + e) 0
    unfolding laid passed
    step_other d e s s' h (skip w q) = ap (λ (z : Load). get_or z.comes (processes + e) 0) q
    step_other d e s s' h (pass w f q) = ap (λ (z : Load). get_or z.comes (processes + e) 0) q
    step_other d e s s' h (take w f q) = ap (λ (z : Load). get_or z.comes (processes + e) 0) q ∙ at (two (eqb e d))
      where
        at : (eqb e d ≡ true) ⊎ (eqb e d ≡ false) → get_or (set s.comes (processes + d) end) (processes + e) 0 ≡ get_or s.comes (processes + e) 0
        at (inl z) = clash (ap (λ (k : ℕ). fits k s) (eqb-true e d z) ∙ f) h
        at (inr z) = let v : e ≡ d → ⊥ = eqb-false e d z in get_or-set_other s.comes (processes + d) (processes + e) end 0 (λ y. v (omega arith))

    all_other : (es : List ℕ) (e : ℕ) (s : Load) → fits e s ≡ false → get_or (all es s).comes (processes + e) 0 ≡ get_or s.comes (processes + e) 0
    unfolding send_all
    all_other [] e s h = refl
    all_other (d ∷ es) e s h = all_other es e (one d s) (unfit e s (one d s) (step_used d s (one d s) (step d s)) h) ∙ step_other d e s (one d s) h (step d s)

    laid_short : (e : ℕ) (s : Load) → (laid end (processes + e) (get_or bytes e 0) s).short ≡ s.short
    unfolding laid
    laid_short e s = refl

    laid_there : (e : ℕ) (s : Load) → processes + e < length s.comes → get_or (laid end (processes + e) (get_or bytes e 0) s).comes (processes + e) 0 ≡ end
    unfolding laid
    laid_there e s l = get_or-set_same s.comes (processes + e) end 0 l

    passed_short : (s : Load) → (passed s).short ≡ true
    unfolding passed
    passed_short s = refl

    -- a ready message was not taken just where one still waits
    send_left : (es : List ℕ) (s : Load) → ((e : ℕ) → In e es → processes + e < length s.comes) → (all es s).short ≡ (s.short || any (waits (all es s).comes) es)
    unfolding send_all
    send_left [] s low = sym (or_false s.short)
    send_left (e ∷ es) s low =
        send_left es (one e s) (λ d m. omega (arith, low d (there m), step_long e s (one e s) (step e s))) ∙ at (step e s)
      where
        last : List ℕ
        last = (all es (one e s)).comes

        rest : Bool
        rest = any (waits last) es

        gone : waits (one e s).comes e ≡ false → waits last e ≡ false
        gone = waits_gone (one e s).comes last (all_grown es (one e s)) e

        on : (one e s).short ≡ s.short → waits last e ≡ false → ((one e s).short || rest) ≡ (s.short || (waits last e || rest))
        on p w = (λ j. p j || rest) ∙ sym (ap (λ (z : Bool). s.short || (z || rest)) w)

        at : Step e s (one e s) → ((one e s).short || rest) ≡ (s.short || (waits last e || rest))
        at (skip w q) = on (ap (λ (z : Load). z.short) q) (gone (ap (λ (z : Load). waits z.comes e) q ∙ w))
        at (take w f q) = on (short q) (gone (waits_placed (one e s).comes e (placed_now (one e s).comes (processes + e) (λ z. absurd (omega (arith, z, stands q, late))))))
          where
            short : one e s ≡ laid end (processes + e) (get_or bytes e 0) s → (one e s).short ≡ s.short
            short q = ap (λ (z : Load). z.short) q ∙ laid_short e s

            stands : one e s ≡ laid end (processes + e) (get_or bytes e 0) s → get_or (one e s).comes (processes + e) 0 ≡ end
            stands q = ap (λ (z : Load). get_or z.comes (processes + e) 0) q ∙ laid_there e s (low e (here refl))
        at (pass w f q) =
            let p : waits last e ≡ true =
            waits_stay s.comes last (all_grown (e ∷ es) s) e (all_other es e (one e s) (unfit e s (one e s) (step_used e s (one e s) (step e s)) f) ∙ step_other e e s (one e s) f (step e s)) ∙ w in
            (λ j. (ap (λ (z : Load). z.short) q ∙ passed_short s) j || rest) ∙ sym (or_right s.short (waits last e || rest) (ap (λ (z : Bool). z || rest) p))

    -- rows of no message stay
    step_apart : (e : ℕ) (s s' : Load) (r : ℕ) → (r ≡ processes + e → ⊥) → Step e s s' → get_or s'.comes r 0 ≡ get_or s.comes r 0
    unfolding laid passed
    step_apart e s s' r d (skip w q) = ap (λ (z : Load). get_or z.comes r 0) q
    step_apart e s s' r d (pass w f q) = ap (λ (z : Load). get_or z.comes r 0) q
    step_apart e s s' r d (take w f q) = ap (λ (z : Load). get_or z.comes r 0) q ∙ get_or-set_other s.comes (processes + e) r end 0 d

    all_apart : (es : List ℕ) (s : Load) (r : ℕ) → ((e : ℕ) → In e es → r ≡ processes + e → ⊥) → get_or (all es s).comes r 0 ≡ get_or s.comes r 0
    unfolding send_all
    all_apart [] s r d = refl
    all_apart (e ∷ es) s r d = all_apart es (one e s) r (λ x m. d x (there m)) ∙ step_apart e s (one e s) r (d e (here refl)) (step e s)

    -- a message that waits and one that does not, among those that wait
    abbrev waiting : List ℕ → List ℕ → List ℕ
    waiting comes es = keep (waits comes) es

    waiting_yes : (comes : List ℕ) (e : ℕ) (es : List ℕ) → waits comes e ≡ true → waiting comes (e ∷ es) ≡ e ∷ waiting comes es
    waiting_yes comes e es w = ap (λ (b : Bool). if b then (e ∷ waiting comes es) else waiting comes es) w

    waiting_no : (comes : List ℕ) (e : ℕ) (es : List ℕ) → waits comes e ≡ false → waiting comes (e ∷ es) ≡ waiting comes es
    waiting_no comes e es w = ap (λ (b : Bool). if b then (e ∷ waiting comes es) else waiting comes es) w

    -- one that is tried leaves the tests of the others
    waiting_on : (e : ℕ) (es : List ℕ) (s : Load) → (In e es → ⊥) → waiting (one e s).comes es ≡ waiting s.comes es
    waiting_on e es s n =
        keep_same (waits (one e s).comes) (waits s.comes) es
        (λ d m. waits_stay s.comes (one e s).comes (step_grown e s (one e s) (step e s)) d (step_apart e s (one e s) (processes + d) (λ q. n (subst (λ (x : ℕ). In x es) (omega arith) m)) (step e s)))

    -- one that waits is tried as those that wait are
    tried_one : (e : ℕ) (s : Load) → waits s.comes e ≡ true → one e s ≡ try_one processes bytes room end e s
    unfolding try_send
    tried_one e s w = ap (λ (b : Bool). if b then tried room end (processes + e) (get_or bytes e 0) s else s) w

    -- what is not taken stays where it stood, and what is taken arrives at the slot's end
    row_after : (e : ℕ) (es : List ℕ) (s : Load) → (In e es → ⊥) → get_or (all (e ∷ es) s).comes (processes + e) 0 ≡ get_or (one e s).comes (processes + e) 0
    unfolding send_all
    row_after e es s n = all_apart es (one e s) (processes + e) (λ d m q. n (subst (λ (x : ℕ). In x es) (omega arith) m))

    abbrev Low : List ℕ → Load → Type 0
    Low es s = (e : ℕ) → In e es → processes + e < length s.comes

    low_on : (e : ℕ) (es : List ℕ) (s : Load) → Low (e ∷ es) s → Low es (one e s)
    low_on e es s low d m = omega (arith, low d (there m), step_long e s (one e s) (step e s))

    -- the messages that waited, tried one after another, are what the slot takes
    pub send_taken : (es : List ℕ) (s : Load) → repeated es ≡ false →
        send_all processes from knownby unmet bytes room u end es s ≡ take_all processes bytes room end (keep (λ e. waits_by processes from knownby unmet s.comes u e) es) s
    unfolding send_all take_all
    send_taken [] s d = refl
    send_taken (e ∷ es) s d = send_taken es (one e s) n.1 ∙ ap (λ (ws : List ℕ). take_all processes bytes room end ws (one e s)) (waiting_on e es s n.0) ∙ at (two (waits s.comes e)) (step e s)
      where
        n : (In e es → ⊥) × (repeated es ≡ false)
        n = different_parts e es d

        at : (waits s.comes e ≡ true) ⊎ (waits s.comes e ≡ false) → Step e s (one e s) →
            take_all processes bytes room end (waiting s.comes es) (one e s) ≡ take_all processes bytes room end (waiting s.comes (e ∷ es)) s
        at (inl w) t = ap (take_all processes bytes room end (waiting s.comes es)) (tried_one e s w) ∙ ap (λ (ws : List ℕ). take_all processes bytes room end ws s) (sym (waiting_yes s.comes e es w))
        at (inr w) (skip v q) = ap (take_all processes bytes room end (waiting s.comes es)) q ∙ ap (λ (ws : List ℕ). take_all processes bytes room end ws s) (sym (waiting_no s.comes e es w))
        at (inr w) (take v f q) = clash v w
        at (inr w) (pass v f q) = clash v w

    -- those that still wait are those that were not taken
    pub send_waiting : (es : List ℕ) (s : Load) → repeated es ≡ false → ((e : ℕ) → In e es → processes + e < length s.comes) →
        keep (λ e. waits_by processes from knownby unmet (send_all processes from knownby unmet bytes room u end es s).comes u e) es
        ≡ left_of processes bytes room end (keep (λ e. waits_by processes from knownby unmet s.comes u e) es) s
    unfolding send_all left_of
    send_waiting [] s d low = refl
    send_waiting (e ∷ es) s d low = at (step e s) (on (send_waiting es (one e s) (different_parts e es d).1 (low_on e es s low)))
      where
        n : (In e es → ⊥) × (repeated es ≡ false)
        n = different_parts e es d

        last : List ℕ
        last = (all es (one e s)).comes

        left : List ℕ → Load → List ℕ
        left = left_of processes bytes room end

        on : waiting last es ≡ left (waiting (one e s).comes es) (one e s) → waiting last es ≡ left (waiting s.comes es) (one e s)
        on h = h ∙ ap (λ (ws : List ℕ). left ws (one e s)) (waiting_on e es s n.0)

        gone : waits (one e s).comes e ≡ false → waits last e ≡ false
        gone = waits_gone (one e s).comes last (all_grown es (one e s)) e

        choice : Bool → List ℕ
        choice b = if b then left (waiting s.comes es) (try_one processes bytes room end e s) else (e ∷ left (waiting s.comes es) (try_one processes bytes room end e s))

        at : Step e s (one e s) → waiting last es ≡ left (waiting s.comes es) (one e s) → waiting last (e ∷ es) ≡ left (waiting s.comes (e ∷ es)) s
        at (skip w q) h =
            waiting_no last e es (gone (ap (λ (z : Load). waits z.comes e) q ∙ w)) ∙ h ∙ ap (left (waiting s.comes es)) q ∙ ap (λ (ws : List ℕ). left ws s) (sym (waiting_no s.comes e es w))
        at (take w f q) h =
            waiting_no last e es
            (gone (waits_placed (one e s).comes e (placed_now (one e s).comes (processes + e) (λ z. absurd (omega (arith, z, ap (λ (t : Load). get_or t.comes (processes + e) 0) q ∙ laid_there e s (low e (here refl)), late))))))
            ∙ h ∙ ap (left (waiting s.comes es)) (tried_one e s w) ∙ sym (ap choice f) ∙ ap (λ (ws : List ℕ). left ws s) (sym (waiting_yes s.comes e es w))
        at (pass w f q) h =
            waiting_yes last e es
            (waits_stay s.comes last (all_grown (e ∷ es) s) e (all_other es e (one e s) (unfit e s (one e s) (step_used e s (one e s) (step e s)) f) ∙ step_other e e s (one e s) f (step e s)) ∙ w)
            ∙ ap (λ (xs : List ℕ). e ∷ xs) (h ∙ ap (left (waiting s.comes es)) (tried_one e s w)) ∙ sym (ap choice f) ∙ ap (λ (ws : List ℕ). left ws s) (sym (waiting_yes s.comes e es w))

    -- the receivers of what arrives at the slot's end are those of the messages that are taken, where no message
    -- arrives then as the slot begins
    pub send_arrivals : (remote es : List ℕ) (s : Load) (lastarrival : List ℕ) → repeated es ≡ false → ((e : ℕ) → In e es → processes + e < length s.comes) → ((e : ℕ) → In e es → get_or s.comes (processes + e) 0 ≤ u) →
        arrive_each processes remote (send_all processes from knownby unmet bytes room u end es s).comes end es lastarrival
        ≡ arrive_taken processes bytes room end remote (keep (λ e. waits_by processes from knownby unmet s.comes u e) es) s lastarrival
    unfolding send_all arrive_each arrive_one arrive_taken
    send_arrivals remote [] s lastarrival d low early = refl
    send_arrivals remote (e ∷ es) s lastarrival d low early =
        at (step e s) (λ st. send_arrivals remote es (one e s) st (different_parts e es d).1 (low_on e es s low) early_on ∙ ap (λ (ws : List ℕ). arrive_taken processes bytes room end remote ws (one e s) st) (waiting_on e es s (different_parts e es d).0))
      where
        n : (In e es → ⊥) × (repeated es ≡ false)
        n = different_parts e es d

        last : List ℕ
        last = (all es (one e s)).comes

        each : List ℕ → List ℕ
        each = arrive_each processes remote last end es

        taken : List ℕ → Load → List ℕ → List ℕ
        taken = arrive_taken processes bytes room end remote

        early_on : (d : ℕ) → In d es → get_or (one e s).comes (processes + d) 0 ≤ u
        early_on d m = omega (arith, early d (there m), step_apart e s (one e s) (processes + d) (λ q. n.0 (subst (λ (x : ℕ). In x es) (omega arith) m)) (step e s))

        row : get_or last (processes + e) 0 ≡ get_or (one e s).comes (processes + e) 0
        row = row_after e es s n.0

        arrive : Bool → List ℕ
        arrive b = if b then set lastarrival (get_or remote e 0 - 1) end else lastarrival

        choice : Bool → List ℕ
        choice b = taken (waiting s.comes es) (try_one processes bytes room end e s) (if b then set lastarrival (get_or remote e 0 - 1) end else lastarrival)

        still : get_or last (processes + e) 0 ≡ get_or s.comes (processes + e) 0 → arrive (eqb (get_or last (processes + e) 0) end) ≡ lastarrival
        still q = ap arrive (ne_eqb (get_or last (processes + e) 0) end (λ z. absurd (omega (arith, z, q, early e (here refl), late))))

        at : Step e s (one e s) → ((st : List ℕ) → each st ≡ taken (waiting s.comes es) (one e s) st) → each (arrive (eqb (get_or last (processes + e) 0) end)) ≡ taken (waiting s.comes (e ∷ es)) s lastarrival
        at (skip w q) on =
            ap each (still (row ∙ ap (λ (t : Load). get_or t.comes (processes + e) 0) q)) ∙ on lastarrival ∙ ap (λ (t : Load). taken (waiting s.comes es) t lastarrival) q
            ∙ ap (λ (ws : List ℕ). taken ws s lastarrival) (sym (waiting_no s.comes e es w))
        at (take w f q) on =
            ap each (ap arrive (eq-eqb (get_or last (processes + e) 0) end (row ∙ ap (λ (t : Load). get_or t.comes (processes + e) 0) q ∙ laid_there e s (low e (here refl)))))
            ∙ on (set lastarrival (get_or remote e 0 - 1) end) ∙ ap (λ (t : Load). taken (waiting s.comes es) t (set lastarrival (get_or remote e 0 - 1) end)) (tried_one e s w) ∙ sym (ap choice f)
            ∙ ap (λ (ws : List ℕ). taken ws s lastarrival) (sym (waiting_yes s.comes e es w))
        at (pass w f q) on =
            ap each (still (row ∙ step_other e e s (one e s) f (step e s))) ∙ on lastarrival ∙ ap (λ (t : Load). taken (waiting s.comes es) t lastarrival) (tried_one e s w) ∙ sym (ap choice f)
            ∙ ap (λ (ws : List ℕ). taken ws s lastarrival) (sym (waiting_yes s.comes e es w))

  -- broadcasts
  module _ (conditionrow : ℕ) (decider node : List ℕ) (n : ℕ) where
    abbrev pending_broadcasts : List ℕ → ℕ → Bool
    pending_broadcasts comes k = broadcasts_by conditionrow decider node comes n u k

    broadcasts_placed : (xs : List ℕ) (k : ℕ) → placed_by xs (conditionrow + k) ≡ true → pending_broadcasts xs k ≡ false
    unfolding broadcasts_by
    broadcasts_placed xs k p =
        ap (λ (z : Bool). (eqb (get_or node (get_or decider k 0) 0) n && not z) && came_by xs u (get_or decider k 0)) p
        ∙ ap (λ (z : Bool). z && came_by xs u (get_or decider k 0)) (and_false (eqb (get_or node (get_or decider k 0) 0) n))

    broadcasts_alike : (xs ys : List ℕ) → Grown xs ys → (k : ℕ) → placed_by ys (conditionrow + k) ≡ placed_by xs (conditionrow + k) → pending_broadcasts ys k ≡ pending_broadcasts xs k
    unfolding broadcasts_by
    broadcasts_alike xs ys g k q =
        let c : came_by ys u ≡ came_by xs u = came_kept u end late xs ys g in
        λ j. (eqb (get_or node (get_or decider k 0) 0) n && not (q j)) && c j (get_or decider k 0)

    broadcasts_stay : (xs ys : List ℕ) → Grown xs ys → (k : ℕ) → get_or ys (conditionrow + k) 0 ≡ get_or xs (conditionrow + k) 0 → pending_broadcasts ys k ≡ pending_broadcasts xs k
    broadcasts_stay xs ys g k q = broadcasts_alike xs ys g k (placed_row xs ys (conditionrow + k) q)

    broadcasts_gone : (xs ys : List ℕ) → Grown xs ys → (k : ℕ) → pending_broadcasts xs k ≡ false → pending_broadcasts ys k ≡ false
    broadcasts_gone xs ys g k w = at (two (placed_by ys (conditionrow + k))) (two (placed_by xs (conditionrow + k)))
      where
        at : (placed_by ys (conditionrow + k) ≡ true) ⊎ (placed_by ys (conditionrow + k) ≡ false) → (placed_by xs (conditionrow + k) ≡ true) ⊎ (placed_by xs (conditionrow + k) ≡ false) → pending_broadcasts ys k ≡ false
        at (inl q) p = broadcasts_placed ys k q
        at (inr q) (inl p) = clash (placed_grown xs ys g (conditionrow + k) p) q
        at (inr q) (inr p) = broadcasts_alike xs ys g k (q ∙ sym p) ∙ w

    -- what a broadcast that is laid changes for the others
    broadcasts_still : (k : ℕ) (ks : List ℕ) (xs : List ℕ) → repeated (k ∷ ks) ≡ false → ((j : ℕ) → In j (k ∷ ks) → pending_broadcasts xs j ≡ true) → (j : ℕ) → In j ks → pending_broadcasts (set xs (conditionrow + k) end) j ≡ true
    broadcasts_still k ks xs d h j m =
        broadcasts_stay xs (set xs (conditionrow + k) end) (grown_set xs (conditionrow + k) (broadcasts_free conditionrow decider node n u xs k (h k (here refl))).1) j
        (get_or-set_other xs (conditionrow + k) (conditionrow + j) end 0 (λ q. (different_parts k ks d).0 (subst (λ (z : ℕ). In z ks) (omega arith) m)))
        ∙ h j (there m)

    broadcast_grown : (r : ℕ) (ks : List ℕ) (s : Load) → repeated ks ≡ false → ((k : ℕ) → In k ks → pending_broadcasts s.comes k ≡ true) → Grown s.comes (broadcast_all conditionrow end r ks s).comes
    unfolding broadcast_all laid
    broadcast_grown r [] s d h = λ q. inl refl
    broadcast_grown zero (k ∷ ks) s d h = λ q. inl refl
    broadcast_grown (suc r) (k ∷ ks) s d h =
        grown_on s.comes (set s.comes (conditionrow + k) end) (broadcast_all conditionrow end r ks (laid end (conditionrow + k) 1 s)).comes (grown_set s.comes (conditionrow + k) (broadcasts_free conditionrow decider node n u s.comes k (h k (here refl))).1)
        (broadcast_grown r ks (laid end (conditionrow + k) 1 s) (different_parts k ks d).1 (broadcasts_still k ks s.comes d h))

    broadcast_short : (r : ℕ) (ks : List ℕ) (s : Load) → (broadcast_all conditionrow end r ks s).short ≡ s.short
    unfolding broadcast_all laid
    broadcast_short r [] s = refl
    broadcast_short zero (k ∷ ks) s = refl
    broadcast_short (suc r) (k ∷ ks) s = broadcast_short r ks (laid end (conditionrow + k) 1 s)

    broadcast_long : (r : ℕ) (ks : List ℕ) (s : Load) → length (broadcast_all conditionrow end r ks s).comes ≡ length s.comes
    unfolding broadcast_all laid
    broadcast_long r [] s = refl
    broadcast_long zero (k ∷ ks) s = refl
    broadcast_long (suc r) (k ∷ ks) s = broadcast_long r ks (laid end (conditionrow + k) 1 s) ∙ length-set s.comes (conditionrow + k) end

    -- rows of no broadcast stay
    broadcast_apart : (r : ℕ) (ks : List ℕ) (s : Load) (q : ℕ) → ((k : ℕ) → In k ks → q ≡ conditionrow + k → ⊥) → get_or (broadcast_all conditionrow end r ks s).comes q 0 ≡ get_or s.comes q 0
    unfolding broadcast_all laid
    broadcast_apart r [] s q d = refl
    broadcast_apart zero (k ∷ ks) s q d = refl
    broadcast_apart (suc r) (k ∷ ks) s q d = broadcast_apart r ks (laid end (conditionrow + k) 1 s) q (λ j m. d j (there m)) ∙ get_or-set_other s.comes (conditionrow + k) q end 0 (d k (here refl))

    more : (r l : ℕ) → ltb (suc r) (suc l) ≡ ltb r l
    more r l = at (two (ltb r l))
      where
        at : (ltb r l ≡ true) ⊎ (ltb r l ≡ false) → ltb (suc r) (suc l) ≡ ltb r l
        at (inl e) = let z : r < l = ltb-true r l e in lt-ltb (suc r) (suc l) (omega arith) ∙ sym e
        at (inr e) = let z : l ≤ r = ltb-false r l e in le-ltb (suc r) (suc l) (omega arith) ∙ sym e

    -- some broadcast still waits just where there were more than bytes
    broadcast_left : (r : ℕ) (ks : List ℕ) (s : Load) → repeated ks ≡ false → ((k : ℕ) → In k ks → pending_broadcasts s.comes k ≡ true) → ((k : ℕ) → In k ks → conditionrow + k < length s.comes) →
        any (pending_broadcasts (broadcast_all conditionrow end r ks s).comes) ks ≡ ltb r (length ks)
    unfolding broadcast_all laid
    broadcast_left r [] s d h low = sym (le-ltb r 0 (omega arith))
    broadcast_left zero (k ∷ ks) s d h low = ap (λ (z : Bool). z || any (pending_broadcasts s.comes) ks) (h k (here refl)) ∙ sym (lt-ltb 0 (suc (length ks)) (omega arith))
    broadcast_left (suc r) (k ∷ ks) s d h low =
        let xs : List ℕ = set s.comes (conditionrow + k) end in
        let there-now : get_or xs (conditionrow + k) 0 ≡ end = get_or-set_same s.comes (conditionrow + k) end 0 (low k (here refl)) in
        let still = broadcasts_still k ks s.comes d h in
        let gone : pending_broadcasts (broadcast_all conditionrow end r ks (laid end (conditionrow + k) 1 s)).comes k ≡ false =
        broadcasts_gone xs (broadcast_all conditionrow end r ks (laid end (conditionrow + k) 1 s)).comes (broadcast_grown r ks (laid end (conditionrow + k) 1 s) (different_parts k ks d).1 still) k
        (broadcasts_placed xs k (placed_now xs (conditionrow + k) (λ z. absurd (omega (arith, z, there-now, late))))) in
        ap (λ (z : Bool). z || any (pending_broadcasts (broadcast_all conditionrow end r ks (laid end (conditionrow + k) 1 s)).comes) ks) gone
        ∙ broadcast_left r ks (laid end (conditionrow + k) 1 s) (different_parts k ks d).1 still (λ j m. omega (arith, low j (there m), length-set s.comes (conditionrow + k) end))
        ∙ sym (more r (length ks))

-- a slot leaves as many rows as there were
pub send_long : (processes conditionrow conditions : ℕ) (decider node queue from knownby unmet bytes : List ℕ) (n a b room u end : ℕ) → u < end → (comes place : List ℕ) →
    length (send_by processes conditionrow conditions decider node queue from knownby unmet bytes n a b room u end comes place).comes ≡ length comes
unfolding send_by broadcasts_sent all_broadcast
send_long processes conditionrow conditions decider node queue from knownby unmet bytes n a b room u end late comes place =
    let ks : List ℕ = members (mask_from (broadcasts_by conditionrow decider node comes n u) 0 conditions) in
    let start : Load = load 0 (ltb room (length ks)) comes place in
    all_long u end late processes from knownby unmet bytes room (part queue a b) (broadcast_all conditionrow end room ks start) ∙ broadcast_long u end late conditionrow decider node n room ks start

module _ (processes conditionrow conditions : ℕ) (decider node queue from knownby unmet bytes : List ℕ) (n a b room u end : ℕ) (late : u < end) (few : conditions ≤ 6) (comes place : List ℕ)
    (rows : (e : ℕ) → In e (part queue a b) → processes + e < conditionrow) (long : conditionrow + conditions ≤ length comes) where
  abbrev ready : ℕ → Bool
  ready k = broadcasts_by conditionrow decider node comes n u k

  -- the broadcasts leave the messages that wait
  broadcasts_waiting : keep (waits_by processes from knownby unmet (broadcasts_sent conditionrow conditions decider node n room u end comes place).comes u) (part queue a b) ≡ keep (waits_by processes from knownby unmet comes u) (part queue a b)
  unfolding broadcasts_sent all_broadcast
  broadcasts_waiting =
      keep_same (waits u end late processes from knownby unmet bytes room first.comes) (waits u end late processes from knownby unmet bytes room comes) (part queue a b)
      (λ e m.
      waits_stay u end late processes from knownby unmet bytes room comes first.comes (broadcast_grown u end late conditionrow decider node n room ks start apart (λ k w. (member k w).1)) e
      (broadcast_apart u end late conditionrow decider node n room ks start (processes + e) (λ k w q. absurd (omega (arith, rows e m)))))
    where
      ks : List ℕ
      ks = members (mask_from ready 0 conditions)

      ks_is : ks ≡ keep ready (below conditions)
      ks_is = built_members ready conditions few

      start : Load
      start = load 0 (ltb room (length ks)) comes place

      first : Load
      first = broadcast_all conditionrow end room ks start

      apart : repeated ks ≡ false
      apart = ap repeated ks_is ∙ keep_different ready (below conditions) (different_upfrom 0 conditions)

      member : (k : ℕ) → In k ks → In k (below conditions) × (ready k ≡ true)
      member k m = keep_in ready (below conditions) (subst (λ (xs : List ℕ). In k xs) ks_is m)

  broadcasts_long : length (broadcasts_sent conditionrow conditions decider node n room u end comes place).comes ≡ length comes
  unfolding broadcasts_sent all_broadcast
  broadcasts_long =
      broadcast_long u end late conditionrow decider node n room (members (mask_from ready 0 conditions)) (load 0 (ltb room (length (members (mask_from ready 0 conditions)))) comes place)

  broadcasts_apart : (e : ℕ) → In e (part queue a b) → get_or (broadcasts_sent conditionrow conditions decider node n room u end comes place).comes (processes + e) 0 ≡ get_or comes (processes + e) 0
  unfolding broadcasts_sent all_broadcast
  broadcasts_apart e m =
      broadcast_apart u end late conditionrow decider node n room (members (mask_from ready 0 conditions)) (load 0 (ltb room (length (members (mask_from ready 0 conditions)))) comes place) (processes + e)
      (λ k w q. absurd (omega (arith, rows e m)))

  -- what the slot takes, what still waits after it and where its items arrive, by the messages that wait as it begins
  module _ (once : repeated (part queue a b) ≡ false) where
    abbrev start_of : Load
    start_of = broadcasts_sent conditionrow conditions decider node n room u end comes place

    low_rows : (e : ℕ) → In e (part queue a b) → processes + e < length start_of.comes
    low_rows e m = omega (arith, rows e m, long, broadcasts_long)

    pub taken_by : send_by processes conditionrow conditions decider node queue from knownby unmet bytes n a b room u end comes place
        ≡ take_all processes bytes room end (keep (waits_by processes from knownby unmet comes u) (part queue a b)) (broadcasts_sent conditionrow conditions decider node n room u end comes place)
    unfolding send_by
    taken_by = send_taken u end late processes from knownby unmet bytes room (part queue a b) start_of once ∙ ap (λ (ws : List ℕ). take_all processes bytes room end ws start_of) broadcasts_waiting

    pub waiting_by : keep (waits_by processes from knownby unmet (send_by processes conditionrow conditions decider node queue from knownby unmet bytes n a b room u end comes place).comes u) (part queue a b)
        ≡ left_of processes bytes room end (keep (waits_by processes from knownby unmet comes u) (part queue a b)) (broadcasts_sent conditionrow conditions decider node n room u end comes place)
    unfolding send_by
    waiting_by = send_waiting u end late processes from knownby unmet bytes room (part queue a b) start_of once low_rows ∙ ap (λ (ws : List ℕ). left_of processes bytes room end ws start_of) broadcasts_waiting

    pub arrivals_by : (remote lastarrival : List ℕ) → ((e : ℕ) → In e (part queue a b) → get_or comes (processes + e) 0 ≤ u) →
        arrive_each processes remote (send_by processes conditionrow conditions decider node queue from knownby unmet bytes n a b room u end comes place).comes end (part queue a b) lastarrival
        ≡ arrive_taken processes bytes room end remote (keep (waits_by processes from knownby unmet comes u) (part queue a b)) (broadcasts_sent conditionrow conditions decider node n room u end comes place) lastarrival
    unfolding send_by
    arrivals_by remote lastarrival early =
        send_arrivals u end late processes from knownby unmet bytes room remote (part queue a b) start_of lastarrival once low_rows (λ e m. omega (arith, early e m, broadcasts_apart e m))
        ∙ ap (λ (ws : List ℕ). arrive_taken processes bytes room end remote ws start_of lastarrival) broadcasts_waiting

  -- the node has an item pending after its slot just where the slot left one
  pub left_pending : pending_by processes conditionrow conditions decider node queue from knownby unmet (send_by processes conditionrow conditions decider node queue from knownby unmet bytes n a b room u end comes place).comes n a b u
      ≡ (send_by processes conditionrow conditions decider node queue from knownby unmet bytes n a b room u end comes place).short
  unfolding pending_by send_by broadcasts_sent all_broadcast
  left_pending =
      or_comm (any (waits u end late processes from knownby unmet bytes room last.comes) es) (any (pending_broadcasts u end late conditionrow decider node n last.comes) (below conditions))
      ∙ (λ j. (broadcastend ∙ sym (broadcast_short u end late conditionrow decider node n room ks start)) j || any (waits u end late processes from knownby unmet bytes room last.comes) es)
      ∙ sym (send_left u end late processes from knownby unmet bytes room es first (λ e m. omega (arith, rows e m, long, broadcast_long u end late conditionrow decider node n room ks start)))
    where
      es : List ℕ
      es = part queue a b

      ks : List ℕ
      ks = members (mask_from ready 0 conditions)

      ks_is : ks ≡ keep ready (below conditions)
      ks_is = built_members ready conditions few

      start : Load
      start = load 0 (ltb room (length ks)) comes place

      first : Load
      first = broadcast_all conditionrow end room ks start

      last : Load
      last = send_all processes from knownby unmet bytes room u end es first

      apart : repeated ks ≡ false
      apart = ap repeated ks_is ∙ keep_different ready (below conditions) (different_upfrom 0 conditions)

      member : (k : ℕ) → In k ks → In k (below conditions) × (ready k ≡ true)
      member k m = keep_in ready (below conditions) (subst (λ (xs : List ℕ). In k xs) ks_is m)

      grown : Grown u end late comes first.comes
      grown = broadcast_grown u end late conditionrow decider node n room ks start apart (λ k m. (member k m).1)

      was : (k : ℕ) → pending_broadcasts u end late conditionrow decider node n first.comes k ≡ true → ready k ≡ true
      was k e = at (two (ready k))
        where
          at : (ready k ≡ true) ⊎ (ready k ≡ false) → ready k ≡ true
          at (inl q) = q
          at (inr q) = clash e (broadcasts_gone u end late conditionrow decider node n comes first.comes grown k q)

      broadcastend : any (pending_broadcasts u end late conditionrow decider node n last.comes) (below conditions) ≡ ltb room (length ks)
      broadcastend =
          any_same (pending_broadcasts u end late conditionrow decider node n last.comes) (pending_broadcasts u end late conditionrow decider node n first.comes) (below conditions)
          (λ k m.
          broadcasts_stay u end late conditionrow decider node n first.comes last.comes (all_grown u end late processes from knownby unmet bytes room es first) k
          (all_apart u end late processes from knownby unmet bytes room es first (conditionrow + k) (λ e w q. absurd (omega (arith, rows e w, q)))))
          ∙ sym (any_kept (pending_broadcasts u end late conditionrow decider node n first.comes) ready (below conditions) was)
          ∙ sym (ap (any (pending_broadcasts u end late conditionrow decider node n first.comes)) ks_is)
          ∙ broadcast_left u end late conditionrow decider node n room ks start apart (λ k m. (member k m).1) (λ k m. omega (arith, below_in conditions (member k m).0, long))
