-- What a slot takes, as rows tried one after another: the broadcasts first, then the messages that waited as the slot
-- began; and which rows of the arrays change.
-- Assumes nothing.
use Rattle.std.specs.Prelude.{if◌then◌else◌}
use mathlib.Core.Path.{◌≡◌, refl, sym, ap, ◌∙◌, subst}
use mathlib.Core.Logic.{◌⊎◌, inl, inr}
use mathlib.Core.Bool.{Bool, true, false, not, ◌&&◌, ◌||◌}
use mathlib.Core.List.Memᴰ.{head as here}
use mathlib.Core.List.Memᴰ.{tail as there}
use mathlib.Core.List.{List, [], ◌∷◌, ◌++◌, map, Memᴰ as In}
use Prim.Native.Nat.{ℕ, suc, ◌+◌, ◌-◌, ◌≤◌, ◌<◌}
use native.Mathlib.Omega.{arith}
use lib.Dec.{eqb, leb, ltb}
use lib.ListN.{length, get_or, set, length-set, get_or-eq_default}
use lib.Seq.{get_or-set_same, get_or-set_other}
use borrow.Author.Tests.{eqb-true, eqb-false, ltb-true, ltb-false, lt-ltb, le-ltb, le-leb, lt-leb}
use Rattle.lists.specs.Lists.{any, keep, repeated}
use Rattle.lists.proofs.Tests.{two, both, and_false, or_false, or_right}
use Rattle.lists.proofs.Members.{any_in, none_in}
use Rattle.lists.proofs.Different.{different_parts}
use Rattle.log_queries.specs.Reading.{within, came_by, placed_by, message_by}
use Rattle.planner_sends.specs.Packing.{Load, load, waits_by, laid, passed, tried, broadcast_all, try_send, send_all}

-- a store leaves a place as it was, or puts its number there
pub set_either : (xs : List ℕ) (i v r : ℕ) → (get_or (set xs i v) r 0 ≡ get_or xs r 0) ⊎ (get_or (set xs i v) r 0 ≡ v)
set_either xs i v r = at (two (eqb r i)) (two (ltb i (length xs)))
  where
    at : (eqb r i ≡ true) ⊎ (eqb r i ≡ false) → (ltb i (length xs) ≡ true) ⊎ (ltb i (length xs) ≡ false) →
        (get_or (set xs i v) r 0 ≡ get_or xs r 0) ⊎ (get_or (set xs i v) r 0 ≡ v)
    at (inr e) l = inl (get_or-set_other xs i r v 0 (eqb-false r i e))
    at (inl e) (inl l) = inr (ap (λ (k : ℕ). get_or (set xs i v) k 0) (eqb-true r i e) ∙ get_or-set_same xs i v 0 (ltb-true _ _ l))
    at (inl e) (inr l) =
        let q = eqb-true r i e in
        let m : length xs ≤ i = ltb-false _ _ l in
        inl (get_or-eq_default (set xs i v) 0 (omega (arith, length-set xs i v)) ∙ sym (get_or-eq_default xs 0 (omega arith)))

-- rows that are tried one after another, each with its bytes
module _ (room end : ℕ) (size : ℕ → ℕ) where
  unfoldable pub try_all : List ℕ → Load → Load
  try_all [] s = s
  try_all (r ∷ rs) s = try_all rs (tried room end r (size r) s)

  pub try_append : (rs qs : List ℕ) (s : Load) → try_all (rs ++ qs) s ≡ try_all qs (try_all rs s)
  unfolding try_all
  try_append [] qs s = refl
  try_append (r ∷ rs) qs s = try_append rs qs (tried room end r (size r) s)

  -- one row: what is used, and what is left of the array
  one_grows : (r : ℕ) (s : Load) → s.used ≤ (tried room end r (size r) s).used
  unfolding tried laid passed
  one_grows r s = at (ltb s.used room && leb (s.used + size r) room)
    where
      at : (b : Bool) → s.used ≤ (if b then laid end r (size r) s else passed s).used
      at true = omega arith
      at false = omega arith

  one_other : (r : ℕ) (s : Load) (q : ℕ) → (q ≡ r → ⊥) → get_or (tried room end r (size r) s).comes q 0 ≡ get_or s.comes q 0
  unfolding tried laid passed
  one_other r s q n = at (ltb s.used room && leb (s.used + size r) room)
    where
      at : (b : Bool) → get_or (if b then laid end r (size r) s else passed s).comes q 0 ≡ get_or s.comes q 0
      at true = get_or-set_other s.comes r q end 0 n
      at false = refl

  one_either : (r : ℕ) (s : Load) (q : ℕ) → 1 ≤ size r →
      (get_or (tried room end r (size r) s).comes q 0 ≡ get_or s.comes q 0)
      ⊎ ((get_or (tried room end r (size r) s).comes q 0 ≡ end) × (s.used < (tried room end r (size r) s).used))
  unfolding tried laid passed
  one_either r s q l = at (ltb s.used room && leb (s.used + size r) room)
    where
      by : (get_or (set s.comes r end) q 0 ≡ get_or s.comes q 0) ⊎ (get_or (set s.comes r end) q 0 ≡ end) →
          (get_or (set s.comes r end) q 0 ≡ get_or s.comes q 0) ⊎ ((get_or (set s.comes r end) q 0 ≡ end) × (s.used < s.used + size r))
      by (inl e) = inl e
      by (inr e) = inr (e, omega arith)

      at : (b : Bool) → (get_or (if b then laid end r (size r) s else passed s).comes q 0 ≡ get_or s.comes q 0)
          ⊎ ((get_or (if b then laid end r (size r) s else passed s).comes q 0 ≡ end) × (s.used < (if b then laid end r (size r) s else passed s).used))
      at true = by (set_either s.comes r end q)
      at false = inl refl

  -- all of them
  pub try_grows : (rs : List ℕ) (s : Load) → s.used ≤ (try_all rs s).used
  unfolding try_all
  try_grows [] s = omega arith
  try_grows (r ∷ rs) s = let a = one_grows r s in let b = try_grows rs (tried room end r (size r) s) in omega arith

  pub try_other : (rs : List ℕ) (s : Load) (q : ℕ) → (In q rs → ⊥) → get_or (try_all rs s).comes q 0 ≡ get_or s.comes q 0
  unfolding try_all
  try_other [] s q n = refl
  try_other (r ∷ rs) s q n = try_other rs (tried room end r (size r) s) q (λ m. n (there m)) ∙ one_other r s q (λ e. n (here e))

  abbrev Either : Load → Load → ℕ → Type 0
  Either s s' q = (get_or s'.comes q 0 ≡ get_or s.comes q 0) ⊎ ((get_or s'.comes q 0 ≡ end) × (s.used < s'.used))

  pub try_either : (rs : List ℕ) (s : Load) → ((r : ℕ) → In r rs → 1 ≤ size r) → (q : ℕ) →
      (get_or (try_all rs s).comes q 0 ≡ get_or s.comes q 0) ⊎ ((get_or (try_all rs s).comes q 0 ≡ end) × (s.used < (try_all rs s).used))
  unfolding try_all
  try_either [] s l q = inl refl
  try_either (r ∷ rs) s l q =
      at (one_either r s q (l r (here refl))) (try_either rs (tried room end r (size r) s) (λ r m. l r (there m)) q) (one_grows r s) (try_grows rs (tried room end r (size r) s))
    where
      at : Either s (tried room end r (size r) s) q → Either (tried room end r (size r) s) (try_all rs (tried room end r (size r) s)) q →
          s.used ≤ (tried room end r (size r) s).used → (tried room end r (size r) s).used ≤ (try_all rs (tried room end r (size r) s)).used →
          Either s (try_all rs (tried room end r (size r) s)) q
      at (inl e) (inl f) a b = inl (f ∙ e)
      at (inr e) (inl f) a b = inr (f ∙ e.0, (let z = e.1 in omega arith))
      at e (inr f) a b = inr (f.0, (let z = f.1 in omega arith))

-- rows that were free: what is over by a clock before the slot's end stays as it was
module _ (u end : ℕ) (late : u < end) where
  not_yet : within end u ≡ false
  not_yet = ap (λ (b : Bool). not (eqb end 0) && b) (lt-leb end u late) ∙ and_false (not (eqb end 0))

  pub came_kept : (comes comes' : List ℕ) → ((r : ℕ) → (get_or comes' r 0 ≡ get_or comes r 0) ⊎ ((get_or comes r 0 ≡ 0) × (get_or comes' r 0 ≡ end))) →
      came_by comes' u ≡ came_by comes u
  unfolding came_by
  came_kept comes comes' h = λ i r. at r (h r) i
    where
      at : (r : ℕ) → (get_or comes' r 0 ≡ get_or comes r 0) ⊎ ((get_or comes r 0 ≡ 0) × (get_or comes' r 0 ≡ end)) → within (get_or comes' r 0) u ≡ within (get_or comes r 0) u
      at r (inl e) = ap (λ (x : ℕ). within x u) e
      at r (inr e) = ap (λ (x : ℕ). within x u) e.1 ∙ not_yet ∙ sym (ap (λ (x : ℕ). within x u) e.0)

  pub set_kept : (comes : List ℕ) (r : ℕ) → get_or comes r 0 ≡ 0 → came_by (set comes r end) u ≡ came_by comes u
  set_kept comes r z = came_kept comes (set comes r end) (λ q. at q (two (eqb q r)))
    where
      by : (q : ℕ) → q ≡ r → (get_or (set comes r end) q 0 ≡ get_or comes q 0) ⊎ (get_or (set comes r end) q 0 ≡ end) →
          (get_or (set comes r end) q 0 ≡ get_or comes q 0) ⊎ ((get_or comes q 0 ≡ 0) × (get_or (set comes r end) q 0 ≡ end))
      by q e (inl f) = inl f
      by q e (inr f) = inr (ap (λ (k : ℕ). get_or comes k 0) e ∙ z, f)

      at : (q : ℕ) → (eqb q r ≡ true) ⊎ (eqb q r ≡ false) → (get_or (set comes r end) q 0 ≡ get_or comes q 0) ⊎ ((get_or comes q 0 ≡ 0) × (get_or (set comes r end) q 0 ≡ end))
      at q (inl e) = by q (eqb-true q r e) (set_either comes r end q)
      at q (inr e) = inl (get_or-set_other comes r q end 0 (eqb-false q r e))

  module _ (room : ℕ) (size : ℕ → ℕ) (rs : List ℕ) (s : Load) (some : (r : ℕ) → In r rs → 1 ≤ size r) (fresh : (r : ℕ) → In r rs → get_or s.comes r 0 ≡ 0) where
    pub try_kept : came_by (try_all room end size rs s).comes u ≡ came_by s.comes u
    try_kept = came_kept s.comes (try_all room end size rs s).comes (λ r. at r (two (any (eqb r) rs)))
      where
        in_rows : (r : ℕ) → any (eqb r) rs ≡ true → In r rs
        in_rows r e = let m = any_in (eqb r) rs e in subst (λ (z : ℕ). In z rs) (sym (eqb-true r m.0 m.2)) m.1

        by : (r : ℕ) → In r rs → Either room end size s (try_all room end size rs s) r →
            (get_or (try_all room end size rs s).comes r 0 ≡ get_or s.comes r 0) ⊎ ((get_or s.comes r 0 ≡ 0) × (get_or (try_all room end size rs s).comes r 0 ≡ end))
        by r m (inl e) = inl e
        by r m (inr e) = inr (fresh r m, e.0)

        at : (r : ℕ) → (any (eqb r) rs ≡ true) ⊎ (any (eqb r) rs ≡ false) →
            (get_or (try_all room end size rs s).comes r 0 ≡ get_or s.comes r 0) ⊎ ((get_or s.comes r 0 ≡ 0) × (get_or (try_all room end size rs s).comes r 0 ≡ end))
        at r (inl e) = by r (in_rows r e) (try_either room end size rs s some r)
        at r (inr e) = inl (try_other room end size rs s r (λ m. eqb-false r r (none_in (eqb r) e m) refl))

-- the broadcasts, one byte each
module _ (conditionrow room end : ℕ) (size : ℕ → ℕ) where
  abbrev broadcastend : ℕ → List ℕ → Load → Load
  broadcastend = broadcast_all conditionrow end

  none_left : (ks : List ℕ) (s : Load) → broadcastend 0 ks s ≡ s
  unfolding broadcast_all
  none_left [] s = refl
  none_left (k ∷ ks) s = refl

  abbrev row : ℕ → ℕ
  row k = conditionrow + k

  fits : (k used : ℕ) (short : Bool) (comes place : List ℕ) → size (conditionrow + k) ≡ 1 → used < room →
      tried room end (conditionrow + k) (size (conditionrow + k)) (load used short comes place) ≡ load (used + 1) short (set comes (conditionrow + k) end) (set place (conditionrow + k) used)
  unfolding tried laid
  fits k used short comes place q l = rw (q, lt-ltb used room l, le-leb (used + 1) room (omega arith))

  full : (k used : ℕ) (short : Bool) (comes place : List ℕ) → room ≤ used → tried room end (conditionrow + k) (size (conditionrow + k)) (load used short comes place) ≡ load used true comes place
  unfolding tried passed
  full k used short comes place l = rw (le-ltb used room l)

  pub broadcasts_rows : (ks : List ℕ) → ((k : ℕ) → In k ks → size (conditionrow + k) ≡ 1) → (used : ℕ) (short : Bool) (comes place : List ℕ) →
      broadcast_all conditionrow end (room - used) ks (load used (short || ltb (room - used) (length ks)) comes place)
      ≡ try_all room end size (map (λ k. conditionrow + k) ks) (load used short comes place)
  unfolding broadcast_all try_all laid
  broadcasts_rows [] q used short comes place = λ i. load used ((ap (λ (b : Bool). short || b) (le-ltb (room - used) 0 (omega arith)) ∙ or_false short) i) comes place
  broadcasts_rows (k ∷ ks) q used short comes place =
      at (two (ltb used room))
      (broadcasts_rows ks (λ k m. q k (there m)) (used + 1) short (set comes (conditionrow + k) end) (set place (conditionrow + k) used))
      (broadcasts_rows ks (λ k m. q k (there m)) used true comes place)
    where
      shorter : used < room → (short || ltb (room - used) (suc (length ks))) ≡ (short || ltb (room - (used + 1)) (length ks))
      shorter l = ap (λ (b : Bool). short || b) (by (two (ltb (room - (used + 1)) (length ks))))
        where
          by : (ltb (room - (used + 1)) (length ks) ≡ true) ⊎ (ltb (room - (used + 1)) (length ks) ≡ false) → ltb (room - used) (suc (length ks)) ≡ ltb (room - (used + 1)) (length ks)
          by (inl e) = let m : room - (used + 1) < length ks = ltb-true _ _ e in lt-ltb (room - used) (suc (length ks)) (omega arith) ∙ sym e
          by (inr e) = let m : length ks ≤ room - (used + 1) = ltb-false _ _ e in le-ltb (room - used) (suc (length ks)) (omega arith) ∙ sym e

      at : (ltb used room ≡ true) ⊎ (ltb used room ≡ false) →
          broadcastend (room - (used + 1)) ks (load (used + 1) (short || ltb (room - (used + 1)) (length ks)) (set comes (conditionrow + k) end) (set place (conditionrow + k) used))
          ≡ try_all room end size (map row ks) (load (used + 1) short (set comes (conditionrow + k) end) (set place (conditionrow + k) used)) →
          broadcastend (room - used) ks (load used true comes place) ≡ try_all room end size (map row ks) (load used true comes place) →
          broadcastend (room - used) (k ∷ ks) (load used (short || ltb (room - used) (suc (length ks))) comes place)
          ≡ try_all room end size (map row ks) (tried room end (conditionrow + k) (size (conditionrow + k)) (load used short comes place))
      at (inl e) more less =
          let l : used < room = ltb-true _ _ e in
          let d : room - used ≡ suc (room - (used + 1)) = omega arith in
          (λ i. broadcastend (d i) (k ∷ ks) (load used (shorter l i) comes place)) ∙ more_step
          ∙ more ∙ ap (try_all room end size (map row ks)) (sym (fits k used short comes place (q k (here refl)) l))
        where
          more_step : broadcastend (suc (room - (used + 1))) (k ∷ ks) (load used (short || ltb (room - (used + 1)) (length ks)) comes place)
              ≡ broadcastend (room - (used + 1)) ks (load (used + 1) (short || ltb (room - (used + 1)) (length ks)) (set comes (conditionrow + k) end) (set place (conditionrow + k) used))
          more_step = refl
      at (inr e) more less =
          let l : room ≤ used = ltb-false _ _ e in
          let d : room - used ≡ 0 = omega arith in
          (λ i. broadcastend (d i) (k ∷ ks) (load used (short || ltb (d i) (suc (length ks))) comes place))
          ∙ ap (λ (b : Bool). load used b comes place) (or_right short (ltb 0 (suc (length ks))) (lt-ltb 0 (suc (length ks)) (omega arith)))
          ∙ sym (none_left ks (load used true comes place)) ∙ ap (λ (n : ℕ). broadcastend n ks (load used true comes place)) (sym d)
          ∙ less ∙ ap (try_all room end size (map row ks)) (sym (full k used short comes place l))

-- the messages that waited as the slot began
module _ (processes : ℕ) (from knownby unmet bytes : List ℕ) (room u end : ℕ) (late : u < end) (size : ℕ → ℕ) (f : ℕ → Bool) where
  abbrev test : List ℕ → ℕ → Bool
  test comes = waits_by processes from knownby unmet comes u

  -- whether a message is ready goes by the rows that are over
  pub ready_kept : (comes comes' : List ℕ) (e : ℕ) → came_by comes' u ≡ came_by comes u → get_or comes' (processes + e) 0 ≡ get_or comes (processes + e) 0 →
      waits_by processes from knownby unmet comes' u e ≡ waits_by processes from knownby unmet comes u e
  unfolding waits_by message_by placed_by
  ready_kept comes comes' e q z = λ i. not (not (eqb (z i) 0)) && (eqb (get_or unmet e 0) 0 && (q i (get_or from e 0) && q i (get_or knownby e 0)))

  waiting_free : (comes : List ℕ) (e : ℕ) → test comes e ≡ true → get_or comes (processes + e) 0 ≡ 0
  unfolding waits_by placed_by
  waiting_free comes e w =
      let a = both (not (not (eqb (get_or comes (processes + e) 0) 0))) (message_by from knownby unmet comes u e) w in
      eqb-true _ _ (again (eqb (get_or comes (processes + e) 0) 0) a.0)
    where
      again : (b : Bool) → not (not b) ≡ true → b ≡ true
      again true e = refl
      again false e = e

  abbrev row_of : ℕ → ℕ
  row_of e = processes + e

  one_no : (e : ℕ) (s : Load) → test s.comes e ≡ false → try_send processes from knownby unmet bytes room u end e s ≡ s
  unfolding try_send
  one_no e s w = rw w

  one_yes : (e : ℕ) (s : Load) → test s.comes e ≡ true → get_or bytes e 0 ≡ size (processes + e) →
      try_send processes from knownby unmet bytes room u end e s ≡ tried room end (processes + e) (size (processes + e)) s
  unfolding try_send
  one_yes e s w q = rw (w, q)

  -- one that is tried leaves the tests of the others
  one_kept : (e : ℕ) (s : Load) (d : ℕ) → (d ≡ e → ⊥) → test s.comes e ≡ true →
      test (tried room end (processes + e) (size (processes + e)) s).comes d ≡ test s.comes d
  unfolding tried laid passed
  one_kept e s d n w = at (ltb s.used room && leb (s.used + size (processes + e)) room)
    where
      at : (b : Bool) → test (if b then laid end (processes + e) (size (processes + e)) s else passed s).comes d ≡ test s.comes d
      at true =
          ready_kept s.comes (set s.comes (processes + e) end) d (set_kept u end late s.comes (processes + e) (waiting_free s.comes e w))
          (get_or-set_other s.comes (processes + e) (processes + d) end 0 (λ q. n (omega arith)))
      at false = refl

  pub sends_rows : (es : List ℕ) (s : Load) → repeated es ≡ false → ((e : ℕ) → In e es → get_or bytes e 0 ≡ size (processes + e)) →
      ((e : ℕ) → In e es → waits_by processes from knownby unmet s.comes u e ≡ f e) →
      send_all processes from knownby unmet bytes room u end es s ≡ try_all room end size (map (λ e. processes + e) (keep f es)) s
  unfolding send_all try_all
  sends_rows [] s d z w = refl
  sends_rows (e ∷ es) s d z w =
      at (f e) (w e (here refl))
      (sends_rows es s n.1 (λ e m. z e (there m)) (λ e m. w e (there m)))
      (λ y. sends_rows es (tried room end (processes + e) (size (processes + e)) s) n.1 (λ e m. z e (there m)) (λ a m.
      one_kept e s a (λ q. n.0 (subst (λ (x : ℕ). In x es) q m)) y ∙ w a (there m)))
    where
      n : (In e es → ⊥) × (repeated es ≡ false)
      n = different_parts e es d

      at : (b : Bool) → test s.comes e ≡ b →
          send_all processes from knownby unmet bytes room u end es s ≡ try_all room end size (map row_of (keep f es)) s →
          (test s.comes e ≡ true →
          send_all processes from knownby unmet bytes room u end es (tried room end (processes + e) (size (processes + e)) s)
          ≡ try_all room end size (map row_of (keep f es)) (tried room end (processes + e) (size (processes + e)) s)) →
          send_all processes from knownby unmet bytes room u end es (try_send processes from knownby unmet bytes room u end e s)
          ≡ try_all room end size (map row_of (if b then (e ∷ keep f es) else keep f es)) s
      at true y on off = ap (send_all processes from knownby unmet bytes room u end es) (one_yes e s y (z e (here refl))) ∙ off y
      at false y on off = ap (send_all processes from knownby unmet bytes room u end es) (one_no e s y) ∙ on
