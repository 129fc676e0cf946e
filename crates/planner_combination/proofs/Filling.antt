-- What a slot changes: nothing where its node has no item pending, and elsewhere only rows of items of its node that
-- were not placed.
-- Assumes nothing.
use Rattle.std.specs.Prelude.{if◌then◌else◌}
use Prim.Native.Nat.{ℕ, zero, suc, ◌+◌, ◌≤◌, ◌<◌}
use mathlib.Core.Path.{◌≡◌, refl, sym, ap, ◌∙◌, subst}
use mathlib.Core.Logic.{◌⊎◌, inl, inr}
use mathlib.Core.Bool.{Bool, true, false, ◌&&◌}
use mathlib.Core.List.Memᴰ.{head as here}
use mathlib.Core.List.Memᴰ.{tail as there}
use mathlib.Core.List.{List, [], ◌∷◌, Memᴰ as In}
use native.Mathlib.Omega.{arith}
use lib.Dec.{eqb, leb, ltb}
use lib.ListN.{length, get_or, set}
use lib.Seq.{get_or-set_other}
use borrow.Author.Tests.{eqb-true, eqb-false, ne_eqb, ltb-true, le-ltb, lt-ltb}
use Rattle.lists.specs.Lists.{any, keep, below}
use Rattle.lists.proofs.Counts.{keep_nothing}
use Rattle.lists.proofs.Tests.{two, neither}
use Rattle.lists.proofs.Members.{keep_in, below_in}
use Rattle.bitset.specs.Masks.{members, mask_from}
use Rattle.bitset.proofs.Built.{built_members}
use Rattle.log_queries.specs.Reading.{part}
use Rattle.planner_sends.specs.Packing.{Load, load, broadcasts_by, waits_by, pending_by, laid, passed, tried, broadcast_all, all_broadcast, try_send, send_all, broadcasts_sent, with_broadcast, send_by}
use Rattle.planner_sends.proofs.Rows.{set_either}
use Rattle.planner_sends.proofs.Left.{waits_free, broadcasts_free, send_long}
use Rattle.planner_sends.specs.NextSends.{pending_in}
use Rattle.planner_packing.specs.Slot.{Bus, filled, fill_by}

-- the broadcasts of some conditions
module _ (conditionrow end : ℕ) where
  broadcasts_grow : (n : ℕ) (ks : List ℕ) (s : Load) → s.used ≤ (broadcast_all conditionrow end n ks s).used
  unfolding broadcast_all laid
  broadcasts_grow n [] s = omega arith
  broadcasts_grow zero (k ∷ ks) s = omega arith
  broadcasts_grow (suc n) (k ∷ ks) s = let l = broadcasts_grow n ks (laid end (conditionrow + k) 1 s) in omega (arith, l)

  abbrev Told : List ℕ → Load → Load → ℕ → Type 0
  Told ks s s' r = (get_or s'.comes r 0 ≡ get_or s.comes r 0) ⊎ ((k : ℕ) × In k ks × (r ≡ conditionrow + k) × (get_or s'.comes r 0 ≡ end) × (s.used < s'.used))

  broadcasts_row : (n : ℕ) (ks : List ℕ) (s : Load) (r : ℕ) → Told ks s (broadcast_all conditionrow end n ks s) r
  unfolding broadcast_all laid
  broadcasts_row n [] s r = inl refl
  broadcasts_row zero (k ∷ ks) s r = inl refl
  broadcasts_row (suc n) (k ∷ ks) s r = at (broadcasts_row n ks after r) (broadcasts_grow n ks after) (two (eqb r (conditionrow + k))) (set_either s.comes (conditionrow + k) end r)
    where
      after : Load
      after = load (s.used + 1) s.short (set s.comes (conditionrow + k) end) (set s.place (conditionrow + k) s.used)

      at : Told ks after (broadcast_all conditionrow end n ks after) r → s.used + 1 ≤ (broadcast_all conditionrow end n ks after).used → (eqb r (conditionrow + k) ≡ true) ⊎ (eqb r (conditionrow + k) ≡ false) →
          (get_or (set s.comes (conditionrow + k) end) r 0 ≡ get_or s.comes r 0) ⊎ (get_or (set s.comes (conditionrow + k) end) r 0 ≡ end) →
          Told (k ∷ ks) s (broadcast_all conditionrow end n ks after) r
      at (inr m) l e h = inr (m.0, there m.1, m.2, m.3, omega (arith, l))
      at (inl q) l e (inl h) = inl (q ∙ h)
      at (inl q) l (inl e) (inr h) = inr (k, here refl, eqb-true _ _ e, q ∙ h, omega (arith, l))
      at (inl q) l (inr e) (inr h) = inl (q ∙ get_or-set_other s.comes (conditionrow + k) r end 0 (eqb-false _ _ e))

-- the messages of some edges
module _ (processes : ℕ) (from knownby unmet bytes : List ℕ) (room u end : ℕ) where
  sends_none : (es : List ℕ) (s : Load) → any (waits_by processes from knownby unmet s.comes u) es ≡ false → send_all processes from knownby unmet bytes room u end es s ≡ s
  unfolding send_all try_send
  sends_none [] s h = refl
  sends_none (e ∷ es) s h =
      let n = neither (waits_by processes from knownby unmet s.comes u e) (any (waits_by processes from knownby unmet s.comes u) es) h in
      ap (send_all processes from knownby unmet bytes room u end es) (ap (λ (b : Bool). if b then tried room end (processes + e) (get_or bytes e 0) s else s) n.0)
      ∙ sends_none es s n.1

  -- what is used grows
  one_grows : (e : ℕ) (s : Load) → s.used ≤ (try_send processes from knownby unmet bytes room u end e s).used
  unfolding try_send tried laid passed
  one_grows e s = at (waits_by processes from knownby unmet s.comes u e) (ltb s.used room && leb (s.used + get_or bytes e 0) room)
    where
      at : (a b : Bool) → s.used ≤ (if a then (if b then laid end (processes + e) (get_or bytes e 0) s else passed s) else s).used
      at false b = omega arith
      at true false = omega arith
      at true true = omega arith

  sends_grow : (es : List ℕ) (s : Load) → s.used ≤ (send_all processes from knownby unmet bytes room u end es s).used
  unfolding send_all
  sends_grow [] s = omega arith
  sends_grow (e ∷ es) s = let a = one_grows e s in let b = sends_grow es (try_send processes from knownby unmet bytes room u end e s) in omega (arith, a, b)

  abbrev Sent : List ℕ → Load → Load → ℕ → Type 0
  Sent es s s' r = (get_or s'.comes r 0 ≡ get_or s.comes r 0) ⊎ ((e : ℕ) × In e es × (r ≡ processes + e) × (get_or s.comes r 0 ≡ 0) × (get_or s'.comes r 0 ≡ end) × (0 < s'.used))

  send_row : (e : ℕ) (es : List ℕ) (s : Load) (r : ℕ) → 1 ≤ get_or bytes e 0 → Sent (e ∷ es) s (try_send processes from knownby unmet bytes room u end e s) r
  unfolding try_send tried laid passed
  send_row e es s r some =
      at (waits_by processes from knownby unmet s.comes u e) refl (ltb s.used room && leb (s.used + get_or bytes e 0) room) (two (eqb r (processes + e))) (set_either s.comes (processes + e) end r)
    where
      at : (a : Bool) → waits_by processes from knownby unmet s.comes u e ≡ a → (b : Bool) → (eqb r (processes + e) ≡ true) ⊎ (eqb r (processes + e) ≡ false) →
          (get_or (set s.comes (processes + e) end) r 0 ≡ get_or s.comes r 0) ⊎ (get_or (set s.comes (processes + e) end) r 0 ≡ end) →
          Sent (e ∷ es) s (if a then (if b then laid end (processes + e) (get_or bytes e 0) s else passed s) else s) r
      at false w b k h = inl refl
      at true w false k h = inl refl
      at true w true k (inl h) = inl h
      at true w true (inl k) (inr h) =
          let q : r ≡ processes + e = eqb-true _ _ k in
          inr (e, here refl, q, ap (λ (z : ℕ). get_or s.comes z 0) q ∙ waits_free processes from knownby unmet u s.comes e w, h, omega (arith, some))
      at true w true (inr k) (inr h) = inl (get_or-set_other s.comes (processes + e) r end 0 (eqb-false _ _ k))

  sends_row : (es : List ℕ) (s : Load) (r : ℕ) → ((e : ℕ) → In e es → 1 ≤ get_or bytes e 0) → Sent es s (send_all processes from knownby unmet bytes room u end es s) r
  unfolding send_all
  sends_row [] s r some = inl refl
  sends_row (e ∷ es) s r some = at (send_row e es s r (some e (here refl))) (sends_row es one r (λ d m. some d (there m)))
    where
      one : Load
      one = try_send processes from knownby unmet bytes room u end e s

      at : Sent (e ∷ es) s one r → Sent es one (send_all processes from knownby unmet bytes room u end es one) r → Sent (e ∷ es) s (send_all processes from knownby unmet bytes room u end es one) r
      at (inl q) (inl h) = inl (h ∙ q)
      at (inl q) (inr h) = inr (h.0, there h.1, h.2, sym q ∙ h.3, h.4, h.5)
      at (inr q) (inl h) = inr (q.0, q.1, q.2, q.3, h ∙ q.4, omega (arith, q.5, sends_grow es one))
      at (inr q) (inr h) = inr (h.0, there h.1, h.2, q.3, h.4, h.5)

module _ (processes conditionrow conditions : ℕ) (decider node queuefirst queue from knownby unmet bytes lasts rooms : List ℕ) (few : conditions ≤ 6) (n u : ℕ) where
  abbrev edges : List ℕ
  edges = part queue (get_or queuefirst n 0) (get_or queuefirst (n + 1) 0)

  abbrev end : ℕ
  end = u + get_or lasts n 0

  broadcast_members : (comes : List ℕ) → members (mask_from (broadcasts_by conditionrow decider node comes n u) 0 conditions) ≡ keep (broadcasts_by conditionrow decider node comes n u) (below conditions)
  broadcast_members comes = built_members (broadcasts_by conditionrow decider node comes n u) conditions few

  -- where nothing is pending, nothing is taken
  no_broadcasts : (comes place : List ℕ) → any (broadcasts_by conditionrow decider node comes n u) (below conditions) ≡ false →
      broadcasts_sent conditionrow conditions decider node n (get_or rooms n 0) u end comes place ≡ load 0 false comes place
  unfolding broadcasts_sent all_broadcast broadcast_all
  no_broadcasts comes place h =
      let q : members (mask_from (broadcasts_by conditionrow decider node comes n u) 0 conditions) ≡ [] = broadcast_members comes ∙ keep_nothing (broadcasts_by conditionrow decider node comes n u) (below conditions) h in
      rw q (ap (λ (b : Bool). load 0 b comes place) (le-ltb (get_or rooms n 0) 0 (omega arith)))

  pub fill_nothing : (s : Bus) → pending_in processes conditionrow conditions decider node queuefirst queue from knownby unmet s.comes u n ≡ false →
      fill_by processes conditionrow conditions decider node queuefirst queue from knownby unmet bytes lasts rooms n u s ≡ s
  unfolding fill_by filled pending_in pending_by send_by with_broadcast
  fill_nothing s h =
      let k = neither (any (waits_by processes from knownby unmet s.comes u) edges) (any (broadcasts_by conditionrow decider node s.comes n u) (below conditions)) h in
      let t = no_broadcasts s.comes s.place k.1 in
      rw t (rw (sends_none processes from knownby unmet bytes (get_or rooms n 0) u end edges (load 0 false s.comes s.place) k.0) refl)

  -- what becomes of a row
  pub data Filled (s s' : Bus) (r : ℕ) : Type 0 where
    left : get_or s'.comes r 0 ≡ get_or s.comes r 0 → Filled s s' r
    broadcast : (k : ℕ) → k < conditions → get_or node (get_or decider k 0) 0 ≡ n → r ≡ conditionrow + k → get_or s.comes r 0 ≡ 0 → get_or s'.comes r 0 ≡ end → s'.broadcastend ≡ end → s'.slotend ≡ end → Filled s s' r
    message : (e : ℕ) → In e edges → r ≡ processes + e → get_or s.comes r 0 ≡ 0 → get_or s'.comes r 0 ≡ end → s'.slotend ≡ end → Filled s s' r

  abbrev pending_broadcasts : List ℕ → List ℕ → Load
  pending_broadcasts comes place = broadcasts_sent conditionrow conditions decider node n (get_or rooms n 0) u end comes place

  abbrev ToldRow : List ℕ → List ℕ → ℕ → Type 0
  ToldRow comes place r =
      (get_or (pending_broadcasts comes place).comes r 0 ≡ get_or comes r 0)
      ⊎ ((k : ℕ) × (k < conditions) × (get_or node (get_or decider k 0) 0 ≡ n) × (r ≡ conditionrow + k) × (get_or comes r 0 ≡ 0) × (get_or (pending_broadcasts comes place).comes r 0 ≡ end) × (0 < (pending_broadcasts comes place).used))

  broadcast_row : (comes place : List ℕ) (r : ℕ) → ToldRow comes place r
  unfolding broadcasts_sent all_broadcast
  broadcast_row comes place r = at (broadcasts_row conditionrow end (get_or rooms n 0) ks (load 0 (ltb (get_or rooms n 0) (length ks)) comes place) r)
    where
      ks : List ℕ
      ks = members (mask_from (broadcasts_by conditionrow decider node comes n u) 0 conditions)

      at : Told conditionrow end ks (load 0 (ltb (get_or rooms n 0) (length ks)) comes place) (pending_broadcasts comes place) r → ToldRow comes place r
      at (inl q) = inl q
      at (inr m) =
          let i = keep_in (broadcasts_by conditionrow decider node comes n u) (below conditions) (subst (λ (xs : List ℕ). In m.0 xs) (broadcast_members comes) m.1) in
          let f = broadcasts_free conditionrow decider node n u comes m.0 i.1 in
          inr (m.0, below_in conditions i.0, f.0, m.2, ap (λ (z : ℕ). get_or comes z 0) m.2 ∙ f.1, m.3, m.4)

  -- the slot counts as used
  flies : (x before : ℕ) → 0 < x → (if eqb x 0 then before else end) ≡ end
  flies x before l = ap (λ (b : Bool). if b then before else end) (ne_eqb x 0 (λ q. omega arith))

  pub fill_row : ((e : ℕ) → In e edges → 1 ≤ get_or bytes e 0) → (s : Bus) (r : ℕ) → Filled s (fill_by processes conditionrow conditions decider node queuefirst queue from knownby unmet bytes lasts rooms n u s) r
  unfolding fill_by filled send_by with_broadcast
  fill_row some s r = at (broadcast_row s.comes s.place r) (sends_row processes from knownby unmet bytes (get_or rooms n 0) u end edges (pending_broadcasts s.comes s.place) r some)
    where
      first : Load
      first = pending_broadcasts s.comes s.place

      all : Load
      all = send_all processes from knownby unmet bytes (get_or rooms n 0) u end edges first

      at : ToldRow s.comes s.place r → Sent processes from knownby unmet bytes (get_or rooms n 0) u end edges first all r → Filled s (filled n end all (ltb 0 first.used) s) r
      at (inl q) (inl h) = left (h ∙ q)
      at (inl q) (inr h) = message h.0 h.1 h.2 (sym q ∙ h.3) h.4 (flies all.used s.slotend h.5)
      at (inr q) (inl h) =
          broadcast q.0 q.1 q.2 q.3 q.4 (h ∙ q.5) (ap (λ (b : Bool). if b then end else s.broadcastend) (lt-ltb 0 first.used q.6))
          (flies all.used s.slotend (omega (arith, q.6, sends_grow processes from knownby unmet bytes (get_or rooms n 0) u end edges first)))
      at (inr q) (inr h) = message h.0 h.1 h.2 q.4 h.4 (flies all.used s.slotend h.5)

  -- the clock of the last broadcast, and of the last slot used
  pub fill_broadcast : (s : Bus) →
      let s' : Bus = fill_by processes conditionrow conditions decider node queuefirst queue from knownby unmet bytes lasts rooms n u s in (s'.broadcastend ≡ s.broadcastend) ⊎ ((s'.broadcastend ≡ end) × (s'.slotend ≡ end))
  unfolding fill_by filled send_by with_broadcast
  fill_broadcast s = at (ltb 0 (pending_broadcasts s.comes s.place).used) refl
    where
      all : Load
      all = send_all processes from knownby unmet bytes (get_or rooms n 0) u end edges (pending_broadcasts s.comes s.place)

      at : (b : Bool) → ltb 0 (pending_broadcasts s.comes s.place).used ≡ b →
          ((if b then end else s.broadcastend) ≡ s.broadcastend) ⊎ (((if b then end else s.broadcastend) ≡ end) × ((if eqb all.used 0 then s.slotend else end) ≡ end))
      at true e =
          let l : 0 < (pending_broadcasts s.comes s.place).used = ltb-true _ _ e in
          inr (refl, flies all.used s.slotend (omega (arith, l, sends_grow processes from knownby unmet bytes (get_or rooms n 0) u end edges (pending_broadcasts s.comes s.place))))
      at false e = inl refl

  pub fill_slotend : (s : Bus) →
      let s' : Bus = fill_by processes conditionrow conditions decider node queuefirst queue from knownby unmet bytes lasts rooms n u s in (s'.slotend ≡ s.slotend) ⊎ (s'.slotend ≡ end)
  unfolding fill_by filled
  fill_slotend s = at (eqb (send_by processes conditionrow conditions decider node queue from knownby unmet bytes n (get_or queuefirst n 0) (get_or queuefirst (n + 1) 0) (get_or rooms n 0) u end s.comes s.place).used 0)
    where
      at : (b : Bool) → ((if b then s.slotend else end) ≡ s.slotend) ⊎ ((if b then s.slotend else end) ≡ end)
      at true = inl refl
      at false = inr refl

  -- there are as many rows as before
  pub fill_long : u < end → (s : Bus) → length (fill_by processes conditionrow conditions decider node queuefirst queue from knownby unmet bytes lasts rooms n u s).comes ≡ length s.comes
  unfolding fill_by filled
  fill_long late s =
      send_long processes conditionrow conditions decider node queue from knownby unmet bytes n (get_or queuefirst n 0) (get_or queuefirst (n + 1) 0) (get_or rooms n 0) u end late s.comes s.place
