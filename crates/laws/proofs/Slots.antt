-- The bus: how long slots and rounds can be, a node has one slot, `first_beginning` is the first beginning of it at or
-- after a tick, and at most one slot begins at a tick.
-- Assumes nothing.
use Rattle.std.specs.Prelude.{if◌then◌else◌}
use mathlib.Core.Path.{◌≡◌, refl, sym, ap, ◌∙◌, subst}
use mathlib.Core.Logic.{◌⊎◌, inl, inr}
use mathlib.Core.Bool.{Bool, true, false}
use mathlib.Core.List.Memᴰ.{head as here}
use mathlib.Core.List.Memᴰ.{not-nil as in_none}
use mathlib.Core.List.Memᴰ.{tail as there}
use mathlib.Core.List.{List, [], ◌∷◌, map, Memᴰ as In}
use Prim.Native.Nat.{ℕ, suc, ◌+◌, ◌-◌, ◌*◌, ◌/◌, ◌%◌, ◌≤◌, ◌<◌}
use native.Mathlib.Nat.{mul-pos, mod-lt, div-add-mod', mul-add-mod_self_right, mod-eq_of_lt, mul-le-mul}
use native.Mathlib.Omega.{arith}
use lib.Dec.{eqb, leb, ltb}
use lib.ListN.{length, get_or}
use borrow.Author.Tests.{eq-eqb, eqb-true, leb-true, leb-false, ltb-true, ltb-false}
use Rattle.limits.specs.Limits.{SLOTTICKS, ROUNDTICKS}
use Rattle.lists.specs.Lists.{any, sum, repeated}
use Rattle.lists.proofs.Tests.{two, clash, neither}
use Rattle.lists.proofs.Members.{in_any, in_map, keep_in, in_keep, in_getD}
use Rattle.lists.proofs.Sums.{sum_in, sum_most_in}
use Rattle.model.specs.Plan.{Lines, Slot, process}
use Rattle.model.specs.Bus.{slot_ticks, round, slot_among, slot_of, offset_among, offset, round_beginning, first_beginning, begins, beginning}
use Rattle.laws.proofs.Good.{Good}

own_slot : (b : Slot) (ss : List Slot) → repeated (map (λ s. s.node) ss) ≡ false → In b ss → slot_among ss b.node ≡ b
unfolding slot_among repeated
own_slot b [] d m = absurd (in_none m)
own_slot b (s ∷ ss) d (here q) = rw (eq-eqb s.node b.node (ap (λ (z : Slot). z.node) (sym q))) (sym q)
own_slot b (s ∷ ss) d (there m) =
    let n = neither (any (eqb s.node) (map (λ s. s.node) ss)) (repeated (map (λ s. s.node) ss)) d in
    at (eqb s.node b.node) refl n.0 (own_slot b ss n.1 m)
  where
    at : (v : Bool) → eqb s.node b.node ≡ v → any (eqb s.node) (map (λ s. s.node) ss) ≡ false → slot_among ss b.node ≡ b → (if v then s else slot_among ss b.node) ≡ b
    at true e f r = clash (in_any (eqb s.node) (in_map (λ s. s.node) m) e) f
    at false e f r = r

-- The first number at or after t that leaves o by R.
module _ (R o : ℕ) (l : o < R) where
  abbrev next : ℕ → ℕ
  next t = (t - t % R) + (if leb (t % R) o then o else R + o)

  -- in the round of t, or in the one after
  cases : (t : ℕ) → ((t % R ≤ o) × (next t ≡ t / R * R + o)) ⊎ ((o < t % R) × (next t ≡ suc (t / R) * R + o))
  cases t = at (leb (t % R) o) refl
    where
      s : t / R * R + t % R ≡ t
      s = div-add-mod' t R

      at : (b : Bool) → leb (t % R) o ≡ b →
          ((t % R ≤ o) × ((t - t % R) + (if b then o else R + o) ≡ t / R * R + o)) ⊎ ((o < t % R) × ((t - t % R) + (if b then o else R + o) ≡ suc (t / R) * R + o))
      at true e = inl (leb-true _ _ e, (let z = s in omega arith))
      at false e = inr (leb-false _ _ e, (let z = s in omega arith))

  next_leaves : (t : ℕ) → next t % R ≡ o
  next_leaves t = at (cases t)
    where
      at : ((t % R ≤ o) × (next t ≡ t / R * R + o)) ⊎ ((o < t % R) × (next t ≡ suc (t / R) * R + o)) → next t % R ≡ o
      at (inl r) = ap (λ (z : ℕ). z % R) r.1 ∙ mul-add-mod_self_right (t / R) R o ∙ mod-eq_of_lt l
      at (inr r) = ap (λ (z : ℕ). z % R) r.1 ∙ mul-add-mod_self_right (suc (t / R)) R o ∙ mod-eq_of_lt l

  next_within : (t : ℕ) → (t ≤ next t) × (next t < t + R)
  next_within t = at (cases t)
    where
      s : t / R * R + t % R ≡ t
      s = div-add-mod' t R

      g : t % R < R
      g = mod-lt t (omega arith)

      at : ((t % R ≤ o) × (next t ≡ t / R * R + o)) ⊎ ((o < t % R) × (next t ≡ suc (t / R) * R + o)) → (t ≤ next t) × (next t < t + R)
      at (inl r) = let u = r.0 in let v = r.1 in let z = s in let w = g in (omega arith, omega arith)
      at (inr r) = let u = r.0 in let v = r.1 in let z = s in let w = g in (omega arith, omega arith)

  next_at : (t : ℕ) → t % R ≡ o → next t ≡ t
  next_at t e = at (cases t)
    where
      s : t / R * R + t % R ≡ t
      s = div-add-mod' t R

      at : ((t % R ≤ o) × (next t ≡ t / R * R + o)) ⊎ ((o < t % R) × (next t ≡ suc (t / R) * R + o)) → next t ≡ t
      at (inl r) = let v = r.1 in let z = s in omega arith
      at (inr r) = let u = r.0 in absurd (omega arith)

  -- nothing in between leaves o
  next_first : (t u : ℕ) → t ≤ u → u < next t → u % R ≡ o → ⊥
  next_first t u a b e =
      let w = next_within t in
      let s : u / R * R + u % R ≡ u = div-add-mod' u R in
      let n : next t / R * R + next t % R ≡ next t = div-add-mod' (next t) R in
      at (two (leb (next t / R) (u / R))) s n (next_leaves t) w.1
    where
      at : (leb (next t / R) (u / R) ≡ true) ⊎ (leb (next t / R) (u / R) ≡ false) → u / R * R + u % R ≡ u → next t / R * R + next t % R ≡ next t → next t % R ≡ o → next t < t + R → ⊥
      at (inl k) s n m w = let v : next t / R * R ≤ u / R * R = mul-le-mul (leb-true _ _ k) (omega arith) in omega arith
      at (inr k) s n m w = let v : suc (u / R) * R ≤ next t / R * R = mul-le-mul (leb-false _ _ k) (omega arith) in omega arith

module _ (p : Lines) where
  -- a slot lies within its round
  offset_fits : (b : Slot) (ss : List Slot) → In b ss → offset_among p ss b.node + slot_ticks p b ≤ sum (map (slot_ticks p) ss)
  unfolding offset_among
  offset_fits b [] m = absurd (in_none m)
  offset_fits b (s ∷ ss) (here q) =
      let e : slot_ticks p b ≡ slot_ticks p s = ap (slot_ticks p) q in
      rw (eq-eqb s.node b.node (ap (λ (z : Slot). z.node) (sym q))) (omega arith)
  offset_fits b (s ∷ ss) (there m) = at (eqb s.node b.node) (offset_fits b ss m)
    where
      at : (v : Bool) → offset_among p ss b.node + slot_ticks p b ≤ sum (map (slot_ticks p) ss) →
          (if v then 0 else slot_ticks p s + offset_among p ss b.node) + slot_ticks p b ≤ slot_ticks p s + sum (map (slot_ticks p) ss)
      at true r = let u = sum_in (slot_ticks p b) (map (slot_ticks p) ss) (in_map (slot_ticks p) m) in omega arith
      at false r = omega arith

  -- slots of different nodes begin at different ticks of a round
  offset_differs : (a b : Slot) (ss : List Slot) → ((s : Slot) → In s ss → 1 ≤ slot_ticks p s) → In a ss → In b ss →
      offset_among p ss a.node ≡ offset_among p ss b.node → a.node ≡ b.node
  unfolding offset_among
  offset_differs a b [] pos m n e = absurd (in_none m)
  offset_differs a b (s ∷ ss) pos m n e =
      at (eqb s.node a.node) (eqb s.node b.node) refl refl m n e (λ m n. offset_differs a b ss (λ s m. pos s (there m)) m n)
    where
      one : 1 ≤ slot_ticks p s
      one = pos s (here refl)

      node_of : {x : Slot} → x ≡ s → eqb s.node x.node ≡ true
      node_of {x} q = eq-eqb s.node x.node (ap (λ (z : Slot). z.node) (sym q))

      at : (u v : Bool) → eqb s.node a.node ≡ u → eqb s.node b.node ≡ v → In a (s ∷ ss) → In b (s ∷ ss) →
          (if u then 0 else slot_ticks p s + offset_among p ss a.node) ≡ (if v then 0 else slot_ticks p s + offset_among p ss b.node) →
          (In a ss → In b ss → offset_among p ss a.node ≡ offset_among p ss b.node → a.node ≡ b.node) → a.node ≡ b.node
      at true true x y m n e r = sym (eqb-true _ _ x) ∙ eqb-true _ _ y
      at true false x y m n e r = let l = one in absurd (omega arith)
      at false true x y m n e r = let l = one in absurd (omega arith)
      at false false x y (here q) n e r = clash (node_of q) x
      at false false x y (there m) (here q) e r = clash (node_of q) y
      at false false x y (there m) (there n) e r = r m n (omega arith)

  -- a slot that begins later in a round begins when the earlier one has ended
  offset_apart : (n m : ℕ) (ss : List Slot) → offset_among p ss n < offset_among p ss m → offset_among p ss n + slot_ticks p (slot_among ss n) ≤ offset_among p ss m
  unfolding offset_among slot_among
  offset_apart n m [] l = absurd (omega arith)
  offset_apart n m (s ∷ ss) l = at (eqb s.node n) (eqb s.node m) l (offset_apart n m ss)
    where
      at : (u v : Bool) →
          (if u then 0 else slot_ticks p s + offset_among p ss n) < (if v then 0 else slot_ticks p s + offset_among p ss m) →
          (offset_among p ss n < offset_among p ss m → offset_among p ss n + slot_ticks p (slot_among ss n) ≤ offset_among p ss m) →
          (if u then 0 else slot_ticks p s + offset_among p ss n) + slot_ticks p (if u then s else slot_among ss n) ≤ (if v then 0 else slot_ticks p s + offset_among p ss m)
      at true true l r = absurd (omega arith)
      at true false l r = omega arith
      at false true l r = absurd (omega arith)
      at false false l r = let z = r (omega arith) in omega arith

  module _ (g : Good p) where
    pub slot_ticks_one : (s : Slot) → In s p.slots → 1 ≤ slot_ticks p s
    unfolding slot_ticks
    slot_ticks_one s m = let l = g.slot_one s m in mul-pos (omega arith) g.byte_one

    -- "a slot lasts (bytes + head) × byte ticks": at most so many
    pub slot_ticks_most : (s : Slot) → In s p.slots → slot_ticks p s ≤ SLOTTICKS
    unfolding slot_ticks
    slot_ticks_most s m =
        let l : s.bytes + p.plan.head ≤ 80 = omega (arith, g.slot_most s m, g.head_most) in
        mul-le-mul l g.byte_most

    pub round_most : round p ≤ ROUNDTICKS
    round_most = omega (arith, sum_most_in (slot_ticks p) p.slots SLOTTICKS slot_ticks_most, g.few_slots)

    pub slot_in_round : (s : Slot) → In s p.slots → slot_ticks p s ≤ round p
    slot_in_round s m = sum_in (slot_ticks p s) (map (slot_ticks p) p.slots) (in_map (slot_ticks p) m)

    pub round_one : 1 ≤ round p
    round_one =
        let s : Slot = get_or p.slots 0 (record { node = 0; bytes = 0 }) in
        let m = in_getD p.slots 0 (record { node = 0; bytes = 0 }) g.some_slot in
        omega (arith, slot_ticks_one s m, slot_in_round s m)

    -- "the beginning of the current round": that of a round, at or before the tick, and less than a round before it
    pub round_current : (t : ℕ) → (round_beginning p t ≡ t / round p * round p) × (round_beginning p t ≤ t) × (t < round_beginning p t + round p)
    round_current t =
        let s : t / round p * round p + t % round p ≡ t = div-add-mod' t (round p) in
        let r : t % round p < round p = mod-lt t round_one in
        (omega (arith, s), omega arith, omega (arith, s, r))

    pub slot_own : (b : Slot) → In b p.slots → slot_of p b.node ≡ b
    unfolding slot_of
    slot_own b m = own_slot b p.slots g.one_slot m

    -- the slot of a process's node
    pub slot_in : (i : ℕ) → i < length p.processes → In (slot_of p (process p i).node) p.slots
    slot_in i l =
        let r = g.has_slot i l in
        subst (λ (z : Slot). In z p.slots) (sym (slot_own r.0 r.1) ∙ ap (slot_of p) r.2) r.1

    module _ (b : Slot) (m : In b p.slots) where
      offset_in_round : offset p b.node < round p
      unfolding offset
      offset_in_round = let u = offset_fits b p.slots m in let v = slot_ticks_one b m in omega arith

      begins_leaves : (t : ℕ) → begins p b.node t ≡ true → t % round p ≡ offset p b.node
      unfolding begins first_beginning
      begins_leaves t e =
          subst (λ (z : ℕ). z % round p ≡ offset p b.node) (eqb-true _ _ e) (next_leaves (round p) (offset p b.node) offset_in_round t)

      -- The first beginning at or after t: it is one, not before t, within a round, and there is none in between.
      pub beginning_begins : (t : ℕ) → begins p b.node (first_beginning p b.node t) ≡ true
      unfolding begins first_beginning
      beginning_begins t =
          let R : ℕ = round p in
          let o : ℕ = offset p b.node in
          eq-eqb _ _ (next_at R o offset_in_round (next R o offset_in_round t) (next_leaves R o offset_in_round t))

      pub beginning_within : (t : ℕ) → (t ≤ first_beginning p b.node t) × (first_beginning p b.node t < t + round p)
      unfolding first_beginning
      beginning_within t = next_within (round p) (offset p b.node) offset_in_round t

      pub beginning_first : (t u : ℕ) → t ≤ u → u < first_beginning p b.node t → begins p b.node u ≡ false
      unfolding first_beginning
      beginning_first t u a l = at (two (begins p b.node u))
        where
          at : (begins p b.node u ≡ true) ⊎ (begins p b.node u ≡ false) → begins p b.node u ≡ false
          at (inl e) = absurd (next_first (round p) (offset p b.node) offset_in_round t u a l (begins_leaves u e))
          at (inr e) = e

    -- At a tick at most one slot begins.
    pub one_slot_a_tick : (a b : Slot) → In a p.slots → In b p.slots → (t : ℕ) → begins p a.node t ≡ true → begins p b.node t ≡ true → a ≡ b
    unfolding offset
    one_slot_a_tick a b m n t x y =
        let same : offset p a.node ≡ offset p b.node = sym (begins_leaves a m t x) ∙ begins_leaves b n t y in
        sym (slot_own a m) ∙ ap (slot_of p) (offset_differs a b p.slots slot_ticks_one m n same) ∙ slot_own b n

    -- A slot that begins after another begins when that has ended.
    pub slots_apart : (a b : Slot) → In a p.slots → In b p.slots → (t u : ℕ) → begins p a.node t ≡ true → begins p b.node u ≡ true → t < u →
        t + slot_ticks p a ≤ u
    unfolding offset slot_of
    slots_apart a b m n t u x y l =
        let R : ℕ = round p in
        let own : slot_ticks p (slot_of p a.node) ≡ slot_ticks p a = ap (slot_ticks p) (slot_own a m) in
        let lt : t % R ≡ offset p a.node = begins_leaves a m t x in
        let lu : u % R ≡ offset p b.node = begins_leaves b n u y in
        let dt : t / R * R + t % R ≡ t = div-add-mod' t R in
        let du : u / R * R + u % R ≡ u = div-add-mod' u R in
        at (two (ltb (t / R) (u / R))) (two (ltb (u / R) (t / R))) own lt lu dt du (offset_fits a p.slots m) (mod-lt u (let v = slot_ticks_one a m in let w = slot_in_round a m in omega arith))
      where
        at : (ltb (t / round p) (u / round p) ≡ true) ⊎ (ltb (t / round p) (u / round p) ≡ false) → (ltb (u / round p) (t / round p) ≡ true) ⊎ (ltb (u / round p) (t / round p) ≡ false) →
            slot_ticks p (slot_of p a.node) ≡ slot_ticks p a → t % round p ≡ offset p a.node → u % round p ≡ offset p b.node →
            t / round p * round p + t % round p ≡ t → u / round p * round p + u % round p ≡ u →
            offset p a.node + slot_ticks p a ≤ round p → u % round p < round p → t + slot_ticks p a ≤ u
        at (inl k) _ own lt lu dt du f s = let v : suc (t / round p) * round p ≤ u / round p * round p = mul-le-mul (ltb-true _ _ k) (omega arith) in omega arith
        at (inr k) (inl j) own lt lu dt du f s = let v : suc (u / round p) * round p ≤ t / round p * round p = mul-le-mul (ltb-true _ _ j) (omega arith) in absurd (omega arith)
        at (inr k) (inr j) own lt lu dt du f s =
            let q : t / round p ≡ u / round p = (let v = ltb-false (t / round p) (u / round p) k in let w = ltb-false (u / round p) (t / round p) j in omega arith) in
            let e : t / round p * round p ≡ u / round p * round p = ap (λ (z : ℕ). z * round p) q in
            let v = offset_apart a.node b.node p.slots (omega arith) in
            omega arith

-- the slots that begin at a tick
pub beginning_in : (p : Lines) (t : ℕ) {b : Slot} → In b (beginning p t) → In b p.slots × (begins p b.node t ≡ true)
unfolding beginning
beginning_in p t m = keep_in (λ s. begins p s.node t) p.slots m

pub in_beginning : (p : Lines) (t : ℕ) {b : Slot} → In b p.slots → begins p b.node t ≡ true → In b (beginning p t)
unfolding beginning
in_beginning p t m e = in_keep (λ s. begins p s.node t) m e
