-- The first beginning of a slot at or after a tick is the first one at or after each tick from there up to it; behind a
-- beginning the next one is a round later; and what arrives with a slot that began before has arrived when another
-- begins.
-- Assumes nothing.
use Rattle.std.specs.Prelude.{if◌then◌else◌}
use Prim.Native.Nat.{ℕ, suc, ◌+◌, ◌-◌, ◌*◌, ◌/◌, ◌%◌, ◌≤◌, ◌<◌}
use mathlib.Core.Path.{◌≡◌, refl, sym, ap, ◌∙◌}
use mathlib.Core.Logic.{◌⊎◌, inl, inr}
use mathlib.Core.Bool.{Bool, true, false}
use native.Mathlib.Nat.{mod-lt, div-add-mod', mul-add-mod_self_right, mod-eq_of_lt}
use native.Mathlib.Omega.{arith}
use lib.Dec.{leb, ltb}
use borrow.Author.Tests.{leb-true, leb-false, le-leb, lt-leb, ltb-true, ltb-false}
use Rattle.lists.proofs.Tests.{two}
use Rattle.bus_timetable.specs.Bus.{beginning_at}
use Rattle.planner_sends.specs.NextSends.{next_send_from, next_round}
use Rattle.plan_index.specs.declared.PlanIndex.{PlanIndex}
use Rattle.planner_combination.specs.Events.{begins_by, Fits}
use Rattle.planner_combination.specs.Kept.{Past, past, under_way}

module _ (R o : ℕ) where
  -- a tick of the round that begins at tick q * R
  in_round : (q w : ℕ) → q * R ≤ w → w < q * R + R → beginning_at R o w ≡ q * R + (if leb (w - q * R) o then o else R + o)
  unfolding beginning_at
  in_round q w a b =
      let g : ℕ = w - q * R in
      let s : w ≡ q * R + g = omega arith in
      let e : w % R ≡ g = ap (λ (z : ℕ). z % R) s ∙ mul-add-mod_self_right q R g ∙ mod-eq_of_lt (omega arith) in
      ap (λ (z : ℕ). (w - z) + (if leb z o then o else R + o)) e ∙ ap (λ (z : ℕ). z + (if leb g o then o else R + o)) (omega arith)

  early : (q w : ℕ) → q * R ≤ w → w ≤ q * R + o → o < R → beginning_at R o w ≡ q * R + o
  early q w a b l =
      in_round q w a (omega arith) ∙ ap (λ (z : Bool). q * R + (if z then o else R + o)) (le-leb (w - q * R) o (omega arith))

  late : (q w : ℕ) → q * R + o < w → w < q * R + R → beginning_at R o w ≡ q * R + (R + o)
  late q w a b =
      in_round q w (omega arith) b ∙ ap (λ (z : Bool). q * R + (if z then o else R + o)) (lt-leb (w - q * R) o (omega arith))

  pub beginning_same : o < R → (t w : ℕ) → t ≤ w → w ≤ beginning_at R o t → beginning_at R o w ≡ beginning_at R o t
  beginning_same l t w a b = at (two (leb (t % R) o)) (two (ltb w (t / R * R + R)))
    where
      s : t / R * R + t % R ≡ t
      s = div-add-mod' t R

      r : t % R < R
      r = mod-lt t (omega arith)

      next : suc (t / R) * R ≡ t / R * R + R
      next = omega arith

      at : (leb (t % R) o ≡ true) ⊎ (leb (t % R) o ≡ false) → (ltb w (t / R * R + R) ≡ true) ⊎ (ltb w (t / R * R + R) ≡ false) → beginning_at R o w ≡ beginning_at R o t
      at (inl e) k =
          let m : t % R ≤ o = leb-true _ _ e in
          let f : beginning_at R o t ≡ t / R * R + o = early (t / R) t (omega (arith, s)) (omega (arith, s, m)) l in
          early (t / R) w (omega (arith, s)) (omega (arith, f)) l ∙ sym f
      at (inr e) (inl k) =
          let m : o < t % R = leb-false _ _ e in
          let f : beginning_at R o t ≡ t / R * R + (R + o) = late (t / R) t (omega (arith, s, m)) (omega (arith, s, r)) in
          late (t / R) w (omega (arith, s, m)) (ltb-true _ _ k) ∙ sym f
      at (inr e) (inr k) =
          let m : o < t % R = leb-false _ _ e in
          let n : t / R * R + R ≤ w = ltb-false _ _ k in
          let f : beginning_at R o t ≡ t / R * R + (R + o) = late (t / R) t (omega (arith, s, m)) (omega (arith, s, r)) in
          early (suc (t / R)) w (omega (arith, next)) (omega (arith, next, f)) l ∙ (let z = next in omega arith) ∙ sym f

  -- behind a beginning the next one is a round later
  pub beginning_next : o < R → (t : ℕ) → beginning_at R o t ≡ t → beginning_at R o (t + 1) ≡ t + R
  beginning_next l t e = at (two (leb (t % R) o)) (two (ltb (o + 1) R))
    where
      s : t / R * R + t % R ≡ t
      s = div-add-mod' t R

      r : t % R < R
      r = mod-lt t (omega arith)

      next : suc (t / R) * R ≡ t / R * R + R
      next = omega arith

      later : t ≡ t / R * R + o → (ltb (o + 1) R ≡ true) ⊎ (ltb (o + 1) R ≡ false) → beginning_at R o (t + 1) ≡ t + R
      later q (inl d) =
          let b : o + 1 < R = ltb-true (o + 1) R d in
          late (t / R) (t + 1) (omega (arith, q)) (omega (arith, q, b)) ∙ omega (arith, q)
      later q (inr d) =
          let b : R ≤ o + 1 = ltb-false (o + 1) R d in
          early (suc (t / R)) (t + 1) (omega (arith, q, next, l, b)) (omega (arith, q, next, b)) l ∙ omega (arith, q, next)

      at : (leb (t % R) o ≡ true) ⊎ (leb (t % R) o ≡ false) → (ltb (o + 1) R ≡ true) ⊎ (ltb (o + 1) R ≡ false) → beginning_at R o (t + 1) ≡ t + R
      at (inl c) k =
          let f : beginning_at R o t ≡ t / R * R + o = early (t / R) t (omega (arith, s)) (omega (arith, s, leb-true (t % R) o c)) l in
          later (omega (arith, f, e)) k
      at (inr c) k =
          let m : o < t % R = leb-false _ _ c in
          let f : beginning_at R o t ≡ t / R * R + (R + o) = late (t / R) t (omega (arith, s, m)) (omega (arith, s, r)) in
          absurd (omega (arith, f, e, s, r))

  -- so the slot that begins at a clock next takes an item a round later
  pub next_round_same : o < R → (u : ℕ) → 1 ≤ u → beginning_at R o (u - 1) ≡ u - 1 → (left : Bool) → next_round R u left ≡ next_send_from R o u left
  unfolding next_round next_send_from
  next_round_same l u a e true =
      let q : u - 1 + 1 ≡ u = omega arith in
      let n : beginning_at R o u ≡ u - 1 + R = ap (beginning_at R o) (sym q) ∙ beginning_next l (u - 1) e in
      omega (arith, n, a)
  next_round_same l u a e false = refl

pub past_later : (b : PlanIndex) (u w x : ℕ) → u ≤ w → Past b u x → Past b w x
past_later b u w x l (past m) = past (omega arith)
past_later b u w x l (under_way n o k e m q) = under_way n o k e (omega arith) q

-- where a slot begins, no other is under way
pub past_ends : (b : PlanIndex) → Fits b → (u x n : ℕ) → 1 ≤ u → n < b.slots → begins_by b.round b.offset (u - 1) n ≡ true → Past b u x → x ≤ u
past_ends b f u x n l m e (past k) = k
past_ends b f u x n l m e (under_way k o j d h q) = let z = f.slots_apart k n o (u - 1) j m d e (omega arith) in omega (arith, z, q)
