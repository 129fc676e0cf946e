-- At which nodes the items of a slot arrive: a node stays as it was or is reached at the slot's end, and the receivers
-- of what it carries are.
-- Assumes nothing.
use Rattle.std.specs.Prelude.{if◌then◌else◌}
use Prim.Native.Nat.{ℕ, zero, suc, ◌+◌, ◌-◌, ◌≤◌, ◌<◌}
use mathlib.Core.Path.{◌≡◌, refl, sym, ap, ◌∙◌}
use mathlib.Core.Logic.{◌⊎◌, inl, inr}
use mathlib.Core.Bool.{Bool, true, false}
use mathlib.Core.List.Memᴰ.{head as here}
use mathlib.Core.List.Memᴰ.{not-nil as in_none}
use mathlib.Core.List.Memᴰ.{tail as there}
use mathlib.Core.List.{List, [], ◌∷◌, Memᴰ as In}
use native.Mathlib.Omega.{arith}
use lib.Dec.{eqb}
use lib.ListN.{length, get_or, set, length-set}
use lib.Seq.{get_or-set_other}
use borrow.Author.Tests.{eqb-true, eq-eqb}
use Rattle.lists.proofs.Tests.{below_suc}
use Rattle.planner_dispatch.proofs.Ends.{set_there}
use Rattle.planner_sends.proofs.Rows.{set_either}
use Rattle.planner_sends.specs.Packing.{arrive_all, arrive_one, arrive_each, arrive_by}

-- an item arrives at every node
all_either : (end n : ℕ) (s : List ℕ) (k : ℕ) → (get_or (arrive_all end n s) k 0 ≡ get_or s k 0) ⊎ (get_or (arrive_all end n s) k 0 ≡ end)
unfolding arrive_all
all_either end zero s k = inl refl
all_either end (suc n) s k = at (set_either (arrive_all end n s) n end k) (all_either end n s k)
  where
    at : (get_or (set (arrive_all end n s) n end) k 0 ≡ get_or (arrive_all end n s) k 0) ⊎ (get_or (set (arrive_all end n s) n end) k 0 ≡ end) → (get_or (arrive_all end n s) k 0 ≡ get_or s k 0) ⊎ (get_or (arrive_all end n s) k 0 ≡ end) →
        (get_or (set (arrive_all end n s) n end) k 0 ≡ get_or s k 0) ⊎ (get_or (set (arrive_all end n s) n end) k 0 ≡ end)
    at (inr q) h = inr q
    at (inl q) (inl h) = inl (q ∙ h)
    at (inl q) (inr h) = inr (q ∙ h)

all_long : (end n : ℕ) (s : List ℕ) → length (arrive_all end n s) ≡ length s
unfolding arrive_all
all_long end zero s = refl
all_long end (suc n) s = length-set (arrive_all end n s) n end ∙ all_long end n s

all_reaches : (end n : ℕ) (s : List ℕ) → n ≤ length s → (k : ℕ) → k < n → get_or (arrive_all end n s) k 0 ≡ end
unfolding arrive_all
all_reaches end zero s l k m = absurd (omega arith)
all_reaches end (suc n) s l k m = at (below_suc k n m) (all_reaches end n s (omega arith) k)
  where
    at : (k < n) ⊎ (k ≡ n) → (k < n → get_or (arrive_all end n s) k 0 ≡ end) → get_or (set (arrive_all end n s) n end) k 0 ≡ end
    at (inl j) h = get_or-set_other (arrive_all end n s) n k end 0 (λ q. omega arith) ∙ h j
    at (inr q) h = set_there (arrive_all end n s) n k end (omega (arith, all_long end n s)) q

-- the receiver of one message is, if the message arrives then
one_either : (come to end : ℕ) (s : List ℕ) (k : ℕ) → (get_or (arrive_one come to end s) k 0 ≡ get_or s k 0) ⊎ ((get_or (arrive_one come to end s) k 0 ≡ end) × (come ≡ end))
unfolding arrive_one
one_either come to end s k = at (eqb come end) refl
  where
    by : (eqb come end ≡ true) → (get_or (set s (to - 1) end) k 0 ≡ get_or s k 0) ⊎ (get_or (set s (to - 1) end) k 0 ≡ end) →
        (get_or (set s (to - 1) end) k 0 ≡ get_or s k 0) ⊎ ((get_or (set s (to - 1) end) k 0 ≡ end) × (come ≡ end))
    by e (inl q) = inl q
    by e (inr q) = inr (q, eqb-true come end e)

    at : (b : Bool) → eqb come end ≡ b → (get_or (if b then set s (to - 1) end else s) k 0 ≡ get_or s k 0) ⊎ ((get_or (if b then set s (to - 1) end else s) k 0 ≡ end) × (come ≡ end))
    at true e = by e (set_either s (to - 1) end k)
    at false e = inl refl

one_long : (come to end : ℕ) (s : List ℕ) → length (arrive_one come to end s) ≡ length s
unfolding arrive_one
one_long come to end s = at (eqb come end)
  where
    at : (b : Bool) → length (if b then set s (to - 1) end else s) ≡ length s
    at true = length-set s (to - 1) end
    at false = refl

one_reaches : (come to end : ℕ) (s : List ℕ) (k : ℕ) → come ≡ end → to ≡ suc k → k < length s → get_or (arrive_one come to end s) k 0 ≡ end
unfolding arrive_one
one_reaches come to end s k q e l = rw (eq-eqb come end q) (set_there s (to - 1) k end (omega arith) (omega arith))

module _ (processes : ℕ) (remote comes : List ℕ) (end : ℕ) where
  abbrev each : List ℕ → List ℕ → List ℕ
  each = arrive_each processes remote comes end

  abbrev one : ℕ → List ℕ → List ℕ
  one e s = arrive_one (get_or comes (processes + e) 0) (get_or remote e 0) end s

  abbrev Arrived : List ℕ → Type 0
  Arrived es = (e : ℕ) × In e es × (get_or comes (processes + e) 0 ≡ end)

  each_either : (es s : List ℕ) (k : ℕ) → (get_or (each es s) k 0 ≡ get_or s k 0) ⊎ ((get_or (each es s) k 0 ≡ end) × Arrived es)
  unfolding arrive_each
  each_either [] s k = inl refl
  each_either (e ∷ es) s k = at (each_either es (one e s) k) (one_either (get_or comes (processes + e) 0) (get_or remote e 0) end s k)
    where
      at : (get_or (each es (one e s)) k 0 ≡ get_or (one e s) k 0) ⊎ ((get_or (each es (one e s)) k 0 ≡ end) × Arrived es) →
          (get_or (one e s) k 0 ≡ get_or s k 0) ⊎ ((get_or (one e s) k 0 ≡ end) × (get_or comes (processes + e) 0 ≡ end)) →
          (get_or (each es (one e s)) k 0 ≡ get_or s k 0) ⊎ ((get_or (each es (one e s)) k 0 ≡ end) × Arrived (e ∷ es))
      at (inr q) h = inr (q.0, (q.1.0, there q.1.1, q.1.2))
      at (inl q) (inl h) = inl (q ∙ h)
      at (inl q) (inr h) = inr (q ∙ h.0, (e, here refl, h.1))

  each_long : (es s : List ℕ) → length (each es s) ≡ length s
  unfolding arrive_each
  each_long [] s = refl
  each_long (e ∷ es) s = each_long es (one e s) ∙ one_long (get_or comes (processes + e) 0) (get_or remote e 0) end s

  each_reaches : (es s : List ℕ) (e k : ℕ) → In e es → get_or comes (processes + e) 0 ≡ end → get_or remote e 0 ≡ suc k → k < length s → get_or (each es s) k 0 ≡ end
  unfolding arrive_each
  each_reaches [] s e k m q t l = absurd (in_none m)
  each_reaches (d ∷ es) s e k (here w) q t l = at (each_either es (one d s) k)
    where
      now : get_or (one d s) k 0 ≡ end
      now = one_reaches (get_or comes (processes + d) 0) (get_or remote d 0) end s k (ap (λ (z : ℕ). get_or comes (processes + z) 0) (sym w) ∙ q) (ap (λ (z : ℕ). get_or remote z 0) (sym w) ∙ t) l

      at : (get_or (each es (one d s)) k 0 ≡ get_or (one d s) k 0) ⊎ ((get_or (each es (one d s)) k 0 ≡ end) × Arrived es) → get_or (each es (one d s)) k 0 ≡ end
      at (inl h) = h ∙ now
      at (inr h) = h.0
  each_reaches (d ∷ es) s e k (there m) q t l =
      each_reaches es (one d s) e k m q t (omega (arith, one_long (get_or comes (processes + d) 0) (get_or remote d 0) end s))

  module _ (slots broadcastend : ℕ) (es s : List ℕ) where
    -- where a broadcast arrives, first
    abbrev first : Bool → List ℕ
    first b = if b then arrive_all end slots s else s

    first_either : (b : Bool) (k : ℕ) → (get_or (first b) k 0 ≡ get_or s k 0) ⊎ ((get_or (first b) k 0 ≡ end) × (b ≡ true))
    first_either false k = inl refl
    first_either true k = at (all_either end slots s k)
      where
        at : (get_or (arrive_all end slots s) k 0 ≡ get_or s k 0) ⊎ (get_or (arrive_all end slots s) k 0 ≡ end) → (get_or (arrive_all end slots s) k 0 ≡ get_or s k 0) ⊎ ((get_or (arrive_all end slots s) k 0 ≡ end) × (true ≡ true))
        at (inl q) = inl q
        at (inr q) = inr (q, refl)

    first_long : (b : Bool) → length (first b) ≡ length s
    first_long true = all_long end slots s
    first_long false = refl

    -- an arrival is noted at a node only where a broadcast or a message arrives
    pub arrive_either : (k : ℕ) →
        (get_or (arrive_by processes remote comes end slots broadcastend es s) k 0 ≡ get_or s k 0)
        ⊎ ((get_or (arrive_by processes remote comes end slots broadcastend es s) k 0 ≡ end) × ((broadcastend ≡ end) ⊎ ((e : ℕ) × In e es × (get_or comes (processes + e) 0 ≡ end))))
    unfolding arrive_by
    arrive_either k = at (each_either es (first (eqb broadcastend end)) k) (first_either (eqb broadcastend end) k)
      where
        at : (get_or (each es (first (eqb broadcastend end))) k 0 ≡ get_or (first (eqb broadcastend end)) k 0) ⊎ ((get_or (each es (first (eqb broadcastend end))) k 0 ≡ end) × Arrived es) →
            (get_or (first (eqb broadcastend end)) k 0 ≡ get_or s k 0) ⊎ ((get_or (first (eqb broadcastend end)) k 0 ≡ end) × (eqb broadcastend end ≡ true)) →
            (get_or (each es (first (eqb broadcastend end))) k 0 ≡ get_or s k 0) ⊎ ((get_or (each es (first (eqb broadcastend end))) k 0 ≡ end) × ((broadcastend ≡ end) ⊎ Arrived es))
        at (inr q) h = inr (q.0, inr q.1)
        at (inl q) (inl h) = inl (q ∙ h)
        at (inl q) (inr h) = inr (q ∙ h.0, inl (eqb-true broadcastend end h.1))

    pub arrive_long : length (arrive_by processes remote comes end slots broadcastend es s) ≡ length s
    unfolding arrive_by
    arrive_long = each_long es (first (eqb broadcastend end)) ∙ first_long (eqb broadcastend end)

    pub arrive_broadcast : broadcastend ≡ end → slots ≤ length s → (k : ℕ) → k < slots → get_or (arrive_by processes remote comes end slots broadcastend es s) k 0 ≡ end
    unfolding arrive_by
    arrive_broadcast q n k l = at (each_either es (first (eqb broadcastend end)) k)
      where
        now : get_or (first (eqb broadcastend end)) k 0 ≡ end
        now = ap (λ (b : Bool). get_or (first b) k 0) (eq-eqb broadcastend end q) ∙ all_reaches end slots s n k l

        at : (get_or (each es (first (eqb broadcastend end))) k 0 ≡ get_or (first (eqb broadcastend end)) k 0) ⊎ ((get_or (each es (first (eqb broadcastend end))) k 0 ≡ end) × Arrived es) → get_or (each es (first (eqb broadcastend end))) k 0 ≡ end
        at (inl h) = h ∙ now
        at (inr h) = h.0

    pub arrive_reaches : slots ≤ length s → (e k : ℕ) → In e es → get_or comes (processes + e) 0 ≡ end → get_or remote e 0 ≡ suc k → k < slots → get_or (arrive_by processes remote comes end slots broadcastend es s) k 0 ≡ end
    unfolding arrive_by
    arrive_reaches n e k m q t l = each_reaches es (first (eqb broadcastend end)) e k m q t (omega (arith, first_long (eqb broadcastend end)))
