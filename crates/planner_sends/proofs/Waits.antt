-- The messages that wait, node by node: what is listed anew for one node stands there, and what stands for the others
-- stays.
-- Assumes nothing.
use Prim.Native.Nat.{ℕ, zero, suc, ◌+◌, ◌≤◌, ◌<◌}
use mathlib.Core.Path.{◌≡◌, sym, ap, ◌∙◌, subst}
use mathlib.Core.Logic.{◌⊎◌, inl, inr}
use mathlib.Core.Bool.{Bool, true, false, not, ◌||◌}
use mathlib.Core.List.Memᴰ.{head as here}
use mathlib.Core.List.Memᴰ.{not-nil as in_none}
use mathlib.Core.List.Memᴰ.{tail as there}
use mathlib.Core.List.{List, [], ◌∷◌, Memᴰ as In}
use native.Mathlib.Numerals.{add-one}
use native.Mathlib.Omega.{arith}
use lib.Dec.{eqb, ltb}
use lib.ListN.{length, get_or, length-set}
use lib.Seq.{get_or-set_same, get_or-set_other}
use borrow.Author.Tests.{eqb-true, eqb-false, ltb-true, ltb-false}
use Rattle.lists.proofs.Tests.{two, clash, below_suc}
use Rattle.lists.specs.Lists.{any, keep, null}
use Rattle.lists.proofs.Members.{keep_in}
use Rattle.log_queries.specs.Reading.{part, Within}
use Rattle.log_queries.proofs.ArrayParts.{part_end, part_next, part_in}
use Rattle.planner_sends.specs.Packing.{Listed}
use Rattle.planner_sends.proofs.Places.{part_same, listed_small}
use Rattle.planner_sends.proofs.Scan.{keep_some}
use Rattle.planner_sends.specs.NextSends.{Waiting, Roomy, Relisted, UpdatedNode, Updated}

-- the messages that wait are those of edges
pub waiting_small : (from knownby queue : List ℕ) → Within from knownby queue → (f : ℕ → Bool) (a b x : ℕ) → In x (keep f (part queue a b)) → x < 128
waiting_small from knownby queue w f a b x m =
    let p = part_in queue a b (keep_in f (part queue a b) m).0 in
    omega (arith, p.3, w.edges p.0)

-- some message waits just where one is listed
pub some_waits : (f : ℕ → Bool) (es wait wait' : List ℕ) (a z : ℕ) → Listed wait wait' a z (keep f es) → a < z → any f es ≡ true
some_waits f es wait wait' a z h l = sym (keep_some f es) ∙ ap (λ (xs : List ℕ). not (null xs)) (sym h.holds ∙ part_next wait' a z l)

pub none_waits : (f : ℕ → Bool) (es wait wait' : List ℕ) (a z : ℕ) → Listed wait wait' a z (keep f es) → z ≤ a → any f es ≡ false
none_waits f es wait wait' a z h l = sym (keep_some f es) ∙ ap (λ (xs : List ℕ). not (null xs)) (sym h.holds ∙ part_end wait' a z l)

-- the nodes one after another: those of a list are still to be looked up
pub record Updating (queuefirst : List ℕ) (slots broadcastend u : ℕ) (busy : List ℕ) (messages : ℕ → List ℕ) (wait waitend left wait' waitend' : List ℕ) : Type 0 where
  pub roomy : Roomy wait' waitend'
  pub looked : (i : ℕ) → i < slots → (In i left → ⊥) → (eqb broadcastend u || eqb (get_or busy i 0) u) ≡ true → Waiting queuefirst wait' waitend' i (messages i)
  pub kept : (i : ℕ) → i < slots → In i left ⊎ ((eqb broadcastend u || eqb (get_or busy i 0) u) ≡ false) → (ms : List ℕ) → Waiting queuefirst wait waitend i ms → Waiting queuefirst wait' waitend' i ms

-- the same with equal names
pub updating_as : {queuefirst : List ℕ} {slots broadcastend u : ℕ} {busy : List ℕ} {messages : ℕ → List ℕ} {wait waitend left wait₁ waitend₁ wait₂ waitend₂ : List ℕ} → wait₂ ≡ wait₁ → waitend₂ ≡ waitend₁ →
    Updating queuefirst slots broadcastend u busy messages wait waitend left wait₁ waitend₁ → Updating queuefirst slots broadcastend u busy messages wait waitend left wait₂ waitend₂
updating_as {queuefirst} {slots} {broadcastend} {u} {busy} {messages} {wait} {waitend} {left} {wait₁} {waitend₁} {wait₂} {waitend₂} p q h =
    subst (λ (xs : List ℕ). Updating queuefirst slots broadcastend u busy messages wait waitend left xs waitend₂) (sym p) (subst (Updating queuefirst slots broadcastend u busy messages wait waitend left wait₁) (sym q) h)

-- places of the queue rise from node to node
module _ (queuefirst : List ℕ) (slots : ℕ) (rising : (n : ℕ) → n < slots → get_or queuefirst n 0 ≤ get_or queuefirst (n + 1) 0) where
  rises : (i n : ℕ) → i < n → n ≤ slots → get_or queuefirst (i + 1) 0 ≤ get_or queuefirst n 0
  rises i zero l m = absurd (omega arith)
  rises i (suc n) l m = at (below_suc i n l) (λ o. rises i n o (omega arith))
    where
      step : get_or queuefirst n 0 ≤ get_or queuefirst (suc n) 0
      step = subst (λ (k : ℕ). get_or queuefirst n 0 ≤ get_or queuefirst k 0) (add-one n) (rising n (omega arith))

      at : (i < n) ⊎ (i ≡ n) → (i < n → get_or queuefirst (i + 1) 0 ≤ get_or queuefirst n 0) → get_or queuefirst (i + 1) 0 ≤ get_or queuefirst (suc n) 0
      at (inl o) h = omega (arith, h o, step)
      at (inr q) h = omega (arith, ap (λ (k : ℕ). get_or queuefirst k 0) (ap (λ (k : ℕ). k + 1) q ∙ add-one n))

  module _ (n : ℕ) (messages wait waitend wait' waitend' : List ℕ) (r : Relisted queuefirst n messages wait waitend wait' waitend') where
    pub relisted_own : n < length waitend → Waiting queuefirst wait' waitend' n messages
    relisted_own l =
        let q : get_or waitend' n 0 ≡ r.end = ap (λ (xs : List ℕ). get_or xs n 0) r.stored ∙ get_or-set_same waitend n r.end 0 l in
        record {
          begins = omega (arith, q, r.listed.from);
          ends = omega (arith, q, r.upto);
          holds = ap (part wait' (get_or queuefirst n 0)) q ∙ r.listed.holds;
        }

    pub relisted_other : n < slots → (i : ℕ) → i < slots → (i ≡ n → ⊥) → (ms : List ℕ) → Waiting queuefirst wait waitend i ms → Waiting queuefirst wait' waitend' i ms
    relisted_other m i l d ms w = at (two (ltb i n))
      where
        q : get_or waitend' i 0 ≡ get_or waitend i 0
        q = ap (λ (xs : List ℕ). get_or xs i 0) r.stored ∙ get_or-set_other waitend n i r.end 0 d

        same : ((j : ℕ) → get_or queuefirst i 0 ≤ j → j < get_or waitend i 0 → get_or wait' j 0 ≡ get_or wait j 0) → Waiting queuefirst wait' waitend' i ms
        same h =
            record {
              begins = omega (arith, q, w.begins);
              ends = omega (arith, q, w.ends);
              holds = ap (part wait' (get_or queuefirst i 0)) q ∙ part_same wait' wait (get_or queuefirst i 0) (get_or waitend i 0) h ∙ w.holds;
            }

        at : (ltb i n ≡ true) ⊎ (ltb i n ≡ false) → Waiting queuefirst wait' waitend' i ms
        at (inl e) = same (λ j lo hi. r.listed.under j (omega (arith, w.ends, rises i n (ltb-true _ _ e) (omega arith))))
        at (inr e) =
            let o : n ≤ i = ltb-false _ _ e in
            same (λ j lo hi. r.listed.past j (omega (arith, r.upto, rises n i (omega (arith, d)) (omega arith))))

    pub relisted_roomy : Roomy wait waitend → ((x : ℕ) → In x messages → x < 128) → Roomy wait' waitend'
    relisted_roomy h small =
        record {
          wait_long = r.listed.long ∙ h.wait_long;
          wait_small = listed_small wait wait' (get_or queuefirst n 0) r.end messages r.listed 128 h.wait_small small;
          ends_long = ap length r.stored ∙ length-set waitend n r.end ∙ h.ends_long;
        }

  -- one node after another
  module _ (broadcastend u : ℕ) (busy : List ℕ) (messages : ℕ → List ℕ) (small : (i x : ℕ) → In x (messages i) → x < 128) (few : slots ≤ 8) (wait waitend : List ℕ) where
    abbrev changes : ℕ → Bool
    changes i = eqb broadcastend u || eqb (get_or busy i 0) u

    pub updating_start : (left : List ℕ) → Roomy wait waitend → ((i : ℕ) → i < slots → (In i left → ⊥) → (eqb broadcastend u || eqb (get_or busy i 0) u) ≡ false) → Updating queuefirst slots broadcastend u busy messages wait waitend left wait waitend
    updating_start left h nothing_new = record { roomy = h; looked = λ i l d c. clash c (nothing_new i l d); kept = λ i l c ms w. w }

    -- one node less, for which nothing changed
    pub updating_past : (n : ℕ) (left wait₁ waitend₁ : List ℕ) → (n < slots → (eqb broadcastend u || eqb (get_or busy n 0) u) ≡ false) → Updating queuefirst slots broadcastend u busy messages wait waitend (n ∷ left) wait₁ waitend₁ →
        Updating queuefirst slots broadcastend u busy messages wait waitend left wait₁ waitend₁
    updating_past n left wait₁ waitend₁ q h =
        record {
          roomy = h.roomy;
          looked = λ i l d c. h.looked i l (apart i l d c) c;
          kept = λ i l c ms w. h.kept i l (before i c) ms w;
        }
      where
        apart : (i : ℕ) → i < slots → (In i left → ⊥) → changes i ≡ true → In i (n ∷ left) → ⊥
        apart i l d c (here e) = absurd (clash c (ap changes e ∙ q (subst (λ (k : ℕ). k < slots) e l)))
        apart i l d c (there m) = d m

        before : (i : ℕ) → In i left ⊎ (changes i ≡ false) → In i (n ∷ left) ⊎ (changes i ≡ false)
        before i (inl m) = inl (there m)
        before i (inr c) = inr c

    -- one node less, which was looked up
    pub updating_next : (n : ℕ) (left wait₁ waitend₁ wait₂ waitend₂ : List ℕ) → n < slots → (In n left → ⊥) → Updating queuefirst slots broadcastend u busy messages wait waitend (n ∷ left) wait₁ waitend₁ →
        UpdatedNode broadcastend u busy queuefirst n (messages n) wait₁ waitend₁ wait₂ waitend₂ → Updating queuefirst slots broadcastend u busy messages wait waitend left wait₂ waitend₂
    updating_next n left wait₁ waitend₁ wait₂ waitend₂ l once h g = at (two (changes n))
      where
        at : (changes n ≡ true) ⊎ (changes n ≡ false) → Updating queuefirst slots broadcastend u busy messages wait waitend left wait₂ waitend₂
        at (inr e) =
            let q = g.kept e in
            subst (λ (xs : List ℕ). Updating queuefirst slots broadcastend u busy messages wait waitend left xs waitend₂) (sym q.0)
            (subst (Updating queuefirst slots broadcastend u busy messages wait waitend left wait₁) (sym q.1) (updating_past n left wait₁ waitend₁ (λ o. e) h))
        at (inl e) =
            let r = g.looked e in
            record {
              roomy = relisted_roomy n (messages n) wait₁ waitend₁ wait₂ waitend₂ r h.roomy (small n);
              looked = λ i o d c. first i o d c (two (eqb i n));
              kept = λ i o c ms w. relisted_other n (messages n) wait₁ waitend₁ wait₂ waitend₂ r l i o (apart i c) ms (h.kept i o (before i c) ms w);
            }
          where
            first : (i : ℕ) → i < slots → (In i left → ⊥) → changes i ≡ true → (eqb i n ≡ true) ⊎ (eqb i n ≡ false) → Waiting queuefirst wait₂ waitend₂ i (messages i)
            first i o d c (inl z) =
                subst (λ (k : ℕ). Waiting queuefirst wait₂ waitend₂ k (messages k)) (sym (eqb-true i n z)) (relisted_own n (messages n) wait₁ waitend₁ wait₂ waitend₂ (g.looked e) (omega (arith, h.roomy.ends_long)))
            first i o d c (inr z) =
                let v : i ≡ n → ⊥ = eqb-false i n z in
                relisted_other n (messages n) wait₁ waitend₁ wait₂ waitend₂ (g.looked e) l i o v (messages i) (h.looked i o (other v) c)
              where
                other : (i ≡ n → ⊥) → In i (n ∷ left) → ⊥
                other v (here q) = v q
                other v (there m) = d m

            apart : (i : ℕ) → In i left ⊎ (changes i ≡ false) → i ≡ n → ⊥
            apart i (inl m) q = once (subst (λ (k : ℕ). In k left) q m)
            apart i (inr c) q = clash e (ap changes (sym q) ∙ c)

            before : (i : ℕ) → In i left ⊎ (changes i ≡ false) → In i (n ∷ left) ⊎ (changes i ≡ false)
            before i (inl m) = inl (there m)
            before i (inr c) = inr c

    pub updating_end : (left wait₁ waitend₁ : List ℕ) → left ≡ [] → Updating queuefirst slots broadcastend u busy messages wait waitend left wait₁ waitend₁ → Updated broadcastend u busy queuefirst slots messages wait waitend wait₁ waitend₁
    updating_end left wait₁ waitend₁ q h =
        record {
          roomy = h.roomy;
          looked = λ i l c. h.looked i l (λ m. in_none (subst (λ (xs : List ℕ). In i xs) q m)) c;
          kept = λ i l c ms w. h.kept i l (inr c) ms w;
        }
