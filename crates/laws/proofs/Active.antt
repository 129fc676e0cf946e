-- Who runs: a process may run just where its edges may carry, and is active just where they carry.
-- Assumes nothing.
use Rattle.std.specs.Prelude.{if◌then◌else◌}
use mathlib.Core.Path.{◌≡◌, refl, sym, ap, ◌∙◌}
use mathlib.Core.Bool.{Bool, true, false, ◌&&◌}
use mathlib.Core.List.{List, [], ◌∷◌, ◌++◌, Memᴰ as In}
use Prim.Native.Nat.{ℕ, zero, suc, ◌≤◌, ◌<◌}
use native.Mathlib.Nat.{not-suc-le-zero}
use native.Mathlib.Omega.{arith}
use lib.Dec.{eqb}
use lib.ListN.{length, get_or, length-append, get_or-append}
use borrow.Author.Tests.{eqb-true}
use Rattle.lists.specs.Lists.{any, all}
use Rattle.lists.proofs.Tests.{both, strong, below_suc}
use Rattle.lists.proofs.Members.{keep_in, below_in, any_same, all_same}
use Rattle.lists.proofs.Keep.{getD_last}
use mathlib.Core.Logic.{◌⊎◌, inl, inr}
use Rattle.model.specs.Plan.{Lines, When, always, on, edge, edges, decider, into}
use Rattle.model.specs.Activity.{Heard, heard, unheard, may_be, may_meet, meets, all_heard, conjunction, may_carry, runs_next, may_run_first, may_run, active, carries}
use Rattle.laws.proofs.Good.{Good}

pub into_in : (p : Lines) (i : ℕ) {e : ℕ} → In e (into p i) → (e < length p.edges) × ((edge p e).to ≡ i)
into_in p i m = let r = keep_in (λ e. eqb (edge p e).to i) (edges p) m in (below_in (length p.edges) r.0, eqb-true _ _ r.1)

-- the edges into a process come from lower ones
pub from_below : (p : Lines) → Good p → (i : ℕ) {e : ℕ} → In e (into p i) → (edge p e).from < i
from_below p g i {e} m = let r = into_in p i m in omega (arith, g.upward e r.0, r.1)

runs_next_same : (p : Lines) (h h' : List Heard) (d d' : List Bool) (i : ℕ) →
    ((e : ℕ) → In e (into p i) → may_carry p h d e ≡ may_carry p h' d' e) → runs_next p h d i ≡ runs_next p h' d' i
unfolding runs_next
runs_next_same p h h' d d' i s =
    λ j. if conjunction p i then any_same (may_carry p h d) (may_carry p h' d') (into p i) s j else all_same (may_carry p h d) (may_carry p h' d') (into p i) s j

module _ (p : Lines) (h : List Heard) where
  pub first_length : (n : ℕ) → length (may_run_first p h n) ≡ n
  unfolding may_run_first
  first_length zero = refl
  first_length (suc n) = omega (arith, length-append (may_run_first p h n) (runs_next p h (may_run_first p h n) n ∷ []), first_length n)

  -- more processes leave the answers so far as they are
  first_settled : (n i : ℕ) → i < n → get_or (may_run_first p h (suc n)) i false ≡ get_or (may_run_first p h n) i false
  unfolding may_run_first
  first_settled n i l =
      get_or-append (may_run_first p h n) (runs_next p h (may_run_first p h n) n ∷ []) false i (omega (arith, first_length n))

  first_last : (n : ℕ) → get_or (may_run_first p h (suc n)) n false ≡ runs_next p h (may_run_first p h n) n
  unfolding may_run_first
  first_last n =
      let d : List Bool = may_run_first p h n in
      let x : Bool = runs_next p h d n in
      ap (λ (k : ℕ). get_or (d ++ (x ∷ [])) k false) (sym (first_length n)) ∙ getD_last d x

  module _ (g : Good p) where
    carry_settled : (n i e : ℕ) → i ≤ n → In e (into p i) → may_carry p h (may_run_first p h n) e ≡ may_carry p h (may_run_first p h (suc n)) e
    unfolding may_carry
    carry_settled n i e l m =
        let u = from_below p g i m in
        ap (λ (b : Bool). b && may_meet h (edge p e).when) (sym (first_settled n (edge p e).from (omega arith)))

    first_law : (n i : ℕ) → i < n → get_or (may_run_first p h n) i false ≡ runs_next p h (may_run_first p h n) i
    first_law zero i l = absurd (not-suc-le-zero l)
    first_law (suc n) i l = at (below_suc i n l) (first_law n i)
      where
        next : (i : ℕ) → i ≤ n → runs_next p h (may_run_first p h n) i ≡ runs_next p h (may_run_first p h (suc n)) i
        next i u = runs_next_same p h h (may_run_first p h n) (may_run_first p h (suc n)) i (λ e m. carry_settled n i e u m)

        at : (i < n) ⊎ (i ≡ n) → (i < n → get_or (may_run_first p h n) i false ≡ runs_next p h (may_run_first p h n) i) →
            get_or (may_run_first p h (suc n)) i false ≡ runs_next p h (may_run_first p h (suc n)) i
        at (inl u) r = first_settled n i u ∙ r u ∙ next i (omega arith)
        at (inr q) r =
            ap (λ (k : ℕ). get_or (may_run_first p h (suc n)) k false) q ∙ first_last n ∙ next n (omega arith) ∙ ap (runs_next p h (may_run_first p h (suc n))) (sym q)

    -- whether a process may run is settled by its edges, over the whole list
    pub may_run_law : (i : ℕ) → i < length p.processes → get_or (may_run p h) i false ≡ runs_next p h (may_run p h) i
    unfolding may_run
    may_run_law i l = first_law (length p.processes) i l

pub carries_parts : (p : Lines) (c : List Bool) (e : ℕ) → carries p c e ≡ true → (active p c (edge p e).from ≡ true) × (meets (all_heard c) (edge p e).when ≡ true)
unfolding carries
carries_parts p c e h = both (active p c (edge p e).from) (meets (all_heard c) (edge p e).when) h

pub heard_all : (c : List Bool) (k : ℕ) → k < length c → get_or (all_heard c) k unheard ≡ heard (get_or c k false)
heard_all [] k l = absurd (not-suc-le-zero l)
heard_all (v ∷ c) zero l = refl
heard_all (v ∷ c) (suc k) l = heard_all c k (omega arith)

-- where everything is heard, what may be met is met
may_meet_all : (c : List Bool) (w : When) → ((v : Bool) (k : ℕ) → w ≡ on v k → k < length c) → may_meet (all_heard c) w ≡ meets (all_heard c) w
may_meet_all c always b = refl
may_meet_all c (on v k) b = let q = heard_all c k (b v k refl) in rw q

module _ (p : Lines) (c : List Bool) (g : Good p) (count : length c ≡ length p.conditions) where
  carry_same : (e : ℕ) → e < length p.edges → may_carry p (all_heard c) (may_run p (all_heard c)) e ≡ carries p c e
  unfolding may_carry carries active
  carry_same e l =
      ap (λ (b : Bool). get_or (may_run p (all_heard c)) (edge p e).from false && b)
      (may_meet_all c (edge p e).when (λ v k q. let r = (g.decided e l v k q).0 in omega arith))

  -- a process is active if all, or for `any` at least one, of its edges carry
  pub active_law : (i : ℕ) → i < length p.processes → active p c i ≡ (if conjunction p i then any (carries p c) (into p i) else all (carries p c) (into p i))
  unfolding active runs_next
  active_law i l =
      let f : ℕ → Bool = may_carry p (all_heard c) (may_run p (all_heard c)) in
      let s : (e : ℕ) → In e (into p i) → f e ≡ carries p c e = λ e m. carry_same e (into_in p i m).0 in
      may_run_law p (all_heard c) g i l
      ∙ (λ j. if conjunction p i then any_same f (carries p c) (into p i) s j else all_same f (carries p c) (into p i) s j)

  -- Where every condition that an active process up to i decides is heard, what may run up to i is what is active.
  pub may_run_active : (h : List Heard) (i : ℕ) →
      ((k : ℕ) → k < length p.conditions → decider p k < i → active p c (decider p k) ≡ true → get_or h k unheard ≡ heard (get_or c k false)) →
      (j : ℕ) → j ≤ i → j < length p.processes → get_or (may_run p h) j false ≡ active p c j
  unfolding active may_carry
  may_run_active h i hears = strong (λ j. j ≤ i → j < length p.processes → get_or (may_run p h) j false ≡ active p c j) step
    where
      meet : (b : Bool) (w : When) → ((v : Bool) (k : ℕ) → w ≡ on v k → b ≡ true → get_or h k unheard ≡ get_or (all_heard c) k unheard) →
          (b && may_meet h w) ≡ (b && may_meet (all_heard c) w)
      meet true always f = refl
      meet true (on v k) f = ap (λ (y : Heard). may_be y v) (f v k refl refl)
      meet false w f = refl

      step : (j : ℕ) → ((k : ℕ) → k < j → k ≤ i → k < length p.processes → get_or (may_run p h) k false ≡ active p c k) → j ≤ i → j < length p.processes → get_or (may_run p h) j false ≡ active p c j
      step j r u l =
          may_run_law p h g j l
          ∙ runs_next_same p h (all_heard c) (may_run p h) (may_run p (all_heard c)) j same
          ∙ sym (may_run_law p (all_heard c) g j l)
        where
          same : (e : ℕ) → In e (into p j) → may_carry p h (may_run p h) e ≡ may_carry p (all_heard c) (may_run p (all_heard c)) e
          same e m =
              let n = into_in p j m in
              let up : (edge p e).from < j = from_below p g j m in
              let f : ℕ = (edge p e).from in
              ap (λ (b : Bool). b && may_meet h (edge p e).when) (r f up (omega arith) (g.from_in e n.0))
              ∙ meet (active p c f) (edge p e).when (λ v k q a.
              let d = g.decided e n.0 v k q in
              hears k d.0 (let z : decider p k ≡ f = d.1 in omega arith) (ap (active p c) d.1 ∙ a) ∙ sym (heard_all c k (let z = d.0 in omega arith)))
