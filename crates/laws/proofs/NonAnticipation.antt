-- Non-anticipation: combinations that agree on what is known at a tick have the same state up to that tick and after
-- it.
-- Assumes nothing.
use Rattle.std.specs.Prelude.{if◌then◌else◌}
use mathlib.Core.Path.{◌≡◌, refl, ap, ◌∙◌}
use mathlib.Core.Bool.{Bool, true, false}
use mathlib.Core.List.{List}
use Prim.Native.Nat.{ℕ, zero, suc, ◌<◌}
use native.Mathlib.Omega.{arith}
use lib.ListN.{length, get_or}
use Rattle.lists.proofs.Keep.{map_upfrom}
use Rattle.model.specs.Plan.{Lines}
use Rattle.model.specs.Activity.{Heard, heard, unheard, may_run}
use Rattle.model.specs.Bus.{condition_row}
use Rattle.model.specs.Log.{Log, placed, full_ticks, known}
use Rattle.model.specs.Planning.{View, view, State, step, before}
use Rattle.laws.proofs.Rows.{over_in, in_over, done_by}
use Rattle.laws.proofs.Steps.{log_at, in_old}

-- two combinations agree on the conditions whose rows are over
abbrev pub AgreeOn : Lines → List Bool → List Bool → (ℕ → Bool) → Type 0
AgreeOn p c d done = (k : ℕ) → k < length p.conditions → done (condition_row p k) ≡ true → get_or c k false ≡ get_or d k false

-- they agree on what is known at a tick
abbrev pub Agree : Lines → List Bool → List Bool → Log → ℕ → Type 0
Agree p c d log t = AgreeOn p c d (done_by p log t)

module _ (p : Lines) (c d : List Bool) where
  pub known_agree : (done : ℕ → Bool) → AgreeOn p c d done → known p c done ≡ known p d done
  unfolding known
  known_agree done a = map_upfrom _ _ 0 (length p.conditions) (λ k lo hi. value (done (condition_row p k)) k (a k (omega arith)))
    where
      value : (b : Bool) (k : ℕ) → (b ≡ true → get_or c k false ≡ get_or d k false) → (if b then heard (get_or c k false) else unheard) ≡ (if b then heard (get_or d k false) else unheard)
      value true k e = ap heard (e refl)
      value false k e = refl

  view_agree : (log : Log) (t : ℕ) → Agree p c d log t → view p c log t ≡ view p d log t
  unfolding view
  view_agree log t a =
      ap {B = View} (λ (h : List Heard). record { heard = h; runs = may_run p h; over = done_by p log t; placed = placed log }) (known_agree (done_by p log t) a)

  next : (t : ℕ) → before p c t ≡ before p d t → Agree p c d (log_at p c t) t → before p c (suc t) ≡ before p d (suc t)
  unfolding before
  next t e a =
      ap (λ (v : View). step p v t (before p c t)) (view_agree (log_at p c t) t a)
      ∙ ap (λ (s : State). step p (view p d s.log t) t s) e

  earlier : (t : ℕ) → Agree p c d (log_at p c (suc t)) (suc t) → Agree p c d (log_at p c t) t
  earlier t a k l h =
      let m = over_in p (full_ticks p) (log_at p c t) t (condition_row p k) h in
      a k l (in_over p (full_ticks p) (suc t) (condition_row p k) (in_old p c t m.0 m.1) m.2 (let u = m.3 in omega arith))

  pub same_before : (t : ℕ) → Agree p c d (log_at p c t) t → before p c t ≡ before p d t
  unfolding before
  same_before zero a = refl
  same_before (suc t) a = next t (same_before t (earlier t a)) (earlier t a)

  pub non_anticipation : (t : ℕ) → Agree p c d (log_at p c t) t → before p c (suc t) ≡ before p d (suc t)
  non_anticipation t a = next t (same_before t a) a
