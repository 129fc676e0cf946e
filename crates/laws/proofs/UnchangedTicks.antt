-- A tick at which nothing more is over than at the last one planned, and no slot with a waiting item begins, changes
-- nothing.
-- Assumes nothing.
use mathlib.Core.Path.{◌≡◌, refl, sym, ap, ◌∙◌, subst}
use mathlib.Core.Bool.{Bool, true, false}
use mathlib.Core.List.Memᴰ.{append_left as in_left}
use mathlib.Core.List.Memᴰ.{append_right as in_right}
use mathlib.Core.List.Memᴰ.{not-nil as in_none}
use mathlib.Core.List.{List, [], ◌++◌, map, Memᴰ as In}
use Prim.Native.Nat.{ℕ, zero, suc, ◌+◌, ◌<◌}
use native.Mathlib.Nat.{zero-add, suc-add}
use native.Mathlib.Omega.{arith}
use lib.Dec.{ltb}
use lib.ListN.{length}
use Rattle.lists.specs.Lists.{keep}
use Rattle.lists.proofs.Tests.{clash, is_false}
use Rattle.lists.proofs.Members.{no_members, each_in, keep_in}
use Rattle.model.specs.Plan.{Lines, Slot, unit}
use Rattle.model.specs.Bus.{beginning}
use Rattle.model.specs.Log.{Placed, Log, placed, full_ticks}
use Rattle.model.specs.Planning.{View, view, never, comes, ready, free, starts, pending, pack, takes, passes_over, sends, State, step, before}
use Rattle.laws.proofs.Rows.{placed_in, in_placed, over_placed, done_by}
use Rattle.laws.proofs.Steps.{free_over, over_free, starts_in, in_starts, seen}

-- Where no process starts and no slot that begins has an item waiting, a step changes nothing.
pub idle_step : (p : Lines) (v : View) (t : ℕ) (s : State) → starts p v t ≡ [] → ((b : Slot) → In b (beginning p t) → pending p v b.node ≡ []) → step p v t s ≡ s
unfolding step sends takes pack passes_over
idle_step p v t s still empty =
    let sent : sends p v t ≡ [] =
    no_members _ (λ x m. let r = each_in (takes p v t) (beginning p t) m in in_none (subst (λ (l : Log). In x l) (nothing_taken r.0 r.1) r.2)) in
    let passed : keep (passes_over p v t) (beginning p t) ≡ [] =
    no_members _ (λ b m. let k = keep_in (passes_over p v t) (beginning p t) m in clash k.1 (not_passed b k.0)) in
    λ i. record { log = sent i ++ still i ++ s.log; passed = map (λ b. b.node) (passed i) ++ s.passed }
  where
    nothing_taken : (b : Slot) → In b (beginning p t) → takes p v t b ≡ []
    nothing_taken b m = ap (pack p b.bytes t 0) (empty b m)

    not_passed : (b : Slot) → In b (beginning p t) → passes_over p v t b ≡ false
    not_passed b m = λ i. ltb (length (nothing_taken b m i)) (length (empty b m i))

-- A log and a longer one that holds what was started at t, where by t' nothing more is over than by t.
module _ (p : Lines) (c : List Bool) (log more : Log) (t t' : ℕ)
    (grown : (x : Placed) → In x log → In x more)
    (started : (x : Placed) → In x (starts p (view p c log t) t) → In x more)
    (same : done_by p more t' ≡ done_by p log t) where
  abbrev now : View
  now = view p c log t

  abbrev later : View
  later = seen p c (done_by p log t) (placed more)

  view_later : view p c more t' ≡ later
  unfolding view
  view_later = ap (λ (d : ℕ → Bool). seen p c d (placed more)) same

  placed_more : (r : ℕ) → placed log r ≡ true → placed more r ≡ true
  placed_more r h = let m = placed_in log r h in in_placed (grown m.0 m.1) r m.2

  -- A process that could start at t' could at t: its unit then started one, which at t' is not over, so that the unit
  -- is not free.
  no_start : (x : Placed) → In x (starts p later t') → ⊥
  unfolding view ready comes never
  no_start x m =
      let s = starts_in p later t' x m in
      let u : ℕ = unit p x.row in
      let over_later : (i : ℕ) → i < length p.processes → unit p i ≡ u → placed more i ≡ true → done_by p log t i ≡ true = free_over p later u s.unit_free in
      let was_free : free p now u ≡ true = over_free p now u (λ i l q n. over_later i l q (placed_more i n)) in
      let y = in_starts p now t x.row s.row_in s.unit_in was_free (is_false _ (λ e. clash (placed_more x.row e) s.unplaced)) s.is_ready in
      let f = starts_in p now t y.0 y.1 in
      let r : ℕ = y.0.row in
      clash (over_placed p (full_ticks p) log t r (over_later r f.row_in y.2 (in_placed (started y.0 y.1) r refl))) f.unplaced

  no_starts : starts p (view p c more t') t' ≡ []
  no_starts = ap (λ (v : View). starts p v t') view_later ∙ no_members _ no_start

-- Let s be the state before tick t, and s' the one after it. Where by t' nothing more is over than by t, no process
-- starts at t'.
pub idle_starts : (p : Lines) (c : List Bool) (t t' : ℕ) (s s' : State) → s' ≡ step p (view p c s.log t) t s →
    done_by p s'.log t' ≡ done_by p s.log t → starts p (view p c s'.log t') t' ≡ []
unfolding step
idle_starts p c t t' s s' e same =
    let v : View = view p c s.log t in
    no_starts p c s.log s'.log t t'
    (λ x m. subst (λ (z : State). In x z.log) (sym e) (in_right (sends p v t ++ starts p v t) m))
    (λ x m. subst (λ (z : State). In x z.log) (sym e) (in_left s.log (in_right (sends p v t) m))) same

-- Where moreover no slot with an item waiting begins at t', the step at t' changes nothing.
pub quiet : (p : Lines) (c : List Bool) (t t' : ℕ) (s s' : State) → s' ≡ step p (view p c s.log t) t s →
    done_by p s'.log t' ≡ done_by p s.log t →
    ((b : Slot) → In b (beginning p t') → pending p (view p c s'.log t') b.node ≡ []) →
    step p (view p c s'.log t') t' s' ≡ s'
quiet p c t t' s s' e same empty = idle_step p (view p c s'.log t') t' s' (idle_starts p c t t' s s' e same) empty

-- So the state stays over a stretch of such ticks: what a planner that goes from event to event needs.
pub stays : (p : Lines) (c : List Bool) (t n : ℕ) →
    ((k : ℕ) → k < n → done_by p (before p c (suc t)).log (k + suc t) ≡ done_by p (before p c t).log t) →
    ((k : ℕ) → k < n → (b : Slot) → In b (beginning p (k + suc t)) → pending p (view p c (before p c (suc t)).log (k + suc t)) b.node ≡ []) →
    before p c (n + suc t) ≡ before p c (suc t)
unfolding before
stays p c t zero same empty = ap (before p c) (zero-add (suc t))
stays p c t (suc n) same empty =
    ap (before p c) (suc-add n (suc t))
    ∙ ap (λ (s : State). step p (view p c s.log (n + suc t)) (n + suc t) s) (stays p c t n (λ k l. same k (omega arith)) (λ k l. empty k (omega arith)))
    ∙ quiet p c t (n + suc t) (before p c t) (before p c (suc t)) refl (same n (omega arith)) (empty n (omega arith))
