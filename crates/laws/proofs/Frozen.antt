-- Where everything placed is over, no process can start and no item waits, everything due is placed.
-- Assumes nothing.
use Rattle.std.specs.Prelude.{if◌then◌else◌}
use mathlib.Core.Path.{◌≡◌, refl, sym, ap, ◌∙◌}
use mathlib.Core.Logic.{◌⊎◌, inl, inr}
use mathlib.Core.Bool.{Bool, true, false, not, ◌&&◌, ◌||◌}
use mathlib.Core.List.{List, Memᴰ as In}
use Prim.Native.Nat.{ℕ, ◌<◌}
use native.Mathlib.Omega.{arith}
use lib.ListN.{length, get_or}
use borrow.Author.Tests.{not-true}
use Rattle.lists.specs.Lists.{any, all}
use Rattle.lists.proofs.Tests.{two, both, join, or_left, or_right, is_not, is_true, not_both, strong}
use Rattle.lists.proofs.Members.{any_in, in_any, all_in, in_all}
use Rattle.model.specs.Plan.{Lines, When, always, on, edge, decider, into, local, unit}
use Rattle.model.specs.Activity.{Heard, heard, unheard, is, may_be, may_meet, meets, all_heard, conjunction, may_run, active, carries}
use Rattle.model.specs.Bus.{rows, edge_row, condition_row}
use Rattle.model.specs.Log.{Placed, known, message_ready, delivered}
use Rattle.model.specs.Planning.{View, never, comes, ready, starts}
use Rattle.model.specs.Checking.{due}
use Rattle.laws.proofs.Active.{into_in, from_below, active_law, carries_parts, may_run_active, heard_all}
use Rattle.laws.proofs.Good.{Good}
use Rattle.laws.proofs.Rows.{process_due, edge_due, condition_due, Kind, a_process, an_edge, a_condition, kind, known_at}
use Rattle.laws.proofs.Steps.{over_free, Pending, broadcast, message, in_starts, seen}

module _ (p : Lines) (c : List Bool) (g : Good p) (count : length c ≡ length p.conditions) (put : ℕ → Bool) where
  -- the view where everything placed is over; `put` says what is placed
  abbrev v : View
  v = seen p c put put

  abbrev h : List Heard
  h = known p c put

  module _ (t : ℕ) (still : (x : Placed) → In x (starts p v t) → ⊥) (idle : (n r : ℕ) → Pending p v n r → ⊥) where
    told : (k : ℕ) → k < length p.conditions → put (decider p k) ≡ true → put (condition_row p k) ≡ true
    told k l q = is_true _ (λ e. idle _ _ (broadcast k (record { in_range = l; on_node = refl; unplaced = e; ended = q })))

    hears : (k : ℕ) → k < length p.conditions → put (decider p k) ≡ true → get_or h k unheard ≡ heard (get_or c k false)
    hears k l q = known_at p c put k l ∙ ap (λ (b : Bool). if b then heard (get_or c k false) else unheard) (told k l q)

    module _ (e : ℕ) (l : e < length p.edges) (q : put (edge p e).from ≡ true) where
      -- what is met is known to be met, and what is not is known not to be
      meets_known : (w : When) → (edge p e).when ≡ w → (meets h w ≡ meets (all_heard c) w) × (may_meet h w ≡ meets (all_heard c) w)
      meets_known always f = (refl, refl)
      meets_known (on v k) f =
          let d = g.decided e l v k f in
          let n : k < length c = (let z = d.0 in omega arith) in
          let s : get_or h k unheard ≡ heard (get_or c k false) = hears k d.0 (ap put d.1 ∙ q) in
          let s' : get_or (all_heard c) k unheard ≡ heard (get_or c k false) = heard_all c k n in
          (ap (λ (y : Heard). is y v) (s ∙ sym s'), ap (λ (y : Heard). may_be y v) s ∙ sym (ap (λ (y : Heard). is y v) s'))

      module _ (r : carries p c e ≡ true) where
        met : meets h (edge p e).when ≡ true
        met = (meets_known (edge p e).when refl).0 ∙ (carries_parts p c e r).1

        sent : local p e ≡ false → put (edge_row p e) ≡ true
        sent n = is_true _ (λ f. idle _ _ (message e (record { in_range = l; on_node = refl; between = n; unplaced = f; ended = q; met = met })))

        carried_comes : comes p v e ≡ true
        unfolding comes delivered message_ready
        carried_comes = at (local p e) refl
          where
            at : (b : Bool) → local p e ≡ b → (if b then (put (edge p e).from && meets h (edge p e).when) else put (edge_row p e)) ≡ true
            at true f = join _ _ q met
            at false f = sent f

    module _ (i : ℕ) (l : i < length p.processes) (lower : (j : ℕ) → j < i → j < length p.processes → active p c j ≡ true → put j ≡ true) where
      module _ (e : ℕ) (m : In e (into p i)) where
        abbrev n : e < length p.edges
        n = (into_in p i m).0

        placed_from : active p c (edge p e).from ≡ true → put (edge p e).from ≡ true
        placed_from = lower (edge p e).from (from_below p g i m) (g.from_in e n)

        edge_comes : carries p c e ≡ true → comes p v e ≡ true
        edge_comes r = carried_comes e n (placed_from (carries_parts p c e r).0) r

        stays_away : carries p c e ≡ false → never p v e ≡ true
        unfolding carries never
        stays_away r = at (two (active p c (edge p e).from))
          where
            at : (active p c (edge p e).from ≡ true) ⊎ (active p c (edge p e).from ≡ false) → (not (may_meet h (edge p e).when) || not (get_or (may_run p h) (edge p e).from false)) ≡ true
            at (inl f) = or_left _ _ (is_not _ ((meets_known e n (placed_from f) (edge p e).when refl).1 ∙ not_both (active p c (edge p e).from) _ r f))
            at (inr f) =
                or_right (not (may_meet h (edge p e).when)) _
                (is_not _ (may_run_active p c g count h i (λ k m w b. hears k m (lower (decider p k) w (g.decides k m) b)) (edge p e).from (let u = from_below p g i m in omega arith) (g.from_in e n) ∙ f))

        one_way : (comes p v e || never p v e) ≡ true
        one_way = at (two (carries p c e))
          where
            at : (carries p c e ≡ true) ⊎ (carries p c e ≡ false) → (comes p v e || never p v e) ≡ true
            at (inl r) = or_left _ _ (edge_comes r)
            at (inr r) = or_right (comes p v e) _ (stays_away r)

      becomes_ready : active p c i ≡ true → ready p v i ≡ true
      unfolding ready
      becomes_ready b = at (conjunction p i) (sym (active_law p c g count i l) ∙ b)
        where
          at : (b : Bool) → (if b then any (carries p c) (into p i) else all (carries p c) (into p i)) ≡ true →
              (if b then any (comes p v) (into p i) && all (λ e. comes p v e || never p v e) (into p i) else all (comes p v) (into p i)) ≡ true
          at true r = let m = any_in (carries p c) (into p i) r in join _ _ (in_any (comes p v) m.1 (edge_comes m.0 m.1 m.2)) (in_all _ (into p i) one_way)
          at false r = in_all (comes p v) (into p i) (λ e m. edge_comes e m (all_in (carries p c) r m))

      starts_it : active p c i ≡ true → put i ≡ true
      starts_it b = is_true _ (λ e. let y = in_starts p v t i l (g.unit_in i l) (over_free p v (unit p i) (λ j l q m. m)) e (becomes_ready b) in still y.0 y.1)

    all_started : (i : ℕ) → i < length p.processes → active p c i ≡ true → put i ≡ true
    all_started = strong (λ i. i < length p.processes → active p c i ≡ true → put i ≡ true) (λ i lower l b. starts_it i l lower b)

    pub all_placed : (r : ℕ) → r < rows p → due p c r ≡ true → put r ≡ true
    all_placed r u d = at r (kind p r u) d
      where
        at : (r : ℕ) → Kind p r → due p c r ≡ true → put r ≡ true
        at r (a_process i l) d = all_started i l (sym (process_due p c i l) ∙ d)
        at r (an_edge e l) d =
            let b = both (carries p c e) (not (local p e)) (sym (edge_due p c e l) ∙ d) in
            sent e l (all_started (edge p e).from (g.from_in e l) (carries_parts p c e b.0).0) b.0 (not-true (local p e) b.1)
        at r (a_condition k l) d = told k l (all_started (decider p k) (g.decides k l) (sym (condition_due p c k) ∙ d))
