-- Planning places only due rows.
-- Assumes nothing.
use Rattle.std.specs.Prelude.{if◌then◌else◌}
use mathlib.Core.Path.{◌≡◌, sym, ap, ◌∙◌}
use mathlib.Core.Logic.{◌⊎◌, inl, inr}
use mathlib.Core.Bool.{Bool, true, false, not, ◌&&◌, ◌||◌}
use mathlib.Core.List.Memᴰ.{not-nil as in_none}
use mathlib.Core.List.{List, Memᴰ as In}
use Prim.Native.Nat.{ℕ, zero, suc, ◌<◌}
use native.Mathlib.Omega.{arith}
use lib.ListN.{length}
use Rattle.lists.specs.Lists.{any, all}
use Rattle.lists.proofs.Tests.{both, join, is_not}
use Rattle.lists.proofs.Members.{any_in, in_any, all_in, in_all}
use Rattle.model.specs.Plan.{Lines, edge, decider, into, local}
use Rattle.model.specs.Activity.{meets, all_heard, conjunction, active, carries}
use Rattle.model.specs.Bus.{rows, edge_row}
use Rattle.model.specs.Log.{Placed, Log, full_ticks, message_ready, delivered}
use Rattle.model.specs.Planning.{View, view, never, comes, ready, before}
use Rattle.model.specs.Checking.{due}
use Rattle.laws.proofs.Active.{into_in, active_law}
use Rattle.laws.proofs.Good.{Good}
use Rattle.laws.proofs.Rows.{process_due, edge_due, condition_due, placed_in, over_placed, known_met, done_by}
use Rattle.laws.proofs.Steps.{Started, Pending, broadcast, message, Taken, log_at, view_at, new_at, new_in, log_in}

abbrev pub Due : Lines → List Bool → ℕ → Type 0
Due p c r = (r < rows p) × (due p c r ≡ true)

module _ (p : Lines) (c : List Bool) (g : Good p) (count : length c ≡ length p.conditions) where
  module _ (log : Log) (t : ℕ) (all-due : (x : Placed) → In x log → Due p c x.row) where
    abbrev v : View
    v = view p c log t

    over_due : (r : ℕ) → done_by p log t r ≡ true → due p c r ≡ true
    over_due r h = let m = placed_in log r (over_placed p (full_ticks p) log t r h) in sym (ap (due p c) m.2) ∙ (all-due m.0 m.1).1

    over_active : (i : ℕ) → i < length p.processes → done_by p log t i ≡ true → active p c i ≡ true
    over_active i l h = sym (process_due p c i l) ∙ over_due i h

    carried : (e : ℕ) → e < length p.edges → v.over (edge p e).from ≡ true → meets v.heard (edge p e).when ≡ true → carries p c e ≡ true
    unfolding carries view
    carried e l a m =
        join (active p c (edge p e).from) (meets (all_heard c) (edge p e).when)
        (over_active (edge p e).from (g.from_in e l) a)
        (known_met p c count (done_by p log t) (edge p e).when (λ v k q. (g.decided e l v k q).0) m)

    comes_carries : (e : ℕ) → e < length p.edges → comes p v e ≡ true → carries p c e ≡ true
    unfolding comes delivered message_ready view
    comes_carries e l = at (local p e)
      where
        at : (b : Bool) → (if b then message_ready p v.heard v.over e else v.over (edge_row p e)) ≡ true → carries p c e ≡ true
        at true r = let b = both (v.over (edge p e).from) (meets v.heard (edge p e).when) r in carried e l b.0 b.1
        at false r = (both (carries p c e) (not (local p e)) (sym (edge_due p c e l) ∙ over_due (edge_row p e) r)).0

    ready_active : (i : ℕ) → i < length p.processes → ready p v i ≡ true → active p c i ≡ true
    unfolding ready
    ready_active i l r = active_law p c g count i l ∙ at (conjunction p i) r
      where
        at : (b : Bool) → (if b then any (comes p v) (into p i) && all (λ e. comes p v e || never p v e) (into p i) else all (comes p v) (into p i)) ≡ true →
            (if b then any (carries p c) (into p i) else all (carries p c) (into p i)) ≡ true
        at true r =
            let m = any_in (comes p v) (into p i) (both (any (comes p v) (into p i)) _ r).0 in
            in_any (carries p c) m.1 (comes_carries m.0 (into_in p i m.1).0 m.2)
        at false r = in_all (carries p c) (into p i) (λ e m. comes_carries e (into_in p i m).0 (all_in (comes p v) r m))

    pub started_due : (x : Placed) → Started p v t x → Due p c x.row
    started_due x s = ((let l = s.row_in in omega arith), process_due p c x.row s.row_in ∙ ready_active x.row s.row_in s.is_ready)

    pub pending_due : (n r : ℕ) → Pending p v n r → Due p c r
    unfolding view
    pending_due n r (broadcast k s) = ((let l = s.in_range in omega arith), condition_due p c k ∙ over_active (decider p k) (g.decides k s.in_range) s.ended)
    pending_due n r (message e s) = (
      (let l = s.in_range in omega arith),
      edge_due p c e s.in_range ∙ join (carries p c e) (not (local p e)) (carried e s.in_range s.ended s.met) (is_not (local p e) s.between),
    )

  pub only_due : (t : ℕ) (x : Placed) → In x (log_at p c t) → Due p c x.row
  unfolding before
  only_due zero x m = absurd (in_none m)
  only_due (suc t) x m = at (log_in p c t x m) (only_due t)
    where
      new : ((y : Placed) → In y (log_at p c t) → Due p c y.row) → Taken p (view_at p c t) t x ⊎ Started p (view_at p c t) t x → Due p c x.row
      new r (inl s) = pending_due (log_at p c t) t r s.slot.node x.row s.item
      new r (inr s) = started_due (log_at p c t) t r x s

      at : In x (new_at p c t) ⊎ In x (log_at p c t) → ((y : Placed) → In y (log_at p c t) → Due p c y.row) → Due p c x.row
      at (inl u) r = new r (new_in p c t x u)
      at (inr u) r = r x u
