-- Planning is safe: the log before every tick keeps the rules.
-- Assumes nothing.
use Rattle.std.specs.Prelude.{if◌then◌else◌}
use mathlib.Core.Path.{◌≡◌, refl, sym, ap, ◌∙◌, subst}
use mathlib.Core.Logic.{◌⊎◌, inl, inr}
use mathlib.Core.Bool.{Bool, true, false, not, ◌&&◌, ◌||◌, beq}
use mathlib.Core.List.Memᴰ.{head as here}
use mathlib.Core.List.Memᴰ.{not-nil as in_none}
use mathlib.Core.List.Memᴰ.{tail as there}
use mathlib.Core.List.{List, [], ◌∷◌, Memᴰ as In}
use Prim.Native.Nat.{ℕ, ◌+◌, ◌≤◌, ◌<◌}
use native.Mathlib.Omega.{arith}
use lib.Dec.{eqb, leb}
use lib.ListN.{length, get_or}
use borrow.Author.Tests.{eqb-true, eqb-false, not-true}
use Rattle.lists.specs.Lists.{any, all}
use Rattle.lists.proofs.Tests.{two, clash, both, join, either, lower, strong}
use Rattle.lists.proofs.Members.{any_in, in_any, all_in, in_all}
use Rattle.model.specs.Plan.{Lines, Slot, When, always, on, process, edge, into, unit}
use Rattle.model.specs.Activity.{Heard, heard, unheard, may_be, may_meet, meets, all_heard, conjunction, may_carry, runs_next, may_run, active, carries}
use Rattle.model.specs.Bus.{begins, edge_row, condition_row, sender, row_node, row_bytes, slot_of}
use Rattle.model.specs.Log.{Placed, Log, placed, full_ticks, known, delivered}
use Rattle.model.specs.Planning.{View, view, never, comes, ready, pending, pack, takes, before}
use Rattle.model.specs.Refusals.{nothing, plan_refusal}
use Rattle.laws.proofs.Active.{into_in, from_below, may_run_law, active_law, carries_parts, heard_all}
use Rattle.laws.proofs.Good.{Good, good}
use Rattle.laws.proofs.History.{history, back, was_started, was_taken, over_then}
use Rattle.laws.proofs.Once.{one_start, rows_once, unique}
use Rattle.laws.proofs.OnlyDue.{only_due}
use Rattle.laws.proofs.Rows.{in_placed, over_in, done_by, known_by, known_at, full_tick, process_span}
use Rattle.laws.proofs.Rules.{Start, Item, Kept}
use Rattle.laws.proofs.Slots.{slot_own, beginning_in}
use Rattle.laws.proofs.Steps.{free_over, Started, Pending, broadcast, message, Taken, pending_node, pending_ended, pack_in, seen, log_at, view_at}

-- Given part of the combination, an active process may run.
module _ (p : Lines) (c : List Bool) (g : Good p) (count : length c ≡ length p.conditions) (done : ℕ → Bool) where
  abbrev h : List Heard
  h = known p c done

  may_meet_known : (w : When) → ((v : Bool) (k : ℕ) → w ≡ on v k → k < length p.conditions) → meets (all_heard c) w ≡ true → may_meet h w ≡ true
  may_meet_known always b q = refl
  may_meet_known (on v k) b q =
      let l : k < length p.conditions = b v k refl in
      rw (known_at p c done k l) (at (done (condition_row p k)) (rw (heard_all c k (omega arith)) at q))
    where
      at : (b : Bool) → beq (get_or c k false) v ≡ true → may_be (if b then heard (get_or c k false) else unheard) v ≡ true
      at true e = e
      at false e = refl

  edge_meets : (e : ℕ) → e < length p.edges → carries p c e ≡ true → may_meet h (edge p e).when ≡ true
  edge_meets e l q = may_meet_known (edge p e).when (λ v k q. (g.decided e l v k q).0) (carries_parts p c e q).1

  may_run_more : (j : ℕ) → j < length p.processes → active p c j ≡ true → get_or (may_run p h) j false ≡ true
  unfolding runs_next may_carry
  may_run_more = strong (λ j. j < length p.processes → active p c j ≡ true → get_or (may_run p h) j false ≡ true) step
    where
      step : (j : ℕ) → ((i : ℕ) → i < j → i < length p.processes → active p c i ≡ true → get_or (may_run p h) i false ≡ true) →
          j < length p.processes → active p c j ≡ true → get_or (may_run p h) j false ≡ true
      step j r l a = may_run_law p h g j l ∙ at (conjunction p j) (sym (active_law p c g count j l) ∙ a)
        where
          carried : (e : ℕ) → In e (into p j) → carries p c e ≡ true → may_carry p h (may_run p h) e ≡ true
          carried e m q =
              let n = (into_in p j m).0 in
              join _ _ (r (edge p e).from (from_below p g j m) (g.from_in e n) (carries_parts p c e q).0) (edge_meets e n q)

          at : (b : Bool) → (if b then any (carries p c) (into p j) else all (carries p c) (into p j)) ≡ true →
              (if b then any (may_carry p h (may_run p h)) (into p j) else all (may_carry p h (may_run p h)) (into p j)) ≡ true
          at true q = let m = any_in (carries p c) (into p j) q in in_any _ m.1 (carried m.0 m.1 m.2)
          at false q = in_all _ (into p j) (λ e m. carried e m (all_in (carries p c) q m))

  -- a carrying edge is never known not to deliver
  not_never : (put : ℕ → Bool) (e : ℕ) → e < length p.edges → carries p c e ≡ true → never p (seen p c done put) e ≡ true → ⊥
  unfolding never
  not_never put e l q n = at (either _ _ n)
    where
      at : (not (may_meet h (edge p e).when) ≡ true) ⊎ (not (get_or (may_run p h) (edge p e).from false) ≡ true) → ⊥
      at (inl f) = clash (edge_meets e l q) (not-true _ f)
      at (inr f) = clash (may_run_more (edge p e).from (g.from_in e l) (carries_parts p c e q).0) (not-true _ f)

  -- a ready process has all that its carrying edges deliver
  ready_delivered : (put : ℕ → Bool) (i e : ℕ) → ready p (seen p c done put) i ≡ true → In e (into p i) → carries p c e ≡ true → delivered p h done e ≡ true
  unfolding ready comes
  ready_delivered put i e r m q = at (conjunction p i) r
    where
      come : ℕ → Bool
      come e = delivered p h done e

      one : (come e ≡ true) ⊎ (never p (seen p c done put) e ≡ true) → come e ≡ true
      one (inl f) = f
      one (inr f) = absurd (not_never put e (into_in p i m).0 q f)

      at : (b : Bool) → (if b then any come (into p i) && all (λ e. come e || never p (seen p c done put) e) (into p i) else all come (into p i)) ≡ true → come e ≡ true
      at true f = one (either _ _ (all_in (λ e. come e || never p (seen p c done put) e) (both (any come (into p i)) _ f).1 m))
      at false f = all_in come f m

-- two items share no byte; of two processes one ends before the other starts
abbrev Beside : Lines → Placed → Placed → Type 0
Beside p x y = (x.place + row_bytes p x.row ≤ y.place) ⊎ (y.place + row_bytes p y.row ≤ x.place)

abbrev InDispatchOrder : Lines → Placed → Placed → Type 0
InDispatchOrder p x y = (x.tick + (process p x.row).ticks ≤ y.tick) ⊎ (y.tick + (process p y.row).ticks ≤ x.tick)

pack_apart : (p : Lines) (size t at : ℕ) (rs : List ℕ) (x y : Placed) → In x (pack p size t at rs) → In y (pack p size t at rs) → (x.row ≡ y.row → ⊥) → Beside p x y
unfolding pack
pack_apart p size t at [] x y m n d = absurd (in_none m)
pack_apart p size t at (r ∷ rs) x y m n d =
    go (leb (at + row_bytes p r) size) (λ m n. pack_apart p size t (at + row_bytes p r) rs x y m n d) (λ m n. pack_apart p size t at rs x y m n d) m n
  where
    fits : Log
    fits = pack p size t (at + row_bytes p r) rs

    first : (z w : Placed) → z ≡ record { row = r; tick = t; place = at } → In w fits → z.place + row_bytes p z.row ≤ w.place
    first z w q u =
        let a = (pack_in p size t w (at + row_bytes p r) rs u).2 in
        let b : z.place ≡ at = ap (λ (v : Placed). v.place) q in
        let e : row_bytes p z.row ≡ row_bytes p r = ap (λ (v : Placed). row_bytes p v.row) q in
        omega arith

    go : (b : Bool) → (In x fits → In y fits → Beside p x y) → (In x (pack p size t at rs) → In y (pack p size t at rs) → Beside p x y) →
        In x (elim b [ true ↦ record { row = r; tick = t; place = at } ∷ fits | false ↦ pack p size t at rs ]) →
        In y (elim b [ true ↦ record { row = r; tick = t; place = at } ∷ fits | false ↦ pack p size t at rs ]) → Beside p x y
    go true f f' (here q) (here q') = absurd (d (ap (λ (v : Placed). v.row) (q ∙ sym q')))
    go true f f' (here q) (there n) = inl (first x y q n)
    go true f f' (there m) (here q) = inr (first y x q m)
    go true f f' (there m) (there n) = f m n
    go false f f' m n = f' m n

module _ (p : Lines) (c : List Bool) (g : Good p) (count : length c ≡ length p.conditions) (t : ℕ) where
  abbrev log : Log
  log = log_at p c t

  module _ (x : Placed) (m : In x log) where
    settled : done_by p log x.tick ≡ done_by p (log_at p c x.tick) x.tick
    settled = over_then p c g count x.tick t (let l = (history p c t x m).0 in omega arith)

    inputs : x.row < length p.processes → (e : ℕ) → In e (into p x.row) → carries p c e ≡ true → delivered p (known_by p c log x.tick) (done_by p log x.tick) e ≡ true
    unfolding view
    inputs l e n q =
        subst (λ (d : ℕ → Bool). delivered p (known p c d) d e ≡ true) (sym settled)
        (ready_delivered p c g count (done_by p (log_at p c x.tick) x.tick) (placed (log_at p c x.tick)) x.row e (was_started p c t x m l).is_ready n q)

    met : (e : ℕ) → e < length p.edges → x.row ≡ edge_row p e → meets (known_by p c log x.tick) (edge p e).when ≡ true
    unfolding view
    met e l q =
        subst (λ (d : ℕ → Bool). meets (known p c d) (edge p e).when ≡ true) (sym settled) (at x.row (was_taken p c t x m (omega arith)).item q)
      where
        at : (r : ℕ) → Pending p (view_at p c x.tick) (was_taken p c t x m (omega arith)).slot.node r → r ≡ edge_row p e → meets (view_at p c x.tick).heard (edge p e).when ≡ true
        at r (broadcast k s) z = absurd (omega arith)
        at r (message f s) z = let w : f ≡ e = omega arith in subst (λ (e : ℕ). meets (view_at p c x.tick).heard (edge p e).when ≡ true) w s.met

    module _ (i : length p.processes ≤ x.row) where
      abbrev item : Taken p (view_at p c x.tick) x.tick x
      item = was_taken p c t x m i

      node_is : row_node p x.row ≡ item.slot.node
      node_is = pending_node p _ _ x.row item.item

      slot_is : slot_of p (row_node p x.row) ≡ item.slot
      slot_is = ap (slot_of p) node_is ∙ slot_own p g item.slot (beginning_in p x.tick item.begun).0

      sender_over : done_by p log x.tick (sender p x.row) ≡ true
      unfolding view
      sender_over = subst (λ (d : ℕ → Bool). d (sender p x.row) ≡ true) (sym settled) (pending_ended p _ _ x.row item.item)

      in_slot : begins p (row_node p x.row) x.tick ≡ true
      in_slot = ap (λ (n : ℕ). begins p n x.tick) node_is ∙ (beginning_in p x.tick item.begun).1

      in_frame : x.place + row_bytes p x.row ≤ (slot_of p (row_node p x.row)).bytes
      in_frame = let w = item.within in omega (arith, ap (λ (s : Slot). s.bytes) slot_is)

  -- of two processes of a unit, the one that starts first has ended when the other starts
  one_after : (x y : Placed) → Start p log x → Start p log y → unit p x.row ≡ unit p y.row → x.tick < y.tick → x.tick + (process p x.row).ticks ≤ y.tick
  unfolding view
  one_after x y a b q l =
      let old : Log = log_at p c y.tick in
      let x-in : In x old = back p c t y.tick x a.member l in
      let e : done_by p old y.tick x.row ≡ true =
      free_over p (view_at p c y.tick) (unit p y.row) (was_started p c t y b.member b.low).unit_free x.row a.low q (in_placed x-in x.row refl) in
      let z = over_in p (full_ticks p) old y.tick x.row e in
      let same : z.0 ≡ x = unique p c g y.tick z.0 x z.1 x-in z.2 in
      let w = z.3 in
      omega (arith, full_tick p x.row, process_span p (full_ticks p) x.row a.low, ap (λ (v : Placed). v.tick) same)

  no_overlap : (x y : Placed) → Start p log x → Start p log y → unit p x.row ≡ unit p y.row → (x.row ≡ y.row → ⊥) → InDispatchOrder p x y
  no_overlap x y a b q d = at (two (eqb x.tick y.tick))
    where
      apart : (x.tick < y.tick) ⊎ (y.tick < x.tick) → InDispatchOrder p x y
      apart (inl l) = inl (one_after x y a b q l)
      apart (inr l) = inr (one_after y x b a (sym q) l)

      at : (eqb x.tick y.tick ≡ true) ⊎ (eqb x.tick y.tick ≡ false) → InDispatchOrder p x y
      at (inl e) =
          absurd (d (ap (λ (z : Placed). z.row)
          (one_start p (view_at p c x.tick) x.tick x y (was_started p c t x a.member a.low)
          (subst (λ (T : ℕ). Started p (view_at p c T) T y) (sym (eqb-true _ _ e)) (was_started p c t y b.member b.low)) q)))
      at (inr e) = apart (lower x.tick y.tick (eqb-false _ _ e))

  no_share : (x y : Placed) → Item p log x → Item p log y → x.tick ≡ y.tick → row_node p x.row ≡ row_node p y.row → (x.row ≡ y.row → ⊥) → Beside p x y
  unfolding takes
  no_share x y a b q n d =
      let v : View = view_at p c x.tick in
      let s : Slot = (item x a.member a.high).slot in
      let same : (item y b.member b.high).slot ≡ s = sym (slot_is y b.member b.high) ∙ ap (slot_of p) (sym n) ∙ slot_is x a.member a.high in
      let y-in : In y (takes p v x.tick s) =
      subst (λ (z : Slot). In y (takes p v x.tick z)) same (subst (λ (T : ℕ). In y (takes p (view_at p c T) T (item y b.member b.high).slot)) (sym q) (item y b.member b.high).taken) in
      pack_apart p s.bytes x.tick 0 (pending p v s.node) x y (item x a.member a.high).taken y-in d

pub planning_keeps : (p : Lines) (c : List Bool) → plan_refusal p ≡ nothing → length c ≡ length p.conditions → (t : ℕ) → Kept p c (before p c t).log
planning_keeps p c passes count t =
    let g : Good p = good p passes in
    record {
      once = rows_once p c g t;
      only_due = only_due p c g count t;
      after_inputs = λ x s. inputs p c g count t x s.member s.low;
      after_sender = λ x s. sender_over p c g count t x s.member s.high;
      when_met = λ x m. met p c g count t x m;
      in_slot = λ x s. in_slot p c g count t x s.member s.high;
      no_overlap = no_overlap p c g count t;
      in_frame = λ x s. in_frame p c g count t x s.member s.high;
      no_share = no_share p c g count t;
    }
