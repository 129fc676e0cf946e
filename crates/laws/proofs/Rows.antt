-- Rows: what is due of a process's, an edge's and a condition's row, who sends it and how long it lasts; and what a log
-- says of a row.
-- Assumes nothing.
use Rattle.std.specs.Prelude.{if◌then◌else◌}
use mathlib.Core.Path.{◌≡◌, refl, ap, ◌∙◌, subst}
use mathlib.Core.Logic.{◌⊎◌, inl, inr}
use mathlib.Core.Bool.{Bool, true, false, not, ◌&&◌, beq, false≢true}
use mathlib.Core.List.{List, Memᴰ as In}
use Prim.Native.Nat.{ℕ, ◌+◌, ◌≤◌, ◌<◌}
use native.Mathlib.Omega.{arith}
use lib.Dec.{eqb, leb, ltb}
use lib.ListN.{length, get_or, length-map, get_or-map}
use borrow.Author.Tests.{eqb-true, eq-eqb, lt-ltb, le-ltb, ltb-true, ltb-false, le-leb, leb-true}
use Rattle.lists.proofs.Tests.{two, both, join}
use Rattle.lists.proofs.Members.{any_in, in_any}
use Rattle.lists.proofs.Keep.{getD_upfrom, length_upfrom}
use Rattle.model.specs.Plan.{Lines, Process, waits_all, When, always, on, process, edge, decider, conditions, local}
use Rattle.model.specs.Activity.{Heard, heard, unheard, is, meets, all_heard, active, carries}
use Rattle.model.specs.Bus.{edge_row, condition_row, rows, is_process, is_edge, row_edge, row_condition, sender, row_node, row_bytes, transit, round}
use Rattle.model.specs.Log.{Placed, Log, placed, full_ticks, span, over, known}
use Rattle.model.specs.Checking.{due}
use Rattle.laws.proofs.Active.{heard_all}
use Rattle.laws.proofs.Good.{Good}
use Rattle.laws.proofs.Slots.{slot_in, slot_ticks_one, slot_in_round}

module _ (p : Lines) where
  abbrev P# : ℕ
  P# = length p.processes

  abbrev E# : ℕ
  E# = length p.edges

  abbrev C# : ℕ
  C# = length p.conditions

  pub edge_not_process : (e : ℕ) → is_process p (edge_row p e) ≡ false
  edge_not_process e = le-ltb (P# + e) P# (omega arith)

  pub condition_not_process : (k : ℕ) → is_process p (condition_row p k) ≡ false
  condition_not_process k = le-ltb (P# + E# + k) P# (omega arith)

  pub edge_is_edge : (e : ℕ) → e < E# → is_edge p (edge_row p e) ≡ true
  edge_is_edge e l = lt-ltb (P# + e) (P# + E#) (omega arith)

  pub condition_not_edge : (k : ℕ) → is_edge p (condition_row p k) ≡ false
  condition_not_edge k = le-ltb (P# + E# + k) (P# + E#) (omega arith)

  pub edge_back : (e : ℕ) → row_edge p (edge_row p e) ≡ e
  edge_back e = omega arith

  pub condition_back : (k : ℕ) → row_condition p (condition_row p k) ≡ k
  condition_back k = omega arith

  pub process_due : (c : List Bool) (i : ℕ) → i < P# → due p c i ≡ active p c i
  unfolding due
  process_due c i l = rw (lt-ltb i P# l)

  pub edge_due : (c : List Bool) (e : ℕ) → e < E# → due p c (edge_row p e) ≡ (carries p c e && not (local p e))
  unfolding due
  edge_due c e l = rw (edge_not_process e, edge_is_edge e l, edge_back e)

  pub condition_due : (c : List Bool) (k : ℕ) → due p c (condition_row p k) ≡ active p c (decider p k)
  unfolding due
  condition_due c k = rw (condition_not_process k, condition_not_edge k, condition_back k)

  process_sender : (i : ℕ) → i < P# → sender p i ≡ i
  unfolding sender
  process_sender i l = rw (lt-ltb i P# l)

  pub edge_sender : (e : ℕ) → e < E# → sender p (edge_row p e) ≡ (edge p e).from
  unfolding sender
  edge_sender e l = rw (edge_not_process e, edge_is_edge e l, edge_back e)

  pub condition_sender : (k : ℕ) → sender p (condition_row p k) ≡ decider p k
  unfolding sender
  condition_sender k = rw (condition_not_process k, condition_not_edge k, condition_back k)

  pub edge_node : (e : ℕ) → e < E# → row_node p (edge_row p e) ≡ (process p (edge p e).from).node
  unfolding row_node
  edge_node e l = ap (λ (i : ℕ). (process p i).node) (edge_sender e l)

  pub condition_node : (k : ℕ) → row_node p (condition_row p k) ≡ (process p (decider p k)).node
  unfolding row_node
  condition_node k = ap (λ (i : ℕ). (process p i).node) (condition_sender k)

  pub edge_bytes : (e : ℕ) → e < E# → row_bytes p (edge_row p e) ≡ (edge p e).bytes
  unfolding row_bytes
  edge_bytes e l = rw (edge_is_edge e l, edge_back e)

  pub condition_bytes : (k : ℕ) → row_bytes p (condition_row p k) ≡ 1
  unfolding row_bytes
  condition_bytes k = rw (condition_not_edge k)

  -- a row is a process's, an edge's or a condition's
  pub data Kind : ℕ → Type 0 where
    a_process : (i : ℕ) → i < P# → Kind i
    an_edge : (e : ℕ) → e < E# → Kind (edge_row p e)
    a_condition : (k : ℕ) → k < C# → Kind (condition_row p k)

  pub kind : (r : ℕ) → r < rows p → Kind r
  kind r l = at (two (ltb r P#)) (two (ltb r (P# + E#)))
    where
      at : (ltb r P# ≡ true) ⊎ (ltb r P# ≡ false) → (ltb r (P# + E#) ≡ true) ⊎ (ltb r (P# + E#) ≡ false) → Kind r
      at (inl e) f = a_process r (ltb-true _ _ e)
      at (inr e) (inl f) =
          let u : P# ≤ r = ltb-false _ _ e in
          let v : r < P# + E# = ltb-true _ _ f in
          let q : P# + row_edge p r ≡ r = omega arith in
          subst Kind q (an_edge (row_edge p r) (omega arith))
      at (inr e) (inr f) =
          let u : P# + E# ≤ r = ltb-false _ _ f in
          let q : P# + E# + row_condition p r ≡ r = omega arith in
          subst Kind q (a_condition (row_condition p r) (omega arith))

  module _ (g : Good p) where
    pub sender_in : (r : ℕ) → r < rows p → sender p r < P#
    sender_in r l = at r (kind r l)
      where
        at : (r : ℕ) → Kind r → sender p r < P#
        at r (a_process i l) = omega (arith, process_sender i l)
        at r (an_edge e l) = omega (arith, edge_sender e l, g.from_in e l)
        at r (a_condition k l) = omega (arith, condition_sender k, g.decides k l)

    -- an item is on its way for at least a tick, and for no more than a round
    pub transit_one : (r : ℕ) → r < rows p → 1 ≤ transit p r
    unfolding transit row_node
    transit_one r l = slot_ticks_one p g _ (slot_in p g (sender p r) (sender_in r l))

    pub transit_round : (r : ℕ) → r < rows p → transit p r ≤ round p
    unfolding transit row_node
    transit_round r l = slot_in_round p g _ (slot_in p g (sender p r) (sender_in r l))

-- a process lasts its running time, an item its transit
pub full_tick : (p : Lines) (i : ℕ) → get_or (full_ticks p) i 0 ≡ (process p i).ticks
full_tick p i = get_or-map (λ (q : Process). q.ticks) p.processes i (record { node = 0; ticks = 0; waits = waits_all })

pub full_length : (p : Lines) → length (full_ticks p) ≡ length p.processes
full_length p = length-map p.processes (λ (q : Process). q.ticks)

module _ (p : Lines) (times : List ℕ) where
  pub process_span : (i : ℕ) → i < length p.processes → span p times i ≡ get_or times i 0
  unfolding span
  process_span i l = rw (lt-ltb i (length p.processes) l)

  pub item_span : (r : ℕ) → length p.processes ≤ r → span p times r ≡ transit p r
  unfolding span
  item_span r l = rw (le-ltb r (length p.processes) l)

-- with full ticks every row lasts at least a tick
pub span_one : (p : Lines) → Good p → (r : ℕ) → r < rows p → 1 ≤ span p (full_ticks p) r
span_one p g r l = at (two (is_process p r))
  where
    at : (is_process p r ≡ true) ⊎ (is_process p r ≡ false) → 1 ≤ span p (full_ticks p) r
    at (inl e) = let u : r < length p.processes = ltb-true _ _ e in omega (arith, process_span p (full_ticks p) r u, full_tick p r, g.ticks_one r u)
    at (inr e) = omega (arith, item_span p (full_ticks p) r (ltb-false _ _ e), transit_one p g r l)

-- the log's tests, as facts about its members
pub placed_in : (log : Log) (r : ℕ) → placed log r ≡ true → (x : Placed) × In x log × (x.row ≡ r)
placed_in log r h = let m = any_in (λ x. eqb x.row r) log h in (m.0, m.1, eqb-true _ _ m.2)

pub in_placed : {x : Placed} {log : Log} → In x log → (r : ℕ) → x.row ≡ r → placed log r ≡ true
in_placed {x} m r q = in_any (λ x. eqb x.row r) m (eq-eqb x.row r q)

module _ (p : Lines) (times : List ℕ) where
  pub over_in : (log : Log) (t r : ℕ) → over p times log t r ≡ true → (x : Placed) × In x log × (x.row ≡ r) × (x.tick + span p times r ≤ t)
  unfolding over
  over_in log t r h =
      let m = any_in _ log h in
      let x : Placed = m.0 in
      let b = both (eqb x.row r) (leb (x.tick + span p times r) t) m.2 in
      (x, m.1, eqb-true _ _ b.0, leb-true _ _ b.1)

  pub in_over : {x : Placed} {log : Log} (t r : ℕ) → In x log → x.row ≡ r → x.tick + span p times r ≤ t → over p times log t r ≡ true
  unfolding over
  in_over {x} {log} t r m q l =
      in_any (λ x. eqb x.row r && leb (x.tick + span p times r) t) m (join _ _ (eq-eqb x.row r q) (le-leb (x.tick + span p times r) t l))

  pub over_placed : (log : Log) (t r : ℕ) → over p times log t r ≡ true → placed log r ≡ true
  over_placed log t r h = let m = over_in log t r h in in_placed m.1 r m.2

-- by full ticks: the rows that are over, and the values that are known
abbrev pub done_by : Lines → Log → ℕ → ℕ → Bool
done_by p log t = over p (full_ticks p) log t

abbrev pub known_by : Lines → List Bool → Log → ℕ → List Heard
known_by p c log t = known p c (done_by p log t)

-- what is known of a condition
pub known_at : (p : Lines) (c : List Bool) (done : ℕ → Bool) (k : ℕ) → k < length p.conditions →
    get_or (known p c done) k unheard ≡ (if done (condition_row p k) then heard (get_or c k false) else unheard)
unfolding known
known_at p c done k l =
    getD_upfrom (λ k. if done (condition_row p k) then heard (get_or c k false) else unheard) 0 (length p.conditions) k unheard l
    ∙ ap (λ (k : ℕ). if done (condition_row p k) then heard (get_or c k false) else unheard) (omega arith)

pub known_length : (p : Lines) (c : List Bool) (done : ℕ → Bool) → length (known p c done) ≡ length p.conditions
unfolding known
known_length p c done =
    length-map (conditions p) (λ k. if done (condition_row p k) then heard (get_or c k false) else unheard) ∙ length_upfrom 0 (length p.conditions)

-- what is known to be met is met
module _ (p : Lines) (c : List Bool) (count : length c ≡ length p.conditions) (done : ℕ → Bool) where
  pub known_met : (w : When) → ((v : Bool) (k : ℕ) → w ≡ on v k → k < length p.conditions) → meets (known p c done) w ≡ true → meets (all_heard c) w ≡ true
  known_met always b h = refl
  known_met (on v k) b h =
      let l : k < length p.conditions = b v k refl in
      rw (heard_all c k (omega arith)) (at (done (condition_row p k)) (rw (known_at p c done k l) at h))
    where
      at : (b : Bool) → is (if b then heard (get_or c k false) else unheard) v ≡ true → beq (get_or c k false) v ≡ true
      at true e = e
      at false e = absurd (false≢true e)
