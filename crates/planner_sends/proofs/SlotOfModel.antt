-- Where the arrays hold a plan, a combination and a log, a slot takes what the model's slot takes: the arrays then hold
-- the log with that in front, something was passed over just where the model says so, and only rows of items that were
-- taken change. A node has something pending just where the model says so.
-- Assumes nothing.
use mathlib.Core.Path.{◌≡◌, refl, sym, ap, ◌∙◌, subst}
use mathlib.Core.Logic.{◌⊎◌, inl, inr}
use mathlib.Core.Bool.{Bool, false, not, ◌&&◌, ◌||◌, and_assoc, or_comm}
use mathlib.Core.List.Memᴰ.{append_left as in_left}
use mathlib.Core.List.{List, [], ◌∷◌, ◌++◌, map, Memᴰ as In}
use Prim.Native.Nat.{ℕ, suc, ◌+◌, ◌-◌, ◌≤◌, ◌<◌}
use native.Mathlib.Omega.{arith}
use lib.Dec.{eqb, ltb}
use lib.ListN.{length, get_or}
use borrow.Author.Tests.{eqb-true, ltb-false, not-false}
use Rattle.lists.specs.Lists.{any, null, keep, repeated, below}
use Rattle.lists.proofs.Members.{keep_in, map_in, below_in}
use Rattle.lists.proofs.Keep.{keep_keep, keep_same}
use Rattle.lists.proofs.Different.{keep_different, different_append, different_map, different_upfrom}
use Rattle.model.specs.Plan.{Lines, Slot, process, edge, decider, conditions, local}
use Rattle.model.specs.Bus.{slot_ticks, slot_of, edge_row, condition_row, row_bytes, transit}
use Rattle.model.specs.Log.{Log, full_ticks, span, broadcast_ready}
use Rattle.model.specs.Planning.{View, view, queue, waits_to_broadcast, waits_to_send, pending, pack, takes, passes_over}
use Rattle.model.specs.Refusals.{nothing, plan_refusal}
use Rattle.laws.proofs.Good.{Good, good}
use Rattle.laws.proofs.Slots.{slot_own, slot_ticks_one}
use Rattle.laws.proofs.Rows.{edge_bytes, condition_bytes, item_span}
use Rattle.laws.proofs.Steps.{Pending, broadcast, message, pending_in, pending_fresh, pending_item, pending_node, queue_in, queue_once, seen}
use Rattle.bitset.proofs.Built.{built_members}
use Rattle.log_queries.specs.Reading.{came_by, placed_by, part}
use Rattle.log_queries.specs.Holding.{Holds, Held, Logged}
use Rattle.log_queries.proofs.ReadyOfModel.{message_link, view_link}
use Rattle.log_queries.proofs.Held.{held_logged}
use Rattle.planner_sends.specs.Packing.{Load, load, broadcasts_by, waits_by, pending_by, broadcast_all, all_broadcast, send_all, broadcasts_sent, with_broadcast, send_by}
use Rattle.planner_sends.specs.Items.{Items}
use Rattle.planner_sends.proofs.Scan.{keep_some}
use Rattle.planner_sends.proofs.Rows.{try_all, try_append, try_other, try_either, try_kept, broadcasts_rows, ready_kept, sends_rows}
use Rattle.planner_sends.proofs.Packs.{Item, packs_held, packs_short}

-- what the slot of node n takes, in a plan's own numbers
abbrev pub slot_load : Lines → List ℕ → List ℕ → List ℕ → List ℕ → List ℕ → List ℕ → List ℕ → ℕ → ℕ → ℕ → ℕ → ℕ → ℕ → List ℕ → List ℕ → Load
slot_load p deciders nodes messages from knownby unmet bytes n a b room u end comes place =
    send_by (length p.processes) (length p.processes + length p.edges) (length p.conditions) deciders nodes messages from knownby unmet bytes n a b room u end comes place

-- two lists joined are empty just where both are
joined_some : (f g : ℕ → ℕ) (xs ys : List ℕ) → not (null (map f xs ++ map g ys)) ≡ (not (null xs) || not (null ys))
joined_some f g [] [] = refl
joined_some f g [] (y ∷ ys) = refl
joined_some f g (x ∷ xs) ys = refl

-- the items that a node has pending are different
pending_differ : (p : Lines) (v : View) (n : ℕ) → repeated (pending p v n) ≡ false
unfolding pending
pending_differ p v n =
    different_append (map (condition_row p) conditionrow) (map (edge_row p) send)
    (different_map (condition_row p) (λ a b q. omega arith) conditionrow (keep_different (waits_to_broadcast p v n) (conditions p) (different_upfrom 0 (length p.conditions))))
    (different_map (edge_row p) (λ a b q. omega arith) send (keep_different (waits_to_send p v n) (queue p) (queue_once p)))
    (λ r m m'.
    let a = map_in (condition_row p) conditionrow m in
    let b = map_in (edge_row p) send m' in
    let l = queue_in p (keep_in (waits_to_send p v n) (queue p) b.1).0 in
    omega (arith, sym a.2 ∙ b.2))
  where
    conditionrow : List ℕ
    conditionrow = keep (waits_to_broadcast p v n) (conditions p)

    send : List ℕ
    send = keep (waits_to_send p v n) (queue p)

module _ (p : Lines) (fine : plan_refusal p ≡ nothing) (c : List Bool) (from knownby unmet remote asany first into : List ℕ)
    (h : Holds p c from knownby unmet remote asany first into)
    (deciders nodes bytes messages : List ℕ) (n a b : ℕ) (it : Items p n deciders nodes bytes messages a b)
    (log : Log) (comes place : List ℕ) (held : Held p log comes place) (t : ℕ) where
  facts : Good p
  facts = good p fine

  abbrev P# : ℕ
  P# = length p.processes

  abbrev conditionrow : ℕ
  conditionrow = length p.processes + length p.edges

  abbrev C# : ℕ
  C# = length p.conditions

  abbrev now : View
  now = view p c log t

  abbrev pending_broadcasts : ℕ → Bool
  pending_broadcasts = broadcasts_by conditionrow deciders nodes comes n (suc t)

  abbrev sends : ℕ → Bool
  sends = waits_by P# from knownby unmet comes (suc t)

  abbrev own_message : ℕ → Bool
  own_message e = eqb (process p (edge p e).from).node n && not (local p e)

  logged : Logged p log comes
  logged = held_logged p log comes place held

  viewed : seen p c (came_by comes (suc t)) (placed_by comes) ≡ now
  viewed = sym (view_link p c log comes logged t)

  -- what waits
  broadcast_link : (k : ℕ) → k < C# → pending_broadcasts k ≡ waits_to_broadcast p now n k
  unfolding broadcasts_by waits_to_broadcast broadcast_ready
  broadcast_link k l =
      (λ i. (eqb ((ap (λ (d : ℕ). get_or nodes d 0) (it.decided k l) ∙ it.node_of (decider p k)) i) n && not (placed_by comes (conditionrow + k))) && came_by comes (suc t) (it.decided k l i))
      ∙ ap (λ (v : View). waits_to_broadcast p v n k) viewed

  send_link : (e : ℕ) → (own_message e && sends e) ≡ waits_to_send p now n e
  unfolding waits_by waits_to_send
  send_link e =
      ap (λ (m : Bool). own_message e && (not (placed_by comes (P# + e)) && m)) (message_link p facts c from knownby unmet remote asany first into comes (suc t) h e)
      ∙ sym (and_assoc (own_message e) (not (placed_by comes (P# + e))) _)
      ∙ ap (λ (v : View). waits_to_send p v n e) viewed

  abbrev broadcastend : List ℕ
  broadcastend = keep pending_broadcasts (below C#)

  abbrev sent : List ℕ
  sent = keep sends (part messages a b)

  rows_link : map (λ k. conditionrow + k) broadcastend ++ map (λ e. P# + e) sent ≡ pending p now n
  unfolding pending
  rows_link =
      (λ i. map (λ k. conditionrow + k) (keep_same pending_broadcasts (waits_to_broadcast p now n) (below C#) (λ k m. broadcast_link k (below_in C# m)) i)
      ++ map (λ e. P# + e) ((ap (keep sends) it.queued ∙ keep_keep sends own_message (queue p) ∙ (λ j. keep (λ e. send_link e j) (queue p))) i))

  pub pending_link : pending_by (length p.processes) (length p.processes + length p.edges) (length p.conditions) deciders nodes messages from knownby unmet comes n a b (suc t)
      ≡ not (null (pending p (view p c log t) n))
  unfolding pending_by
  pending_link =
      or_comm (any sends (part messages a b)) (any pending_broadcasts (below C#))
      ∙ (λ i. sym (keep_some pending_broadcasts (below C#)) i || sym (keep_some sends (part messages a b)) i)
      ∙ sym (joined_some (λ k. conditionrow + k) (λ e. P# + e) broadcastend sent)
      ∙ ap (λ (rs : List ℕ). not (null rs)) rows_link

  -- the messages of the queue's part
  message_in : (e : ℕ) → In e (part messages a b) → e < length p.edges
  message_in e m = queue_in p (keep_in own_message (queue p) (subst (λ (es : List ℕ). In e es) it.queued m)).0

  messages_differ : repeated (part messages a b) ≡ false
  messages_differ = ap repeated it.queued ∙ keep_different own_message (queue p) (queue_once p)

  module _ (s : Slot) (m : In s p.slots) (own : s.node ≡ n) (room end : ℕ) (size : room ≡ s.bytes) (ends : end ≡ suc t + slot_ticks p s) where
    abbrev S : Load
    S = slot_load p deciders nodes messages from knownby unmet bytes n a b room (suc t) end comes place

    abbrev start : Load
    start = load 0 false comes place

    abbrev all_of : List ℕ → Load → Load
    all_of = try_all room end (row_bytes p)

    late : suc t < end
    late = omega (arith, slot_ticks_one p facts s m)

    item : (r : ℕ) → In r (pending p now n) → Item p room t end r
    unfolding transit
    item r i =
        let q : Pending p now n r = pending_in p now n r i in
        record {
          row_in = in_arrays r q;
          no_process = pending_item p now n r q;
          ends =
              let z : span p (full_ticks p) r ≡ slot_ticks p s =
              item_span p (full_ticks p) r (pending_item p now n r q)
              ∙ ap (λ (k : ℕ). slot_ticks p (slot_of p k)) (pending_node p now n r q ∙ sym own)
              ∙ ap (slot_ticks p) (slot_own p facts s m) in
              omega arith;
          some = a_byte r q;
        }
      where
        in_arrays : (r : ℕ) → Pending p now n r → r < 198
        in_arrays r (broadcast k q) = omega (arith, q.in_range, facts.few_processes, facts.few_edges, facts.few_conditions)
        in_arrays r (message e q) = omega (arith, q.in_range, facts.few_processes, facts.few_edges)

        a_byte : (r : ℕ) → Pending p now n r → 1 ≤ row_bytes p r
        a_byte r (broadcast k q) = omega (arith, condition_bytes p k)
        a_byte r (message e q) = omega (arith, edge_bytes p e q.in_range, facts.edge_one e q.in_range)

    fresh : (r : ℕ) → In r (pending p now n) → get_or comes r 0 ≡ 0
    unfolding view placed_by
    fresh r i =
        eqb-true _ _ (not-false _ (ap (λ (f : ℕ → Bool). f r) (sym logged.put_by) ∙ pending_fresh p now n r (pending_in p now n r i)))

    -- the broadcasts
    with_broadcast_in : (r : ℕ) → In r (map (λ k. conditionrow + k) broadcastend) → In r (pending p now n)
    with_broadcast_in r i = subst (λ (rs : List ℕ). In r rs) rows_link (in_left (map (λ e. P# + e) sent) i)

    abbrev T : Load
    T = try_all room end (row_bytes p) (map (λ k. conditionrow + k) broadcastend) start

    broadcasts_link : broadcasts_sent conditionrow C# deciders nodes n room (suc t) end comes place ≡ T
    unfolding broadcasts_sent all_broadcast
    broadcasts_link =
        let z : room ≡ room - 0 = omega arith in
        (λ i. broadcast_all conditionrow end (z i) (built_members pending_broadcasts C# facts.few_conditions i) (load 0 (ltb (z i) (length (built_members pending_broadcasts C# facts.few_conditions i))) comes place))
        ∙ broadcasts_rows conditionrow room end (row_bytes p) broadcastend (λ k m. condition_bytes p k) 0 false comes place

    -- a condition's row is no row of a message
    no_message : (k : ℕ) → In (condition_row p k) (map (λ e. P# + e) sent) → ⊥
    no_message k i =
        let e = map_in (λ e. P# + e) sent i in
        omega (arith, e.2, message_in e.0 (keep_in sends (part messages a b) e.1).0)

    no_broadcast : (e : ℕ) → e < length p.edges → In (P# + e) (map (λ k. conditionrow + k) broadcastend) → ⊥
    no_broadcast e l i = let k = map_in (λ k. conditionrow + k) broadcastend i in omega (arith, k.2)

    -- all that the slot takes
    sends_link : S ≡ try_all room end (row_bytes p) (map (λ e. P# + e) sent) T
    unfolding send_by
    sends_link =
        ap (send_all P# from knownby unmet bytes room (suc t) end (part messages a b)) broadcasts_link
        ∙ sends_rows P# from knownby unmet bytes room (suc t) end late (row_bytes p) sends (part messages a b) T messages_differ
        (λ e i. it.bytes_of e ∙ sym (edge_bytes p e (message_in e i)))
        (λ e i. ready_kept P# from knownby unmet bytes room (suc t) end late (row_bytes p) sends comes T.comes e
        (try_kept (suc t) end late room (row_bytes p) (map (λ k. conditionrow + k) broadcastend) start (λ r j. (item r (with_broadcast_in r j)).some) (λ r j. fresh r (with_broadcast_in r j)))
        (try_other room end (row_bytes p) (map (λ k. conditionrow + k) broadcastend) start (P# + e) (no_broadcast e (message_in e i))))

    taken_link : S ≡ try_all room end (row_bytes p) (pending p now n) start
    taken_link =
        sends_link ∙ sym (try_append room end (row_bytes p) (map (λ k. conditionrow + k) broadcastend) (map (λ e. P# + e) sent) start)
        ∙ ap (λ (rs : List ℕ). all_of rs start) rows_link

    takes_link : pack p room t 0 (pending p now n) ≡ takes p now t s
    unfolding takes
    takes_link = λ i. pack p (size i) t 0 (pending p now (sym own i))

    -- the arrays hold the log with what the slot takes
    pub send_held : Held p (takes p (view p c log t) t s ++ log)
        (slot_load p deciders nodes messages from knownby unmet bytes n a b room (suc t) end comes place).comes
        (slot_load p deciders nodes messages from knownby unmet bytes n a b room (suc t) end comes place).place
    send_held =
        subst (λ (x : Load). Held p (takes p now t s ++ log) x.comes x.place) (sym taken_link)
        (subst (λ (l : Log). Held p (l ++ log) (all_of (pending p now n) start).comes (all_of (pending p now n) start).place) takes_link
        (packs_held p room t end (pending p now n) log start (pending_differ p now n) item fresh (omega arith) held))

    -- a ready item was not taken
    pub send_short : (slot_load p deciders nodes messages from knownby unmet bytes n a b room (suc t) end comes place).short
        ≡ passes_over p (view p c log t) t s
    unfolding passes_over
    send_short =
        ap (λ (x : Load). x.short) taken_link
        ∙ packs_short p room t end (pending p now n) start (λ r i. (item r i).some)
        ∙ (λ i. ltb (length (takes_link i)) (length (pending p now (sym own i))))

    -- a row stays as it was, or has the slot's end, and then bytes are used
    pub send_either : (r : ℕ) →
        (get_or (slot_load p deciders nodes messages from knownby unmet bytes n a b room (suc t) end comes place).comes r 0
        ≡ get_or comes r 0)
        ⊎ ((get_or (slot_load p deciders nodes messages from knownby unmet bytes n a b room (suc t) end comes place).comes r 0
        ≡ end)
        × (0 < (slot_load p deciders nodes messages from knownby unmet bytes n a b room (suc t) end comes place).used))
    send_either r =
        subst (λ (x : Load). (get_or x.comes r 0 ≡ get_or comes r 0) ⊎ ((get_or x.comes r 0 ≡ end) × (0 < x.used))) (sym taken_link)
        (try_either room end (row_bytes p) (pending p now n) start (λ r i. (item r i).some) r)

    -- with no broadcast among the items, the rows of conditions stay as they were
    pub send_without_broadcast : with_broadcast (length p.processes + length p.edges) (length p.conditions) deciders nodes n room (suc t) end comes place ≡ false → (k : ℕ) →
        get_or (slot_load p deciders nodes messages from knownby unmet bytes n a b room (suc t) end comes place).comes (condition_row p k) 0
        ≡ get_or comes (condition_row p k) 0
    unfolding with_broadcast
    send_without_broadcast q k =
        ap (λ (x : Load). get_or x.comes (condition_row p k) 0) sends_link
        ∙ try_other room end (row_bytes p) (map (λ e. P# + e) sent) T (condition_row p k) (no_message k)
        ∙ at (try_either room end (row_bytes p) (map (λ k. conditionrow + k) broadcastend) start (λ r i. (item r (with_broadcast_in r i)).some) (condition_row p k))
      where
        none : T.used ≤ 0
        none = ltb-false 0 T.used (ap (λ (x : Load). ltb 0 x.used) (sym broadcasts_link) ∙ q)

        at : (get_or T.comes (condition_row p k) 0 ≡ get_or comes (condition_row p k) 0) ⊎ ((get_or T.comes (condition_row p k) 0 ≡ end) × (0 < T.used)) →
            get_or T.comes (condition_row p k) 0 ≡ get_or comes (condition_row p k) 0
        at (inl e) = e
        at (inr e) = absurd (let l = e.1 in omega (arith, none))

    -- the rows of processes stay as they were
    pub send_processes : (i : ℕ) → i < length p.processes →
        get_or (slot_load p deciders nodes messages from knownby unmet bytes n a b room (suc t) end comes place).comes i 0
        ≡ get_or comes i 0
    send_processes i l =
        ap (λ (x : Load). get_or x.comes i 0) taken_link
        ∙ try_other room end (row_bytes p) (pending p now n) start i (λ j. let z = (item i j).no_process in omega arith)
