-- The lines in memory of a plan in which refusals 2 to 9 find nothing, and what is worked out of them, are what the model says
-- of its lines; and what the fixed orders say of a plan, part by part.
-- Assumes nothing.
use Rattle.std.specs.Prelude.{if◌then◌else◌}
use mathlib.Core.Path.{◌≡◌, refl, sym, ap, ◌∙◌}
use mathlib.Core.Bool.{Bool, true, false, not, ◌&&◌}
use mathlib.Core.List.{List, ◌∷◌, ◌++◌, map, Memᴰ as In}
use Prim.Native.Nat.{ℕ, zero, suc, ◌+◌, ◌-◌, ◌≤◌, ◌<◌}
use native.Mathlib.Omega.{arith}
use lib.Dec.{eqb}
use lib.ListN.{length, get_or, replicate, get_or-map, length-map}
use borrow.Author.Tests.{ne_eqb}
use Rattle.lists.specs.Lists.{keep, below, greatest, fill}
use Rattle.lists.specs.Ordered.{sort}
use Rattle.lists.proofs.Tests.{and_false, and_true}
use Rattle.lists.proofs.Members.{below_in, keep_in}
use Rattle.lists.proofs.Keep.{keep_same, each_same, length_upfrom}
use Rattle.lists.proofs.Fill.{fill_at, zeros_at, padded_at}
use Rattle.lists.proofs.Sorting.{sort_in}
use Rattle.lists.proofs.Insertion.{sort_same, sort_level, length_sort}
use Rattle.model.specs.Plan as m
use Rattle.model.specs.Plan.{Lines, process, edge, processes, edges, into, out_of, unit}
use Rattle.model.specs.Planning.{urgencies_from, urgencies, weights_by, weights, dispatch_order, queue}
use Rattle.model.specs.Refusals.{nothing, wrong_counts, plan_refusal}
use Rattle.laws.proofs.Good.{Good, pass, good}
use Rattle.plan.specs.declared.Pick.{Pick}
use Rattle.plan.specs.declared.Pick.TheVariants.{Urgency, Number}
use Rattle.plan.specs.declared.Plan.{Plan}
use Rattle.plan.specs.declared.Process.{Process}
use Rattle.plan.specs.declared.Edge.{Edge}
use Rattle.plan.specs.Memory.{pick_of, process_of, edge_of, no_process, no_edge, lines}
use Rattle.plan.specs.Numbers.{node_at, ticks_at, from_at, to_at}
use Rattle.plan.specs.Tests.{at}
use Rattle.plan.proofs.Counted.{in_column}
use Rattle.plan.proofs.TestsOnLines.{Few, few, counts_same, slots_length, processes_length, edges_length}
use Rattle.plan_order.specs.Urgency.{Upward, after, urgencies_of}
use Rattle.plan_order.specs.Weights.{weights_of, sender_key}
use Rattle.plan_order.specs.declared.by_key.Groups.{Groups}
use Rattle.plan_order.specs.declared.orders.Orders.{Orders}
use Rattle.plan_order.specs.Groups.{with_key, start, places, numbers, groups_of}
use Rattle.plan_order.specs.Orders.{dispatch_at, queue_at, orders_of}
use Rattle.plan_order.proofs.Laying.{Part, places_same, numbers_same, numbers_long, numbers_below, parts, places_most}
use Rattle.plan_order.proofs.Gathering.{start_few}

urgencies_lines : (p : Lines) (i n : ℕ) →
    urgencies_of (λ i. (process p i).ticks) (λ e. (edge p e).from) (λ e. (edge p e).to) (length p.edges) i n ≡ urgencies_from p i n
unfolding urgencies_of urgencies_from after
urgencies_lines p i zero = refl
urgencies_lines p i (suc n) =
    let later = urgencies_lines p (suc i) n in
    λ j. ((process p i).ticks + greatest (map (λ e. get_or (later j) ((edge p e).to - suc i) 0) (out_of p i))) ∷ later j

-- a message of node n, by its key
sender_same : (a b n : ℕ) → n < 8 → eqb (sender_key a b) n ≡ (eqb a n && not (eqb a b))
sender_same a b n l = by (eqb a b)
  where
    by : (t : Bool) → eqb (if t then 8 else a) n ≡ (eqb a n && not t)
    by true = ne_eqb 8 n (λ q. omega arith) ∙ sym (and_false (eqb a n))
    by false = sym (and_true (eqb a n))

module _ (p : Plan) (h : plan_refusal (lines p) ≡ nothing) where
  pub counts : Few p
  unfolding plan_refusal
  counts = few p (counts_same p ∙ (pass 2 (wrong_counts (lines p)) _ h).0)

  facts : Good (lines p)
  facts = good (lines p) h

  -- the lines in memory
  module _ (ps : List Process) (es : List Edge) (eq : map process_of ps ≡ (lines p).processes) (et : map edge_of es ≡ (lines p).edges) where
    pub processes_same : length ps ≡ length (lines p).processes
    processes_same = sym (length-map ps process_of) ∙ ap length eq

    pub edges_same : length es ≡ length (lines p).edges
    edges_same = sym (length-map es edge_of) ∙ ap length et

    pub few_processes : length ps ≤ 64
    few_processes = omega (arith, processes_same, processes_length p, counts.processes)

    pub few_edges : length es ≤ 128
    few_edges = omega (arith, edges_same, edges_length p, counts.edges)

    pub process_same : (i : ℕ) → process_of (get_or ps i no_process) ≡ process (lines p) i
    process_same i = sym (get_or-map process_of ps i no_process) ∙ ap (λ (xs : List m.Process). get_or xs i (process_of no_process)) eq

    pub edge_same : (e : ℕ) → edge_of (get_or es e no_edge) ≡ edge (lines p) e
    edge_same e = sym (get_or-map edge_of es e no_edge) ∙ ap (λ (xs : List m.Edge). get_or xs e (edge_of no_edge)) et

    node : {ns : List ℕ} → ns ≡ fill 64 (node_at ps) (length ps) → (i : ℕ) → at ns i ≡ (process (lines p) i).node
    node s i =
        ap (λ (v : List ℕ). at v i) s ∙ in_column (λ q. q.node) no_process ps 64 refl few_processes i ∙ ap (λ (q : m.Process). q.node) (process_same i)

    ticks : (i : ℕ) → ticks_at ps i ≡ (process (lines p) i).ticks
    ticks i = ap (λ (q : m.Process). q.ticks) (process_same i)

    from : (e : ℕ) → from_at es e ≡ (edge (lines p) e).from
    from e = ap (λ (e : m.Edge). e.from) (edge_same e)

    to : (e : ℕ) → to_at es e ≡ (edge (lines p) e).to
    to e = ap (λ (e : m.Edge). e.to) (edge_same e)

    receiver : {t : List ℕ} → t ≡ fill 128 (to_at es) (length es) → (e : ℕ) → at t e ≡ (edge (lines p) e).to
    receiver s e = ap (λ (v : List ℕ). at v e) s ∙ in_column (λ e. e.to) no_edge es 128 refl few_edges e ∙ to e

    pub upward : Upward (from_at es) (to_at es) (length es)
    upward e l = omega (arith, from e, to e, facts.upward e (omega (arith, edges_same)))

    pub few_ticks : (i : ℕ) → i < length ps → ticks_at ps i ≤ 100000
    few_ticks i l = omega (arith, ticks i, facts.ticks_most i (omega (arith, processes_same)))

    -- the weights
    same_urgencies : (k : ℕ) → get_or (urgencies_of (ticks_at ps) (from_at es) (to_at es) (length es) 0 (length ps)) k 0 ≡ get_or (urgencies (lines p)) k 0
    unfolding urgencies
    same_urgencies k =
        (λ j. get_or (urgencies_of (λ i. ticks i j) (λ e. from e j) (λ e. to e j) (edges_same j) 0 (processes_same j)) k 0)
        ∙ ap (λ (u : List ℕ). get_or u k 0) (urgencies_lines (lines p) 0 (length (lines p).processes))

    pub same_weights : (u : List ℕ) {w : List ℕ} → u ≡ urgencies_of (ticks_at ps) (from_at es) (to_at es) (length es) 0 (length ps) ++ replicate (64 - (length ps)) 0 →
        w ≡ weights_of p.line.pick u → (k : ℕ) → at w k ≡ get_or (weights (lines p)) k 0
    unfolding lines weights weights_by
    same_weights u {w} e r k = ap (λ (v : List ℕ). at v k) r ∙ by p.line.pick
      where
        by : (c : Pick) → at (weights_of c u) k ≡ get_or (weights_by (lines p) (pick_of c)) k 0
        by Urgency = ap (λ (v : List ℕ). at v k) e ∙ padded_at (urgencies_of (ticks_at ps) (from_at es) (to_at es) (length es) 0 (length ps)) (64 - (length ps)) k ∙ same_urgencies k
        by Number = zeros_at 64 k

    module _ (w : List ℕ) (e : (k : ℕ) → at w k ≡ get_or (weights (lines p)) k 0) where
      pub same_dispatch_order : sort (at w) (below (length ps)) ≡ dispatch_order (lines p)
      unfolding dispatch_order
      same_dispatch_order = λ j. sort (λ i. e i j) (below (processes_same j))

      pub same_queue : {r : List ℕ} → r ≡ fill 128 (λ i. at w (to_at es i)) (length es) → sort (at r) (below (length es)) ≡ queue (lines p)
      unfolding queue
      same_queue {r} s =
          let f : ℕ → ℕ = λ i. at w (to_at es i) in
          sort_same (at r) f (below (length es)) (λ x m. ap (λ (v : List ℕ). at v x) s ∙ fill_at 128 f (length es) x few_edges (below_in (length es) m))
          ∙ (λ j. sort (λ i. (e (to_at es i) ∙ ap (λ (k : ℕ). get_or (weights (lines p)) k 0) (to i)) j) (below (edges_same j)))

    -- the groups
    pub same_into : {g : Groups} {z t : List ℕ} → z ≡ replicate 128 0 → t ≡ fill 128 (to_at es) (length es) → g ≡ groups_of (at t) (sort (at z) (below (length es))) (length ps) →
        g ≡ record { first = places (into (lines p)) (length (lines p).processes); member = numbers (into (lines p)) (length (lines p).processes) }
    unfolding groups_of with_key
    same_into {z = z} {t = t} s k r =
        let same : (i : ℕ) → with_key (at t) (sort (at z) (below (length es))) i ≡ into (lines p) i =
        λ i.
        ap (keep (λ e. eqb (at t e) i)) (sort_level (at z) (below (length es)) (λ n. ap (λ (v : List ℕ). at v n) s ∙ zeros_at 128 n))
        ∙ (λ j. keep (λ e. eqb (receiver k e j) i) (below (edges_same j))) in
        r ∙ (λ j. record { first = places (λ i. same i j) (processes_same j); member = numbers (λ i. same i j) (processes_same j) })

    pub same_dispatch : {g : Groups} {ns xs : List ℕ} → ns ≡ fill 64 (node_at ps) (length ps) → xs ≡ dispatch_order (lines p) → g ≡ groups_of (at ns) xs p.slots →
        g ≡ record { first = places (dispatch_at (lines p)) (length (lines p).slots); member = numbers (dispatch_at (lines p)) (length (lines p).slots) }
    unfolding groups_of with_key unit
    same_dispatch {ns = ns} {xs = xs} k s r =
        let same : (u : ℕ) → with_key (at ns) xs u ≡ dispatch_at (lines p) u = λ u j. keep (λ i. eqb (node k i j) u) (s j) in
        r ∙ (λ j. record { first = places (λ u. same u j) (sym (slots_length p) j); member = numbers (λ u. same u j) (sym (slots_length p) j) })

    same_messages : {ns s : List ℕ} → ns ≡ fill 64 (node_at ps) (length ps) → s ≡ fill 128 (λ e. sender_key (at ns (from_at es e)) (at ns (to_at es e))) (length es) →
        (n : ℕ) → n < p.slots → with_key (at s) (queue (lines p)) n ≡ queue_at (lines p) n
    unfolding with_key queue
    same_messages {ns} {s} k r n l =
        let f : ℕ → ℕ = λ e. sender_key (at ns (from_at es e)) (at ns (to_at es e)) in
        keep_same _ _ (queue (lines p)) (λ e m.
        let i : e < length (lines p).edges = below_in (length (lines p).edges) (sort_in _ (below (length (lines p).edges)) m) in
        ap (λ (v : List ℕ). eqb (at v e) n) r
        ∙ ap (λ (x : ℕ). eqb x n) (fill_at 128 f (length es) e few_edges (omega (arith, edges_same)))
        ∙ (λ j. eqb (sender_key (node_of (from e) j) (node_of (to e) j)) n)
        ∙ sender_same (process (lines p) (edge (lines p) e).from).node (process (lines p) (edge (lines p) e).to).node n (omega (arith, counts.slots)))
      where
        node_of : {i k : ℕ} → i ≡ k → at ns i ≡ (process (lines p) k).node
        node_of {i} e = node k i ∙ ap (λ (k : ℕ). (process (lines p) k).node) e

    pub same_queues : {g : Groups} {ns xs s : List ℕ} → ns ≡ fill 64 (node_at ps) (length ps) → s ≡ fill 128 (λ e. sender_key (at ns (from_at es e)) (at ns (to_at es e))) (length es) →
        xs ≡ queue (lines p) → g ≡ groups_of (at s) xs p.slots →
        g ≡ record { first = places (queue_at (lines p)) (length (lines p).slots); member = numbers (queue_at (lines p)) (length (lines p).slots) }
    unfolding groups_of
    same_queues {s = s} w k e r =
        let a = with_key (at s) (queue (lines p)) in
        let b = queue_at (lines p) in
        r ∙ (λ j. record { first = places (with_key (at s) (e j)) p.slots; member = numbers (with_key (at s) (e j)) p.slots })
        ∙ (λ j. record { first = places_same a b p.slots (same_messages w k) j; member = numbers_same a b p.slots (same_messages w k) j })
        ∙ (λ j. record { first = places b (sym (slots_length p) j); member = numbers b (sym (slots_length p) j) })

-- What the orders say of a plan, part by part.
pub record Ordered (p : Lines) (o : Orders) : Type 0 where
  pub into : (i : ℕ) → i < length p.processes → Part o.intofirst o.into i (into p i)
  pub dispatch_order : (u : ℕ) → u < length p.slots → Part o.dispatchfirst o.dispatch u (dispatch_at p u)
  pub queue : (n : ℕ) → n < length p.slots → Part o.queuefirst o.queue n (queue_at p n)
  -- every place is one of 128, and every number that of an edge or of a process, or 0
  pub into_places : (k : ℕ) → at o.intofirst k ≤ 128
  pub dispatch_places : (k : ℕ) → at o.dispatchfirst k ≤ 128
  pub queue_places : (k : ℕ) → at o.queuefirst k ≤ 128
  pub into_numbers : (j : ℕ) → at o.into j < 128
  pub dispatch_numbers : (j : ℕ) → at o.dispatch j < 64
  pub queue_numbers : (j : ℕ) → at o.queue j < 128
  -- the arrays have their lengths
  pub into_long : length o.into ≡ 128
  pub dispatch_long : length o.dispatch ≡ 128
  pub queue_long : length o.queue ≡ 128

module _ (p : Lines) (g : Good p) where
  into_few : start (into p) (length p.processes) ≤ 128
  unfolding with_key
  into_few = omega (arith, start_few (λ e. (edge p e).to) (edges p) (length p.processes), length_upfrom 0 (length p.edges), g.few_edges)

  dispatch_few : start (dispatch_at p) (length p.slots) ≤ 128
  unfolding with_key dispatch_order
  dispatch_few =
      let w : ℕ → ℕ = λ i. get_or (weights p) i 0 in
      omega
      (arith, start_few (unit p) (dispatch_order p) (length p.slots), length_sort w (processes p), length_upfrom 0 (length p.processes), g.few_processes)

  queue_few : start (queue_at p) (length p.slots) ≤ 128
  unfolding with_key queue
  queue_few =
      let w : ℕ → ℕ = λ e. get_or (weights p) (edge p e).to 0 in
      let key : ℕ → ℕ = λ e. sender_key (process p (edge p e).from).node (process p (edge p e).to).node in
      let same : (n : ℕ) → n < 0 + length p.slots → queue_at p n ≡ with_key key (queue p) n =
      λ n l. sym (λ j. keep (λ e. sender_same (process p (edge p e).from).node (process p (edge p e).to).node n (omega (arith, g.few_slots)) j) (queue p)) in
      omega
      (arith, ap length (each_same (queue_at p) (with_key key (queue p)) 0 (length p.slots) same), start_few key (queue p) (length p.slots), length_sort w (edges p), length_upfrom 0 (length p.edges), g.few_edges)

  edge_number : (f : ℕ → Bool) {x : ℕ} → In x (keep f (edges p)) → x < 128
  edge_number f i = omega (arith, below_in (length p.edges) (keep_in f (edges p) i).0, g.few_edges)

  dispatch_number : (f : ℕ → Bool) {x : ℕ} → In x (keep f (dispatch_order p)) → x < 64
  unfolding dispatch_order
  dispatch_number f i = omega (arith, below_in (length p.processes) (sort_in _ (processes p) (keep_in f (dispatch_order p) i).0), g.few_processes)

  queue_number : (f : ℕ → Bool) {x : ℕ} → In x (keep f (queue p)) → x < 128
  unfolding queue
  queue_number f i = omega (arith, below_in (length p.edges) (sort_in _ (edges p) (keep_in f (queue p) i).0), g.few_edges)

  pub ordered : Ordered p (orders_of p)
  unfolding orders_of
  ordered =
      let nodes : length p.slots ≤ 64 = omega (arith, g.few_slots) in
      record {
        into = parts (into p) (length p.processes) g.few_processes into_few;
        dispatch_order = parts (dispatch_at p) (length p.slots) nodes dispatch_few;
        queue = parts (queue_at p) (length p.slots) nodes queue_few;
        into_places = places_most (into p) (length p.processes) g.few_processes into_few;
        dispatch_places = places_most (dispatch_at p) (length p.slots) nodes dispatch_few;
        queue_places = places_most (queue_at p) (length p.slots) nodes queue_few;
        into_numbers = numbers_below (into p) (length p.processes) g.few_processes into_few 128 (omega arith) (λ k l x i. edge_number _ i);
        dispatch_numbers = numbers_below (dispatch_at p) (length p.slots) nodes dispatch_few 64 (omega arith) (λ k l x i. dispatch_number _ i);
        queue_numbers = numbers_below (queue_at p) (length p.slots) nodes queue_few 128 (omega arith) (λ k l x i. queue_number _ i);
        into_long = numbers_long (into p) (length p.processes) g.few_processes into_few;
        dispatch_long = numbers_long (dispatch_at p) (length p.slots) nodes dispatch_few;
        queue_long = numbers_long (queue_at p) (length p.slots) nodes queue_few;
      }
