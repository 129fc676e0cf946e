-- The numbers in the columns of a plan in which refusals 2 to 9 find nothing: what they are in the plan's lines, and
-- how large they are.
-- Assumes nothing.
use mathlib.Core.Path.{◌≡◌, refl, sym, ap, ◌∙◌}
use mathlib.Core.Logic.{◌⊎◌, inl, inr}
use mathlib.Core.Bool.{Bool, true, false}
use mathlib.Core.List.{List, map}
use Prim.Native.Nat.{ℕ, ◌+◌, ◌≤◌, ◌<◌}
use native.Mathlib.Omega.{arith}
use lib.Dec.{ltb}
use lib.ListN.{length, get_or, get_or-eq_default}
use borrow.Author.Tests.{ltb-true, ltb-false}
use Rattle.lists.specs.Lists.{fill}
use Rattle.lists.proofs.Tests.{two}
use Rattle.lists.proofs.Fill.{fill_at, fill_all}
use Rattle.model.specs.Plan.{Process, Edge, waits_all, When, always, on, process, edge, decider}
use Rattle.model.specs.Refusals.{nothing, plan_refusal}
use Rattle.laws.proofs.Good.{Good, good}
use Rattle.plan.specs.declared.Waits.TheVariants.{All, Any}
use Rattle.plan.specs.declared.Plan.{Plan}
use Rattle.plan.specs.declared.Waits as memory
use Rattle.plan.specs.declared.Process as held_process
use Rattle.plan.specs.declared.Edge as held_edge
use Rattle.plan.specs.Memory.{waits_of, process_of, edge_of, no_process, no_edge, lines}
use Rattle.plan.specs.Numbers.{any_number, node_at, ticks_at, any_at, from_at, to_at, bytes_at, kind_at, condition_at}
use Rattle.plan.specs.Tests.{at}
use Rattle.plan.specs.Kinds.{kind_of, condition_of}
use Rattle.plan_layout.specs.Columns.{process_columns, edge_columns, any_of}
use Rattle.plan.proofs.Counted.{in_column}
use Rattle.plan.proofs.TestsOnLines.{Few, same_kind, same_condition, processes_length, edges_length, conditions_length, decider_at}
use Rattle.plan_order.proofs.OrdersOfModel.{counts, processes_same, edges_same, process_same, edge_same}
use Rattle.plan_layout.specs.LineArrays.{as_any_of, receiver_of, as_any_by_process, remote_by_edge}
use Rattle.plan_layout.specs.Layout.{Small}

same_any : (w : memory.Waits) → any_number w ≡ any_of (waits_of w)
unfolding any_of
same_any All = refl
same_any Any = refl

-- a condition that a `when` names is among the first six
condition_small : (w : When) → ((v : Bool) (k : ℕ) → w ≡ on v k → k < 6) → condition_of w < 6
unfolding condition_of
condition_small always h = omega arith
condition_small (on v k) h = h v k refl

-- what stands in the columns of a plan's lines
module _ (p : Plan) (f : Few p) where
  few_processes : length (lines p).processes ≤ 64
  few_processes = omega (arith, processes_length p, f.processes)

  few_edges : length (lines p).edges ≤ 128
  few_edges = omega (arith, edges_length p, f.edges)

  pub process_node : (i : ℕ) → at (process_columns (lines p)).node i ≡ (process (lines p) i).node
  unfolding process_columns
  process_node = in_column (λ q. q.node) _ (lines p).processes 64 refl few_processes

  pub process_ticks : (i : ℕ) → at (process_columns (lines p)).ticks i ≡ (process (lines p) i).ticks
  unfolding process_columns
  process_ticks = in_column (λ q. q.ticks) _ (lines p).processes 64 refl few_processes

  pub any_says : (i : ℕ) → at (process_columns (lines p)).any i ≡ any_of (process (lines p) i).waits
  unfolding process_columns any_of
  any_says = in_column (λ q. any_of q.waits) _ (lines p).processes 64 refl few_processes

  pub edge_from : (e : ℕ) → at (edge_columns (lines p)).from e ≡ (edge (lines p) e).from
  unfolding edge_columns
  edge_from = in_column (λ x. x.from) _ (lines p).edges 128 refl few_edges

  pub edge_to : (e : ℕ) → at (edge_columns (lines p)).to e ≡ (edge (lines p) e).to
  unfolding edge_columns
  edge_to = in_column (λ x. x.to) _ (lines p).edges 128 refl few_edges

  pub edge_bytes : (e : ℕ) → at (edge_columns (lines p)).bytes e ≡ (edge (lines p) e).bytes
  unfolding edge_columns
  edge_bytes = in_column (λ x. x.bytes) _ (lines p).edges 128 refl few_edges

  pub edge_kind : (e : ℕ) → at (edge_columns (lines p)).kind e ≡ kind_of (edge (lines p) e).when
  unfolding edge_columns kind_of
  edge_kind = in_column (λ x. kind_of x.when) _ (lines p).edges 128 refl few_edges

  pub edge_condition : (e : ℕ) → at (edge_columns (lines p)).condition e ≡ condition_of (edge (lines p) e).when
  unfolding edge_columns condition_of
  edge_condition = in_column (λ x. condition_of x.when) _ (lines p).edges 128 refl few_edges

module _ (p : Plan) (h : plan_refusal (lines p) ≡ nothing) where
  pub facts : Good (lines p)
  facts = good (lines p) h

  pub few : Few p
  few = counts p h

  pub process_any : (i : ℕ) → at (process_columns (lines p)).any i ≡ any_of (process (lines p) i).waits
  process_any = any_says p few

  -- past the plan's lines
  pub no_process_at : (i : ℕ) → p.processes ≤ i → process (lines p) i ≡ record { node = 0; ticks = 0; waits = waits_all }
  no_process_at i l = get_or-eq_default (lines p).processes _ (omega (arith, processes_length p))

  pub no_edge_at : (e : ℕ) → p.edges ≤ e → edge (lines p) e ≡ record { from = 0; to = 0; bytes = 0; when = always }
  no_edge_at e l = get_or-eq_default (lines p).edges _ (omega (arith, edges_length p))

  -- what holds of each process and of the empty line, and the same of edges
  pub each_process : (P : Process → Type 0) → ((i : ℕ) → i < length (lines p).processes → P (process (lines p) i)) →
      P (record { node = 0; ticks = 0; waits = waits_all }) → (i : ℕ) → P (process (lines p) i)
  each_process P f z i = by (two (ltb i p.processes))
    where
      by : (ltb i p.processes ≡ true) ⊎ (ltb i p.processes ≡ false) → P (process (lines p) i)
      by (inl e) = let l = ltb-true i p.processes e in f i (omega (arith, processes_length p))
      by (inr e) = rw (no_process_at i (ltb-false _ _ e)) z

  pub each_edge : (P : Edge → Type 0) → ((e : ℕ) → e < length (lines p).edges → P (edge (lines p) e)) →
      P (record { from = 0; to = 0; bytes = 0; when = always }) → (e : ℕ) → P (edge (lines p) e)
  each_edge P f z e = by (two (ltb e p.edges))
    where
      by : (ltb e p.edges ≡ true) ⊎ (ltb e p.edges ≡ false) → P (edge (lines p) e)
      by (inl t) = let l = ltb-true e p.edges t in f e (omega (arith, edges_length p))
      by (inr t) = rw (no_edge_at e (ltb-false _ _ t)) z

  pub node_small : (i : ℕ) → at (process_columns (lines p)).node i < 8
  node_small i =
      rw (process_node p few i)
      (each_process (λ q. q.node < 8) (λ i l. omega (arith, facts.node_in i l, facts.few_slots)) (omega arith) i)

  pub ticks_small : (i : ℕ) → at (process_columns (lines p)).ticks i ≤ 100000
  ticks_small i = rw (process_ticks p few i) (each_process (λ q. q.ticks ≤ 100000) facts.ticks_most (omega arith) i)

  pub from_small : (e : ℕ) → at (edge_columns (lines p)).from e < 64
  from_small e =
      rw (edge_from p few e) (each_edge (λ x. x.from < 64) (λ e l. omega (arith, facts.from_in e l, facts.few_processes)) (omega arith) e)

  pub to_small : (e : ℕ) → at (edge_columns (lines p)).to e < 64
  to_small e = rw (edge_to p few e) (each_edge (λ x. x.to < 64) (λ e l. omega (arith, facts.to_in e l, facts.few_processes)) (omega arith) e)

  pub bytes_small : (e : ℕ) → at (edge_columns (lines p)).bytes e ≤ 64
  bytes_small e = rw (edge_bytes p few e) (each_edge (λ x. x.bytes ≤ 64) facts.edge_most (omega arith) e)

  pub names_small : (e : ℕ) → at (edge_columns (lines p)).condition e < 6
  names_small e =
      rw (edge_condition p few e)
      (each_edge (λ x. condition_of x.when < 6)
      (λ e l. condition_small (edge (lines p) e).when (λ v k q. omega (arith, (facts.decided e l v k q).0, facts.few_conditions)))
      (condition_small always (λ v k q. absurd (let z : ◌≡◌ {A = ℕ} 0 1 = cc in omega arith))) e)

  pub decider_same : (k : ℕ) → k < p.conditions → at (fill 6 (at p.condition) p.conditions) k ≡ decider (lines p) k
  decider_same k l = fill_at 6 (at p.condition) p.conditions k few.conditions l ∙ decider_at p k l

  pub decider_small : (k : ℕ) → at (fill 6 (at p.condition) p.conditions) k < 64
  decider_small =
      fill_all (λ x. x < 64) 6 (at p.condition) p.conditions few.conditions
      (λ k l. omega (arith, decider_at p k l, facts.decides k (omega (arith, conditions_length p)), facts.few_processes)) (omega arith)

  pub small : {d : List ℕ} → d ≡ fill 6 (at p.condition) p.conditions →
      Small p.processes p.edges p.conditions (process_columns (lines p)) (edge_columns (lines p)) d
  small ed =
      rw ed
      record {
        few_processes = few.processes;
        few_edges = few.edges;
        few_conditions = few.conditions;
        nodes = node_small;
        senders = from_small;
        receivers = to_small;
        named = names_small;
        deciders = decider_small;
      }

  -- what is worked out of the lines in memory
  module _ (ps : List held_process.Process) (es : List held_edge.Edge) (eq : map process_of ps ≡ (lines p).processes) (et : map edge_of es ≡ (lines p).edges) where
    pub processes_told : length ps ≡ p.processes
    processes_told = processes_same p h ps es eq et ∙ processes_length p

    pub edges_told : length es ≡ p.edges
    edges_told = edges_same p h ps es eq et ∙ edges_length p

    any_told : (i : ℕ) → any_at ps i ≡ at (process_columns (lines p)).any i
    any_told i = same_any (get_or ps i no_process).waits ∙ ap (λ (q : Process). any_of q.waits) (process_same p h ps es eq et i) ∙ sym (process_any i)

    pub from_told : (e : ℕ) → from_at es e ≡ at (edge_columns (lines p)).from e
    from_told e = ap (λ (x : Edge). x.from) (edge_same p h ps es eq et e) ∙ sym (edge_from p few e)

    pub to_told : (e : ℕ) → to_at es e ≡ at (edge_columns (lines p)).to e
    to_told e = ap (λ (x : Edge). x.to) (edge_same p h ps es eq et e) ∙ sym (edge_to p few e)

    pub nodes_told : fill 64 (node_at ps) (length ps) ≡ (process_columns (lines p)).node
    unfolding process_columns
    nodes_told = λ j. fill 64 (λ i. (process_same p h ps es eq et i j).node) (processes_same p h ps es eq et j)

    pub ticks_told : fill 64 (ticks_at ps) (length ps) ≡ (process_columns (lines p)).ticks
    unfolding process_columns
    ticks_told = λ j. fill 64 (λ i. (process_same p h ps es eq et i j).ticks) (processes_same p h ps es eq et j)

    pub senders_told : fill 128 (from_at es) (length es) ≡ (edge_columns (lines p)).from
    unfolding edge_columns
    senders_told = λ j. fill 128 (λ e. (edge_same p h ps es eq et e j).from) (edges_same p h ps es eq et j)

    pub bytes_told : fill 128 (bytes_at es) (length es) ≡ (edge_columns (lines p)).bytes
    unfolding edge_columns
    bytes_told = λ j. fill 128 (λ e. (edge_same p h ps es eq et e j).bytes) (edges_same p h ps es eq et j)

    pub kinds_told : fill 128 (kind_at es) (length es) ≡ (edge_columns (lines p)).kind
    unfolding edge_columns
    kinds_told = λ j. fill 128 (λ e. (same_kind (get_or es e no_edge).when ∙ ap (λ (x : Edge). kind_of x.when) (edge_same p h ps es eq et e)) j) (edges_same p h ps es eq et j)

    pub conditions_told : fill 128 (condition_at es) (length es) ≡ (edge_columns (lines p)).condition
    unfolding edge_columns
    conditions_told = λ j. fill 128 (λ e. (same_condition (get_or es e no_edge).when ∙ ap (λ (x : Edge). condition_of x.when) (edge_same p h ps es eq et e)) j) (edges_same p h ps es eq et j)

    pub as_any_told : (first : List ℕ) →
        fill 64 (λ i. as_any_of (any_at ps i) (at first i) (at first (i + 1))) (length ps) ≡ as_any_by_process (process_columns (lines p)).any first p.processes
    unfolding as_any_by_process
    as_any_told first = λ j. fill 64 (λ i. as_any_of (any_told i j) (at first i) (at first (i + 1))) (processes_told j)

    pub remotes_told : (ns : List ℕ) →
        fill 128 (λ e. receiver_of (at ns (from_at es e)) (at ns (to_at es e))) (length es) ≡ remote_by_edge ns (edge_columns (lines p)).from (edge_columns (lines p)).to p.edges
    unfolding remote_by_edge
    remotes_told ns = λ j. fill 128 (λ e. receiver_of (at ns (from_told e j)) (at ns (to_told e j))) (edges_told j)
