-- Where the arrays hold a plan and a combination, what they say of an edge and of a process is what the model says,
-- with the rows over that the array by row has; and the view at a tick is the one that this array gives.
-- Assumes nothing.
use Rattle.std.specs.Prelude.{if◌then◌else◌}
use mathlib.Core.Path.{◌≡◌, refl, sym, ap, ◌∙◌}
use mathlib.Core.Logic.{◌⊎◌, inl, inr}
use mathlib.Core.Bool.{Bool, true, false, not, ◌&&◌, ◌||◌, beq}
use mathlib.Core.List.{List}
use Prim.Native.Nat.{ℕ, suc, ◌<◌}
use native.Mathlib.Omega.{arith}
use lib.Dec.{eqb, ltb}
use lib.ListN.{length, get_or, get_or-eq_default}
use borrow.Author.Tests.{ltb-true, ltb-false}
use Rattle.lists.specs.Lists.{any, all}
use Rattle.lists.proofs.Tests.{two, and_false}
use Rattle.model.specs.Plan.{Lines, Edge, When, always, on, edge}
use Rattle.model.specs.Activity.{Heard, heard, unheard, is, may_be, meets, may_meet, may_run}
use Rattle.model.specs.Bus.{edge_row, condition_row}
use Rattle.model.specs.Log.{Log, known, message_ready, delivered}
use Rattle.model.specs.Planning.{view, never, comes, ready}
use Rattle.laws.proofs.Good.{Good}
use Rattle.laws.proofs.Rows.{known_at}
use Rattle.laws.proofs.Steps.{seen}
use Rattle.log_queries.specs.Reading.{came_by, placed_by, message_by, delivered_by, never_by, settled_by, ready_by}
use Rattle.log_queries.specs.Holding.{known_row, met_in, Holds, Logged, Runs}

-- a `when` names a condition that the plan has
named : (p : Lines) → Good p → (e : ℕ) (v : Bool) (k : ℕ) → (edge p e).when ≡ on v k → k < length p.conditions
named p g e v k q = at (two (ltb e (length p.edges)))
  where
    at : (ltb e (length p.edges) ≡ true) ⊎ (ltb e (length p.edges) ≡ false) → k < length p.conditions
    at (inl l) = (g.decided e (ltb-true _ _ l) v k q).0
    at (inr l) =
        let d = get_or-eq_default p.edges (record { from = 0; to = 0; bytes = 0; when = always }) (ltb-false _ _ l) in
        let w : always ≡ on v k = sym (ap (λ (x : Edge). x.when) d) ∙ q in
        absurd (let z : ◌≡◌ {A = ℕ} 0 1 = cc in omega arith)

-- tests on what is known of one value
is_known : (a v w : Bool) → is (if a then heard w else unheard) v ≡ (a && beq w v)
is_known true v w = refl
is_known false v w = refl

not_maybe : (a v w : Bool) → not (may_be (if a then heard w else unheard) v) ≡ (a && not (beq w v))
not_maybe true v w = refl
not_maybe false v w = refl

twice : (b : Bool) → (b && b) ≡ (b && true)
twice true = refl
twice false = refl

turned : (m f k : Bool) → (m && (f && k)) ≡ (f && (k && m))
turned true true true = refl
turned true true false = refl
turned true false k = refl
turned false true true = refl
turned false true false = refl
turned false false k = refl

crossed : (a b c : Bool) → (a || (b && c)) ≡ ((c && b) || a)
crossed true true true = refl
crossed true true false = refl
crossed true false true = refl
crossed true false false = refl
crossed false true true = refl
crossed false true false = refl
crossed false false true = refl
crossed false false false = refl

-- by cases on the `when` of an edge from process i
module _ (p : Lines) (c : List Bool) (done : ℕ → Bool) (i : ℕ) where
  message_when : (w : When) → ((v : Bool) (k : ℕ) → w ≡ on v k → k < length p.conditions) →
      (met_in c w && (done i && done (known_row p i w))) ≡ (done i && meets (known p c done) w)
  message_when always n = twice (done i)
  message_when (on v k) n =
      turned (beq (get_or c k false) v) (done i) (done (condition_row p k))
      ∙ ap (λ (z : Bool). done i && z) (sym (ap (λ (h : Heard). is h v) (known_at p c done k (n v k refl)) ∙ is_known (done (condition_row p k)) v (get_or c k false)))

  never_when : (r : Bool) (w : When) → ((v : Bool) (k : ℕ) → w ≡ on v k → k < length p.conditions) →
      (r || (not (met_in c w) && done (known_row p i w))) ≡ (not (may_meet (known p c done) w) || r)
  never_when r always n = crossed r false (done i) ∙ ap (λ (z : Bool). z || r) (and_false (done i))
  never_when r (on v k) n =
      crossed r (not (beq (get_or c k false) v)) (done (condition_row p k))
      ∙ ap (λ (z : Bool). z || r) (sym (ap (λ (h : Heard). not (may_be h v)) (known_at p c done k (n v k refl)) ∙ not_maybe (done (condition_row p k)) v (get_or c k false)))

module _ (p : Lines) (g : Good p) (c : List Bool) (from knownby unmet remote asany first edges rows : List ℕ) (u : ℕ)
    (h : Holds p c from knownby unmet remote asany first edges) where
  abbrev done : ℕ → Bool
  done = came_by rows u

  pub message_link : (e : ℕ) → message_by from knownby unmet rows u e ≡ message_ready p (known p c (came_by rows u)) (came_by rows u) e
  unfolding message_by message_ready
  message_link e =
      (λ j. h.met e j && (done (h.senders e j) && done (h.known_rows e j)))
      ∙ message_when p c done (edge p e).from (edge p e).when (named p g e)

  pub delivered_link : (e : ℕ) →
      delivered_by from knownby unmet rows u (length p.processes) remote e ≡ delivered p (known p c (came_by rows u)) (came_by rows u) e
  unfolding delivered_by delivered
  delivered_link e = λ j. if h.locals e j then message_link e j else done (edge_row p e)

  -- by what may run
  pub never_given : (run : List ℕ) (may : List Bool) → Runs run may → (e : ℕ) →
      never_by from knownby unmet rows u run e ≡ (not (may_meet (known p c (came_by rows u)) (edge p e).when) || not (get_or may (edge p e).from false))
  unfolding never_by
  never_given run may r e =
      (λ j. eqb (get_or run (h.senders e j) 0) 0 || (not (h.met e j) && done (h.known_rows e j)))
      ∙ never_when p c done (edge p e).from (eqb (get_or run (edge p e).from 0) 0) (edge p e).when (named p g e)
      ∙ (λ j. not (may_meet (known p c done) (edge p e).when) || r (edge p e).from j)

  -- in a view with these rows over
  module _ (put : ℕ → Bool) (run : List ℕ) (r : Runs run (may_run p (known p c (came_by rows u)))) where
    pub never_link : (e : ℕ) → never_by from knownby unmet rows u run e ≡ never p (seen p c (came_by rows u) put) e
    unfolding never
    never_link e = never_given run (may_run p (known p c done)) r e

    comes_link : (e : ℕ) → delivered_by from knownby unmet rows u (length p.processes) remote e ≡ comes p (seen p c (came_by rows u) put) e
    unfolding comes
    comes_link e = delivered_link e

    pub ready_link : (i : ℕ) → i < length p.processes →
        ready_by from knownby unmet rows u (length p.processes) remote run asany first edges i ≡ ready p (seen p c (came_by rows u) put) i
    unfolding ready_by settled_by ready
    ready_link i l = λ z.
        if h.conjunctions i z
        then any (λ e. comes_link e z) (h.leading i l z) && all (λ e. comes_link e z || never_link e z) (h.leading i l z)
        else all (λ e. comes_link e z) (h.leading i l z)

-- the view at a tick
pub view_link : (p : Lines) (c : List Bool) (log : Log) (rows : List ℕ) → Logged p log rows → (t : ℕ) →
    view p c log t ≡ seen p c (came_by rows (suc t)) (placed_by rows)
unfolding view
view_link p c log rows l t = λ j. seen p c (l.over_by t j) (l.put_by j)
