-- Of a plan in memory and its lines: how many the lines are, what refusals 2 and 6 leave, and the parts of the arrays
-- that are the lines.
-- Assumes nothing.
use mathlib.Core.Path.{◌≡◌, refl, sym, ◌∙◌}
use mathlib.Core.Bool.{false, ◌&&◌, ◌||◌}
use mathlib.Core.List.Memᴰ.{head as here}
use mathlib.Core.List.Memᴰ.{tail as there}
use mathlib.Core.List.{List, [], ◌∷◌, map, Memᴰ as In}
use Prim.Native.Nat.{ℕ, ◌+◌, ◌*◌, ◌≤◌, ◌<◌}
use native.Mathlib.Omega.{arith}
use lib.Dec.{eqb, leb, ltb}
use lib.ListN.{length, take}
use borrow.Author.Tests.{ltb-false, leb-false, eqb-true, eq-eqb}
use Rattle.std.proofs.lemmas.List.{get_or-take, length-take-le}
use Rattle.lists.specs.Lists.{any, repeated}
use Rattle.lists.proofs.Keep.{map_upfrom}
use Rattle.lists.proofs.Tests.{both, join, neither, same_test}
use Rattle.lists.proofs.Members.{none_at, any_same, any_of_map}
use Rattle.lists.proofs.Places.{list_below}
use Rattle.model.specs.Plan.{Lines, Edge, edge, decider}
use Rattle.model.specs.Refusals.{outside, wrong_counts, no_process, wrong_ends, twin_edges}
use Rattle.plan.specs.declared.When as w
use Rattle.plan.specs.declared.When.TheVariants.{Always, True, False}
use Rattle.plan.specs.declared.Plan.{Plan}
pub use Rattle.plan.specs.Bounds.{Few, Ended}
use Rattle.plan.specs.Memory.{when_of, process_of, edge_of, no_slot, no_edge, counted, lines}
use Rattle.plan.specs.Memory as memory
use Rattle.plan.specs.Kinds.{kind_of, condition_of}
use Rattle.plan.specs.Numbers.{kind_number, condition_number}
use Rattle.plan.specs.Tests.{at, counts_test}
use Rattle.plan.proofs.Counted.{counted_length, counted_at}
use Rattle.plan.proofs.Taken.{taken}

inside : (lo hi x : ℕ) → outside lo hi x ≡ false → x ≤ hi
unfolding outside
inside lo hi x h = ltb-false hi x (neither (ltb x lo) (ltb hi x) h).1

pub few : (p : Plan) → counts_test p.slots p.processes p.conditions p.edges ≡ false → Few p
unfolding counts_test
few p h =
    let a = neither (outside 1 8 p.slots || outside 1 64 p.processes || ltb 6 p.conditions) (ltb 128 p.edges) h in
    let b = neither (outside 1 8 p.slots || outside 1 64 p.processes) (ltb 6 p.conditions) a.0 in
    let c = neither (outside 1 8 p.slots) (outside 1 64 p.processes) b.0 in
    record {
      slots = inside 1 8 p.slots c.0;
      processes = inside 1 64 p.processes c.1;
      conditions = ltb-false 6 p.conditions b.1;
      edges = ltb-false 128 p.edges a.1;
    }

pub same_kind : (x : w.When) → kind_number x ≡ kind_of (when_of x)
unfolding kind_of
same_kind Always = refl
same_kind (True k) = refl
same_kind (False k) = refl

pub same_condition : (x : w.When) → condition_number x ≡ condition_of (when_of x)
unfolding condition_of
same_condition Always = refl
same_condition (True k) = refl
same_condition (False k) = refl

-- two numbers below 64 as one
same_key : (a b c d : ℕ) → a < 64 → b < 64 → c < 64 → d < 64 → (eqb a c && eqb b d) ≡ eqb (a * 64 + b) (c * 64 + d)
same_key a b c d ha hb hc hd =
    same_test (eqb a c && eqb b d) (eqb (a * 64 + b) (c * 64 + d))
    (λ e. let r = both (eqb a c) (eqb b d) e in let x = eqb-true a c r.0 in let y = eqb-true b d r.1 in eq-eqb (a * 64 + b) (c * 64 + d) (omega arith))
    (λ e. let q : a * 64 + b ≡ c * 64 + d = eqb-true (a * 64 + b) (c * 64 + d) e in join (eqb a c) (eqb b d) (eq-eqb a c (omega arith)) (eq-eqb b d (omega arith)))

abbrev pub edge_key : Edge → ℕ
edge_key e = e.from * 64 + e.to

pub twins : (es : List Edge) → ((e : Edge) → In e es → (e.from < 64) × (e.to < 64)) → repeated (map edge_key es) ≡ twin_edges es
unfolding repeated twin_edges
twins [] h = refl
twins (e ∷ es) h =
    let u = h e (here refl) in
    let first : any (eqb (edge_key e)) (map edge_key es) ≡ any (λ f. eqb e.from f.from && eqb e.to f.to) es =
    any_of_map (eqb (edge_key e)) edge_key es
    ∙ any_same (λ f. eqb (edge_key e) (edge_key f)) (λ f. eqb e.from f.from && eqb e.to f.to) es
    (λ f m. let v = h f (there m) in sym (same_key e.from e.to f.from f.to u.0 u.1 v.0 v.1)) in
    λ j. first j || twins es (λ f m. h f (there m)) j

-- what refusal 6 leaves
pub ended : (p : Lines) → any (wrong_ends p) p.edges ≡ false → Ended p
unfolding wrong_ends no_process
ended p h = record { from = λ i l. (ends i l).0; to = λ i l. (ends i l).1 }
  where
    ends : (i : ℕ) → i < length p.edges → ((edge p i).from < length p.processes) × ((edge p i).to < length p.processes)
    ends i l =
        let e = edge p i in
        let n : ℕ = length p.processes in
        let u = neither (leb n e.from || leb n e.to) (leb e.to e.from) (none_at (wrong_ends p) p.edges i _ h l) in
        let v = neither (leb n e.from) (leb n e.to) u.0 in
        (leb-false n e.from v.0, leb-false n e.to v.1)

module _ (p : Plan) where
  pub slots_length : length (lines p).slots ≡ p.slots
  unfolding lines
  slots_length = counted_length memory.slot_of no_slot p.slots p.slot

  pub processes_length : length (lines p).processes ≡ p.processes
  unfolding lines
  processes_length = counted_length process_of memory.no_process p.processes p.process

  pub conditions_length : length (lines p).conditions ≡ p.conditions
  unfolding lines
  conditions_length = counted_length (λ i. i) 0 p.conditions p.condition

  pub edges_length : length (lines p).edges ≡ p.edges
  unfolding lines
  edges_length = counted_length edge_of no_edge p.edges p.edge

  -- 2
  pub counts_same : counts_test p.slots p.processes p.conditions p.edges ≡ wrong_counts (lines p)
  unfolding counts_test wrong_counts
  counts_same =
      sym (λ j. outside 1 8 (slots_length j) || outside 1 64 (processes_length j) || ltb 6 (conditions_length j) || ltb 128 (edges_length j))

  pub decider_at : (k : ℕ) → k < p.conditions → at p.condition k ≡ decider (lines p) k
  unfolding lines
  decider_at k l = sym (counted_at (λ i. i) 0 p.conditions p.condition k 0 l)

  -- the parts of the arrays that the counts name are the lines
  pub slots_taken : p.slots ≤ length p.slot → map memory.slot_of (take p.slots p.slot) ≡ (lines p).slots
  unfolding lines
  slots_taken l = taken memory.slot_of no_slot p.slots p.slot l

  pub processes_taken : p.processes ≤ length p.process → map process_of (take p.processes p.process) ≡ (lines p).processes
  unfolding lines
  processes_taken l = taken process_of memory.no_process p.processes p.process l

  pub conditions_taken : p.conditions ≤ length p.condition → take p.conditions p.condition ≡ (lines p).conditions
  unfolding lines counted
  conditions_taken l =
      sym (list_below 0 (take p.conditions p.condition) p.conditions (length-take-le p.conditions p.condition l))
      ∙ map_upfrom (at (take p.conditions p.condition)) (at p.condition) 0 p.conditions (λ k u v. get_or-take p.conditions p.condition k 0 (omega arith))

  pub edges_taken : p.edges ≤ length p.edge → map edge_of (take p.edges p.edge) ≡ (lines p).edges
  unfolding lines
  edges_taken l = taken edge_of no_edge p.edges p.edge l
