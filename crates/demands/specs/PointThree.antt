-- Document 02, point 3: "Pass-overs for each unit." Over calls of the functions (specs/Calls.antt); that each keeps to
-- the first refusal that applies is part of demand 1.
-- Assumes nothing.
use Rattle.std.specs.Prelude.{Ok, Err, ℕ, ◌+◌, ◌*◌, ◌≤◌, ◌<◌, ◌≡◌, Bool, true, false, eqb, length, get_or}
use mathlib.Core.List.{List, ◌∷◌, ◌++◌, map, Memᴰ as In}
use Rattle.lists.specs.Lists.{keep, all, sum}
use Rattle.model.specs.Plan.{Lines, Slot}
use Rattle.model.specs.Activity.{combinations}
use Rattle.model.specs.Bus.{beginning}
use Rattle.model.specs.Planning.{view, passes_over, before, bound}
use Rattle.model.specs.Refusals.{nothing}
use Rattle.model.specs.Table.{Result, passing_slots, pass_over_count, result}
use Rattle.model.specs.Text.{text, field, short, Means}
use Rattle.model.specs.Listing.{passed_line, passed_lines, plan_listing}
use Rattle.model.specs.ListingText.{States}
use Rattle.model.specs.Firmware.{words_of}
use Rattle.refusals.specs.Numbers.{numbered}
use Rattle.plan.specs.declared.Plan.{Plan}
use Rattle.plan.specs.Memory.{lines}
use Rattle.planner_table.specs.declared.Made.{Made}
use Rattle.demands.specs.Calls.{Outcome}
use Rattle.demands.specs.Calls as calls
use Rattle.demands.specs.Sentences.{plan_sentences, FirstOf}
use Rattle.demands.specs.Two.{NotRefused}

-- how many slots of a node passed a ready item over, in all combinations
abbrev pub passed_by_node : Lines → ℕ → ℕ
passed_by_node p n = sum (map (λ c. length (keep (λ s. eqb n s.node) (passing_slots p c))) (combinations p))

-- a text that begins with a delay line and the passed lines of some counts, from node 0 on
abbrev pub begins : ℕ → List ℕ → List ℕ → List ℕ
begins delay counts rest = field "delay" delay ++ text "\n" ++ passed_lines 0 counts ++ rest

pub record Point3 : Type 0 where
  -- "The planner now keeps a count for each sending node": one for each node of the plan, by the node whose slot it is
  pub for_each_node : (p : Lines) → length (result p).passed ≡ length p.slots
  pub by_node : (p : Lines) (n : ℕ) → n < length p.slots → get_or (result p).passed n 0 ≡ passed_by_node p n
  -- "Added up they give the old count": every slot in which a ready item of its node was not taken, whosever it is
  pub added_up : (p : Lines) → FirstOf (plan_sentences p) nothing → sum (result p).passed ≡ pass_over_count p
  -- and these are all: from the bound on, where planning ends, no slot does so
  pub none_later : (p : Lines) → FirstOf (plan_sentences p) nothing → (c : List Bool) → length c ≡ length p.conditions →
      (t : ℕ) → bound p ≤ t → (s : Slot) → In s (beginning p t) → passes_over p (view p c (before p c t).log t) t s ≡ false
  -- `planner::plan_table`: the count of node n is word n of the words lent for the counts
  pub planned : (p : Plan) (table frames passed table-now frames-now passed-now : List ℕ) (m : Made) →
      calls.PlanTable p table frames passed table-now frames-now passed-now (Ok m) →
      (n : ℕ) → n < length (lines p).slots → get_or passed-now n 0 ≡ passed_by_node (lines p) n
  -- `riscadru_plan_table`: it is word n + 3 of the totals, where these have as many bytes
  pub c_planned : (text table frames totals table-now frames-now totals-now : List ℕ) (answer : ℕ) →
      calls.CPlanTable text table frames totals table-now frames-now totals-now answer → NotRefused answer →
      (p : Lines) × Means text p × ((n : ℕ) → n < length p.slots → (n + 3) * 4 + 4 ≤ length totals →
      get_or (words_of totals-now) (n + 3) 0 ≡ passed_by_node p n)
  -- "the listing's passed line becomes one line for each node, `(passed (node 0) 0)`, in node order": of the planner's
  -- listing, and of each that is of the form
  pub listed : (p : Lines) → (rest : List ℕ) × (plan_listing p ≡ begins (result p).delay (result p).passed rest)
  pub of_the_form : (p : Lines) (bytes : List ℕ) (r : Result) → States p bytes r →
      (length r.passed ≡ length p.slots) × ((rest : List ℕ) × (bytes ≡ begins r.delay r.passed rest))
  -- "A listing with the old line, other nodes or another order is not of the form": 21, where behind the passed lines of
  -- the first nodes, not of all, anything else than the line of the next node stands; the old line is none; and where a
  -- further passed line stands behind those of all nodes
  pub other_line_refused : (p : Plan) → FirstOf (plan_sentences (lines p)) nothing → (delay : ℕ) (counts rest : List ℕ) →
      all short (delay ∷ counts) ≡ true → length counts < length (lines p).slots →
      ((count : ℕ) (behind : List ℕ) → rest ≡ passed_line (length counts) count ++ behind → ⊥) →
      (r : Outcome (Unit {0})) → calls.CheckListing p (begins delay counts rest) r → numbered r ≡ Err 21
  pub old_line_refused : (p : Plan) → FirstOf (plan_sentences (lines p)) nothing → (delay count : ℕ) (rest : List ℕ) →
      short delay ≡ true → short count ≡ true → (r : Outcome (Unit {0})) →
      calls.CheckListing p (field "delay" delay ++ text "\n" ++ (field "passed" count ++ rest)) r → numbered r ≡ Err 21
  pub further_line_refused : (p : Plan) → FirstOf (plan_sentences (lines p)) nothing → (delay : ℕ) (counts rest : List ℕ) →
      all short (delay ∷ counts) ≡ true → length counts ≡ length (lines p).slots → (r : Outcome (Unit {0})) →
      calls.CheckListing p (begins delay counts (text "(passed " ++ rest)) r → numbered r ≡ Err 21
  -- an accepted listing states the count of each node
  pub compared : (p : Plan) (bytes : List ℕ) → calls.CheckListing p bytes (Ok tt) → (s : Result) →
      States (lines p) bytes s → (n : ℕ) → n < length (lines p).slots → get_or s.passed n 0 ≡ passed_by_node (lines p) n
