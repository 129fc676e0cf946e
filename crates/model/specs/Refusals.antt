-- Document 01, "Refused, in checking order": a refusal, and sentences 2 to 9, which are tried on the lines of a plan.
-- Assumes nothing.
use Rattle.std.specs.Prelude.{ℕ, Bool, true, false, not, ◌&&◌, ◌||◌, List, [], ◌∷◌, map, eqb, leb, ltb, length}
use Rattle.lists.specs.Lists.{any, repeated}
use Rattle.model.specs.Plan.{Lines, PlanLine, Slot, Process, Edge, When, always, on, process, edge, decider, edges, local}
use Rattle.model.specs.Bus.{slot_of}

-- "A refusal yields its number only".
pub data Refusal : Type 0 where
  nothing : Refusal
  refused : ℕ → Refusal

-- "Each sentence is tried over the whole input before the next": refused with its number where it applies, or else by
-- the next.
abbrev pub sentence : ℕ → Bool → Refusal → Refusal
sentence n true next = refused n
sentence n false next = next

-- the refusals of one list, and then those of another
unfoldable pub or_else : Refusal → Refusal → Refusal
or_else nothing r = r
or_else (refused n) r = refused n

unfoldable pub outside : ℕ → ℕ → ℕ → Bool
outside lo hi x = ltb x lo || ltb hi x

-- 2: "There are not 1 to 8 slots, 1 to 64 processes, at most 6 conditions, at most 128 edges."
unfoldable pub wrong_counts : Lines → Bool
wrong_counts p =
    outside 1 8 (length p.slots) || outside 1 64 (length p.processes) || ltb 6 (length p.conditions) || ltb 128 (length p.edges)

-- 3: "`byte` is outside 1 to 1,000, slot or edge bytes outside 1 to 64, or ticks outside 1 to 100,000." Document 02,
-- point 1, of `head`: "Figures above 16 meet refusal 3."
unfoldable pub wrong_plan : PlanLine → Bool
wrong_plan l = outside 1 1000 l.byte || ltb 16 l.head

unfoldable pub wrong_slot : Slot → Bool
wrong_slot s = outside 1 64 s.bytes

unfoldable pub wrong_edge : Edge → Bool
wrong_edge e = outside 1 64 e.bytes

unfoldable pub wrong_ticks : Process → Bool
wrong_ticks q = outside 1 100000 q.ticks

unfoldable pub wrong_sizes : Lines → Bool
wrong_sizes p = wrong_plan p.plan || any wrong_slot p.slots || any wrong_edge p.edges || any wrong_ticks p.processes

-- 4: "A node number is not below the slot count, or two slots share a node."
unfoldable pub no_node : Lines → ℕ → Bool
no_node p n = leb (length p.slots) n

unfoldable pub wrong_nodes : Lines → Bool
wrong_nodes p =
    any (λ s. no_node p s.node) p.slots || any (λ q. no_node p q.node) p.processes || repeated (map (λ s. s.node) p.slots)

-- 5: "A condition names no process, or one already named."
unfoldable pub no_process : Lines → ℕ → Bool
no_process p i = leb (length p.processes) i

unfoldable pub wrong_deciders : Lines → Bool
wrong_deciders p = any (no_process p) p.conditions || repeated p.conditions

-- 6: "An edge names no process, or from is not below to."
unfoldable pub wrong_ends : Lines → Edge → Bool
wrong_ends p e = no_process p e.from || no_process p e.to || leb e.to e.from

-- 7: "Two edges share both from and to."
unfoldable pub twin_edges : List Edge → Bool
twin_edges [] = false
twin_edges (e ∷ es) = any (λ f. eqb e.from f.from && eqb e.to f.to) es || twin_edges es

-- 8: "A `when` names a condition its from process does not decide."
unfoldable pub undecided : Lines → ℕ → When → Bool
undecided p i always = false
undecided p i (on v k) = leb (length p.conditions) k || not (eqb (decider p k) i)

unfoldable pub wrong_when : Lines → Edge → Bool
wrong_when p e = undecided p e.from e.when

-- 9: "A message between nodes is longer than its sender's slot", of which "Capacity .. still count[s] data only"
-- (document 02, point 1).
unfoldable pub too_long : Lines → ℕ → Bool
too_long p e = not (local p e) && ltb (slot_of p (process p (edge p e).from).node).bytes (edge p e).bytes

-- "Planner, checker, lookup and plan writer retry 2 to 9 on the plan they are handed."
unfoldable pub plan_refusal : Lines → Refusal
plan_refusal p =
    sentence 2 (wrong_counts p)
    (sentence 3 (wrong_sizes p)
    (sentence 4 (wrong_nodes p)
    (sentence 5 (wrong_deciders p)
    (sentence 6 (any (wrong_ends p) p.edges)
    (sentence 7 (twin_edges p.edges)
    (sentence 8 (any (wrong_when p) p.edges)
    (sentence 9 (any (too_long p) (edges p))
    nothing)))))))
