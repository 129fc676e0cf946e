-- Document 01, "Who runs": combinations, activity, and what may still run given the values heard so far.
-- Assumes nothing.
use Rattle.std.specs.Prelude.{ℕ, zero, suc, Bool, true, false, not, ◌&&◌, List, [], ◌∷◌, ◌++◌, map, length, get_or, if◌then◌else◌}
use Rattle.std.specs.Bool.{beq}
use Rattle.lists.specs.Lists.{any, all, null, each}
use Rattle.model.specs.Plan.{Lines, Waits, waits_all, waits_any, When, always, on, process, edge, into}

-- "A combination gives every condition true or false": a list of Bool, condition 0 first. All of them, ascending,
-- condition 0 lowest.
abbrev pub combinations_of : ℕ → List (List Bool)
combinations_of zero = [] ∷ []
combinations_of (suc n) = each (λ c. (false ∷ c) ∷ (true ∷ c) ∷ []) (combinations_of n)

abbrev pub combinations : Lines → List (List Bool)
combinations p = combinations_of (length p.conditions)

-- What is known of each condition at a tick, condition 0 first.
pub data Heard : Type 0 where
  unheard : Heard
  heard : Bool → Heard

abbrev pub all_heard : List Bool → List Heard
all_heard c = map heard c

-- a value is v, as far as it is known; it is known to be v
abbrev pub may_be : Heard → Bool → Bool
may_be unheard v = true
may_be (heard w) v = beq w v

abbrev pub is : Heard → Bool → Bool
is unheard v = false
is (heard w) v = beq w v

-- a `when` may still be met; it is known to be met
abbrev pub may_meet : List Heard → When → Bool
may_meet h always = true
may_meet h (on v k) = may_be (get_or h k unheard) v

abbrev pub meets : List Heard → When → Bool
meets h always = true
meets h (on v k) = is (get_or h k unheard) v

-- "A process with no edge into it [..] counts as `all`": a process goes by `any` if its line says so and an edge leads
-- into it.
abbrev pub says_any : Waits → Bool
says_any waits_all = false
says_any waits_any = true

unfoldable pub conjunction : Lines → ℕ → Bool
conjunction p i = says_any (process p i).waits && not (null (into p i))

-- "An edge carries if its from process is active and its `when` is met", as far as is known. `done` has the answers for
-- the processes before.
unfoldable pub may_carry : Lines → List Heard → List Bool → ℕ → Bool
may_carry p h done e = get_or done (edge p e).from false && may_meet h (edge p e).when

-- "A process with no edge into it is active [..]; another is active if all (`all`) or at least one (`any`) of its edges
-- carry."
unfoldable pub runs_next : Lines → List Heard → List Bool → ℕ → Bool
runs_next p h done i = if conjunction p i then any (may_carry p h done) (into p i) else all (may_carry p h done) (into p i)

-- For each of the first n processes, whether it may run, given what is heard. Where it may not, it is known inactive.
unfoldable pub may_run_first : Lines → List Heard → ℕ → List Bool
may_run_first p h zero = []
may_run_first p h (suc n) = let done : List Bool = may_run_first p h n in done ++ (runs_next p h done n ∷ [])

unfoldable pub may_run : Lines → List Heard → List Bool
may_run p h = may_run_first p h (length p.processes)

-- Active: may run where everything is heard.
unfoldable pub active : Lines → List Bool → ℕ → Bool
active p c i = get_or (may_run p (all_heard c)) i false

unfoldable pub carries : Lines → List Bool → ℕ → Bool
carries p c e = active p c (edge p e).from && meets (all_heard c) (edge p e).when
