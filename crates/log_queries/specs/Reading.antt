-- What a log of one combination in memory says, in the words of the arrays that hold it. `comes`, by row, has 0 where
-- the row is not placed, else the tick by which it is over, plus 1; the clock `u` is the tick plus 1. By edge: `from`
-- has the sender's row, `knownby` the row that makes the `when` known, `unmet` 1 where the combination does not meet
-- the `when`, `remote` not 0 where the edge is between nodes. By process: `asany` has 1 where it counts as `any`, `run`
-- 1 where it may run; the edges into process i are those of `into` from place first[i] to first[i + 1].
-- Assumes nothing.
use Rattle.std.specs.Prelude.{ℕ, zero, suc, ◌+◌, ◌-◌, ◌<◌, Bool, true, false, not, ◌&&◌, ◌||◌, List, map, eqb, leb, get_or, set, replicate, if◌then◌else◌}
use Rattle.limits.specs.Limits.{ROWS}
use Rattle.lists.specs.Lists.{any, all, upfrom, below, greatest}
use Rattle.bitset.specs.Masks.{mask_from}

-- a row with x in `comes` is over by the clock
abbrev pub within : ℕ → ℕ → Bool
within x u = not (eqb x 0) && leb x u

-- a row is over by the clock; a row is placed
unfoldable pub came_by : List ℕ → ℕ → ℕ → Bool
came_by comes u r = within (get_or comes r 0) u

unfoldable pub placed_by : List ℕ → ℕ → Bool
placed_by comes r = not (eqb (get_or comes r 0) 0)

-- the numbers of an array from place a to before place b
unfoldable pub part : List ℕ → ℕ → ℕ → List ℕ
part xs a b = map (λ j. get_or xs j 0) (upfrom a (b - a))

-- the edges into a process
unfoldable pub edges_into : List ℕ → List ℕ → ℕ → List ℕ
edges_into first into i = part into (get_or first i 0) (get_or first (i + 1) 0)

-- 1 for true, 0 for false
abbrev pub bit : Bool → ℕ
bit true = 1
bit false = 0

module _ (from knownby unmet comes : List ℕ) (u : ℕ) where
  -- the message of an edge is ready
  unfoldable pub message_by : ℕ → Bool
  message_by e = eqb (get_or unmet e 0) 0 && (came_by comes u (get_or from e 0) && came_by comes u (get_or knownby e 0))

  -- an edge has delivered
  unfoldable pub delivered_by : ℕ → List ℕ → ℕ → Bool
  delivered_by processes remote e = if eqb (get_or remote e 0) 0 then message_by e else came_by comes u (processes + e)

  -- an edge is known never to deliver; it may still carry
  unfoldable pub never_by : List ℕ → ℕ → Bool
  never_by run e = eqb (get_or run (get_or from e 0) 0) 0 || (not (eqb (get_or unmet e 0) 0) && came_by comes u (get_or knownby e 0))

  unfoldable pub carries_by : List ℕ → ℕ → Bool
  carries_by run e = not (never_by run e)

  -- one of some edges has delivered, and each that has not is known never to
  unfoldable pub settled_by : ℕ → List ℕ → List ℕ → List ℕ → Bool
  settled_by processes remote run edges =
      any (delivered_by processes remote) edges && all (λ e. delivered_by processes remote e || never_by run e) edges

  -- a process is ready
  unfoldable pub ready_by : ℕ → List ℕ → List ℕ → List ℕ → List ℕ → List ℕ → ℕ → Bool
  ready_by processes remote run asany first into i =
      if not (eqb (get_or asany i 0) 0)
      then settled_by processes remote run (edges_into first into i)
      else all (delivered_by processes remote) (edges_into first into i)

  module _ (asany first into : List ℕ) where
    -- a process may run, by what may run of the processes before
    unfoldable pub runs_by : List ℕ → ℕ → Bool
    runs_by run i =
        if not (eqb (get_or asany i 0) 0) then any (carries_by run) (edges_into first into i) else all (carries_by run) (edges_into first into i)

    -- which of the first n processes may run
    unfoldable pub may_run_by : ℕ → List ℕ
    may_run_by zero = replicate 64 0
    may_run_by (suc n) = set (may_run_by n) n (bit (runs_by (may_run_by n) n))

-- the mask of the conditions known by the clock, where the rows of the conditions start at `base`
unfoldable pub known_by : List ℕ → ℕ → ℕ → ℕ → ℕ
known_by comes base conditions u = mask_from (λ k. came_by comes u (base + k)) 0 conditions

-- the tick at which the last of the processes ends, 0 where none is placed
unfoldable pub last_end_by : List ℕ → ℕ → ℕ
last_end_by comes processes = greatest (map (λ i. get_or comes i 0) (below processes)) - 1

-- the numbers in the arrays are rows and edges
pub record Within (from knownby into : List ℕ) : Type 0 where
  pub senders : (e : ℕ) → get_or from e 0 < 64
  pub known_rows : (e : ℕ) → get_or knownby e 0 < ROWS
  pub edges : (j : ℕ) → get_or into j 0 < 128
