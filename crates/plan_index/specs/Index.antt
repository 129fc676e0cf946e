-- A plan laid out for planning and checking: its numbers and arrays, and where each stands in one list.
-- Assumes nothing.
use Rattle.std.specs.Prelude.{ℕ, ◌≤◌, ◌<◌, List, map, get_or}
use Rattle.limits.specs.Limits.{NODES, PROCESSES, CONDITIONS, EDGES, CONDITIONROW, ROWS, TICKS, BYTES}
use Rattle.lists.specs.Lists.{upfrom}
use Rattle.plan_index.specs.declared.PlanIndex.{PlanIndex}

-- how many numbers a plan index has
abbrev pub WORDS : ℕ
WORDS = 2179

-- the n numbers of a list from a place on, 0 past its end
unfoldable pub field : List ℕ → ℕ → ℕ → List ℕ
field b a n = map (λ j. get_or b j 0) (upfrom a n)

-- the fields that stand in a list
unfoldable pub laid : List ℕ → PlanIndex
laid b =
    record {
      processes = get_or b 0 0;
      edges = get_or b 1 0;
      conditions = get_or b 2 0;
      slots = get_or b 3 0;
      conditionrow = get_or b 4 0;
      rows = get_or b 5 0;
      node = field b 8 64;
      ticks = field b 72 64;
      asany = field b 136 64;
      from = field b 200 128;
      knownby = field b 328 128;
      remote = field b 456 128;
      bytes = field b 584 128;
      kind = field b 712 128;
      condition = field b 840 128;
      decider = field b 968 6;
      intofirst = field b 974 65;
      into = field b 1039 128;
      dispatchfirst = field b 1167 65;
      dispatch = field b 1232 128;
      queuefirst = field b 1360 65;
      queue = field b 1425 128;
      round = get_or b 6 0;
      reciprocal = get_or b 7 0;
      offset = field b 1553 8;
      lasts = field b 1561 8;
      rooms = field b 1569 8;
      decides = field b 1577 8;
      span = field b 1585 198;
      sender = field b 1783 198;
      size = field b 1981 198;
    }

-- how large the numbers are, and what the arrays index
pub record Bounded (b : PlanIndex) : Type 0 where
  pub few_processes : b.processes ≤ PROCESSES
  pub few_edges : b.edges ≤ EDGES
  pub few_conditions : b.conditions ≤ CONDITIONS
  pub few_slots : b.slots ≤ NODES
  pub few_before : b.conditionrow ≤ CONDITIONROW
  pub few_rows : b.rows ≤ ROWS
  pub node_small : (i : ℕ) → get_or b.node i 0 < NODES
  pub ticks_most : (i : ℕ) → get_or b.ticks i 0 ≤ TICKS
  pub from_small : (e : ℕ) → get_or b.from e 0 < PROCESSES
  pub knownby_small : (e : ℕ) → get_or b.knownby e 0 < ROWS
  pub remote_most : (e : ℕ) → get_or b.remote e 0 ≤ NODES
  pub bytes_most : (e : ℕ) → get_or b.bytes e 0 ≤ BYTES
  pub condition_small : (e : ℕ) → get_or b.condition e 0 < CONDITIONS
  pub decider_small : (k : ℕ) → get_or b.decider k 0 < PROCESSES
  pub into_firsts : (i : ℕ) → get_or b.intofirst i 0 ≤ EDGES
  pub into_edges : (j : ℕ) → get_or b.into j 0 < EDGES
  pub dispatch_firsts : (n : ℕ) → get_or b.dispatchfirst n 0 ≤ EDGES
  pub dispatch_members : (j : ℕ) → get_or b.dispatch j 0 < PROCESSES
  pub queue_firsts : (n : ℕ) → get_or b.queuefirst n 0 ≤ EDGES
  pub queue_edges : (j : ℕ) → get_or b.queue j 0 < EDGES
  pub decides_small : (n : ℕ) → get_or b.decides n 0 < 64
  pub span_most : (row : ℕ) → get_or b.span row 0 ≤ TICKS
  pub sender_small : (row : ℕ) → get_or b.sender row 0 < NODES
  pub size_most : (row : ℕ) → get_or b.size row 0 ≤ BYTES
