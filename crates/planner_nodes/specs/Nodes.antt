-- What planning keeps of a combination by node: its arrays, and where each stands in one list.
-- Assumes nothing.
use Rattle.std.specs.Prelude.{ℕ, List, set, replicate}
use Rattle.lists.specs.Cut.{cut}

pub record Nodes : Type 0 where
  pub busy : List ℕ
  pub passed : List ℕ
  pub nextsend : List ℕ
  pub lastarrival : List ℕ
  pub waitend : List ℕ
  pub noted : List ℕ
  pub wait : List ℕ

-- how many numbers there are
abbrev pub WORDS : ℕ
WORDS = 216

-- the arrays that stand in a list
unfoldable pub nodes_of : List ℕ → Nodes
nodes_of s =
    record {
      busy = cut s 0 8;
      passed = cut s 8 8;
      nextsend = cut s 16 8;
      lastarrival = cut s 24 8;
      waitend = cut s 32 8;
      noted = cut s 40 48;
      wait = cut s 88 128;
    }

-- all as before but one array
abbrev pub with_busy : List ℕ → Nodes → Nodes
with_busy xs s = record { busy = xs; passed = s.passed; nextsend = s.nextsend; lastarrival = s.lastarrival; waitend = s.waitend; noted = s.noted; wait = s.wait }

abbrev pub with_passed : List ℕ → Nodes → Nodes
with_passed xs s = record { busy = s.busy; passed = xs; nextsend = s.nextsend; lastarrival = s.lastarrival; waitend = s.waitend; noted = s.noted; wait = s.wait }

abbrev pub with_nextsend : List ℕ → Nodes → Nodes
with_nextsend xs s = record { busy = s.busy; passed = s.passed; nextsend = xs; lastarrival = s.lastarrival; waitend = s.waitend; noted = s.noted; wait = s.wait }

abbrev pub with_lastarrival : List ℕ → Nodes → Nodes
with_lastarrival xs s = record { busy = s.busy; passed = s.passed; nextsend = s.nextsend; lastarrival = xs; waitend = s.waitend; noted = s.noted; wait = s.wait }

abbrev pub with_waitend : List ℕ → Nodes → Nodes
with_waitend xs s = record { busy = s.busy; passed = s.passed; nextsend = s.nextsend; lastarrival = s.lastarrival; waitend = xs; noted = s.noted; wait = s.wait }

abbrev pub with_noted : List ℕ → Nodes → Nodes
with_noted xs s = record { busy = s.busy; passed = s.passed; nextsend = s.nextsend; lastarrival = s.lastarrival; waitend = s.waitend; noted = xs; wait = s.wait }

abbrev pub with_wait : List ℕ → Nodes → Nodes
with_wait xs s = record { busy = s.busy; passed = s.passed; nextsend = s.nextsend; lastarrival = s.lastarrival; waitend = s.waitend; noted = s.noted; wait = xs }

-- all as before but one number
abbrev pub put_busy : ℕ → ℕ → Nodes → Nodes
put_busy i x s = with_busy (set s.busy i x) s

abbrev pub put_passed : ℕ → ℕ → Nodes → Nodes
put_passed i x s = with_passed (set s.passed i x) s

abbrev pub put_nextsend : ℕ → ℕ → Nodes → Nodes
put_nextsend i x s = with_nextsend (set s.nextsend i x) s

abbrev pub put_lastarrival : ℕ → ℕ → Nodes → Nodes
put_lastarrival i x s = with_lastarrival (set s.lastarrival i x) s

abbrev pub put_waitend : ℕ → ℕ → Nodes → Nodes
put_waitend i x s = with_waitend (set s.waitend i x) s

abbrev pub put_noted : ℕ → ℕ → Nodes → Nodes
put_noted i x s = with_noted (set s.noted i x) s

abbrev pub put_wait : ℕ → ℕ → Nodes → Nodes
put_wait i x s = with_wait (set s.wait i x) s

-- all zeros
abbrev pub no_nodes : Nodes
no_nodes = record { busy = replicate 8 0; passed = replicate 8 0; nextsend = replicate 8 0; lastarrival = replicate 8 0; waitend = replicate 8 0; noted = replicate 48 0; wait = replicate 128 0 }
