-- Arrays that hold what a node may send, in the words of the model: by condition who decides it, by process its node,
-- by edge the bytes of its message, and from place a to before place b the messages of node n in the order of the
-- queue.
-- Assumes nothing.
use Rattle.std.specs.Prelude.{◌≡◌, not, ◌&&◌, List, ℕ, ◌<◌, eqb, length, get_or}
use Rattle.lists.specs.Lists.{keep}
use Rattle.model.specs.Plan.{Lines, process, edge, decider, local}
use Rattle.model.specs.Planning.{queue}
use Rattle.log_queries.specs.Reading.{part}

pub record Items (p : Lines) (n : ℕ) (deciders nodes bytes messages : List ℕ) (a b : ℕ) : Type 0 where
  pub decided : (k : ℕ) → k < length p.conditions → get_or deciders k 0 ≡ decider p k
  pub node_of : (i : ℕ) → get_or nodes i 0 ≡ (process p i).node
  pub bytes_of : (e : ℕ) → get_or bytes e 0 ≡ (edge p e).bytes
  pub queued : part messages a b ≡ keep (λ e. eqb (process p (edge p e).from).node n && not (local p e)) (queue p)
