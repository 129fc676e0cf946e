-- Urgencies over the arrays of a plan, as `urgencies_from` of the model has them over its lines.
-- Assumes nothing.
use Rattle.std.specs.Prelude.{ℕ, zero, suc, ◌+◌, ◌-◌, ◌<◌, List, [], ◌∷◌, map, eqb, get_or}
use Rattle.lists.specs.Lists.{keep, below, greatest}

-- edges lead from a process to a later one
abbrev pub Upward : (ℕ → ℕ) → (ℕ → ℕ) → ℕ → Type 0
Upward from to edges = (e : ℕ) → e < edges → from e < to e

-- the greatest urgency among those that the edges out of process i lead to
unfoldable pub after : (ℕ → ℕ) → (ℕ → ℕ) → ℕ → (ℕ → ℕ) → ℕ → ℕ
after from to edges urgency i = greatest (map (λ e. urgency (to e)) (keep (λ e. eqb (from e) i) (below edges)))

-- the urgencies of n processes from process i on
unfoldable pub urgencies_of : (ℕ → ℕ) → (ℕ → ℕ) → (ℕ → ℕ) → ℕ → ℕ → ℕ → List ℕ
urgencies_of ticks from to edges i zero = []
urgencies_of ticks from to edges i (suc n) =
    let later : List ℕ = urgencies_of ticks from to edges (suc i) n in
    (ticks i + after from to edges (λ j. get_or later (j - suc i) 0) i) ∷ later
