-- Refusals 2 to 9 in their order: the first sentence settles the answer where it applies.
-- Assumes nothing.
use mathlib.Core.Path.{◌≡◌}
use mathlib.Core.Bool.{true}
use Rattle.model.specs.Plan.{Lines}
use Rattle.model.specs.Refusals.{refused, wrong_counts, plan_refusal}

pub first_stops : (p : Lines) → wrong_counts p ≡ true → plan_refusal p ≡ refused 2
unfolding plan_refusal
first_stops p e = rw e
