-- `checker_listing::same_counts` meets its contract.
use Rattle.std.proofs.Common.{◌∙◌}
use Rattle.checker_listing.proofs.SameCounts.{same_pointwise}
use Rattle.checker_listing.proofs.counts.same_counts.Goals as goal

pub returns : goal.returns
returns c = c.eq.ensures ∙ same_pointwise _ _
