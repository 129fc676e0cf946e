-- What refusal 13 leaves of the arrays that hold the entries that a combination meets: the bounds that 19 asks for.
-- Assumes nothing.
use native.Mathlib.Omega.{arith}
use Rattle.log_queries.proofs.Placing.{placed_is}
use Rattle.checker_rows.proofs.MetPlan.{MetPlan}
use Rattle.checker_rows.proofs.MetBounds.{met_row}
use Rattle.checker_frames.specs.SharedBytes.{Sized}

module _ (m : MetPlan) where
  open m use {comes, place}

  pub sized : Sized comes place
  sized = record { places = λ r n. let k = met_row m r (placed_is comes r n) in omega (arith, k.2) }
