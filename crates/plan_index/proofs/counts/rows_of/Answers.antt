-- `plan_index::rows_of` meets its contract.
use native.Mathlib.Omega.{arith}
use Rattle.plan_index.specs.Index.{laid}
use Rattle.plan_index.proofs.counts.rows_of.Goals as goal

pub returns : goal.returns
unfolding laid
returns c = (c.wide.ensures, omega (arith, c.wide.ensures, c.requires.few_rows))
