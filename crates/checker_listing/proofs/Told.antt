-- An answer that tells whether something holds: by what holds, and by what does not.
-- Assumes nothing.
use mathlib.Core.Path.{sym}
use mathlib.Core.Bool.{true, false, false≢true}
use Rattle.checker_listing.specs.FrameList.{Tells}

module _ {P : Type 0} where
  pub told : P → Tells true P
  told x = (λ e. x, λ e. absurd (false≢true (sym e)))

  pub denied : (P → ⊥) → Tells false P
  denied d = (λ e. absurd (false≢true e), λ e. d)
