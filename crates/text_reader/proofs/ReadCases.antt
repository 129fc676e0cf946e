-- What a text tells of the plan that it reads as: refusals 2 to 9 find nothing in its lines.
-- Assumes nothing.
use mathlib.Core.Path.{◌≡◌, refl}
use mathlib.Core.List.{List}
use Prim.Native.Nat.{ℕ}
use Rattle.model.specs.Refusals.{nothing, plan_refusal}
use Rattle.model.specs.Text.{reads, AnswersText}
use Rattle.plan.specs.declared.Plan.{Plan}
use Rattle.plan.specs.Memory.{lines}
use Rattle.plan_refusals.proofs.Accepted.{of_read}

pub accepted : {text : List ℕ} (p : Plan) → AnswersText text (reads (lines p)) → plan_refusal (lines p) ≡ nothing
accepted {text} p told = (of_read text (reads (lines p)) (lines p) told refl).0
