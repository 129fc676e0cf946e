-- `c_check::check_bytes` meets its contract: 12, or the answer to few entries or to many.
use mathlib.Core.Path.{ap, ◌∙◌}
use Prim.Native.Nat.{ℕ, ◌%◌}
use Rattle.model.specs.Firmware.{words_of}
use Rattle.plan.specs.Memory.{lines}
use Rattle.checker_table.proofs.FirstAnswers.{answer_12}
use Rattle.c_check.proofs.table.check_bytes.Goals as goal

pub returns-then-n-ne0 : goal.returns-then-n-ne0
returns-then-n-ne0 c =
    let a = c.args in
    answer_12 (lines a.p) (words_of a.bytes.now) a.delay (λ q. c.if-n-ne0.true (ap (λ (n : ℕ). n % 5) c.how_many-n.ensures ∙ q))
