-- `text_writer::needed` meets its contract: the text is counted, and nothing of it is stored.
use mathlib.Core.Path.{ap, ◌∙◌}
use mathlib.Core.List.{List, ◌++◌}
use Prim.Native.Nat.{ℕ}
use native.Mathlib.Nat.{zero-add}
use Rattle.lists.proofs.Members.{empty}
use Rattle.text_writer.proofs.writer.needed.Goals as goal

pub returns : goal.returns
returns c = (c.put_plan.ensures.count ∙ zero-add _, ap (λ (l : List ℕ). l ++ c.args.out.now) (empty c.put_plan.new.out c.put_plan.auto.out))
