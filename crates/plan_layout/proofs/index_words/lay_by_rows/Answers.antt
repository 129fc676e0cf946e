-- `plan_layout::lay_by_rows` meets its contract: each array is stored behind the one before.
use mathlib.Core.Path.{ap, ◌∙◌}
use mathlib.Core.List.{List}
use Prim.Native.Nat.{ℕ}
use lib.Seq.{sets}
use Rattle.plan_layout.proofs.index_words.lay_by_rows.Goals as goal

pub returns : goal.returns
returns c =
    let a = c.args in
    record {
      stores = c.lay-3.ensures.store ∙ ap (λ (l : List ℕ). sets l 1981 a.b.size) (c.lay-2.ensures.store ∙ ap (λ (l : List ℕ). sets l 1783 a.b.sender) c.lay.ensures.store);
      span_long = c.lay.ensures.long;
      sender_long = c.lay-2.ensures.long;
      size_long = c.lay-3.ensures.long;
    }
