-- `plan_layout::lay_by_processes` meets its contract: each array is stored behind the one before.
use mathlib.Core.Path.{ap, ◌∙◌}
use mathlib.Core.List.{List}
use Prim.Native.Nat.{ℕ}
use lib.Seq.{sets}
use Rattle.plan_layout.proofs.index_words.lay_by_processes.Goals as goal

pub returns : goal.returns
returns c =
    let a = c.args in
    record {
      stores = c.lay-3.ensures.store ∙ ap (λ (l : List ℕ). sets l 136 a.b.asany) (c.lay-2.ensures.store ∙ ap (λ (l : List ℕ). sets l 72 a.b.ticks) c.lay.ensures.store);
      node_long = c.lay.ensures.long;
      ticks_long = c.lay-2.ensures.long;
      asany_long = c.lay-3.ensures.long;
    }
