-- `plan_layout::lay_by_orders` meets its contract: each array is stored behind the one before.
use mathlib.Core.Path.{ap, ◌∙◌}
use mathlib.Core.List.{List}
use Prim.Native.Nat.{ℕ}
use lib.Seq.{sets}
use Rattle.plan_layout.proofs.index_words.lay_by_orders.Goals as goal

pub returns : goal.returns
returns c =
    let a = c.args in
    record {
      stores = c.lay-6.ensures.store ∙ ap (λ (l : List ℕ). sets l 1425 a.b.queue) (c.lay-5.ensures.store ∙ ap (λ (l : List ℕ). sets l 1360 a.b.queuefirst) (c.lay-4.ensures.store ∙ ap (λ (l : List ℕ). sets l 1232 a.b.dispatch) (c.lay-3.ensures.store ∙ ap (λ (l : List ℕ). sets l 1167 a.b.dispatchfirst) (c.lay-2.ensures.store ∙ ap (λ (l : List ℕ). sets l 1039 a.b.into) c.lay.ensures.store))));
      intofirst_long = c.lay.ensures.long;
      into_long = c.lay-2.ensures.long;
      dispatchfirst_long = c.lay-3.ensures.long;
      dispatch_long = c.lay-4.ensures.long;
      queuefirst_long = c.lay-5.ensures.long;
      queue_long = c.lay-6.ensures.long;
    }
