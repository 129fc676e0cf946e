-- `plan_layout::lay_by_bus` meets its contract: each array is stored behind the one before.
use mathlib.Core.Path.{◌≡◌, ap, ◌∙◌}
use mathlib.Core.List.{List}
use Prim.Native.Nat.{ℕ}
use lib.ListN.{length}
use lib.Seq.{sets}
use Rattle.plan_layout.proofs.index_words.lay_by_bus.Goals as goal

pub returns : goal.returns
returns c =
    let a = c.args in
    let rooms : length a.b.rooms ≡ 8 = c.lay-3.ensures.long in
    record {
      stores = c.lay-4.ensures.store ∙ ap (λ (l : List ℕ). sets l 1577 a.b.decides) (c.lay-3.ensures.store ∙ ap (λ (l : List ℕ). sets l 1569 a.b.rooms) (c.lay-2.ensures.store ∙ ap (λ (l : List ℕ). sets l 1561 a.b.lasts) c.lay.ensures.store));
      offset_long = c.lay.ensures.long;
      lasts_long = c.lay-2.ensures.long;
      rooms_long = rooms;
      decides_long = c.lay-4.ensures.long;
    }
