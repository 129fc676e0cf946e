-- `plan_layout::lay_by_edges` meets its contract: each array is stored behind the one before.
use mathlib.Core.Path.{ap, ◌∙◌}
use mathlib.Core.List.{List}
use Prim.Native.Nat.{ℕ}
use lib.Seq.{sets}
use Rattle.plan_layout.proofs.index_words.lay_by_edges.Goals as goal

pub returns : goal.returns
returns c =
    let a = c.args in
    record {
      stores = c.lay-7.ensures.store ∙ ap (λ (l : List ℕ). sets l 968 a.b.decider) (c.lay-6.ensures.store ∙ ap (λ (l : List ℕ). sets l 840 a.b.condition) (c.lay-5.ensures.store ∙ ap (λ (l : List ℕ). sets l 712 a.b.kind) (c.lay-4.ensures.store ∙ ap (λ (l : List ℕ). sets l 584 a.b.bytes) (c.lay-3.ensures.store ∙ ap (λ (l : List ℕ). sets l 456 a.b.remote) (c.lay-2.ensures.store ∙ ap (λ (l : List ℕ). sets l 328 a.b.knownby) c.lay.ensures.store)))));
      from_long = c.lay.ensures.long;
      knownby_long = c.lay-2.ensures.long;
      remote_long = c.lay-3.ensures.long;
      bytes_long = c.lay-4.ensures.long;
      kind_long = c.lay-5.ensures.long;
      condition_long = c.lay-6.ensures.long;
      decider_long = c.lay-7.ensures.long;
    }
