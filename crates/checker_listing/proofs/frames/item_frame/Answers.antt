-- `checker_listing::item_frame` meets its contract: the words of the entry, with what the plan index has at its row.
use mathlib.Core.Path.{ap, ◌∙◌}
use Prim.Native.Nat.{ℕ, ◌+◌}
use lib.ListN.{get_or}
use Rattle.plan_index.specs.Index.{laid}
use Rattle.checker_listing.proofs.frames.item_frame.Goals as goal

pub returns : goal.returns
returns c =
    let a = c.args in
    let b = laid a.index.now in
    λ i. record {
      tick = get_or a.table.now (a.at + 3) 0;
      node = (c.sender_of.ensures.0 ∙ ap (λ (r : ℕ). get_or b.sender r 0) c.wide-row.ensures) i;
      used = get_or a.table.now (a.at + 4) 0 + (c.size_of.ensures.0 ∙ ap (λ (r : ℕ). get_or b.size r 0) c.wide-row.ensures) i;
    }
