-- `checker_listing::all_filled` meets its contract: before turn k the first k frames are marked.
use mathlib.Core.Path.{ap, ◌∙◌}
use mathlib.Core.Logic.{⊎_elim}
use Prim.Native.Nat.{ℕ}
use native.Mathlib.Omega.{arith}
use lib.ListN.{get_or}
use Rattle.lists.proofs.Tests.{below_suc}
use Rattle.checker_listing.proofs.Told.{told, denied}
use Rattle.checker_listing.proofs.frames.all_filled.Goals as goal

pub loop-k-init : goal.loop-k-init
loop-k-init c = (omega arith, λ k l. absurd (omega arith))

pub returns-then-filled-k-ne1 : goal.returns-then-filled-k-ne1
returns-then-filled-k-ne1 c =
    denied (λ h. c.if-filled-k-ne1.true (h c.loop-k.k c.loop-k-test.true))

pub loop-k-preserved : goal.loop-k-preserved
loop-k-preserved c =
    let filled = c.args.filled.now in (
      omega (arith, c.loop-k-test.true),
      λ n u. ⊎_elim (c.loop-k.invariant.1 n) (λ q. ap (λ (m : ℕ). get_or filled m 0) q ∙ c.if-filled-k-ne1.false) (below_suc n c.loop-k.k (omega arith)),
    )

pub returns : goal.returns
returns c =
    told (λ k u. c.loop-k.invariant.1 k (omega (arith, c.loop-k-test.false)))
