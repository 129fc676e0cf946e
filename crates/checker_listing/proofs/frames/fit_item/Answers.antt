-- `checker_listing::fit_item` meets its contract: the frame found is the only one of the item's tick.
use mathlib.Core.Path.{◌≡◌, sym, ap, ◌∙◌}
use mathlib.Core.Bool.{false≢true}
use mathlib.Core.List.{List}
use Prim.Native.Nat.{ℕ, ◌+◌, ◌*◌, ◌<◌}
use native.Mathlib.Omega.{arith}
use lib.ListN.{length, get_or}
use Rattle.checker_listing.proofs.Told.{told, denied}
use Rattle.checker_listing.proofs.Marking.{framed_at, marked_one, marked_none}
use Rattle.checker_listing.proofs.frames.fit_item.Goals as goal

pub returns-then-frames-at : goal.returns-then-frames-at
returns-then-frames-at c =
    let frames : List ℕ = c.args.frames.now in
    let k : ℕ = c.find_frame-k.result in
    let b = c.find_frame-k.ensures in
    record { fact_1 = denied (λ h. omega (arith, h.there, c.if-frames-at.true, framed_at frames c.requires.fact_1.ascends c.args.item k b h)); fact_2 = λ e. absurd (false≢true e) }

pub returns-then-frames-at-2 : goal.returns-then-frames-at-2
returns-then-frames-at-2 c =
    let frames : List ℕ = c.args.frames.now in
    let k : ℕ = c.find_frame-k.result in
    let b = c.find_frame-k.ensures in
    record { fact_1 = denied (λ h. c.if-frames-at-2.true (ap (λ (n : ℕ). get_or frames (3 * n) 0) (sym (framed_at frames c.requires.fact_1.ascends c.args.item k b h)) ∙ h.tick)); fact_2 = λ e. absurd (false≢true e) }

pub returns-then-frames-at-3 : goal.returns-then-frames-at-3
returns-then-frames-at-3 c =
    let frames : List ℕ = c.args.frames.now in
    let k : ℕ = c.find_frame-k.result in
    let b = c.find_frame-k.ensures in
    record { fact_1 = denied (λ h. c.if-frames-at-3.true (ap (λ (n : ℕ). get_or frames (3 * n + 1) 0) (sym (framed_at frames c.requires.fact_1.ascends c.args.item k b h)) ∙ h.node)); fact_2 = λ e. absurd (false≢true e) }

pub returns-then-used-item : goal.returns-then-used-item
returns-then-used-item c =
    let frames : List ℕ = c.args.frames.now in
    let k : ℕ = c.find_frame-k.result in
    let b = c.find_frame-k.ensures in
    record { fact_1 = denied (λ h. omega (arith, h.used, c.if-used-item.true, ap (λ (n : ℕ). get_or frames (3 * n + 2) 0) (framed_at frames c.requires.fact_1.ascends c.args.item k b h))); fact_2 = λ e. absurd (false≢true e) }

pub returns-then-used-item-2 : goal.returns-then-used-item-2
returns-then-used-item-2 c =
    let frames : List ℕ = c.args.frames.now in
    let k : ℕ = c.find_frame-k.result in
    let b = c.find_frame-k.ensures in
    let there : 3 * k < length frames = omega (arith, c.if-frames-at.false) in
    let used : get_or frames (3 * k + 2) 0 ≡ c.args.item.used = omega (arith, c.if-used-item-2.true) in record {
      fact_1 = told (record { number = k; there = there; tick = c.if-frames-at-2.false; node = c.if-frames-at-3.false; used = omega (arith, c.if-used-item.false) });
      fact_2 = λ e.
          marked_one frames c.requires.fact_1.ascends c.args.item k b c.args.filled.now (omega (arith, there, c.requires.fact_1.few, c.requires.fact_2))
          (record { tick = c.if-frames-at-2.false; node = c.if-frames-at-3.false; used = used });
    }

pub returns-else-used-item-2 : goal.returns-else-used-item-2
returns-else-used-item-2 c =
    let frames : List ℕ = c.args.frames.now in
    let k : ℕ = c.find_frame-k.result in
    let b = c.find_frame-k.ensures in
    let there : 3 * k < length frames = omega (arith, c.if-frames-at.false) in record { fact_1 = told (record { number = k; there = there; tick = c.if-frames-at-2.false; node = c.if-frames-at-3.false; used = omega (arith, c.if-used-item.false) }); fact_2 = λ e. marked_none frames c.requires.fact_1.ascends c.args.item k b c.args.filled.now (λ q. omega (arith, q, c.if-used-item-2.false)) }
