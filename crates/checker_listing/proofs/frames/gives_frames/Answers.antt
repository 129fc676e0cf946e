-- `checker_listing::gives_frames` meets its contract: frames that are in order and fit are those that the entries give.
use borrow.Author.Tests.{not-true, not-false}
use Rattle.plan_index.specs.Index.{laid}
use Rattle.checker_listing.proofs.GivenFrames.{placed_in, not_in_order, fits_same}
use Rattle.checker_listing.proofs.frames.gives_frames.Goals as goal

pub returns-then-not-ticks_ascend : goal.returns-then-not-ticks_ascend
returns-then-not-ticks_ascend c p delay o sound =
    not_in_order p (laid c.args.index.now) o c.args.table.now delay sound c.args.frames.now c.requires.fact_2.0 (c.ticks_ascend.ensures.1 (not-true _ c.if-not-ticks_ascend.true-raw))

pub items_fit-requires : goal.items_fit-requires
items_fit-requires c =
    let i = c.requires.fact_1 in record { fact_1 = placed_in i.plan (laid c.args.index.now) i.indexed c.args.table.now i.delay i.sound; fact_2 = record { threes = c.requires.fact_2.0; few = c.requires.fact_2.1; ascends = c.ticks_ascend.ensures.0 (not-false _ c.if-not-ticks_ascend.false-raw) } }

pub returns : goal.returns
returns c p delay o sound =
    fits_same p (laid c.args.index.now) o c.args.table.now delay sound c.args.frames.now c.requires.fact_2.0 c.items_fit.result
    (c.ticks_ascend.ensures.0 (not-false _ c.if-not-ticks_ascend.false-raw)) c.items_fit.ensures
