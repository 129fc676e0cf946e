-- `program::list_words` meets its contract, by that of the listing.
use lib.ListN.{length}
use Rattle.model.specs.Listing.{words_listing}
use Rattle.plan.specs.Memory.{lines}
use Rattle.program.proofs.ListingOfPlan.{many_unchanged, few_listed}
use Rattle.program.proofs.listed.list_words.Goals as goal

pub returns-then-frames-gt-PRINTEDFRAMEWORDS : goal.returns-then-frames-gt-PRINTEDFRAMEWORDS
returns-then-frames-gt-PRINTEDFRAMEWORDS c = record { answer = c.refused_frames.ensures; bytes = many_unchanged _ _ _ _ c.if-frames-gt-PRINTEDFRAMEWORDS.true }

pub returns : goal.returns
returns c =
    let w = c.write_listing in
    let a = c.args in
    let z = few_listed a.out.now _ (words_listing (lines a.p) a.delay a.passed.now a.table.now a.frames.now) (length a.frames.now) _ c.if-frames-gt-PRINTEDFRAMEWORDS.false w.ensures.answer w.ensures.bytes in
    record { answer = z.0; bytes = z.1 }
