-- `check_read` meets its contract: 21 by the reader, and else what is answered to what the text states.
use mathlib.Core.Path.{sym, ap, ◌∙◌}
use Prim.Native.Nat.{ℕ}
use lib.ListN.{length, length-replicate}
use lib.Seq.{length-take-le}
use Rattle.std.proofs.lemmas.Result.{err_from_is_err_and}
use Rattle.limits.specs.Limits.{NODES}
use Rattle.plan.specs.Memory.{lines}
use Rattle.checker_listing.proofs.ListingAnswers.{counts, some_plan, first_words, whole_words, counts_long, refused_checks, stated_checks}
use Rattle.checker_listing.proofs.listed.check_read.Goals as goal

pub read_listing-requires : goal.read_listing-requires
read_listing-requires c = record { fact_1 = some_plan c.args.p c.requires.fact_1; fact_2 = c.requires.fact_2 }

pub returns-in_err-s : goal.returns-in_err-s
returns-in_err-s c =
    let p = err_from_is_err_and c.from_residual.result c.from_residual.ensures.1 in
    rw (p.1, p.2)
    (refused_checks (lines c.args.p) c.args.listing.now _ _ _ _ _ _ c.requires.fact_1 _
    (c.in_err-s.ensures (lines c.args.p) c.requires.fact_1 (counts c.args.p)))

pub slice_bounds-check_stated-end : goal.slice_bounds-check_stated-end
slice_bounds-check_stated-end c = (whole_words (lines c.args.p) c.args.listing.now _ _ _ _ _ _ _ (c.in_ok-s.ensures (lines c.args.p) c.requires.fact_1 (counts c.args.p)) c.requires.fact_2.0 c.requires.fact_2.1).words_in

pub slice_bounds-check_stated-end-2 : goal.slice_bounds-check_stated-end-2
slice_bounds-check_stated-end-2 c = sym (length-take-le _ _ (whole_words (lines c.args.p) c.args.listing.now _ _ _ _ _ _ _ (c.in_ok-s.ensures (lines c.args.p) c.requires.fact_1 (counts c.args.p)) c.requires.fact_2.0 c.requires.fact_2.1).words_in)

pub slice_bounds-check_stated-end-3 : goal.slice_bounds-check_stated-end-3
slice_bounds-check_stated-end-3 c = (whole_words (lines c.args.p) c.args.listing.now _ _ _ _ _ _ _ (c.in_ok-s.ensures (lines c.args.p) c.requires.fact_1 (counts c.args.p)) c.requires.fact_2.0 c.requires.fact_2.1).framewords_in

pub slice_bounds-check_stated-end-4 : goal.slice_bounds-check_stated-end-4
slice_bounds-check_stated-end-4 c = sym (length-take-le _ _ (whole_words (lines c.args.p) c.args.listing.now _ _ _ _ _ _ _ (c.in_ok-s.ensures (lines c.args.p) c.requires.fact_1 (counts c.args.p)) c.requires.fact_2.0 c.requires.fact_2.1).framewords_in)

pub check_stated-requires : goal.check_stated-requires
check_stated-requires c =
    let w = first_words _ _ _ (whole_words (lines c.args.p) c.args.listing.now _ _ _ _ _ _ _ (c.in_ok-s.ensures (lines c.args.p) c.requires.fact_1 (counts c.args.p)) c.requires.fact_2.0 c.requires.fact_2.1) in
    record { fact_1 = c.requires.fact_1; fact_2 = (w.0, w.1, w.2, counts_long (lines c.args.p) c.args.listing.now _ _ _ _ _ _ c.requires.fact_1 _ (c.in_ok-s.ensures (lines c.args.p) c.requires.fact_1 (counts c.args.p)) (ap length c.zeros-passed.ensures ∙ length-replicate {A = ℕ} NODES 0)) }

pub returns : goal.returns
returns c =
    stated_checks (lines c.args.p) c.args.listing.now _ _ _ _ _ _ c.requires.fact_1 c.args.p.slots (counts c.args.p).its_slots _ _
    (c.in_ok-s.ensures (lines c.args.p) c.requires.fact_1 (counts c.args.p)) c.check_stated.ensures
