-- `checker_listing::check_sound` meets its contract: 22 by the frames, then by the counts.
use mathlib.Core.Path.{sym, ap, ◌∙◌}
use Prim.Native.Nat.{ℕ}
use lib.ListN.{length, take, length-replicate}
use Rattle.limits.specs.Limits.{NODES}
use native.Mathlib.Omega.{arith}
use borrow.Author.Tests.{not-true, not-false}
use Rattle.lists.specs.Lists.{same_numbers}
use Rattle.laws.proofs.Good.{good}
use Rattle.laws.proofs.Sound.{sound_iff}
use Rattle.plan.specs.Memory.{lines}
use Rattle.plan_layout.proofs.IndexOfLines.{indexed_lines}
use Rattle.checker_listing.proofs.ListingAnswers.{counts}
use Rattle.checker_listing.proofs.StatedAnswers.{plan_counts, plan_counts_long, answer_frames, answer_counts, answer_accepted}
use Rattle.checker_listing.proofs.stated.check_sound.Goals as goal

pub of_plan-index-requires : goal.of_plan-index-requires
of_plan-index-requires c = (((sound_iff (lines c.args.p) c.args.table.now c.requires.fact_1.0).0 c.requires.fact_1.1).0)

pub gives_frames-requires : goal.gives_frames-requires
gives_frames-requires c =
    let h = c.requires.fact_1 in
    record { fact_1 = record { plan = lines c.args.p; delay = h.0; indexed = (indexed_lines c.args.p (((sound_iff (lines c.args.p) c.args.table.now c.requires.fact_1.0).0 c.requires.fact_1.1).0) c.of_plan-index.ensures); sound = h.1 }; fact_2 = (c.requires.fact_2.0, c.requires.fact_2.1) }

pub returns-then-not-gives_frames : goal.returns-then-not-gives_frames
returns-then-not-gives_frames c delay sound =
    let p = lines c.args.p in
    answer_frames p c.args.table.now c.args.frames.now delay (take c.args.p.slots c.args.passed.now) ((sound_iff p c.args.table.now delay).0 sound).1 c.requires.fact_2.0 sound
    (sym (c.gives_frames.ensures p delay (indexed_lines c.args.p (((sound_iff (lines c.args.p) c.args.table.now c.requires.fact_1.0).0 c.requires.fact_1.1).0) c.of_plan-index.ensures) sound) ∙ not-true _ c.if-not-gives_frames.true-raw)

pub count_pass_overs-requires : goal.count_pass_overs-requires
count_pass_overs-requires c = (((sound_iff (lines c.args.p) c.args.table.now c.requires.fact_1.0).0 c.requires.fact_1.1).0)

pub same_counts-requires : goal.same_counts-requires
same_counts-requires c =
    let n = (counts c.args.p).its_slots in (
      omega (arith, n, (good (lines c.args.p) (((sound_iff (lines c.args.p) c.args.table.now c.requires.fact_1.0).0 c.requires.fact_1.1).0)).few_slots),
      c.requires.fact_2.2,
      plan_counts_long (lines c.args.p) _ n c.count_pass_overs.ensures (((sound_iff (lines c.args.p) c.args.table.now c.requires.fact_1.0).0 c.requires.fact_1.1).0) (ap length c.zeros-counts.ensures ∙ length-replicate {A = ℕ} NODES 0),
    )

pub returns-then-not-same_counts : goal.returns-then-not-same_counts
returns-then-not-same_counts c delay sound =
    let p = lines c.args.p in
    answer_counts p c.args.table.now c.args.frames.now delay (take c.args.p.slots c.args.passed.now) ((sound_iff p c.args.table.now delay).0 sound).1 c.requires.fact_2.0 sound
    (sym (c.gives_frames.ensures p delay (indexed_lines c.args.p (((sound_iff (lines c.args.p) c.args.table.now c.requires.fact_1.0).0 c.requires.fact_1.1).0) c.of_plan-index.ensures) sound) ∙ not-false _ c.if-not-gives_frames.false-raw) (ap (same_numbers (take c.args.p.slots c.args.passed.now)) (sym (plan_counts (lines c.args.p) _ (counts c.args.p).its_slots c.count_pass_overs.ensures)) ∙ sym c.same_counts.ensures ∙ not-true _ c.if-not-same_counts.true-raw)

pub returns : goal.returns
returns c delay sound =
    let p = lines c.args.p in
    answer_accepted p c.args.table.now c.args.frames.now delay (take c.args.p.slots c.args.passed.now) ((sound_iff p c.args.table.now delay).0 sound).1 c.requires.fact_2.0 sound
    (sym (c.gives_frames.ensures p delay (indexed_lines c.args.p (((sound_iff (lines c.args.p) c.args.table.now c.requires.fact_1.0).0 c.requires.fact_1.1).0) c.of_plan-index.ensures) sound) ∙ not-false _ c.if-not-gives_frames.false-raw) (ap (same_numbers (take c.args.p.slots c.args.passed.now)) (sym (plan_counts (lines c.args.p) _ (counts c.args.p).its_slots c.count_pass_overs.ensures)) ∙ sym c.same_counts.ensures ∙ not-false _ c.if-not-same_counts.false-raw)
