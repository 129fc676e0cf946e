-- What a listing states is accepted just where its table is sound with the delay that it states, its frames are those
-- that its entries give, and its pass-over counts, node by node, are the plan's.
-- Assumes nothing.
use mathlib.Core.Path.{◌≡◌, ap, sym, ◌∙◌}
use borrow.Author.Tests.{not-false}
use Rattle.lists.proofs.Tests.{neither, same_equal, equal_same}
use Rattle.model.specs.Plan.{Lines}
use Rattle.model.specs.Refusals.{nothing, or_else, plan_refusal}
use Rattle.model.specs.Table.{Result, result, frames, entry_words, frame_words, frames_of}
use Rattle.model.specs.Checking.{table_refusal, check, Sound}
use Rattle.model.specs.ListingText.{other_frames, other_counts, stated_refusal}
use Rattle.laws.proofs.Good.{pass, or_nothing}
use Rattle.laws.proofs.Words.{frames_back}

-- "An accepted listing has everything an accepted table has", and its frames and its counts are those that it should
-- have.
pub record Accepted (p : Lines) (r : Result) : Type 0 where
  pub sound : Sound p (entry_words r.entries) r.delay
  pub its_frames : r.frames ≡ frames p r.entries
  pub its_counts : r.passed ≡ (result p).passed

module _ (p : Lines) (r : Result) where
  pub accepted : plan_refusal p ≡ nothing → stated_refusal p r ≡ nothing → Accepted p r
  unfolding stated_refusal other_frames other_counts check or_else
  accepted fine h =
      let a = or_nothing (table_refusal p (entry_words r.entries) r.delay) _ h in
      let b = neither (other_frames p r) (other_counts p r) (pass 22 _ nothing a.1).0 in
      let f = same_equal (frame_words r.frames) (frame_words (frames p r.entries)) (not-false _ b.0) in
      record {
        sound = rw fine a.0;
        its_frames = sym (frames_back r.frames) ∙ ap frames_of f ∙ frames_back (frames p r.entries);
        its_counts = same_equal r.passed (result p).passed (not-false _ b.1);
      }

  pub accepts : Accepted p r → stated_refusal p r ≡ nothing
  unfolding stated_refusal other_frames other_counts check or_else
  accepts a =
      let s = or_nothing (plan_refusal p) (table_refusal p (entry_words r.entries) r.delay) a.sound in
      let f = equal_same (frame_words r.frames) (frame_words (frames p r.entries)) (ap frame_words a.its_frames) in
      let c = equal_same r.passed (result p).passed a.its_counts in
      rw (s.1, f, c)
