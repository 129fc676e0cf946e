-- Document 02, point 4, as a theorem: see specs/PointFour.antt.
-- Assumes nothing.
use Prim.Native.Nat.{ℕ}
use mathlib.Core.Path.{◌≡◌, sym, ◌∙◌}
use Rattle.model.specs.Plan.{Lines}
use Rattle.model.specs.Bus.{first_beginning}
use Rattle.model.specs.Refusals.{nothing}
use Rattle.laws.proofs.Good.{Good, good}
use Rattle.laws.proofs.Slots.{beginning_begins, beginning_within, beginning_first, round_current}
use Rattle.bus_timetable.specs.Bus.{beginning_at, round_beginning_at}
use Rattle.demands.specs.Sentences.{plan_sentences, FirstOf}
use Rattle.demands.specs.PointFour.{FirstBeginning, first_called, RoundBeginning, round_called, Point4}
use Rattle.demands.proofs.Firsts.{plan_first}

-- what the contracts of the search say, whatever they are handed
first_says : (r b o t x : ℕ) → FirstBeginning r b o t x → x ≡ beginning_at r o t
first_says r b o t x (first_called c) = c.learnt

round_says : (r m b t x : ℕ) → RoundBeginning r m b t x → x ≡ round_beginning_at r t
round_says r m b t x (round_called c) = c.learnt

kept : (p : Lines) → FirstOf (plan_sentences p) nothing → Good p
kept p f = good p (sym (plan_first p) ∙ f)

pub point_4 : Point4
unfolding first_beginning beginning_at round_beginning_at
point_4 =
    record {
      begins_there = λ p f s m t. beginning_begins p (kept p f) s m t;
      at_or_after = λ p f s m t. (beginning_within p (kept p f) s m t).0;
      none_between = λ p f s m t u a l. beginning_first p (kept p f) s m t u a l;
      within_a_round = λ p f s m t. (beginning_within p (kept p f) s m t).1;
      multiple = λ p f t. (round_current p (kept p f) t).0;
      not_after = λ p f t. (round_current p (kept p f) t).1;
      the_last = λ p f t. (round_current p (kept p f) t).2;
      searched = λ p n t begun answer c. first_says _ _ _ _ _ c;
      carried = λ p t reciprocal begun answer c. round_says _ _ _ _ _ c;
    }
