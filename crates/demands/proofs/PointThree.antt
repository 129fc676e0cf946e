-- Document 02, point 3, as a theorem: see specs/PointThree.antt.
-- Assumes nothing.
use Rattle.std.specs.Prelude.{Ok, Err}
use Prim.Native.Nat.{ℕ, ◌+◌, ◌<◌}
use mathlib.Core.Path.{◌≡◌, refl, sym, ap, subst, ◌∙◌}
use mathlib.Core.List.{List, [], ◌++◌, append_assoc, append-nil}
use native.Mathlib.Omega.{arith}
use lib.ListN.{length, get_or, drop, get_or-append}
use Rattle.lists.specs.Lists.{all, each}
use Rattle.lists.specs.Front.{front}
use Rattle.lists.proofs.Keep.{getD_upfrom}
use Rattle.lists.proofs.Tests.{both}
use Rattle.model.specs.Plan.{Lines}
use Rattle.model.specs.Refusals.{nothing, plan_refusal}
use Rattle.model.specs.Table.{Result, plans, passed_by, result}
use Rattle.model.specs.Text.{text, field, short}
use Rattle.model.specs.Listing.{passed_lines, entry_line, frame_line, listing, printed, plan_listing}
use Rattle.model.specs.ListingText.{States, not_listed, no_listing, listed_refusal, by_listing}
use Rattle.model.specs.Checking.{check, Sound}
use Rattle.laws.proofs.Good.{good}
use Rattle.laws.proofs.Passed.{passed_node, pass_overs_added, none_later}
use Rattle.laws.proofs.Words.{counts_each}
use Rattle.listing_grammar.proofs.Whole.{states_unique}
use Rattle.listing_grammar.proofs.Answered.{checks_unique}
use Rattle.listing_grammar.proofs.PassedLines.{next_line, not_the_old, no_further}
use Rattle.refusals.specs.Numbers.{numbered}
use Rattle.plan.specs.declared.Plan.{Plan}
use Rattle.plan.specs.Memory.{lines}
use Rattle.checker_table.specs.Verdict.{answer_of}
use Rattle.checker_listing.specs.Listing.{Checks}
use Rattle.demands.specs.Calls.{Outcome}
use Rattle.demands.specs.PointThree.{passed_by_node, begins, Point3}
use Rattle.demands.proofs.Contracts.{check_listing_says, c_plan_table_says}
use Rattle.demands.proofs.Firsts.{plan_first}
use Rattle.demands.proofs.Two.{neither, demand_two}
use Rattle.demands.proofs.PlannedC.{c_planned_counts}
use Rattle.demands.proofs.PointTwo.{point_2}

-- the count of a node
by_node : (p : Lines) (n : ℕ) → n < length p.slots → get_or (result p).passed n 0 ≡ passed_by_node p n
unfolding result
by_node p n l = getD_upfrom (passed_by (plans p)) 0 (length p.slots) n 0 l ∙ ap (passed_by (plans p)) z ∙ passed_node p n
  where
    z : 0 + n ≡ n
    z = omega arith

-- counts at the front of what was lent
in_front : (p : Lines) (passed now : List ℕ) → now ≡ front (result p).passed passed → (n : ℕ) → n < length p.slots → get_or now n 0 ≡ passed_by_node p n
unfolding front
in_front p passed now e n l =
    ap (λ (xs : List ℕ). get_or xs n 0) e
    ∙ get_or-append (result p).passed (drop (length (result p).passed) passed) 0 n (omega (arith, counts_each p))
    ∙ by_node p n l

-- the front of a listing
front_lines : (p : Lines) (r : Result) → (rest : List ℕ) × (listing p r.delay r.passed r.entries r.frames ≡ begins r.delay r.passed rest)
unfolding listing
front_lines p r =
    (each (entry_line p) r.entries ++ each frame_line r.frames, append_assoc (field "delay" r.delay ++ text "\n" ++ passed_lines 0 r.passed) (each (entry_line p) r.entries) (each frame_line r.frames))

-- a delay line with no passed line behind it
begins_none : (delay : ℕ) (rest : List ℕ) → begins delay [] rest ≡ field "delay" delay ++ text "\n" ++ rest
unfolding passed_lines
begins_none delay rest = ap (λ (s : List ℕ). s ++ rest) (append-nil (field "delay" delay ++ text "\n"))

-- a text that states nothing is answered with 21
stating_nothing : (p : Plan) (bytes : List ℕ) → plan_refusal (lines p) ≡ nothing → ((s : Result) → States (lines p) bytes s → ⊥) → (r : Outcome (Unit {0})) → Checks (lines p) bytes r → numbered r ≡ Err 21
unfolding listed_refusal answer_of
stating_nothing p bytes fine h r c = c.answer ∙ ap answer_of (checks_unique (lines p) c.of_listing (by_listing (not_listed 21) fine (no_listing h)))

-- a sound table's plan passes refusals 2 to 9
sound_fine : (p : Lines) (words : List ℕ) (delay : ℕ) → Sound p words delay → plan_refusal p ≡ nothing
unfolding check
sound_fine p words delay s = (neither (plan_refusal p) _ s).0

pub point_3 : Point3
unfolding plan_listing printed
point_3 =
    record {
      for_each_node = counts_each;
      by_node = by_node;
      added_up = λ p f. pass_overs_added p (sym (plan_first p) ∙ f);
      none_later = λ p f c count t late s m. none_later p c (sym (plan_first p) ∙ f) count t late s m;
      planned = λ p table frames passed table-now frames-now passed-now m c.
          in_front (lines p) passed passed-now (demand_two.scheduled p table frames passed table-now frames-now passed-now m c).pass_overs;
      c_planned = λ text table frames totals table-now frames-now totals-now answer c not.
          (let g = c_planned_counts text table frames totals table-now frames-now totals-now answer (c_plan_table_says c) not in
          (g.0, g.1, λ n l room. g.2 n l room ∙ by_node g.0 n l));
      listed = λ p. front_lines p (result p);
      of_the_form = λ p bytes r m. (m.count_for_each, ((front_lines p r).0, sym m.prints ∙ (front_lines p r).1));
      other_line_refused = λ p f delay counts rest nine few other r c.
          (let fine = sym (plan_first (lines p)) ∙ f in
          let b = both (short delay) (all short counts) nine in
          stating_nothing p (begins delay counts rest) fine
          (λ s m. let q = next_line (lines p) fine delay counts rest b.0 s b.1 few m in other q.0 q.1 q.2) r (check_listing_says c));
      old_line_refused = λ p f delay count rest nine few r c.
          (let fine = sym (plan_first (lines p)) ∙ f in
          stating_nothing p (field "delay" delay ++ text "\n" ++ (field "passed" count ++ rest)) fine
          (λ s m.
          let n : States (lines p) (begins delay [] (field "passed" count ++ rest)) s = subst (λ (bytes : List ℕ). States (lines p) bytes s) (sym (begins_none delay (field "passed" count ++ rest))) m in
          let q = next_line (lines p) fine delay [] (field "passed" count ++ rest) nine s refl (good (lines p) fine).some_slot n in
          not_the_old count 0 q.0 rest q.1 few q.2) r (check_listing_says c));
      further_line_refused = λ p f delay counts rest nine each_one r c.
          (let fine = sym (plan_first (lines p)) ∙ f in
          let b = both (short delay) (all short counts) nine in
          stating_nothing p (begins delay counts (text "(passed " ++ rest)) fine
          (no_further (lines p) fine delay counts rest b.0 b.1 each_one) r (check_listing_says c));
      compared = λ p bytes c s m n l.
          (let a = (point_2.accepts p bytes (Ok tt) c).0 refl in
          let fine : plan_refusal (lines p) ≡ nothing = sound_fine (lines p) _ _ a.sound in
          let q : a.stated ≡ s = states_unique (lines p) fine a.states m in
          ap (λ (z : Result). get_or z.passed n 0) (sym q) ∙ ap (λ (xs : List ℕ). get_or xs n 0) a.its_counts ∙ by_node (lines p) n l);
    }
