-- Each answer is told by the refusal that applies first: the answers in memory, and the numbers of the C functions.
-- Assumes nothing.
use Rattle.std.specs.Prelude.{Ok, Err}
use Prim.Native.Nat.{ℕ, ◌*◌, ◌/◌, ◌≤◌}
use mathlib.Core.Path.{◌≡◌, refl, sym, ap, subst}
use mathlib.Core.Bool.{Bool, true, false, ◌||◌}
use mathlib.Core.List.{List}
use native.Mathlib.Omega.{arith}
use borrow.Author.Tests.{ltb-false}
use lib.Dec.{ltb}
use lib.ListN.{length}
use Rattle.limits.specs.Limits.{LASTREFUSAL}
use Rattle.refusals.specs.Numbers.{number_of, numbered}
use Rattle.refusals.proofs.Numbered.{is_ok}
use Rattle.model.specs.Plan.{Lines}
use Rattle.model.specs.Refusals.{nothing, refused, sentence, plan_refusal}
use Rattle.model.specs.Refusals as m
use Rattle.model.specs.Text.{Means, reads, not_read, unless_refused, bytes_after}
use Rattle.model.specs.Table.{Result, result, answered, table_after, frames_after, counts_after, entry_words, frame_words}
use Rattle.model.specs.Listing.{plan_listing, listing_refusal}
use Rattle.program.proofs.Room.{listing_most}
use Rattle.plan.specs.declared.Plan.{Plan}
use Rattle.plan.specs.Memory.{lines}
use Rattle.text_reader.specs.Answer.{reading_of}
use Rattle.text_lines.specs.Answer as writer
use Rattle.planner_table.specs.declared.Made.{Made}
use Rattle.planner_table.specs.Planner as planner
use Rattle.checker_table.specs.Verdict as checker
use Rattle.c_words.specs.Numbers.{written_number}
use Rattle.c_interface.specs.Tables.{table_number, Puts}
use Rattle.c_plan.specs.Filled.{table_bytes_after, frame_bytes_after, totals_after}
use Rattle.demands.specs.Calls.{Outcome}
use Rattle.demands.specs.Sentences.{InNumber}
use Rattle.demands.proofs.Firsts.{Told, number_refused, number_result}

-- the reader's answer
pub plan_read : (r : Outcome Plan) (p : Lines) → reads p ≡ reading_of r → (q : Plan) × (r ≡ Ok q) × (lines q ≡ p)
plan_read (Ok q) p e = (q, refl, cc)
plan_read (Err k) p e = absurd (let z : ◌≡◌ {A = ℕ} 0 1 = cc in omega arith)

number_read : (r : Outcome Plan) (n : ℕ) → not_read n ≡ reading_of r → numbered r ≡ Err n
number_read (Ok q) n e = absurd (let z : ◌≡◌ {A = ℕ} 0 1 = cc in omega arith)
number_read (Err k) n e = let m : n ≡ number_of k = cc in ap Err (sym m)

module _ (text : List ℕ) (r : Outcome Plan) where
  pub told_read : (p : Lines) → Means text p → reads p ≡ reading_of r →
      Told (λ n. numbered r ≡ Err n) (Unit {0}) ((q : Plan) × (r ≡ Ok q) × Means text (lines q)) nothing
  told_read p m e =
      let q = plan_read r p e in
      let g : numbered r ≡ Ok q.0 = ap numbered q.1 in
      ((λ n f. absurd (let z : ◌≡◌ {A = ℕ} 0 1 = cc in omega arith)), (q.0, q.1, subst (Means text) (sym q.2) m))

  pub told_not_read : (n : ℕ) → not_read n ≡ reading_of r →
      Told (λ n. numbered r ≡ Err n) (Unit {0}) ((q : Plan) × (r ≡ Ok q) × Means text (lines q)) (refused n)
  told_not_read n e = let q = number_read r n e in (q, (λ k f. cc), tt)

-- the answer of a text put into lent bytes
module _ (bytes out out-now : List ℕ) where
  pub told_written : (x : m.Refusal) (r : Outcome ℕ) → numbered r ≡ writer.answer_of (unless_refused x bytes) → out-now ≡ bytes_after (unless_refused x bytes) out →
      Told (λ n. numbered r ≡ Err n) (out-now ≡ out) ((n : ℕ) × (r ≡ Ok n)) x
  unfolding unless_refused bytes_after
  told_written nothing r e b = ((λ n f. absurd (let z : ◌≡◌ {A = ℕ} 0 1 = cc in omega arith)), (length bytes, is_ok r (length bytes) e))
  told_written (refused n) r e b = (e, (λ k f. cc), b)

  -- a text of few bytes put into lent bytes, as a number
  pub told_number : (b : Bool) (answer : ℕ) → ltb (length out) (length bytes) ≡ b → length bytes ≤ 16384 → answer ≡ written_number (unless_refused (sentence 10 b nothing) bytes) →
      out-now ≡ bytes_after (unless_refused (sentence 10 b nothing) bytes) out → Told (InNumber answer) (out-now ≡ out) (answer ≤ length out) (sentence 10 b nothing)
  unfolding unless_refused bytes_after written_number
  told_number true answer t l e q = number_refused (out-now ≡ out) (answer ≤ length out) answer 10 (omega arith) (omega arith) e q
  told_number false answer t l e q =
      number_result (out-now ≡ out) (answer ≤ length out) answer (omega arith) (omega (arith, ltb-false (length out) (length bytes) t))

-- the listing of a plan, as a number: 10 by its entries or its bytes, 11 by its frames
abbrev Refused-by : Bool → Bool → Bool → m.Refusal
Refused-by a b c = sentence 10 (a || b) (sentence 11 c nothing)

module _ (p : Lines) (fine : plan_refusal p ≡ nothing) (out out-now : List ℕ) (answer : ℕ) where
  pub told_listing : answer ≡ written_number (unless_refused (listing_refusal p (length out)) (plan_listing p)) →
      out-now ≡ bytes_after (unless_refused (listing_refusal p (length out)) (plan_listing p)) out →
      Told (InNumber answer) (out-now ≡ out) (answer ≤ length out) (listing_refusal p (length out))
  unfolding listing_refusal unless_refused bytes_after written_number
  told_listing e b =
      at (ltb 15000 (length (entry_words (result p).entries))) (ltb (length out) (length (plan_listing p))) (ltb 6000 (length (frame_words (result p).frames))) refl refl e b
    where
      at : (a b c : Bool) → ltb 15000 (length (entry_words (result p).entries)) ≡ a → ltb (length out) (length (plan_listing p)) ≡ b →
          answer ≡ written_number (unless_refused (Refused-by a b c) (plan_listing p)) → out-now ≡ bytes_after (unless_refused (Refused-by a b c) (plan_listing p)) out →
          Told (InNumber answer) (out-now ≡ out) (answer ≤ length out) (Refused-by a b c)
      at true b c s t e q = number_refused (out-now ≡ out) (answer ≤ length out) answer 10 (omega arith) (omega arith) e q
      at false true c s t e q = number_refused (out-now ≡ out) (answer ≤ length out) answer 10 (omega arith) (omega arith) e q
      at false false true s t e q = number_refused (out-now ≡ out) (answer ≤ length out) answer 11 (omega arith) (omega arith) e q
      at false false false s t e q =
          let few = listing_most p fine (ltb-false _ _ s) in
          number_result (out-now ≡ out) (answer ≤ length out) answer (omega arith) (omega (arith, ltb-false (length out) (length (plan_listing p)) t))

-- the planner's answer
module _ (q : Result) (table frames passed table-now frames-now passed-now : List ℕ) where
  pub told_planned : (x : m.Refusal) (r : Outcome Made) → numbered r ≡ planner.answer_of (answered x q) → table-now ≡ table_after (answered x q) table →
      frames-now ≡ frames_after (answered x q) frames → passed-now ≡ counts_after (answered x q) passed →
      Told (λ n. numbered r ≡ Err n) ((table-now ≡ table) × (frames-now ≡ frames) × (passed-now ≡ passed)) ((m : Made) × (r ≡ Ok m)) x
  unfolding answered table_after frames_after counts_after planner.answer_of
  told_planned nothing r e t f k = ((λ n g. absurd (let z : ◌≡◌ {A = ℕ} 0 1 = cc in omega arith)), (_, is_ok r _ e))
  told_planned (refused n) r e t f k = (e, (λ j g. cc), (t, f, k))

-- the same put into lent bytes, as a number
module _ (q : Result) (table frames totals table-now frames-now totals-now : List ℕ) (answer : ℕ) where
  abbrev Unchanged : Type 0
  Unchanged = (table-now ≡ table) × (frames-now ≡ frames) × (totals-now ≡ totals)

  pub told_table : (b c : Bool) → ltb (length table / 4) (length (entry_words q.entries)) ≡ b → length (entry_words q.entries) ≤ 63360 →
      Puts (answered (sentence 10 b (sentence 11 c nothing)) q) table frames totals table-now frames-now totals-now answer →
      Told (InNumber answer) ((table-now ≡ table) × (frames-now ≡ frames) × (totals-now ≡ totals)) (answer ≤ length table) (sentence 10 b (sentence 11 c nothing))
  unfolding answered table_number table_bytes_after frame_bytes_after totals_after
  told_table true c t l s = number_refused Unchanged (answer ≤ length table) answer 10 (omega arith) (omega arith) s.number (s.bytes.table_bytes, s.bytes.frame_bytes, s.bytes.total_bytes)
  told_table false true t l s = number_refused Unchanged (answer ≤ length table) answer 11 (omega arith) (omega arith) s.number (s.bytes.table_bytes, s.bytes.frame_bytes, s.bytes.total_bytes)
  told_table false false t l s =
      let e : answer ≡ 4 * length (entry_words q.entries) = s.number in
      number_result Unchanged (answer ≤ length table) answer (omega arith) (omega (arith, ltb-false (length table / 4) (length (entry_words q.entries)) t))

  pub told_turned : (n : ℕ) → 1 ≤ n → n ≤ LASTREFUSAL → Puts (answered (refused n) q) table frames totals table-now frames-now totals-now answer →
      Told (InNumber answer) ((table-now ≡ table) × (frames-now ≡ frames) × (totals-now ≡ totals)) (answer ≤ length table) (refused n)
  unfolding answered table_number table_bytes_after frame_bytes_after totals_after
  told_turned n l k s = number_refused Unchanged (answer ≤ length table) answer n l k s.number (s.bytes.table_bytes, s.bytes.frame_bytes, s.bytes.total_bytes)

-- the checker's answer
pub told_checked : (x : m.Refusal) (r : Outcome (Unit {0})) → numbered r ≡ checker.answer_of x → Told (λ n. numbered r ≡ Err n) (Unit {0}) (r ≡ Ok tt) x
unfolding checker.answer_of
told_checked nothing r e = ((λ n f. absurd (let z : ◌≡◌ {A = ℕ} 0 1 = cc in omega arith)), is_ok r tt e)
told_checked (refused n) r e = (e, (λ k f. cc), tt)
