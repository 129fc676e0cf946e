-- Where as many bytes are lent as any listing has, what the planning program prints for a text is its listing, or the
-- line of the refusal that the listing is answered with.
-- Assumes nothing.
use mathlib.Core.Path.{◌≡◌, refl, sym, ap, subst, ◌∙◌}
use mathlib.Core.Bool.{Bool, true, false, ◌||◌}
use mathlib.Core.List.{List}
use Prim.Native.Nat.{ℕ, ◌≤◌, ◌<◌}
use native.Mathlib.Omega.{arith}
use borrow.Author.Tests.{le-ltb, ltb-false}
use lib.Dec.{ltb}
use lib.ListN.{length, drop, length-append}
use Rattle.std.specs.Prelude.{Result, Ok, Err}
use Rattle.limits.specs.Limits.{LISTING}
use Rattle.lists.specs.Front.{front}
use Rattle.model.specs.Plan.{Lines}
use Rattle.model.specs.Refusals.{nothing, sentence, or_else, plan_refusal}
use Rattle.model.specs.Table.{result, entry_words, frame_words, answered, room_refusal, plan_answer}
use Rattle.model.specs.Text.{Reading, reads, not_read, AnswersText, Written, wrote, not_written, unless_refused, bytes_after}
use Rattle.model.specs.Listing.{refused_line, printed, program_prints, plan_listing, listing_refusal, list_plan, list_reading}
use Rattle.text_grammar.proofs.Numbers.{decimal_length}
use Rattle.listing_count.proofs.Lines.{refused_length}
use Rattle.plan_refusals.proofs.Accepted.{of_read}
use Rattle.refusals.specs.declared.Refusal.{Refusal}
use Rattle.refusals.specs.Numbers.{number_of, numbered}
use Rattle.refusals.proofs.Numbered.{is_ok}
use Rattle.text_lines.specs.Answer.{answer_of}
use Rattle.listing.specs.Answer.{written_of}
use Rattle.listing.proofs.Written.{lent_enough}
use Rattle.program.specs.Listing.{ListsPlan}
use Rattle.program.specs.Printing.{Prints}
use Rattle.program.proofs.Room.{listing_most}

-- what is printed for an answer: the listing written, or the line of the refusal
abbrev PrintedFor : Written → List ℕ → Type 0
PrintedFor (wrote bytes) prints = prints ≡ bytes
PrintedFor (not_written n) prints = prints ≡ refused_line n

module _ (lent : ℕ) (enough : LISTING ≤ lent) where
  plan_prints : (p : Lines) → plan_refusal p ≡ nothing → PrintedFor (list_plan p lent) (printed p (plan_answer p 15000 6000))
  unfolding list_plan listing_refusal plan_answer or_else room_refusal unless_refused answered printed plan_listing
  plan_prints p fine = rw fine (at (ltb 15000 (length (entry_words (result p).entries))) refl)
    where
      frames_test : (b : Bool) → PrintedFor (unless_refused (sentence 11 b nothing) (plan_listing p)) (printed p (answered (sentence 11 b nothing) (result p)))
      frames_test true = refl
      frames_test false = refl

      at : (b : Bool) → ltb 15000 (length (entry_words (result p).entries)) ≡ b →
          PrintedFor (unless_refused (sentence 10 (b || ltb lent (length (plan_listing p))) (sentence 11 (ltb 6000 (length (frame_words (result p).frames))) nothing)) (plan_listing p))
          (printed p (answered (sentence 10 b (sentence 11 (ltb 6000 (length (frame_words (result p).frames))) nothing)) (result p)))
      at true e = refl
      at false e =
          let l = listing_most p fine (ltb-false _ _ e) in
          rw (le-ltb lent (length (plan_listing p)) (omega arith)) (frames_test (ltb 6000 (length (frame_words (result p).frames))))

  pub text_prints : (text : List ℕ) (r : Reading) → AnswersText text r → PrintedFor (list_reading r lent) (program_prints r)
  unfolding list_reading program_prints
  text_prints text (not_read n) a = refl
  text_prints text (reads p) a = plan_prints p (of_read text (reads p) p a refl).0

wrote_number : (w : Written) (n : ℕ) → Ok n ≡ answer_of w → (bytes : List ℕ) × (w ≡ wrote bytes) × (n ≡ length bytes)
wrote_number (wrote bytes) n e = (bytes, refl, cc)
wrote_number (not_written m) n e = cc

refused_number : (w : Written) (n : ℕ) → Err n ≡ answer_of w → w ≡ not_written n
refused_number (wrote bytes) n e = cc
refused_number (not_written m) n e = cc

-- the line of a refusal is written where as many bytes are lent
module _ (n : ℕ) (before after : List ℕ) (r : Result ℕ Refusal) (small : n < 4294967296) (enough : LISTING ≤ length before)
    (a : numbered r ≡ answer_of (written_of (length before) (refused_line n))) (b : after ≡ bytes_after (written_of (length before) (refused_line n)) before) where
  line_written : written_of (length before) (refused_line n) ≡ wrote (refused_line n)
  line_written = lent_enough (length before) (refused_line n) (omega (arith, refused_length n, decimal_length 9 n (omega arith)))

  pub line_printed : (r ≡ Ok (length (refused_line n))) × (after ≡ front (refused_line n) before)
  unfolding bytes_after
  line_printed =
      (is_ok r (length (refused_line n)) (a ∙ ap answer_of line_written), b ∙ ap (λ (z : Written). bytes_after z before) line_written)

module _ (text before after : List ℕ) (enough : LISTING ≤ length before) where
  -- the listing, where it was written
  pub listing_printed : (n : ℕ) → ListsPlan text before after (Ok n) → Prints text before after n
  unfolding bytes_after
  listing_printed n q =
      let w = wrote_number (list_reading q.reading (length before)) n q.answer in
      let s : program_prints q.reading ≡ w.0 = subst (λ (z : Written). PrintedFor z (program_prints q.reading)) w.1 (text_prints (length before) enough text q.reading q.of_text) in
      record {
        reading = q.reading;
        of_text = q.of_text;
        counted = w.2 ∙ ap length (sym s);
        bytes = q.bytes ∙ ap (λ (z : Written). bytes_after z before) w.1 ∙ ap (λ (z : List ℕ). front z before) (sym s);
      }

  -- the line of the refusal, where it was refused
  pub refusal_printed : (k : Refusal) (count : ℕ) (now : List ℕ) → ListsPlan text before after (Err k) → count ≡ length (refused_line (number_of k)) → now ≡ front (refused_line (number_of k)) after → Prints text before now count
  unfolding bytes_after
  refusal_printed k count now q c b =
      let n = number_of k in
      let w = refused_number (list_reading q.reading (length before)) n q.answer in
      let s : program_prints q.reading ≡ refused_line n = subst (λ (z : Written). PrintedFor z (program_prints q.reading)) w (text_prints (length before) enough text q.reading q.of_text) in
      let same : after ≡ before = q.bytes ∙ ap (λ (z : Written). bytes_after z before) w in
      record {
        reading = q.reading;
        of_text = q.of_text;
        counted = c ∙ ap length (sym s);
        bytes = b ∙ (λ i. front (sym s i) (same i));
      }

-- what was written lies within the lent bytes
pub count_within : {text before after : List ℕ} {count : ℕ} → Prints text before after count → count ≤ length after
unfolding front
count_within {before = before} q = omega (arith, q.counted, ap length q.bytes, length-append (program_prints q.reading) (drop (length (program_prints q.reading)) before))
