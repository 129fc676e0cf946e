-- Demand 2 as a theorem over the contracts of the functions that are called: see specs/Two.antt.
-- Assumes nothing.
use Rattle.std.specs.Prelude.{Ok}
use Prim.Native.Nat.{ℕ, ◌/◌, ◌≤◌}
use mathlib.Core.Path.{◌≡◌, refl, sym, ap, subst, ◌∙◌}
use mathlib.Core.List.{List}
use native.Mathlib.Omega.{arith}
use lib.ListN.{length, take}
use Rattle.lists.specs.Front.{front}
use Rattle.lists.proofs.Front.{front_written}
use Rattle.model.specs.Plan.{Lines}
use Rattle.model.specs.Refusals.{Refusal, nothing, refused, or_else, plan_refusal}
use Rattle.model.specs.Text.{print, Means, Reading, reads, not_read, after_refusal, AnswersText, of_form, wrote, not_written, unless_refused, write_plan, bytes_after}
use Rattle.model.specs.Text as text
use Rattle.model.specs.Table.{Answer, made, Result, result, entry_words, frame_words, answered, room_refusal, plan_answer, table_after, frames_after, counts_after}
use Rattle.model.specs.Listing.{printed, program_prints, plan_listing, listing_refusal, list_plan, list_reading}
use Rattle.laws.proofs.Good.{good}
use Rattle.laws.proofs.Choice.{urgency_law, urgency_weights, number_weights, starts_highest, queue_ordered}
use Rattle.text_grammar.proofs.Whole.{means_unique}
use Rattle.text_grammar.proofs.Answers.{answers_unique}
use Rattle.refusals.specs.Numbers.{numbered}
use Rattle.refusals.proofs.Numbered.{is_ok}
use Rattle.plan.specs.declared.Plan.{Plan}
use Rattle.plan.specs.Memory.{lines}
use Rattle.text_reader.specs.Answer.{reading_of}
use Rattle.text_lines.specs.Answer as writer
use Rattle.plan_refusals.proofs.Accepted.{of_read}
use Rattle.text_writer.proofs.ReadBack.{written_is_read, read_is_written}
use Rattle.planner_table.specs.declared.Made.{Made}
use Rattle.planner_table.specs.Planner as planner
use Rattle.planner_table.proofs.PlannedSound.{made_fine}
use Rattle.planner_table.proofs.Given.{WasMade, was_made}
use Rattle.planner_table.proofs.Most.{delay_bounded}
use Rattle.c_words.specs.Numbers.{written_number}
use Rattle.c_text.specs.Copy.{copy, Copies}
use Rattle.c_text.specs.Listing.{Lists}
use Rattle.c_interface.specs.Tables.{planned_of, table_number, Puts, Tables}
use Rattle.c_plan.specs.Filled.{table_bytes_after, frame_bytes_after, totals_after}
use Rattle.demands.specs.Calls.{Outcome}
use Rattle.demands.specs.Sentences.{Sentence, first, bytes_sentences, room_sentences, listing_sentences, KeepsTo}
use Rattle.demands.specs.Two.{NotRefused, Scheduled, ScheduledBytes, Plans, ListedPlan, Demand2}
use Rattle.demands.proofs.Firsts.{plan_first, bytes_first, room_first, listing_first, plan_then, by_text}
use Rattle.demands.proofs.Told.{plan_read}
use Rattle.demands.proofs.OneC.{c_copying, c_listing_plan, c_planning}
use Rattle.demands.proofs.Contracts.{read_plan_says, write_plan_says, plan_table_says, list_plan_says, print_all_says, c_copy_plan_says, c_plan_table_says, c_plan_listing_says}

-- what was read is lines that the text means
meant : (text : List ℕ) (p : Plan) → AnswersText text (reading_of (Ok p)) → Means text (lines p)
meant text p told = (of_read text (reads (lines p)) (lines p) told refl).1

-- a reading of lines is theirs
is_theirs : (r : Outcome Plan) (p : Lines) → reading_of r ≡ reads p → (q : Plan) × (r ≡ Ok q) × (lines q ≡ p)
is_theirs r p e = plan_read r p (sym e)

-- lines to which no sentence applies are read from their text
pub reads_as : (text : List ℕ) (s : Reading) (q : Lines) → AnswersText text s → Means text q → length text ≤ 16384 → plan_refusal q ≡ nothing → s ≡ reads q
unfolding after_refusal
reads_as text s q a m l fine = answers_unique a (of_form q m l) ∙ ap (λ (x : Refusal). after_refusal x q) fine

-- what the plan writer wrote
written_back : (w : text.Written) (out out-now : List ℕ) (n : ℕ) → Ok n ≡ writer.answer_of w → out-now ≡ bytes_after w out →
    w ≡ wrote (take n out-now)
unfolding bytes_after
written_back (wrote bytes) out out-now n e b =
    let q : n ≡ length bytes = cc in ap wrote (sym (ap (λ (k : ℕ). take k out-now) q ∙ ap (take (length bytes)) b ∙ front_written bytes out))
written_back (not_written k) out out-now n e b = absurd (let z : ◌≡◌ {A = ℕ} 0 1 = cc in omega arith)

-- what was read is written as the text
read_written : (text : List ℕ) (p : Plan) → AnswersText text (reading_of (Ok p)) → (out out-now : List ℕ) (w : Outcome ℕ) →
    length text ≤ length out → numbered w ≡ writer.answer_of (write_plan (lines p) (length out)) → out-now ≡ bytes_after (write_plan (lines p) (length out)) out →
    (w ≡ Ok (length text)) × (out-now ≡ front text out)
unfolding bytes_after
read_written text p a out out-now w l q b =
    let x = read_is_written text (lines p) (length out) a l in
    (is_ok w (length text) (q ∙ ap writer.answer_of x), b ∙ ap (λ (z : _). bytes_after z out) x)

-- where the answer is no refusal none applies
pub none_applies : {Is-first : Refusal → Type 0} {Refused-with : ℕ → Type 0} {Unchanged Result : Type 0} → KeepsTo Is-first Refused-with Unchanged Result →
    ((n : ℕ) → Refused-with n → ⊥) → (x : Refusal) → Is-first x → x ≡ nothing
none_applies k not nothing h = refl
none_applies k not (refused n) h = absurd (not n (k.first_refused n h))

module _ (text out out-now : List ℕ) (answer : ℕ) where
  copied_back : (p : Lines) → Means text p → plan_refusal p ≡ nothing → first (bytes_sentences (print p) (length out)) ≡ nothing →
      answer ≡ written_number (write_plan p (length out)) → out-now ≡ bytes_after (write_plan p (length out)) out → (answer ≡ length text) × (out-now ≡ front text out)
  unfolding write_plan or_else unless_refused written_number bytes_after
  copied_back p m fine f e b =
      let w : write_plan p (length out) ≡ wrote text = rw (fine, sym (bytes_first (print p) (length out)), f) (ap wrote m.prints) in
      (e ∙ ap written_number w, b ∙ ap (λ (z : _). bytes_after z out) w)

  c_copied : Copies text out out-now answer → NotRefused answer → (answer ≡ length text) × (out-now ≡ front text out)
  unfolding copy
  c_copied c not =
      let x =
      by_text text (λ p. bytes_sentences (print p) (length out))
      (λ s x. x ≡ nothing → answer ≡ written_number (copy s (length out)) → out-now ≡ bytes_after (copy s (length out)) out → (answer ≡ length text) × (out-now ≡ front text out))
      c.reading c.of_text (λ n l k f. absurd (let z : ◌≡◌ {A = ℕ} 0 1 = cc in omega arith)) (λ p m fine f e b. copied_back p m fine f e b) in
      x.2 (none_applies (c_copying text out out-now answer c) not x.0 x.1) c.number c.bytes

scheduled : (p : Plan) (table frames passed table-now frames-now passed-now : List ℕ) (m : Made) →
    Ok m ≡ planner.answer_of (plan_answer (lines p) (length table) (length frames)) →
    table-now ≡ table_after (plan_answer (lines p) (length table) (length frames)) table →
    frames-now ≡ frames_after (plan_answer (lines p) (length table) (length frames)) frames →
    passed-now ≡ counts_after (plan_answer (lines p) (length table) (length frames)) passed →
    Scheduled (lines p) table frames passed table-now frames-now passed-now m
unfolding table_after frames_after counts_after
scheduled p table frames passed table-now frames-now passed-now m e t f k =
    let a : Answer = plan_answer (lines p) (length table) (length frames) in
    let w : WasMade a m = was_made a m e in
    let same : w.result ≡ result (lines p) = (made_fine (lines p) (length table) (length frames) w.result w.is_made).1 in
    record {
      start_table = t ∙ ap (λ (x : Answer). table_after x table) w.is_made ∙ ap (λ (q : Result). front (entry_words q.entries) table) same;
      frame_list = f ∙ ap (λ (x : Answer). frames_after x frames) w.is_made ∙ ap (λ (q : Result). front (frame_words q.frames) frames) same;
      words = w.words ∙ ap (λ (q : Result). length (entry_words q.entries)) same;
      framewords = w.framewords ∙ ap (λ (q : Result). length (frame_words q.frames)) same;
      worst_delay = w.delay ∙ ap (λ (q : Result). q.delay) same;
      pass_overs = k ∙ ap (λ (x : Answer). counts_after x passed) w.is_made ∙ ap (λ (q : Result). front q.passed passed) same;
    }

module _ (text table frames totals table-now frames-now totals-now : List ℕ) (answer : ℕ) where
  abbrev Given : Type 0
  Given = (p : Lines) × Means text p × ScheduledBytes p table frames totals table-now frames-now totals-now answer

  pub scheduled_bytes : (p : Lines) → plan_refusal p ≡ nothing → first (room_sentences (result p) (length table / 4) (length frames / 4)) ≡ nothing →
      Puts (plan_answer p (length table / 4) (length frames / 4)) table frames totals table-now frames-now totals-now answer →
      ScheduledBytes p table frames totals table-now frames-now totals-now answer
  unfolding plan_answer or_else answered table_number table_bytes_after frame_bytes_after totals_after
  scheduled_bytes p fine f c =
      let w : plan_answer p (length table / 4) (length frames / 4) ≡ made (result p) =
      rw (fine, sym (room_first (result p) (length table / 4) (length frames / 4)), f) in
      let u : Puts (made (result p)) table frames totals table-now frames-now totals-now answer =
      subst (λ (a : Answer). Puts a table frames totals table-now frames-now totals-now answer) w c in
      record { start_table = u.bytes.table_bytes; frame_list = u.bytes.frame_bytes; total_words = u.bytes.total_bytes; count = u.number }

  c_scheduled : Tables text table frames totals table-now frames-now totals-now answer → NotRefused answer → Given
  unfolding planned_of
  c_scheduled c not =
      let x =
      by_text text (λ p. room_sentences (result p) (length table / 4) (length frames / 4))
      (λ s x. x ≡ nothing → Puts (planned_of s (length table / 4) (length frames / 4)) table frames totals table-now frames-now totals-now answer → Given) c.reading c.of_text
      (λ n l k f. absurd (let z : ◌≡◌ {A = ℕ} 0 1 = cc in omega arith)) (λ p m fine f u. (p, m, scheduled_bytes p fine f u)) in
      x.2 (none_applies (c_planning text table frames totals table-now frames-now totals-now answer c) not x.0 x.1) c.puts

-- neither of two refusals
pub neither : (x y : Refusal) → or_else x y ≡ nothing → (x ≡ nothing) × (y ≡ nothing)
unfolding or_else
neither nothing y e = (refl, e)
neither (refused n) y e = absurd (let z : ◌≡◌ {A = ℕ} 0 1 = cc in omega arith)

-- what is printed for a plan that is planned
prints_plan : (text : List ℕ) (s : Reading) (p : Lines) → AnswersText text s → Plans text p → program_prints s ≡ plan_listing p
unfolding program_prints printed plan_answer answered plan_listing
prints_plan text s p a h =
    let ss : List Sentence = room_sentences (result p) 15000 6000 in
    let x : or_else (plan_refusal p) (room_refusal (result p) 15000 6000) ≡ nothing =
    ap (or_else (plan_refusal p)) (sym (room_first (result p) 15000 6000)) ∙ sym (plan_then p ss) ∙ h.fine in
    let q : s ≡ reads p = reads_as text s p a h.means h.short (neither (plan_refusal p) (room_refusal (result p) 15000 6000) x).0 in
    ap program_prints q ∙ ap (λ (y : Refusal). printed p (answered y (result p))) x

-- a text that was put into lent bytes
was_put : (bytes out out-now : List ℕ) (x : Refusal) (n : ℕ) → Ok n ≡ writer.answer_of (unless_refused x bytes) → out-now ≡ bytes_after (unless_refused x bytes) out →
    (n ≡ length bytes) × (out-now ≡ front bytes out)
unfolding unless_refused bytes_after
was_put bytes out out-now nothing n e b = (cc, b)
was_put bytes out out-now (refused k) n e b = absurd (let z : ◌≡◌ {A = ℕ} 0 1 = cc in omega arith)

module _ (text out out-now : List ℕ) where
  was_listed : (n : ℕ) (s : Reading) → AnswersText text s → Ok n ≡ writer.answer_of (list_reading s (length out)) →
      out-now ≡ bytes_after (list_reading s (length out)) out → ListedPlan text out out-now n
  unfolding list_reading list_plan
  was_listed n (reads p) a e b =
      let w = was_put (plan_listing p) out out-now (or_else (plan_refusal p) (listing_refusal p (length out))) n e b in
      record { plan = p; means = (of_read text (reads p) p a refl).1; counted = w.0; bytes = w.1 }
  was_listed n (not_read k) a e b = absurd (let z : ◌≡◌ {A = ℕ} 0 1 = cc in omega arith)

  was_numbered : (answer : ℕ) (p : Lines) → Means text p → plan_refusal p ≡ nothing → first (listing_sentences p (length out)) ≡ nothing →
      answer ≡ written_number (list_plan p (length out)) → out-now ≡ bytes_after (list_plan p (length out)) out → ListedPlan text out out-now answer
  unfolding list_plan or_else unless_refused written_number bytes_after
  was_numbered answer p m fine f e b =
      let w : list_plan p (length out) ≡ wrote (plan_listing p) = rw (fine, sym (listing_first p (length out)), f) in
      record { plan = p; means = m; counted = e ∙ ap written_number w; bytes = b ∙ ap (λ (z : _). bytes_after z out) w }

  c_listed : (answer : ℕ) → Lists text out out-now answer → NotRefused answer → ListedPlan text out out-now answer
  unfolding list_reading
  c_listed answer c not =
      let x =
      by_text text (λ p. listing_sentences p (length out))
      (λ s x. x ≡ nothing → answer ≡ written_number (list_reading s (length out)) → out-now ≡ bytes_after (list_reading s (length out)) out → ListedPlan text out out-now answer)
      c.reading c.of_text (λ n l k f. absurd (let z : ◌≡◌ {A = ℕ} 0 1 = cc in omega arith)) (λ p m fine f e b. was_numbered answer p m fine f e b) in
      x.2 (none_applies (c_listing_plan text out out-now answer c) not x.0 x.1) c.number c.bytes

pub demand_two : Demand2
demand_two =
    record {
      meaning = λ text p c. (meant text p (read_plan_says c)).prints;
      only_meaning = λ text p c q m. means_unique m (meant text p (read_plan_says c));
      is_read = λ text r c q m l h. is_theirs r q (reads_as text (reading_of r) q (read_plan_says c) m l (sym (plan_first q) ∙ h));
      one_text = λ text other p q a b same. sym (meant text p (read_plan_says a)).prints ∙ ap print same ∙ (meant other q (read_plan_says b)).prints;
      written_read = λ p out out-now n c r a.
          (let h = write_plan_says c in
          is_theirs r (lines p)
          (written_is_read (lines p) (length out) (take n out-now) (reading_of r) (written_back (write_plan (lines p) (length out)) out out-now n h.0 h.1) (read_plan_says a)));
      read_written = λ text p a out out-now w l c. (let h = write_plan_says c in read_written text p (read_plan_says a) out out-now w l h.0 h.1);
      c_copied = λ text out out-now answer c not. c_copied text out out-now answer (c_copy_plan_says c) not;
      scheduled = λ p table frames passed table-now frames-now passed-now m c.
          (let h = plan_table_says c in scheduled p table frames passed table-now frames-now passed-now m h.0 h.1 h.2 h.3);
      c_scheduled = λ text table frames totals table-now frames-now totals-now answer c not.
          c_scheduled text table frames totals table-now frames-now totals-now answer (c_plan_table_says c) not;
      listed = λ text out out-now n c. (let q = list_plan_says c in was_listed text out out-now n q.reading q.of_text q.answer q.bytes);
      c_listed = λ text out out-now answer c not. c_listed text out out-now answer (c_plan_listing_says c) not;
      printed = λ text out out-now count c p h.
          (let q = print_all_says c in
          let e = prints_plan text q.reading p q.of_text h in
          (q.counted ∙ ap length e, q.bytes ∙ ap (λ (z : List ℕ). front z out) e));
      bounded = λ p h. delay_bounded p (sym (plan_first p) ∙ h);
      urgency = λ p h i l. urgency_law p (good p (sym (plan_first p) ∙ h)) i l;
      by_weight = λ p. (urgency_weights p, number_weights p);
      starts_first = starts_highest;
      sends_first = λ p. (queue_ordered p).0;
    }
