-- Demand 1 as a theorem over the contracts of the functions that are called: see specs/One.antt.
-- Assumes nothing.
use Rattle.std.specs.Prelude.{Ok, Err, Option, None, Some}
use Prim.Native.Nat.{ℕ, ◌<◌}
use mathlib.Core.Path.{◌≡◌, refl, sym, ap, ◌∙◌}
use mathlib.Core.Logic.{◌⊎◌, inl, inr}
use mathlib.Core.List.{List, [], ◌++◌}
use native.Mathlib.Omega.{arith}
use lib.Dec.{ltb}
use lib.ListN.{length, take, drop, length-drop}
use lib.Seq.{length-take-le}
use Rattle.lists.specs.Front.{front}
use Rattle.model.specs.Plan.{Lines}
use Rattle.model.specs.Refusals.{nothing, refused, or_else, plan_refusal}
use Rattle.model.specs.Refusals as m
use Rattle.model.specs.Text.{print, Means, Reading, AnswersText, unless_refused, fitting, write_plan, bytes_after}
use Rattle.model.specs.Table.{Result, result, entries_of, answered, room_refusal, plan_answer, table_after, frames_after, counts_after}
use Rattle.model.specs.Listing.{words_listing, refused_line, printed, program_prints, plan_listing, listing_refusal, list_plan, list_reading}
use Rattle.model.specs.Checking.{table_refusal, check}
use Rattle.model.specs.Lookup.{unless, lookup, row_start, row_length, row_part}
use Rattle.model.specs.Lookup as model
use Rattle.refusals.specs.Numbers.{numbered}
use Rattle.refusals.proofs.Numbered.{is_ok}
use Rattle.plan.specs.declared.Plan.{Plan}
use Rattle.plan.specs.Memory.{lines}
use Rattle.text_reader.specs.Answer.{reading_of}
use Rattle.text_lines.specs.Answer as writer
use Rattle.planner_table.specs.declared.Made.{Made}
use Rattle.planner_table.specs.Planner as planner
use Rattle.listing.specs.Answer as listing
use Rattle.program.specs.Listing.{ListsPlan}
use Rattle.checker_table.specs.Verdict as checker
use Rattle.kernel_rows.specs.Part.{words_on}
use Rattle.kernel.specs.Finding.{found_of}
use Rattle.demands.specs.Calls.{Outcome}
use Rattle.demands.specs.Sentences.{Sentence, first, plan_sentences, bytes_sentences, room_sentences, listing_sentences, table_sentences, FirstOf, FirstOfText, KeepsTo}
use Rattle.demands.specs.One.{LiesIn, Demand1}
use Rattle.demands.proofs.Firsts.{plan_first, bytes_first, room_first, listing_first, table_first, plan_then, text_some, text_one, by_text, Told, keeps_list, keeps_text}
use Rattle.demands.proofs.Told.{told_read, told_not_read, told_written, told_planned, told_checked}
use Rattle.demands.proofs.OneC.{c_copying, c_listing_plan, c_planning, c_checking, c_looking_up, c_row}
use Rattle.demands.proofs.Listings.{texts_some, texts_one, checking_listing, printing_check, c_checking_listing}
use Rattle.demands.proofs.Within.{Finds, finds_none, finds_one, found_within, row_within}
use Rattle.demands.proofs.Contracts.{
  code_keeps,
  asks_nothing,
  empty_says,
  refuse_says,
  read_plan_says,
  write_plan_says,
  plan_table_says,
  write_listing_says,
  write_refusal_says,
  list_plan_says,
  print_all_says,
  check_table_says,
  check_listing_says,
  print_check_says,
  row_entries_says,
  lookup_says,
  c_copy_plan_says,
  c_plan_table_says,
  c_plan_listing_says,
  c_check_table_says,
  c_check_listing_says,
  c_lookup_says,
  c_row_start_says,
  c_row_length_says,
}

reading : (text : List ℕ) (r : Outcome Plan) → AnswersText text (reading_of r) →
    KeepsTo (FirstOfText text plan_sentences) (λ n. numbered r ≡ Err n) (Unit {0}) ((p : Plan) × (r ≡ Ok p) × Means text (lines p))
unfolding plan_sentences first
reading text r a =
    let T : m.Refusal → Type 0 = Told (λ n. numbered r ≡ Err n) (Unit {0}) ((p : Plan) × (r ≡ Ok p) × Means text (lines p)) in
    let x =
    by_text text (λ p. []) (λ s x. s ≡ reading_of r → T x) (reading_of r) a (λ n l k e. told_not_read text r n e) (λ p m fine e. told_read text r p m e) in
    keeps_text (λ n. numbered r ≡ Err n) (Unit {0}) ((p : Plan) × (r ≡ Ok p) × Means text (lines p)) text plan_sentences x.0 x.1 (x.2 refl)

writing : (p : Plan) (out out-now : List ℕ) (r : Outcome ℕ) → numbered r ≡ writer.answer_of (write_plan (lines p) (length out)) →
    out-now ≡ bytes_after (write_plan (lines p) (length out)) out →
    KeepsTo (FirstOf (plan_sentences (lines p) ++ bytes_sentences (print (lines p)) (length out))) (λ n. numbered r ≡ Err n) (out-now ≡ out)
    ((n : ℕ) × (r ≡ Ok n))
unfolding write_plan
writing p out out-now r e b =
    let ss : List Sentence = bytes_sentences (print (lines p)) (length out) in
    let x : m.Refusal = or_else (plan_refusal (lines p)) (fitting (length out) (print (lines p))) in
    keeps_list (λ n. numbered r ≡ Err n) (out-now ≡ out) ((n : ℕ) × (r ≡ Ok n)) (plan_sentences (lines p) ++ ss) x
    (plan_then (lines p) ss ∙ ap (or_else (plan_refusal (lines p))) (bytes_first (print (lines p)) (length out))) (told_written (print (lines p)) out out-now x r e b)

planning : (p : Plan) (table frames passed table-now frames-now passed-now : List ℕ) (r : Outcome Made) → numbered r ≡ planner.answer_of (plan_answer (lines p) (length table) (length frames)) →
    table-now ≡ table_after (plan_answer (lines p) (length table) (length frames)) table →
    frames-now ≡ frames_after (plan_answer (lines p) (length table) (length frames)) frames →
    passed-now ≡ counts_after (plan_answer (lines p) (length table) (length frames)) passed →
    KeepsTo (FirstOf (plan_sentences (lines p) ++ room_sentences (result (lines p)) (length table) (length frames))) (λ n. numbered r ≡ Err n)
    ((table-now ≡ table) × (frames-now ≡ frames) × (passed-now ≡ passed)) ((m : Made) × (r ≡ Ok m))
unfolding plan_answer
planning p table frames passed table-now frames-now passed-now r e t f k =
    let q : Result = result (lines p) in
    let ss : List Sentence = room_sentences q (length table) (length frames) in
    let x : m.Refusal = or_else (plan_refusal (lines p)) (room_refusal q (length table) (length frames)) in
    keeps_list (λ n. numbered r ≡ Err n) ((table-now ≡ table) × (frames-now ≡ frames) × (passed-now ≡ passed)) ((m : Made) × (r ≡ Ok m)) (plan_sentences (lines p) ++ ss) x
    (plan_then (lines p) ss ∙ ap (or_else (plan_refusal (lines p))) (room_first q (length table) (length frames)))
    (told_planned q table frames passed table-now frames-now passed-now x r e t f k)

-- a text put into lent bytes, where 10 is the only sentence
put : (bytes out out-now : List ℕ) (r : Outcome ℕ) → numbered r ≡ writer.answer_of (listing.written_of (length out) bytes) →
    out-now ≡ bytes_after (listing.written_of (length out) bytes) out →
    Told (λ n. numbered r ≡ Err n) (out-now ≡ out) ((n : ℕ) × (r ≡ Ok n)) (fitting (length out) bytes)
unfolding listing.written_of
put bytes out out-now r e b = told_written bytes out out-now (fitting (length out) bytes) r e b

listing_bytes : (bytes out out-now : List ℕ) (r : Outcome ℕ) → numbered r ≡ writer.answer_of (listing.written_of (length out) bytes) →
    out-now ≡ bytes_after (listing.written_of (length out) bytes) out →
    KeepsTo (FirstOf (bytes_sentences bytes (length out))) (λ n. numbered r ≡ Err n) (out-now ≡ out) ((n : ℕ) × (r ≡ Ok n))
listing_bytes bytes out out-now r e b =
    keeps_list (λ n. numbered r ≡ Err n) (out-now ≡ out) ((n : ℕ) × (r ≡ Ok n)) (bytes_sentences bytes (length out)) (fitting (length out) bytes)
    (bytes_first bytes (length out)) (put bytes out out-now r e b)

module _ (text out out-now : List ℕ) where
  -- the listing of a text's plan
  listed_plan : (r : Outcome ℕ) (p : Lines) → plan_refusal p ≡ nothing → numbered r ≡ writer.answer_of (list_plan p (length out)) → out-now ≡ bytes_after (list_plan p (length out)) out →
      Told (λ n. numbered r ≡ Err n) (out-now ≡ out) ((n : ℕ) × (r ≡ Ok n)) (first (listing_sentences p (length out)))
  unfolding list_plan or_else
  listed_plan r p fine e b =
      let w : list_plan p (length out) ≡ unless_refused (listing_refusal p (length out)) (plan_listing p) = rw fine in
      rw (listing_first p (length out))
      (told_written (plan_listing p) out out-now (listing_refusal p (length out)) r (e ∙ ap writer.answer_of w) (b ∙ ap (λ (z : _). bytes_after z out) w))

  listing_plan : (r : Outcome ℕ) → ListsPlan text out out-now r →
      KeepsTo (FirstOfText text (λ p. plan_sentences p ++ listing_sentences p (length out))) (λ n. numbered r ≡ Err n) (out-now ≡ out) ((n : ℕ) × (r ≡ Ok n))
  unfolding list_reading bytes_after
  listing_plan r c =
      let T : m.Refusal → Type 0 = Told (λ n. numbered r ≡ Err n) (out-now ≡ out) ((n : ℕ) × (r ≡ Ok n)) in
      let x =
      by_text text (λ p. listing_sentences p (length out))
      (λ s x. numbered r ≡ writer.answer_of (list_reading s (length out)) → out-now ≡ bytes_after (list_reading s (length out)) out → T x) c.reading c.of_text
      (λ n l k e b. (e, (λ j f. cc), b)) (λ p m fine e b. listed_plan r p fine e b) in
      keeps_text (λ n. numbered r ≡ Err n) (out-now ≡ out) ((n : ℕ) × (r ≡ Ok n)) text (λ p. plan_sentences p ++ listing_sentences p (length out)) x.0 x.1
      (x.2 c.answer c.bytes)

-- a refusal of the text or of the planner is printed
room_printed : (p : Lines) (words room : ℕ) (x : m.Refusal) (n : ℕ) → x ≡ refused n → printed p (answered x (result p)) ≡ refused_line n
unfolding printed answered
room_printed p words room x n e = rw e

refusal_printed : (text : List ℕ) (s : Reading) → AnswersText text s → (n : ℕ) →
    FirstOfText text (λ p. plan_sentences p ++ room_sentences (result p) 15000 6000) (refused n) → program_prints s ≡ refused_line n
unfolding program_prints plan_answer or_else
refusal_printed text s a n h =
    let x =
    by_text text (λ p. room_sentences (result p) 15000 6000) (λ r x. (k : ℕ) → x ≡ refused k → program_prints r ≡ refused_line k) s a
    (λ j l u k e. (let q : j ≡ k = cc in ap refused_line q))
    (λ p m fine k e. (let q : or_else (plan_refusal p) (room_refusal (result p) 15000 6000) ≡ refused k = rw fine (sym (room_first (result p) 15000 6000) ∙ e) in
    room_printed p 15000 6000 _ k q)) in
    x.2 n (text_one text (λ p. plan_sentences p ++ room_sentences (result p) 15000 6000) x.0 (refused n) x.1 h)

checking : (p : Plan) (table : List ℕ) (delay : ℕ) (r : Outcome (Unit {0})) → numbered r ≡ checker.answer_of (check (lines p) table delay) →
    KeepsTo (FirstOf (plan_sentences (lines p) ++ table_sentences (lines p) table delay)) (λ n. numbered r ≡ Err n) (Unit {0}) (r ≡ Ok tt)
unfolding check
checking p table delay r e =
    let ss : List Sentence = table_sentences (lines p) table delay in
    let x : m.Refusal = or_else (plan_refusal (lines p)) (table_refusal (lines p) table delay) in
    keeps_list (λ n. numbered r ≡ Err n) (Unit {0}) (r ≡ Ok tt) (plan_sentences (lines p) ++ ss) x
    (plan_then (lines p) ss ∙ ap (or_else (plan_refusal (lines p))) (table_first (lines p) table delay)) (told_checked x r e)

-- an entry that the table has, or none
abbrev LookedUp : ℕ → Outcome (Option ℕ) → Type 0
LookedUp count r = (r ≡ Ok None) ⊎ ((i : ℕ) × (i < count) × (r ≡ Ok (Some i)))

told_found : (x : m.Refusal) (f : model.Found) (count : ℕ) (r : Outcome (Option ℕ)) → Finds f 0 count → numbered r ≡ found_of (unless x f) →
    Told (λ n. numbered r ≡ Err n) (Unit {0}) (LookedUp count r) x
unfolding unless
told_found nothing f count r (finds_none q) e =
    let g : numbered r ≡ Ok None = e ∙ ap found_of q in
    ((λ n h. absurd (let z : ◌≡◌ {A = ℕ} 0 1 = cc in omega arith)), inl (is_ok r None g))
told_found nothing f count r (finds_one k q l i) e =
    let g : numbered r ≡ Ok (Some k) = e ∙ ap found_of q in
    ((λ n h. absurd (let z : ◌≡◌ {A = ℕ} 0 1 = cc in omega arith)), inr (k, omega arith, is_ok r (Some k) g))
told_found (refused n) f count r h e = (e, (λ k g. cc), tt)

looking_up : (p : Plan) (table : List ℕ) (node tick heard values from : ℕ) (r : Outcome (Option ℕ)) →
    numbered r ≡ found_of (lookup (lines p) table node tick heard values from) →
    KeepsTo (FirstOf (plan_sentences (lines p))) (λ n. numbered r ≡ Err n) (Unit {0}) (LookedUp (length (entries_of table)) r)
unfolding lookup
looking_up p table node tick heard values from r e =
    keeps_list (λ n. numbered r ≡ Err n) (Unit {0}) (LookedUp (length (entries_of table)) r) (plan_sentences (lines p)) (plan_refusal (lines p)) (plan_first (lines p))
    (told_found (plan_refusal (lines p)) _ (length (entries_of table)) r
    (found_within (lines p) node tick heard values (ltb node (length (lines p).slots)) (entries_of table) from) e)

-- the part of a table that holds a row's entries
lies : (place : ℕ × ℕ) (table : List ℕ) (r : ℕ) (part-place : ℕ × ℕ) (part : List ℕ) → part-place ≡ words_on place (row_start table r) → part ≡ row_part table r →
    LiesIn place table part-place part
unfolding row_part
lies place table r part-place part a e =
    let n : length part ≡ row_length table r = ap length e ∙ length-take-le (row_length table r) (drop (row_start table r) table) (omega (arith, row_within table r, length-drop (row_start table r) table)) in
    record {
      from = row_start table r;
      at = a;
      within = omega (arith, row_within table r);
      words = e ∙ ap (λ (k : ℕ). take k (drop (row_start table r) table)) (sym n);
    }

pub demand_one : Demand1
demand_one =
    record {
      code_keeps = code_keeps;
      asks_nothing = asks_nothing;
      some_first = text_some;
      one_first = text_one;
      some_first_of_texts = texts_some;
      one_first_of_texts = texts_one;
      starting = λ p c. empty_says c;
      refusing = λ p r c. plan_first (lines p) ∙ sym (refuse_says c);
      reading = λ text r c. reading text r (read_plan_says c);
      writing = λ p out out-now r c. (let h = write_plan_says c in writing p out out-now r h.0 h.1);
      planning = λ p table frames passed table-now frames-now passed-now r c.
          (let h = plan_table_says c in planning p table frames passed table-now frames-now passed-now r h.0 h.1 h.2 h.3);
      listing_words = λ p delay passed table frames out out-now r c.
          (let h = write_listing_says c in listing_bytes (words_listing (lines p) delay passed table frames) out out-now r h.0 h.1);
      listing_refusal = λ number out out-now r c. (let h = write_refusal_says c in listing_bytes (refused_line number) out out-now r h.0 h.1);
      listing_plan = λ text out out-now r c. listing_plan text out out-now r (list_plan_says c);
      printing = λ text out out-now count c n h.
          (let q = print_all_says c in
          let e = refusal_printed text q.reading q.of_text n h in
          (q.counted ∙ ap length e, q.bytes ∙ ap (λ (z : List ℕ). front z out) e));
      checking = λ p table delay r c. checking p table delay r (check_table_says c);
      checking_listing = λ p bytes r c. checking_listing p bytes r (check_listing_says c);
      printing_check = λ input out out-now count c x h. printing_check input out out-now count (print_check_says c) x h;
      looking_up = λ p table node tick heard values from r c. looking_up p table node tick heard values from r (lookup_says c);
      row = λ place table r part-place part c. (let h = row_entries_says c in lies place table r part-place part h.0 h.1);
      c_copying = λ text out out-now answer c. c_copying text out out-now answer (c_copy_plan_says c);
      c_planning = λ text table frames totals table-now frames-now totals-now answer c.
          c_planning text table frames totals table-now frames-now totals-now answer (c_plan_table_says c);
      c_listing_plan = λ text out out-now answer c. c_listing_plan text out out-now answer (c_plan_listing_says c);
      c_checking = λ text table delay answer c. c_checking text table delay answer (c_check_table_says c);
      c_checking_listing = λ text bytes answer c. c_checking_listing text bytes answer (c_check_listing_says c);
      c_looking_up = λ text table node tick heard values from answer few c.
          c_looking_up text table node tick heard values from answer few (c_lookup_says c);
      c_row = λ table r start many a b. c_row table r start many (c_row_start_says a) (c_row_length_says b);
    }
