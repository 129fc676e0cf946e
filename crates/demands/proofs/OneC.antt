-- Demand 1 of the functions that C calls: what a text reads as tells the number that is answered.
-- Assumes nothing.
use Prim.Native.Nat.{ℕ, ◌+◌, ◌*◌, ◌/◌, ◌≤◌, ◌<◌}
use mathlib.Core.Path.{◌≡◌, refl, ap, subst, ◌∙◌}
use mathlib.Core.Logic.{◌⊎◌, inl, inr}
use mathlib.Core.List.{List, [], ◌++◌}
use native.Mathlib.Omega.{arith}
use lib.Dec.{ltb}
use lib.ListN.{length}
use Rattle.limits.specs.Limits.{LASTREFUSAL}
use Rattle.model.specs.Plan.{Lines}
use Rattle.model.specs.Refusals.{nothing, refused, or_else, plan_refusal}
use Rattle.model.specs.Refusals as m
use Rattle.model.specs.Text.{print, Reading, reads, not_read, unless_refused, fitting, write_plan, bytes_after}
use Rattle.model.specs.Table.{Result, result, entry_words, frame_words, entries_of, answered, room_refusal, plan_answer}
use Rattle.model.specs.Listing.{plan_listing, listing_refusal, list_plan, list_reading}
use Rattle.model.specs.Checking.{table_refusal}
use Rattle.model.specs.Lookup.{none, unless, lookup, row_start, row_length}
use Rattle.model.specs.Lookup as model
use Rattle.model.specs.Firmware.{words_of, found_number, found_in, AnswersLookup}
use Rattle.text_grammar.proofs.Bounds.{print_length}
use Rattle.planner_table.proofs.Most.{entries_cap}
use Rattle.c_words.proofs.Reading.{words_count}
use Rattle.c_check.specs.Checks.{checked_of, checked_number, Checks}
use Rattle.c_words.specs.Numbers.{written_number}
use Rattle.c_text.specs.Copy.{copy, Copies}
use Rattle.c_text.specs.Listing.{Lists}
use Rattle.c_interface.specs.Tables.{planned_of, Puts, Tables}
use Rattle.demands.specs.Sentences.{first, plan_sentences, bytes_sentences, room_sentences, listing_sentences, table_sentences, FirstOfText, KeepsTo, InNumber}
use Rattle.demands.proofs.Firsts.{bytes_first, room_first, listing_first, table_first, number_listed, by_text, Told, keeps_text, number_refused, number_result}
use Rattle.demands.proofs.Told.{told_number, told_listing, told_table, told_turned}
use Rattle.demands.proofs.Within.{twenty, Finds, finds_none, finds_one, found_within, row_within}

-- `riscadru_copy_plan`
module _ (text out out-now : List ℕ) (answer : ℕ) where
  abbrev Copied : m.Refusal → Type 0
  Copied = Told (InNumber answer) (out-now ≡ out) (answer ≤ length out)

  copied : (p : Lines) → plan_refusal p ≡ nothing → answer ≡ written_number (write_plan p (length out)) → out-now ≡ bytes_after (write_plan p (length out)) out →
      Copied (first (bytes_sentences (print p) (length out)))
  unfolding write_plan or_else fitting
  copied p fine e b =
      let l = print_length p fine in
      let w : write_plan p (length out) ≡ unless_refused (fitting (length out) (print p)) (print p) = rw fine in
      rw (bytes_first (print p) (length out))
      (told_number (print p) out out-now (ltb (length out) (length (print p))) answer refl (omega arith) (e ∙ ap written_number w) (b ∙ ap (λ (z : _). bytes_after z out) w))

  pub c_copying : Copies text out out-now answer →
      KeepsTo (FirstOfText text (λ p. plan_sentences p ++ bytes_sentences (print p) (length out))) (InNumber answer) (out-now ≡ out) (answer ≤ length out)
  unfolding copy written_number bytes_after
  c_copying c =
      let x =
      by_text text (λ p. bytes_sentences (print p) (length out))
      (λ s x. answer ≡ written_number (copy s (length out)) → out-now ≡ bytes_after (copy s (length out)) out → Copied x) c.reading c.of_text
      (λ n l k e b. number_refused (out-now ≡ out) (answer ≤ length out) answer n l k e b) (λ p m fine e b. copied p fine e b) in
      keeps_text (InNumber answer) (out-now ≡ out) (answer ≤ length out) text (λ p. plan_sentences p ++ bytes_sentences (print p) (length out)) x.0 x.1
      (x.2 c.number c.bytes)

-- `riscadru_plan_listing`
module _ (text out out-now : List ℕ) (answer : ℕ) where
  listed_number : (p : Lines) → plan_refusal p ≡ nothing → answer ≡ written_number (list_plan p (length out)) → out-now ≡ bytes_after (list_plan p (length out)) out →
      Told (InNumber answer) (out-now ≡ out) (answer ≤ length out) (first (listing_sentences p (length out)))
  unfolding list_plan or_else
  listed_number p fine e b =
      let w : list_plan p (length out) ≡ unless_refused (listing_refusal p (length out)) (plan_listing p) = rw fine in
      rw (listing_first p (length out)) (told_listing p fine out out-now answer (e ∙ ap written_number w) (b ∙ ap (λ (z : _). bytes_after z out) w))

  pub c_listing_plan : Lists text out out-now answer →
      KeepsTo (FirstOfText text (λ p. plan_sentences p ++ listing_sentences p (length out))) (InNumber answer) (out-now ≡ out) (answer ≤ length out)
  unfolding list_reading written_number bytes_after
  c_listing_plan c =
      let x =
      by_text text (λ p. listing_sentences p (length out))
      (λ s x. answer ≡ written_number (list_reading s (length out)) → out-now ≡ bytes_after (list_reading s (length out)) out →
      Told (InNumber answer) (out-now ≡ out) (answer ≤ length out) x) c.reading c.of_text
      (λ n l k e b. number_refused (out-now ≡ out) (answer ≤ length out) answer n l k e b) (λ p m fine e b. listed_number p fine e b) in
      keeps_text (InNumber answer) (out-now ≡ out) (answer ≤ length out) text (λ p. plan_sentences p ++ listing_sentences p (length out)) x.0 x.1
      (x.2 c.number c.bytes)

-- `riscadru_plan_table`
module _ (text table frames totals table-now frames-now totals-now : List ℕ) (answer : ℕ) where
  abbrev Unchanged : Type 0
  Unchanged = (table-now ≡ table) × (frames-now ≡ frames) × (totals-now ≡ totals)

  abbrev Put : Reading → Type 0
  Put s = Puts (planned_of s (length table / 4) (length frames / 4)) table frames totals table-now frames-now totals-now answer

  put_made : (p : Lines) → plan_refusal p ≡ nothing → Put (reads p) →
      Told (InNumber answer) Unchanged (answer ≤ length table) (first (room_sentences (result p) (length table / 4) (length frames / 4)))
  unfolding planned_of plan_answer or_else room_refusal
  put_made p fine c =
      let q : Result = result p in
      let w : plan_answer p (length table / 4) (length frames / 4) ≡ answered (room_refusal q (length table / 4) (length frames / 4)) q = rw fine in
      rw (room_first q (length table / 4) (length frames / 4))
      (told_table q table frames totals table-now frames-now totals-now answer (ltb (length table / 4) (length (entry_words q.entries)))
      (ltb (length frames / 4) (length (frame_words q.frames))) refl (entries_cap p fine)
      (subst (λ (a : _). Puts a table frames totals table-now frames-now totals-now answer) w c))

  put_turned : (n : ℕ) → 1 ≤ n → n ≤ LASTREFUSAL → (q : Result) → Put (not_read n) → Told (InNumber answer) Unchanged (answer ≤ length table) (refused n)
  unfolding planned_of answered
  put_turned n l k q c = told_turned q table frames totals table-now frames-now totals-now answer n l k c

  pub c_planning : Tables text table frames totals table-now frames-now totals-now answer →
      KeepsTo (FirstOfText text (λ p. plan_sentences p ++ room_sentences (result p) (length table / 4) (length frames / 4))) (InNumber answer)
      ((table-now ≡ table) × (frames-now ≡ frames) × (totals-now ≡ totals)) (answer ≤ length table)
  c_planning c =
      let none : Result = record { delay = 0; passed = []; entries = []; frames = [] } in
      let x =
      by_text text (λ p. room_sentences (result p) (length table / 4) (length frames / 4)) (λ s x. Put s → Told (InNumber answer) Unchanged (answer ≤ length table) x)
      c.reading c.of_text (λ n l k u. put_turned n l k none u) (λ p m fine u. put_made p fine u) in
      keeps_text (InNumber answer) Unchanged (answer ≤ length table) text
      (λ p. plan_sentences p ++ room_sentences (result p) (length table / 4) (length frames / 4)) x.0 x.1 (x.2 c.puts)

-- `riscadru_check_table`
pub checked_told : (x : m.Refusal) (answer : ℕ) → ((n : ℕ) → x ≡ refused n → (1 ≤ n) × (n ≤ LASTREFUSAL)) → answer ≡ checked_number x →
    Told (InNumber answer) (Unit {0}) (answer ≡ 0) x
unfolding checked_number
checked_told nothing answer h e = number_result (Unit {0}) (answer ≡ 0) answer (omega arith) e
checked_told (refused n) answer h e = let l = h n refl in number_refused (Unit {0}) (answer ≡ 0) answer n l.0 l.1 e tt

table_number : (p : Lines) (words : List ℕ) (stated n : ℕ) → table_refusal p words stated ≡ refused n → (1 ≤ n) × (n ≤ LASTREFUSAL)
unfolding table_sentences
table_number p words stated n e = number_listed (table_sentences p words stated) n refl (table_first p words stated ∙ e)

pub c_checking : (text table : List ℕ) (delay answer : ℕ) → Checks text table delay answer →
    KeepsTo (FirstOfText text (λ p. plan_sentences p ++ table_sentences p (words_of table) delay)) (InNumber answer) (Unit {0}) (answer ≡ 0)
unfolding checked_of
c_checking text table delay answer c =
    let x =
    by_text text (λ p. table_sentences p (words_of table) delay)
    (λ s x. answer ≡ checked_number (checked_of s table delay) → Told (InNumber answer) (Unit {0}) (answer ≡ 0) x) c.reading c.of_text
    (λ n l k e. checked_told (refused n) answer (λ j q. (let same : n ≡ j = cc in (omega arith, omega arith))) e)
    (λ p m fine e.
    rw (table_first p (words_of table) delay) (checked_told (table_refusal p (words_of table) delay) answer (λ j q. table_number p (words_of table) delay j q) e)) in
    keeps_text (InNumber answer) (Unit {0}) (answer ≡ 0) text (λ p. plan_sentences p ++ table_sentences p (words_of table) delay) x.0 x.1 (x.2 c.number)

-- `riscadru_lookup`
found_told : (f : model.Found) (count answer : ℕ) → Finds f 0 count → 20 * count < 18446744073709551616 → answer ≡ found_number f →
    Told (InNumber answer) (Unit {0}) ((answer ≡ 18446744073709551615) ⊎ (answer < count)) nothing
unfolding found_number
found_told f count answer (finds_none q) few e =
    let g : answer ≡ 18446744073709551615 = e ∙ ap found_number q in
    ((λ j h. (let a = h.0 in let b = h.1 in let c = h.2 in omega arith)), inl g)
found_told f count answer (finds_one k q l i) few e =
    let g : answer ≡ k = e ∙ ap found_number q in
    number_result (Unit {0}) ((answer ≡ 18446744073709551615) ⊎ (answer < count)) answer (omega arith) (inr (omega arith))

pub c_looking_up : (text table : List ℕ) (node tick heard values from answer : ℕ) → length table < 18446744073709551616 →
    AnswersLookup text table node tick heard values from answer →
    KeepsTo (FirstOfText text plan_sentences) (InNumber answer) (Unit {0}) ((answer ≡ 18446744073709551615) ⊎ (answer < length (entries_of (words_of table))))
unfolding plan_sentences first found_in found_number lookup unless
c_looking_up text table node tick heard values from answer l c =
    let count : ℕ = length (entries_of (words_of table)) in
    let x =
    by_text text (λ p. []) (λ s x. answer ≡ found_number (found_in s table node tick heard values from) →
    Told (InNumber answer) (Unit {0}) ((answer ≡ 18446744073709551615) ⊎ (answer < count)) x) c.reading c.of_text
    (λ n l k e. number_refused (Unit {0}) ((answer ≡ 18446744073709551615) ⊎ (answer < count)) answer n l k e tt)
    (λ p m fine e.
    found_told (lookup p (words_of table) node tick heard values from) count answer
    (rw fine (found_within p node tick heard values (ltb node (length p.slots)) (entries_of (words_of table)) from)) (omega (arith, twenty table)) e) in
    keeps_text (InNumber answer) (Unit {0}) ((answer ≡ 18446744073709551615) ⊎ (answer < count)) text plan_sentences x.0 x.1 (x.2 c.is_found)

-- `riscadru_row_start`, `riscadru_row_length`
pub c_row : (table : List ℕ) (r start many : ℕ) → start ≡ 4 * row_start (words_of table) r → many ≡ 4 * row_length (words_of table) r → start + many ≤ length table
c_row table r start many a b = omega (arith, row_within (words_of table) r, words_count table)
