-- The table that `riscadru_plan_table` writes is one that `riscadru_check_table` accepts, with the delay that stands in
-- the totals; and behind the delay the counts of the nodes stand there.
-- Assumes nothing.
use Prim.Native.Nat.{ℕ, zero, suc, ◌+◌, ◌*◌, ◌/◌, ◌^◌, ◌≤◌, ◌<◌}
use mathlib.Core.Path.{◌≡◌, refl, sym, ap, subst, ◌∙◌}
use mathlib.Core.Bool.{true, false}
use mathlib.Core.List.Memᴰ.{head as here}
use mathlib.Core.List.Memᴰ.{tail as there}
use mathlib.Core.List.{List, [], ◌∷◌, append-nil, Memᴰ as In}
use native.Mathlib.Nat.{pow-le-pow_right}
use native.Mathlib.Omega.{arith}
use lib.ListN.{length, get_or, take}
use Rattle.lists.proofs.Front.{front_written}
use Rattle.model.specs.Plan.{Lines}
use Rattle.model.specs.Activity.{Heard, heard, unheard}
use Rattle.model.specs.Log.{full_ticks, over, known}
use Rattle.model.specs.Refusals.{nothing, plan_refusal}
use Rattle.model.specs.Text.{Reading, reads, Means}
use Rattle.model.specs.Table.{Entry, entry_of, known_bits, value_bits, result, entry_words}
use Rattle.model.specs.Checking.{table_refusal, check}
use Rattle.model.specs.Firmware.{words_of}
use Rattle.text_grammar.proofs.Answers.{answers_unique}
use Rattle.laws.proofs.Entries.{final, entries_in}
use Rattle.laws.proofs.Good.{good}
use Rattle.laws.proofs.OwnTable.{own_table_sound}
use Rattle.laws.proofs.Sound.{sound_iff}
use Rattle.planner_table.proofs.Most.{delay_most, entries_cap, frames_cap}
use Rattle.checker_rows.proofs.ColumnBits.{Formed, formed}
use Rattle.laws.proofs.Passed.{counts_most}
use Rattle.laws.proofs.Words.{entries_back, counts_each}
use Rattle.c_words.specs.Bytes.{bytes_of}
use Rattle.c_words.proofs.Writing.{bytes_count}
use Rattle.c_words.proofs.Back.{Words, words_back, word_there}
use Rattle.c_plan.specs.Filled.{totals_of}
use Rattle.c_check.specs.Checks.{checked_of, checked_number, Checks}
use Rattle.c_interface.specs.Tables.{planned_of, Puts, Tables}
use Rattle.demands.specs.Sentences.{room_sentences}
use Rattle.demands.specs.Two.{NotRefused, ScheduledBytes}
use Rattle.demands.proofs.Firsts.{by_text}
use Rattle.demands.proofs.OneC.{c_planning}
use Rattle.demands.proofs.Two.{none_applies, neither, scheduled_bytes}

-- the values at known bits are no greater than the known bits
values_most : (h : List Heard) → value_bits h ≤ known_bits h
values_most [] = omega arith
values_most (unheard ∷ h) = let r = values_most h in omega arith
values_most (heard true ∷ h) = let r = values_most h in omega arith
values_most (heard false ∷ h) = let r = values_most h in omega arith

-- the words of an entry are numbers of 32 bits
record Small (e : Entry) : Type 0 where
  row : e.row < 2 ^ 32
  known : e.known < 2 ^ 32
  values : e.values < 2 ^ 32
  tick : e.tick < 2 ^ 32
  place : e.place < 2 ^ 32

words_small : (es : List Entry) → ((e : Entry) → In e es → Small e) → Words (entry_words es)
words_small [] h i l = absurd (omega arith)
words_small (e ∷ es) h zero l = (h e (here refl)).row
words_small (e ∷ es) h (suc zero) l = (h e (here refl)).known
words_small (e ∷ es) h (suc (suc zero)) l = (h e (here refl)).values
words_small (e ∷ es) h (suc (suc (suc zero))) l = (h e (here refl)).tick
words_small (e ∷ es) h (suc (suc (suc (suc zero)))) l = (h e (here refl)).place
words_small (e ∷ es) h (suc (suc (suc (suc (suc i))))) l = words_small es (λ x m. h x (there m)) i (omega arith)

module _ (p : Lines) (fine : plan_refusal p ≡ nothing) where
  entry_small : (e : Entry) → In e (result p).entries → Small e
  unfolding entry_of
  entry_small e i =
      let g = good p fine in
      let es : List Entry = (result p).entries in
      let s = (sound_iff p (entry_words es) (result p).delay).0 (own_table_sound p fine) in
      let f : Formed p e = formed p e (s.2.formed e (subst (In e) (sym (entries_back es)) i)) in
      let d = entries_in p e i in
      let m = d.2 in
      let v : e.values ≤ e.known =
      subst (λ (z : Entry). z.values ≤ z.known) (sym m.is_its) (values_most (known p d.0 (over p (full_ticks p) (final p d.0) m.item.tick))) in
      let k : 2 ^ length p.conditions ≤ 2 ^ 6 = pow-le-pow_right (omega arith) g.few_conditions in
      record {
        row = omega (arith, f.row_in, g.few_processes, g.few_edges, g.few_conditions);
        known = omega (arith, f.known_few);
        values = omega (arith, f.known_few);
        tick = omega (arith, f.tick_most);
        place = omega (arith, f.place_most);
      }

  -- the totals are numbers of 32 bits
  counts_small : (n : ℕ) → get_or (result p).passed n 0 < 2 ^ 32
  counts_small n = omega (arith, counts_most p fine n)

  totals_small : Words (totals_of (result p))
  unfolding totals_of
  totals_small zero l = omega (arith, entries_cap p fine)
  totals_small (suc zero) l = omega (arith, frames_cap p fine)
  totals_small (suc (suc zero)) l = omega (arith, delay_most p fine)
  totals_small (suc (suc (suc n))) l = counts_small n

module _ (text table frames totals table-now frames-now totals-now : List ℕ) (answer : ℕ) where
  -- the checker's refusal for what was read, of the bytes written and with the third word of the totals
  abbrev Accepts : Reading → Type 0
  Accepts s = checked_of s (take answer table-now) (get_or (words_of totals-now) 2 0) ≡ nothing

  accepts : (p : Lines) → plan_refusal p ≡ nothing → 12 ≤ length totals → ScheduledBytes p table frames totals table-now frames-now totals-now answer → Accepts (reads p)
  unfolding checked_of totals_of check
  accepts p fine l s =
      let words : List ℕ = entry_words (result p).entries in
      let n : answer ≡ length (bytes_of words) = s.count ∙ sym (bytes_count words) in
      let t : words_of (take answer table-now) ≡ words =
      (λ i. words_of (take (n i) (s.start_table i)))
      ∙ ap words_of (front_written (bytes_of words) table ∙ sym (append-nil (bytes_of words)))
      ∙ words_back words [] (words_small (result p).entries (entry_small p fine)) (omega arith) in
      let d : get_or (words_of totals-now) 2 0 ≡ (result p).delay =
      ap (λ (z : List ℕ). get_or (words_of z) 2 0) s.total_words ∙ word_there (totals_of (result p)) totals (totals_small p fine) 2 (omega arith) (omega arith) in
      (λ i. table_refusal p (t i) (d i)) ∙ (neither (plan_refusal p) (table_refusal p words (result p).delay) (own_table_sound p fine)).1

  -- Whatever text and bytes are lent, those for the totals at least twelve: where `riscadru_plan_table` does not
  -- refuse, the contract of `riscadru_check_table` holds with 0 for the bytes that it wrote and the delay that it put
  -- into the totals.
  pub c_planned_accepted : Tables text table frames totals table-now frames-now totals-now answer → NotRefused answer → 12 ≤ length totals →
      Checks text (take answer table-now) (get_or (words_of totals-now) 2 0) 0
  unfolding planned_of checked_number
  c_planned_accepted c not l =
      let x =
      by_text text (λ p. room_sentences (result p) (length table / 4) (length frames / 4))
      (λ s x. x ≡ nothing → Puts (planned_of s (length table / 4) (length frames / 4)) table frames totals table-now frames-now totals-now answer → Accepts s) c.reading c.of_text
      (λ n l k f. absurd (let z : ◌≡◌ {A = ℕ} 0 1 = cc in omega arith))
      (λ p m fine f u. accepts p fine l (scheduled_bytes text table frames totals table-now frames-now totals-now answer p fine f u)) in
      let y : Accepts c.reading = x.2 (none_applies (c_planning text table frames totals table-now frames-now totals-now answer c) not x.0 x.1) c.puts in
      record { reading = c.reading; of_text = c.of_text; number = ap checked_number (sym y) }

  -- the counts of the nodes stand behind the first three words of the totals
  abbrev Counts : Type 0
  Counts =
      (p : Lines) × Means text p
      × ((n : ℕ) → n < length p.slots → (n + 3) * 4 + 4 ≤ length totals → get_or (words_of totals-now) (n + 3) 0 ≡ get_or (result p).passed n 0)

  counts : (p : Lines) → plan_refusal p ≡ nothing → ScheduledBytes p table frames totals table-now frames-now totals-now answer → (n : ℕ) → n < length p.slots →
      (n + 3) * 4 + 4 ≤ length totals → get_or (words_of totals-now) (n + 3) 0 ≡ get_or (result p).passed n 0
  unfolding totals_of
  counts p fine s n l room =
      let z : n + 3 ≡ suc (suc (suc n)) = omega arith in
      ap (λ (w : List ℕ). get_or (words_of w) (n + 3) 0) s.total_words
      ∙ word_there (totals_of (result p)) totals (totals_small p fine) (n + 3) (omega (arith, counts_each p)) room
      ∙ ap (λ (k : ℕ). get_or (totals_of (result p)) k 0) z

  pub c_planned_counts : Tables text table frames totals table-now frames-now totals-now answer → NotRefused answer → Counts
  unfolding planned_of
  c_planned_counts c not =
      let x =
      by_text text (λ p. room_sentences (result p) (length table / 4) (length frames / 4))
      (λ s x. x ≡ nothing → Puts (planned_of s (length table / 4) (length frames / 4)) table frames totals table-now frames-now totals-now answer → Counts) c.reading c.of_text
      (λ n l k f. absurd (let z : ◌≡◌ {A = ℕ} 0 1 = cc in omega arith))
      (λ p m fine f u. (p, m, counts p fine (scheduled_bytes text table frames totals table-now frames-now totals-now answer p fine f u))) in
      x.2 (none_applies (c_planning text table frames totals table-now frames-now totals-now answer c) not x.0 x.1) c.puts

-- the contract of `riscadru_check_table` leaves one answer
pub c_checked_once : (text table : List ℕ) (delay one other : ℕ) → Checks text table delay one → Checks text table delay other → one ≡ other
c_checked_once text table delay one other h k =
    h.number
    ∙ ap (λ (s : Reading). checked_number (checked_of s table delay)) (answers_unique h.of_text k.of_text)
    ∙ sym k.number
