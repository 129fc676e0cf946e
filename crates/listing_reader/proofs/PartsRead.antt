-- The whole listing by its parts: it is not read where one of them is missing or not in form, or where more follows.
-- Assumes nothing.
use Prim.Native.Nat.{ℕ, ◌*◌, ◌≤◌, ◌<◌}
use mathlib.Core.Path.{◌≡◌, refl, ap, sym, ◌∙◌}
use mathlib.Core.Bool.{Bool, true, false, false≢true, ◌&&◌}
use mathlib.Core.List.{List, [], ◌∷◌}
use native.Mathlib.Omega.{arith}
use Rattle.std.specs.Prelude.{Some, Ok}
use borrow.Author.Tests.{leb-true}
use lib.Dec.{leb}
use lib.ListN.{length, drop, drop_of_length-le}
use lib.Seq.{drop-cons}
use Rattle.limits.specs.Limits.{PRINTEDENTRIES, PRINTEDFRAMES}
use Rattle.lists.proofs.Tests.{both, and_false}
use Rattle.model.specs.Text.{text as text_of}
use Rattle.model.specs.Table.{Entry, Frame, Result, entry_words, frame_words}
use Rattle.model.specs.ListingText.{rows_in_order}
use Rattle.laws.proofs.Words.{entry_words_count, frame_words_count}
use Rattle.text_grammar.specs.Parse.{Parsed, none, got, and_then, closed_at}
use Rattle.text_grammar.proofs.Parsed.{got_same, parts}
use Rattle.text_scanner.specs.Place.{nowhere, found, Scanned}
use Rattle.listing_grammar.specs.Parse.{passed_at, listing_at, no_reading, in_form, to_end, read_listing}
use Rattle.listing_scanner.specs.declared.entries.Counts.{Counts}
use Rattle.listing_reader.specs.Answer.{answer_of}
use Rattle.listing_reader.specs.Runs.{CountsFound, entries_at, frames_at, entries_in_form, frames_in_form, Found, Formless, reading, LinesRead}

not_in_form : (q : Parsed Result) → ((r : Result) (rest : List ℕ) → q ≡ got r rest → in_form r ≡ false) → to_end q ≡ no_reading
unfolding to_end
not_in_form none f = refl
not_in_form (got r []) f = rw (f r [] refl)
not_in_form (got r (b ∷ s)) f = refl

first_false : (a b c : Bool) → (a && b) ≡ false → (a && (b && c)) ≡ false
first_false true true c h = absurd (false≢true (sym h))
first_false true false c h = refl
first_false false b c h = refl

last_false : (a b c : Bool) → c ≡ false → (a && (b && c)) ≡ false
last_false a b c h = ap (λ (z : Bool). a && (b && z)) h ∙ ap (λ (z : Bool). a && z) (and_false b) ∙ and_false a

-- lines in form are no more than there may be
pub entries_few : (es : List Entry) → entries_in_form es ≡ true → length es ≤ PRINTEDENTRIES
entries_few es h = leb-true (length es) PRINTEDENTRIES (both (rows_in_order 0 es) (leb (length es) PRINTEDENTRIES) h).1

pub frames_few : (fs : List Frame) → frames_in_form fs ≡ true → length fs ≤ PRINTEDFRAMES
frames_few fs h = leb-true (length fs) PRINTEDFRAMES h

module _ (counts : Counts) {text : List ℕ} where
  pub no_delay : Scanned text nowhere (closed_at (text_of "(delay ") (text_of "\n") text) → reading counts text ≡ no_reading
  unfolding read_listing to_end listing_at
  no_delay e = rw (← e.same)

  -- the delay line
  module _ {d i : ℕ} (delay : Scanned text (found d i) (closed_at (text_of "(delay ") (text_of "\n") text)) where
    pub no_passed : passed_at 0 counts.slots (drop i text) ≡ none → reading counts text ≡ no_reading
    unfolding read_listing to_end listing_at
    no_passed e = rw (← delay.same, e)

    -- and the passed lines
    module _ {passed passed-now : List ℕ} {j : ℕ} (nodes : CountsFound text i counts.slots passed passed-now j) where
      abbrev said : List Entry → List Frame → Result
      said es fs = record { delay = d; passed = nodes.counts; entries = es; frames = fs }

      abbrev all_parts : Parsed Result
      all_parts = listing_at counts.slots counts.processes counts.edges counts.conditions text

      lines_next : all_parts ≡ and_then (entries_at counts (drop j text)) (λ es o. and_then (frames_at o) (λ fs m. got (said es fs) m))
      unfolding listing_at
      lines_next = rw (← delay.same, nodes.read)

      pub entries_formless : Formless (entries_at counts) entries_in_form text j → reading counts text ≡ no_reading
      unfolding read_listing in_form
      entries_formless f =
          not_in_form all_parts (λ r rest h.
          let a = parts (entries_at counts (drop j text)) (λ es o. and_then (frames_at o) (λ fs m. got (said es fs) m)) (sym lines_next ∙ h) in
          let b = parts (frames_at a.rest) (λ fs m. got (said a.value fs) m) a.two in
          ap in_form (sym (got_same b.two).0)
          ∙ first_false (rows_in_order 0 a.value) (leb (length a.value) PRINTEDENTRIES) (leb (length b.value) PRINTEDFRAMES) (f a.value a.rest a.one))

      -- and the entries
      module _ {table table-now : List ℕ} {count k : ℕ} (entries : Found (entries_at counts) entries_in_form entry_words text j table table-now count k) where
        frames_next : all_parts ≡ and_then (frames_at (drop k text)) (λ fs m. got (said entries.lines fs) m)
        frames_next = lines_next ∙ rw entries.read

        pub frames_formless : Formless frames_at frames_in_form text k → reading counts text ≡ no_reading
        unfolding read_listing in_form
        frames_formless f =
            not_in_form all_parts (λ r rest h.
            let b = parts (frames_at (drop k text)) (λ fs m. got (said entries.lines fs) m) (sym frames_next ∙ h) in
            ap in_form (sym (got_same b.two).0)
            ∙ last_false (rows_in_order 0 entries.lines) (leb (length entries.lines) PRINTEDENTRIES) (leb (length b.value) PRINTEDFRAMES) (f b.value b.rest b.one))

        -- and the frames
        module _ {frames frames-now : List ℕ} {used end : ℕ} (last : Found frames_at frames_in_form frame_words text k frames frames-now used end) where
          to_last : all_parts ≡ got (said entries.lines last.lines) (drop end text)
          to_last = frames_next ∙ rw last.read

          pub more_follows : end < length text → reading counts text ≡ no_reading
          unfolding read_listing to_end
          more_follows h = rw (to_last, drop-cons text end 0 h)

          pub whole_listing : length text ≤ end →
              LinesRead text counts table frames passed table-now frames-now passed-now (Some (record { words = 5 * count; framewords = 3 * used; delay = d }))
          unfolding read_listing to_end in_form answer_of
          whole_listing h =
              let es = entries.lines in
              let fs = last.lines in
              let e = both (rows_in_order 0 es) (leb (length es) PRINTEDENTRIES) entries.form in
              let u : length es ≤ PRINTEDENTRIES = entries_few es entries.form in
              let v : length fs ≤ PRINTEDFRAMES = frames_few fs last.form in
              let a : 5 * count ≡ length (entry_words es) = omega (arith, entry_words_count es, entries.all) in
              let b : 3 * used ≡ length (frame_words fs) = omega (arith, frame_words_count fs, last.all) in
              record {
                states = said es fs;
                of_text = rw (to_last, drop_of_length-le text {i = end} h, e.0, e.1, last.form);
                answer = λ i. Ok (record { words = a i; framewords = b i; delay = d });
                few_words = omega (arith, entries.all);
                few_framewords = omega (arith, last.all);
                words = entries.held;
                frame_words = last.held;
                for_each = nodes.for_each;
                counted = nodes.held;
              }
