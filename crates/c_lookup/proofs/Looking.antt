-- The lookup is answered by what the text reads as, in both cases of the reader's answer.
-- Assumes nothing.
use mathlib.Core.Path.{◌≡◌, refl, ◌∙◌}
use mathlib.Core.List.{List}
use Prim.Native.Nat.{ℕ, ◌-◌}
use Rattle.std.specs.Prelude.{Option, None, Some, Result, Ok, unwrap_or}
use Rattle.model.specs.Plan.{Lines}
use Rattle.model.specs.Text.{reads, not_read, AnswersText}
use Rattle.model.specs.Lookup.{entry, none, refusal, lookup}
use Rattle.model.specs.Lookup as m
use Rattle.model.specs.Firmware.{words_of, found_number, found_in, AnswersLookup}
use Rattle.kernel.specs.Finding.{found_of}

-- an entry's number, or none as the greatest number, is the number of what is found
same_number : (f : Option ℕ) (x : m.Found) → ◌≡◌ {A = Result (Option ℕ) ℕ} (Ok f) (found_of x) → unwrap_or f 18446744073709551615 ≡ found_number x
unfolding found_number
same_number f (entry i) e = let s : f ≡ Some i = cc in rw s refl
same_number f none e = let s : f ≡ None = cc in rw s refl
same_number f (refusal n) e = cc

module _ {text : List ℕ} (table : List ℕ) (n t h v first answer : ℕ) where
  pub refused_lookup : (k : ℕ) → AnswersText text (not_read k) → answer ≡ 18446744073709551615 - k → AnswersLookup text table n t h v first answer
  unfolding found_number found_in
  refused_lookup k told q = record { reading = not_read k; of_text = told; is_found = q }

  pub read_lookup : (p : Lines) (f : Option ℕ) → AnswersText text (reads p) → ◌≡◌ {A = Result (Option ℕ) ℕ} (Ok f) (found_of (lookup p (words_of table) n t h v first)) →
      answer ≡ unwrap_or f 18446744073709551615 → AnswersLookup text table n t h v first answer
  unfolding found_in
  read_lookup p f told q a =
      record {
        reading = reads p;
        of_text = told;
        is_found = a ∙ same_number f (lookup p (words_of table) n t h v first) q;
      }
