-- What is printed for an answer fits the lent bytes, and stands at their front.
-- Assumes nothing.
use Prim.Native.Nat.{ℕ, ◌≤◌, ◌<◌, ◌^◌}
use mathlib.Core.Path.{◌≡◌, refl, ap, ◌∙◌}
use mathlib.Core.List.{List}
use native.Mathlib.Nat.{zero-add}
use native.Mathlib.Omega.{arith}
use lib.ListN.{length, drop, length-append}
use Rattle.limits.specs.Limits.{VERDICT}
use Rattle.lists.specs.Front.{front}
use Rattle.lists.proofs.Stores.{sets_front}
use Rattle.std.specs.Prelude.{Result, Ok, Err}
use Rattle.model.specs.Refusals.{nothing, refused}
use Rattle.model.specs.Refusals as model
use Rattle.refusals.specs.declared.Refusal.{Refusal}
use Rattle.refusals.specs.Numbers.{number_of, numbered}
use Rattle.model.specs.Listing.{refused_line}
use Rattle.model.specs.ListingText.{check_prints}
use Rattle.text_grammar.proofs.Numbers.{decimal_length}
use Rattle.text_lines.specs.Put.{Put}
use Rattle.listing_bytes.specs.Fits.{Fits}
use Rattle.listing_count.proofs.Lines.{refused_length}
use Rattle.checker_table.specs.Verdict.{answer_of}
use Rattle.check_program.specs.Answer.{refusal_of, Prints}

-- the line of a refusal whose number is one of the code's
pub refused_fits : (n : ℕ) → n < 2 ^ 32 → length (refused_line n) ≤ VERDICT
refused_fits n l = omega (arith, refused_length n, decimal_length 9 n (omega arith))

pub fits : (l bytes : List ℕ) → length bytes ≤ length l → Fits l 0 bytes
fits l bytes h = record { within = omega arith }

-- bytes that were stored from the front on
pub stored : {l m : List ℕ} {end : ℕ} {bytes : List ℕ} → Put l m 0 end bytes → length bytes ≤ length l → (end ≡ length bytes) × (m ≡ front bytes l)
stored {l} {bytes = bytes} p h = (p.count ∙ zero-add (length bytes), p.holds ∙ sets_front bytes l h)

-- an answer says the refusal that it was given for
pub says : (r : Result (Unit {0}) Refusal) (x : model.Refusal) → numbered r ≡ answer_of x → refusal_of r ≡ x
unfolding answer_of
says (Ok y) nothing e = refl
says (Ok y) (refused n) e = cc
says (Err r) nothing e = cc
says (Err r) (refused n) e = let q : number_of r ≡ n = cc in ap refused q

-- what was written lies within the lent bytes
pub count_within : {input before after : List ℕ} {count : ℕ} → Prints input before after count → count ≤ length after
unfolding front
count_within {before = before} q =
    omega (arith, q.counted, ap length q.bytes, length-append (check_prints q.refusal) (drop (length (check_prints q.refusal)) before))
