-- What is answered, and what the lent bytes hold, where a text needs more bytes than lent, and where it is stored.
-- Assumes nothing.
use mathlib.Core.Path.{◌≡◌, refl, sym, ap, ◌∙◌}
use mathlib.Core.Bool.{true, false}
use mathlib.Core.Logic.{◌⊎◌, inl, inr}
use mathlib.Core.List.{List}
use Prim.Native.Nat.{ℕ, ◌≤◌, ◌<◌, min}
use native.Mathlib.Nat.{zero-add}
use native.Mathlib.Omega.{arith}
use borrow.Author.Tests.{lt-ltb, le-ltb, ltb-true, ltb-false}
use lib.Dec.{ltb}
use lib.ListN.{length, take}
use lib.Seq.{take_all}
use Rattle.std.specs.Prelude.{Ok, Err}
use Rattle.limits.specs.Limits.{NODES}
use Rattle.lists.proofs.Tests.{two}
use Rattle.lists.proofs.Stores.{sets_front}
use Rattle.model.specs.Text.{wrote, not_written, unless_refused, fitting, bytes_after}
use Rattle.model.specs.Listing.{words_listing}
use Rattle.plan.specs.declared.Plan.{Plan}
use Rattle.plan.specs.Memory.{lines}
use Rattle.plan.proofs.Counted.{counted_length}
use Rattle.text_lines.specs.Answer.{answer_of}
use Rattle.text_lines.specs.Put.{Put}
use Rattle.listing.specs.Answer.{written_of}
use Rattle.listing_bytes.specs.Fits.{Fits}
use Rattle.listing_count.specs.Parts.{listing_of}
use Rattle.listing_count.proofs.Lines.{listing_same}

pub lent_less : (lent : ℕ) (bytes : List ℕ) → lent < length bytes → written_of lent bytes ≡ not_written 10
unfolding written_of unless_refused fitting
lent_less lent bytes h = rw (lt-ltb lent (length bytes) h)

pub lent_enough : (lent : ℕ) (bytes : List ℕ) → length bytes ≤ lent → written_of lent bytes ≡ wrote bytes
unfolding written_of unless_refused fitting
lent_enough lent bytes h = rw (le-ltb lent (length bytes) h)

pub refused_ten : (l bytes : List ℕ) → length l < length bytes → (Err 10 ≡ answer_of (written_of (length l) bytes)) × (l ≡ bytes_after (written_of (length l) bytes) l)
unfolding bytes_after
refused_ten l bytes h = rw (lent_less (length l) bytes h) (refl, refl)

pub stored_all : {l m : List ℕ} {end : ℕ} {bytes : List ℕ} → Put l m 0 end bytes → length bytes ≤ length l →
    (Ok end ≡ answer_of (written_of (length l) bytes)) × (m ≡ bytes_after (written_of (length l) bytes) l)
unfolding bytes_after
stored_all {l} {m} {end} {bytes} p h = rw (lent_enough (length l) bytes h) (ap Ok (p.count ∙ zero-add (length bytes)), p.holds ∙ sets_front bytes l h)

pub fits_all : (l bytes : List ℕ) → length bytes ≤ length l → Fits l 0 bytes
fits_all l bytes h = record { within = omega arith }

-- the first n elements are as many as the lesser of n and a bound, where the list has no more than the bound
take_lesser : {A : Type 0} (n bound : ℕ) (xs : List A) → length xs ≤ bound → take n xs ≡ take (min n bound) xs
take_lesser n bound xs h = at (two (ltb n bound))
  where
    at : (ltb n bound ≡ true) ⊎ (ltb n bound ≡ false) → take n xs ≡ take (min n bound) xs
    at (inl e) =
        let l = ltb-true n bound e in
        let q : min n bound ≡ n = omega arith in
        rw q refl
    at (inr e) =
        let l = ltb-false n bound e in
        take_all n xs (omega arith) ∙ sym (take_all (min n bound) xs (omega arith))

-- the listing for a plan is that of its counts, and of the numbers for its nodes, as many as it has, at the front of
-- those for eight
pub plan_listing : (p : Plan) (delay : ℕ) (passed table frames : List ℕ) (nodes : ℕ) → length passed ≡ NODES → nodes ≡ min p.slots NODES →
    words_listing (lines p) delay passed table frames ≡ listing_of p.processes p.edges p.conditions delay (take nodes passed) table frames
unfolding lines
plan_listing p delay passed table frames nodes eight e =
    listing_same (lines p) delay passed table frames
    ∙ simp counted_length
    (ap (λ (counts : List ℕ). listing_of p.processes p.edges p.conditions delay counts table frames) (take_lesser p.slots NODES passed (omega arith) ∙ rw e refl))
