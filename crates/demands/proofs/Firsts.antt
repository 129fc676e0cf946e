-- The model's refusals are the first sentences that apply; to every text one applies first, or none; and an answer that
-- is told by the refusal that applies first keeps to it.
-- Assumes nothing.
use Prim.Native.Nat.{ℕ, ◌-◌, ◌≤◌, ◌<◌}
use mathlib.Core.Path.{◌≡◌, refl, sym, ap, subst, ◌∙◌}
use mathlib.Core.Bool.{Bool, true, false, ◌&&◌}
use mathlib.Core.List.{List, [], ◌∷◌, ◌++◌}
use native.Mathlib.Omega.{arith}
use borrow.Author.Tests.{leb-true}
use lib.Dec.{leb}
use Rattle.limits.specs.Limits.{LASTREFUSAL}
use Rattle.lists.specs.Lists.{all}
use Rattle.lists.proofs.Tests.{both}
use Rattle.model.specs.Plan.{Lines}
use Rattle.model.specs.Refusals.{Refusal, nothing, refused, sentence, or_else, plan_refusal}
use Rattle.model.specs.Text.{Means, Reading, reads, not_read, after_refusal, AnswersText, too_long, of_no_form, of_form, fitting}
use Rattle.model.specs.Table.{Result, room_refusal}
use Rattle.model.specs.Listing.{listing_refusal}
use Rattle.model.specs.Checking.{table_refusal}
use Rattle.text_grammar.proofs.Whole.{means_unique}
use Rattle.text_grammar.proofs.Answers.{one_answer}
use Rattle.demands.specs.Sentences.{Sentence, first, plan_sentences, bytes_sentences, room_sentences, listing_sentences, table_sentences, FirstOf, FirstOfText, exceeds, not_of_the_form, of_lines, KeepsTo, InNumber}

-- the sentences of document 01, in its order, are those that the model tries
pub plan_first : (p : Lines) → first (plan_sentences p) ≡ plan_refusal p
unfolding first plan_sentences plan_refusal
plan_first p = refl

pub bytes_first : (bytes : List ℕ) (lent : ℕ) → first (bytes_sentences bytes lent) ≡ fitting lent bytes
unfolding first bytes_sentences fitting
bytes_first bytes lent = refl

pub room_first : (r : Result) (words room : ℕ) → first (room_sentences r words room) ≡ room_refusal r words room
unfolding first room_sentences room_refusal
room_first r words room = refl

pub listing_first : (p : Lines) (lent : ℕ) → first (listing_sentences p lent) ≡ listing_refusal p lent
unfolding first listing_sentences listing_refusal
listing_first p lent = refl

pub table_first : (p : Lines) (words : List ℕ) (stated : ℕ) → first (table_sentences p words stated) ≡ table_refusal p words stated
unfolding first table_sentences table_refusal
table_first p words stated = refl

-- one list of sentences, and then another
one_more : (n : ℕ) (b : Bool) (x y z : Refusal) → x ≡ or_else y z → sentence n b x ≡ or_else (sentence n b y) z
unfolding or_else
one_more n true x y z e = refl
one_more n false x y z e = e

pub first_append : (xs ys : List Sentence) → first (xs ++ ys) ≡ or_else (first xs) (first ys)
unfolding first or_else
first_append [] ys = refl
first_append (s ∷ ss) ys = one_more s.number s.applies (first (ss ++ ys)) (first ss) (first ys) (first_append ss ys)

pub plan_then : (p : Lines) (more : List Sentence) → first (plan_sentences p ++ more) ≡ or_else (plan_refusal p) (first more)
plan_then p more = first_append (plan_sentences p) more ∙ ap (λ (x : Refusal). or_else x (first more)) (plan_first p)

-- the numbers of the list are 1 to 22
abbrev pub listed : Sentence → Bool
listed s = leb 1 s.number && leb s.number LASTREFUSAL

listed_one : (s : Sentence) (b : Bool) (x : Refusal) (n : ℕ) → listed s ≡ true → sentence s.number b x ≡ refused n → (x ≡ refused n → (1 ≤ n) × (n ≤ LASTREFUSAL)) →
    (1 ≤ n) × (n ≤ LASTREFUSAL)
listed_one s true x n h e next =
    let same : s.number ≡ n = cc in
    let l = both _ _ h in
    (omega (arith, same, leb-true 1 s.number l.0), omega (arith, same, leb-true s.number LASTREFUSAL l.1))
listed_one s false x n h e next = next e

pub number_listed : (ss : List Sentence) (n : ℕ) → all listed ss ≡ true → first ss ≡ refused n → (1 ≤ n) × (n ≤ LASTREFUSAL)
unfolding first
number_listed [] n h e = absurd (let z : ◌≡◌ {A = ℕ} 0 1 = cc in omega arith)
number_listed (s ∷ ss) n h e =
    let l = both (listed s) (all listed ss) h in listed_one s s.applies (first ss) n l.0 e (λ q. number_listed ss n l.1 q)

plan_number : (p : Lines) (n : ℕ) → plan_refusal p ≡ refused n → (1 ≤ n) × (n ≤ LASTREFUSAL)
unfolding plan_sentences
plan_number p n e = number_listed (plan_sentences p) n refl (plan_first p ∙ e)

-- to every text one refusal applies first, or none
module _ (text : List ℕ) (on : Lines → List Sentence) where
  pub text_some : (x : Refusal) × FirstOfText text on x
  text_some = at (one_answer text).1
    where
      at : {r : Reading} → AnswersText text r → (x : Refusal) × FirstOfText text on x
      at (too_long l) = (refused 1, exceeds l)
      at (of_no_form f) = (refused 1, not_of_the_form f)
      at (of_form p m l) = (first (on p), of_lines p m (omega arith))

  pub text_one : (x y : Refusal) → FirstOfText text on x → FirstOfText text on y → x ≡ y
  text_one x y (exceeds l) (exceeds k) = refl
  text_one x y (exceeds l) (not_of_the_form f) = refl
  text_one x y (exceeds l) (of_lines p m k) = absurd (omega arith)
  text_one x y (not_of_the_form f) (exceeds l) = refl
  text_one x y (not_of_the_form f) (not_of_the_form g) = refl
  text_one x y (not_of_the_form f) (of_lines p m l) = absurd (f p m)
  text_one x y (of_lines p m l) (exceeds k) = absurd (omega arith)
  text_one x y (of_lines p m l) (not_of_the_form f) = absurd (f p m)
  text_one x y (of_lines p m l) (of_lines q h k) = ap (λ (z : Lines). first (on z)) (means_unique m h)

-- What a text reads as, and the refusal that applies first to it and to what follows 2 to 9: a text that is not read
-- has its refusal, and one that is read has that of what follows.
module _ (text : List ℕ) (more : Lines → List Sentence) (Fits : Reading → Refusal → Type 0) where
  pub by_text : (reading : Reading) → AnswersText text reading → ((n : ℕ) → 1 ≤ n → n ≤ LASTREFUSAL → Fits (not_read n) (refused n)) →
      ((p : Lines) → Means text p → plan_refusal p ≡ nothing → Fits (reads p) (first (more p))) →
      (x : Refusal) × FirstOfText text (λ p. plan_sentences p ++ more p) x × Fits reading x
  unfolding after_refusal or_else
  by_text reading (too_long l) bad fine = (refused 1, exceeds l, bad 1 (omega arith) (omega arith))
  by_text reading (of_no_form f) bad fine = (refused 1, not_of_the_form f, bad 1 (omega arith) (omega arith))
  by_text reading (of_form p m l) bad fine = (first (plan_sentences p ++ more p), of_lines p m (omega arith), at (plan_refusal p) refl)
    where
      at : (z : Refusal) → plan_refusal p ≡ z → Fits (after_refusal (plan_refusal p) p) (first (plan_sentences p ++ more p))
      at nothing e = rw (plan_then p (more p), e) (fine p m e)
      at (refused n) e = let l = plan_number p n e in rw (plan_then p (more p), e) (bad n l.0 l.1)

-- what is shown of an answer, by the refusal that applies first
abbrev pub Told : (ℕ → Type 0) → Type 0 → Type 0 → Refusal → Type 0
Told Refused-with Unchanged Result nothing = ((n : ℕ) → Refused-with n → ⊥) × Result
Told Refused-with Unchanged Result (refused n) = Refused-with n × ((k : ℕ) → Refused-with k → k ≡ n) × Unchanged

module _ (Is-first : Refusal → Type 0) (Refused-with : ℕ → Type 0) (Unchanged Result : Type 0) where
  pub keeps : (x : Refusal) → Is-first x → ((y : Refusal) → Is-first y → x ≡ y) → Told Refused-with Unchanged Result x → KeepsTo Is-first Refused-with Unchanged Result
  keeps nothing known one told =
      record {
        refused_first = λ n e. absurd (told.0 n e);
        first_refused = λ n h. absurd (let q = one (refused n) h in let z : ◌≡◌ {A = ℕ} 0 1 = cc in omega arith);
        otherwise = λ h. told.1;
      }
  keeps (refused m) known one told =
      record {
        refused_first = λ n e. (subst (λ (k : ℕ). Is-first (refused k)) (sym (told.1 n e)) known, told.2);
        first_refused = λ n h. (let q = one (refused n) h in let same : m ≡ n = cc in subst Refused-with same told.0);
        otherwise = λ h. absurd (let q = one nothing h in let z : ◌≡◌ {A = ℕ} 0 1 = cc in omega arith);
      }

-- an answer told by the first sentence of a list, and by the first that applies to a text
pub keeps_list : (Refused-with : ℕ → Type 0) (Unchanged Result : Type 0) (ss : List Sentence) (x : Refusal) → first ss ≡ x → Told Refused-with Unchanged Result x →
    KeepsTo (FirstOf ss) Refused-with Unchanged Result
keeps_list Refused-with Unchanged Result ss x e told = keeps (FirstOf ss) Refused-with Unchanged Result x e (λ y h. sym e ∙ h) told

pub keeps_text : (Refused-with : ℕ → Type 0) (Unchanged Result : Type 0) (text : List ℕ) (on : Lines → List Sentence) (x : Refusal) → FirstOfText text on x →
    Told Refused-with Unchanged Result x → KeepsTo (FirstOfText text on) Refused-with Unchanged Result
keeps_text Refused-with Unchanged Result text on x h told =
    keeps (FirstOfText text on) Refused-with Unchanged Result x h (λ y k. text_one text on x y h k) told

-- numbers in which a C function answers: a refusal, and what no refusal is answered in
module _ (Unchanged Result : Type 0) (answer : ℕ) where
  pub number_refused : (n : ℕ) → 1 ≤ n → n ≤ LASTREFUSAL → answer ≡ 18446744073709551615 - n → Unchanged → Told (InNumber answer) Unchanged Result (refused n)
  number_refused n l k e u = ((l, k, omega arith), (λ j q. (let a = q.0 in let b = q.1 in let c = q.2 in omega arith)), u)

  pub number_result : answer < 18446744073709551593 → Result → Told (InNumber answer) Unchanged Result nothing
  number_result l r = ((λ j q. (let a = q.0 in let b = q.1 in let c = q.2 in omega arith)), r)
