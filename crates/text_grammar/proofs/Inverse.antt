-- A reader that takes exactly the printed forms: what that says, and how words, numbers, sequences and choices have it.
-- Assumes nothing.
use Rattle.std.specs.Prelude.{if◌then◌else◌}
use mathlib.Core.Path.{◌≡◌, refl, ap, sym, subst, ◌∙◌}
use mathlib.Core.Bool.{Bool, true, false, false≢true}
use mathlib.Core.Logic.{◌⊎◌, inl, inr}
use mathlib.Core.List.{List, [], ◌∷◌, ◌++◌, append_assoc}
use Prim.Native.Nat.{ℕ, ◌<◌}
use native.Mathlib.Omega.{arith}
use borrow.Author.Tests.{eqb-true, eq-eqb, ltb-true, lt-ltb}
use lib.Dec.{eqb}
use Rattle.lists.specs.Lists.{all}
use Rattle.lists.proofs.Tests.{both, join}
use Rattle.lists.proofs.Members.{all_parts, all_joined}
use Rattle.model.specs.Text.{short}
use Rattle.text_grammar.specs.Parse.{Parsed, none, got, and_then, or, word_at, number_to, number_at, field_at, closed_at, value_at}
use Rattle.text_grammar.proofs.Parsed.{not_got, got_same, parts, either_got}
use Rattle.text_grammar.proofs.Numbers.{ended, bracketed, number_complete, number_sound}

-- Of the values that are known to be of a kind: the printed form of each is read as it, whatever follows; and what is
-- read is the printed form of such a value. `numbers` are the numbers in it, which are all of at most nine digits.
pub record Reads {A : Type 0} (parse : List ℕ → Parsed A) (Known : A → Type 0) (line numbers : A → List ℕ) : Type 0 where
  pub complete : (x : A) (s : List ℕ) → Known x → all short (numbers x) ≡ true → parse (line x ++ s) ≡ got x s
  pub sound : (s : List ℕ) (x : A) (r : List ℕ) → parse s ≡ got x r → (s ≡ line x ++ r) × Known x × (all short (numbers x) ≡ true)

-- the same of all values
abbrev pub Inverse : {A : Type 0} → (List ℕ → Parsed A) → (A → List ℕ) → (A → List ℕ) → Type 0
Inverse parse line numbers = Reads parse (λ x. Unit {0}) line numbers

-- The same reader, told of by what else is known of the values, by other numbers, and by a line that is the same.
pub told_as : {A : Type 0} {parse : List ℕ → Parsed A} {Known Known' : A → Type 0} {line line' numbers numbers' : A → List ℕ} → Reads parse Known line numbers
    → ((x : A) → Known' x → all short (numbers' x) ≡ true → Known x × (all short (numbers x) ≡ true))
    → ((x : A) → Known x → all short (numbers x) ≡ true → Known' x × (all short (numbers' x) ≡ true))
    → ((x : A) → Known x → line x ≡ line' x) → Reads parse Known' line' numbers'
told_as {parse = parse} {line = line} {line' = line'} k to back e =
    record {
      complete = λ x s known h. let q = to x known h in ap (λ l. parse (l ++ s)) (sym (e x q.0)) ∙ k.complete x s q.0 q.1;
      sound = λ s x r h.
          let q = k.sound s x r h in
          let b = back x q.1 q.2 in
          (q.0 ∙ ap (λ l. l ++ r) (e x q.1), b.0, b.1);
    }

pub whole : {A : Type 0} {parse : List ℕ → Parsed A} {Known : A → Type 0} {line line' numbers : A → List ℕ}
    → Reads parse Known line numbers → ((x : A) → Known x) → ((x : A) → line x ≡ line' x) → Inverse parse line' numbers
whole k every e = told_as k (λ x u h. (every x, h)) (λ x u h. (tt, h)) (λ x u. e x)

-- a reader that is asked only where a test holds
pub guarded : {A : Type 0} {parse : List ℕ → Parsed A} {Known : A → Type 0} {line numbers : A → List ℕ} (b : Bool)
    → Reads parse Known line numbers → Reads (λ s. if b then parse s else none) (λ x. (b ≡ true) × Known x) line numbers
guarded true k = told_as k (λ x u h. (u.1, h)) (λ x u h. ((refl, u), h)) (λ x u. refl)
guarded false k = record { complete = λ x s known h. absurd (false≢true known.0); sound = λ s x r h. not_got h }

-- a word
word_complete : (w s : List ℕ) → word_at w (w ++ s) ≡ got tt s
unfolding word_at
word_complete [] s = refl
word_complete (c ∷ w) s = rw (eq-eqb c c refl) (word_complete w s)

word_sound : (w s : List ℕ) (u : Unit {0}) (r : List ℕ) → word_at w s ≡ got u r → s ≡ w ++ r
unfolding word_at
word_sound [] s u r h = (got_same h).1
word_sound (c ∷ w) [] u r h = not_got h
word_sound (c ∷ w) (b ∷ s) u r h = at (eqb b c) refl h (word_sound w s u r)
  where
    at : (x : Bool) → eqb b c ≡ x → (if x then word_at w s else none) ≡ got u r → (word_at w s ≡ got u r → s ≡ w ++ r) → b ∷ s ≡ (c ∷ w) ++ r
    at true e k ih = λ i. eqb-true b c e i ∷ ih k i
    at false e k ih = not_got k

pub word_reads : (w : List ℕ) → Inverse (word_at w) (λ u. w) (λ u. [])
word_reads w = record { complete = λ u s k h. word_complete w s; sound = λ s u r h. (word_sound w s u r h, tt, refl) }

-- a number and the byte behind it, or its bracket
pub number_to_reads : (end : ℕ) → end < 48 → Inverse (number_to end) (ended end) (λ n. n ∷ [])
unfolding short
number_to_reads end low =
    record {
      complete = λ n s k h. number_complete end low n s (ltb-true n 1000000000 (both (short n) true h).0);
      sound = λ s n r h. let q = number_sound end s n r h in (q.0, tt, join (short n) true (lt-ltb n 1000000000 q.1) refl);
    }

number_reads : Inverse number_at bracketed (λ n. n ∷ [])
number_reads = number_to_reads 41 (omega arith)

-- One thing of which something is known, and then the rest of a value of which it is a part.
pub known_first : {A B : Type 0} {parse : List ℕ → Parsed A} {Part : A → Type 0} {line-a numbers-a : A → List ℕ} → Reads parse Part line-a numbers-a
    → {next : A → List ℕ → Parsed B} {Known : A → B → Type 0} {line numbers : B → List ℕ} (part : B → A)
    → ((a : A) (b : B) → Part a → Known a b → a ≡ part b) → ((a : A) → Reads (next a) (Known a) line numbers)
    → Reads (λ s. and_then (parse s) next) (λ b. Part (part b) × Known (part b) b) (λ b. line-a (part b) ++ line b) (λ b. numbers-a (part b) ++ numbers b)
known_first {A} {B} {parse} {Part} {line-a} {numbers-a} k {next} {Known} {line} {numbers} part is rest =
    record {
      complete = λ b s known h.
          let n = all_parts short (numbers-a (part b)) (numbers b) h in
          rw (append_assoc (line-a (part b)) (line b) s, k.complete (part b) (line b ++ s) known.0 n.0) ((rest (part b)).complete b s known.1 n.1);
      sound = λ s b r h.
          let q = parts (parse s) next h in
          let f = k.sound s q.value q.rest q.one in
          let g = (rest q.value).sound q.rest b r q.two in
          let e : q.value ≡ part b = is q.value b f.1 g.1 in
          let n : all short (numbers-a (part b)) ≡ true = subst (λ (a : A). all short (numbers-a a) ≡ true) e f.2 in (
            f.0 ∙ (λ i. line-a (e i) ++ g.0 i) ∙ sym (append_assoc (line-a (part b)) (line b) r),
            (subst Part e f.1, subst (λ (a : A). Known a b) e g.1),
            all_joined short (numbers-a (part b)) (numbers b) n g.2,
          );
    }

module _ {A B : Type 0} {parse : List ℕ → Parsed A} {line-a numbers-a : A → List ℕ} (k : Inverse parse line-a numbers-a) where
  pub first : {next : A → List ℕ → Parsed B} {Known : A → B → Type 0} {line numbers : B → List ℕ} (part : B → A)
      → ((a : A) (b : B) → Known a b → a ≡ part b) → ((a : A) → Reads (next a) (Known a) line numbers)
      → Reads (λ s. and_then (parse s) next) (λ b. Known (part b) b) (λ b. line-a (part b) ++ line b) (λ b. numbers-a (part b) ++ numbers b)
  first part is rest = told_as (known_first k part (λ a b u. is a b) rest) (λ x u h. ((tt, u), h)) (λ x u h. (u.1, h)) (λ x u. refl)

  -- The last thing, from which a value is made.
  pub made : {line numbers : B → List ℕ} (make : A → B) → ((a : A) → line-a a ≡ line (make a)) → ((a : A) → numbers-a a ≡ numbers (make a))
      → Reads (λ s. and_then (parse s) (λ a r. got (make a) r)) (λ b. (a : A) × (make a ≡ b)) line numbers
  made {line} {numbers} make same_line same_numbers =
      record {
        complete = λ b s known.
            subst (λ (y : B). all short (numbers y) ≡ true → and_then (parse (line y ++ s)) (λ a r. got (make a) r) ≡ got y s) known.1
            (λ h. rw (← same_line known.0, k.complete known.0 s tt (rw (same_numbers known.0) h)));
        sound = λ s b r h.
            let q = parts (parse s) (λ a r. got (make a) r) h in
            let f = k.sound s q.value q.rest q.one in
            let g = got_same q.two in
            subst (λ (y : B). (s ≡ line y ++ r) × ((a : A) × (make a ≡ y)) × (all short (numbers y) ≡ true)) g.0
            (f.0 ∙ (λ i. same_line q.value i ++ g.1 i), (q.value, refl), rw (← same_numbers q.value) f.2);
      }

-- a word and then a number, and the same with a word behind it
pub field_reads : (w : List ℕ) → Inverse (field_at w) (λ n. w ++ bracketed n) (λ n. n ∷ [])
unfolding field_at
field_reads w = whole (first (word_reads w) (λ n. tt) (λ u n known. refl) (λ u. number_reads)) (λ n. tt) (λ n. refl)

pub closed_reads : (w e : List ℕ) → Inverse (closed_at w e) (λ n. (w ++ bracketed n) ++ e) (λ n. n ∷ [])
unfolding closed_at
closed_reads w e =
    whole (first (field_reads w) (λ n. n) (λ n m known. known.1) (λ n. made (word_reads e) (λ u. n) (λ u. refl) (λ u. refl))) (λ n. (tt, refl)) (λ n. refl)

-- one thing or else another, of values whose printed forms the first does not take
pub one_of : {B : Type 0} {p q : List ℕ → Parsed B} {One Other : B → Type 0} {line numbers : B → List ℕ}
    → Reads p One line numbers → Reads q Other line numbers → ((y : B) (s : List ℕ) → Other y → p (line y ++ s) ≡ none)
    → Reads (λ s. or (p s) (q s)) (λ y. One y ⊎ Other y) line numbers
one_of {B} {p} {q} {One} {Other} {line} {numbers} j k apart = record { complete = complete; sound = λ s y r h. sound s y r (either_got (p s) (q s) h) }
  where
    complete : (y : B) (s : List ℕ) → One y ⊎ Other y → all short (numbers y) ≡ true → or (p (line y ++ s)) (q (line y ++ s)) ≡ got y s
    complete y s (inl known) h = rw (j.complete y s known h)
    complete y s (inr known) h = rw (apart y s known) (k.complete y s known h)

    sound : (s : List ℕ) (y : B) (r : List ℕ) → (p s ≡ got y r) ⊎ (q s ≡ got y r) → (s ≡ line y ++ r) × (One y ⊎ Other y) × (all short (numbers y) ≡ true)
    sound s y r (inl h) = let z = j.sound s y r h in (z.0, inl z.1, z.2)
    sound s y r (inr h) = let z = k.sound s y r h in (z.0, inr z.1, z.2)

-- the same where the other makes values that the first does not take
pub either : {A B : Type 0} {p q : List ℕ → Parsed B} {One : B → Type 0} {line numbers : B → List ℕ} (make : A → B)
    → Reads p One line numbers → Reads q (λ y. (a : A) × (make a ≡ y)) line numbers → ((a : A) (s : List ℕ) → p (line (make a) ++ s) ≡ none)
    → Reads (λ s. or (p s) (q s)) (λ y. One y ⊎ ((a : A) × (make a ≡ y))) line numbers
either {B = B} {p = p} {line = line} make j k apart = one_of j k (λ y s known. subst (λ (z : B). p (line z ++ s) ≡ none) known.1 (apart known.0 s))

-- a word that stands for a value
pub value_reads : {A : Type 0} {line numbers : A → List ℕ} (w : List ℕ) (x : A) → w ≡ line x → [] ≡ numbers x
    → Reads (value_at w x) (λ y. (u : Unit {0}) × (x ≡ y)) line numbers
unfolding value_at
value_reads w x same_line same_numbers = made (word_reads w) (λ u. x) (λ u. same_line) (λ u. same_numbers)

-- one of two words that stand for the two values of a type
pub choice_reads : {A : Type 0} {line : A → List ℕ} (v w : List ℕ) (x y : A) → v ≡ line x → w ≡ line y → ((s : List ℕ) → word_at v (w ++ s) ≡ none)
    → ((z : A) → (x ≡ z) ⊎ (y ≡ z)) → Inverse (λ s. or (value_at v x s) (value_at w y s)) line (λ z. [])
unfolding value_at
choice_reads {A} {line} v w x y e f apart every =
    whole (either (λ u. y) (value_reads v x e refl) (value_reads w y f refl) (λ u s. rw (← f, apart s))) (λ z. known (every z)) (λ z. refl)
  where
    known : {z : A} → (x ≡ z) ⊎ (y ≡ z) → ((u : Unit {0}) × (x ≡ z)) ⊎ ((u : Unit {0}) × (y ≡ z))
    known (inl q) = inl (tt, q)
    known (inr q) = inr (tt, q)
