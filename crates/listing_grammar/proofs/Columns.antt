-- The reader of columns takes exactly the printed columns.
-- Assumes nothing.
use Rattle.std.specs.Prelude.{if◌then◌else◌}
use mathlib.Core.Path.{◌≡◌, refl, ap, sym, subst, ◌∙◌}
use mathlib.Core.Bool.{Bool, true, false}
use mathlib.Core.Logic.{◌⊎◌, inl, inr}
use mathlib.Core.List.{List, [], ◌∷◌, ◌++◌, append_assoc}
use Prim.Native.Nat.{ℕ, zero, suc, ◌+◌, ◌*◌, ◌/◌, ◌%◌, ◌≤◌, ◌<◌}
use native.Mathlib.Omega.{arith}
use borrow.Author.Tests.{eqb-true, eqb-false, ne_eqb, eq-eqb, lt-ltb}
use lib.Dec.{eqb}
use Rattle.lists.specs.Lists.{all}
use Rattle.lists.proofs.Tests.{two, join}
use Rattle.model.specs.Text.{text, short}
use Rattle.text_lines.specs.Label.{labelled}
use Rattle.text_grammar.specs.Parse.{Parsed, none, got, if_got, and_then, word_at, field_at, value_at}
use Rattle.text_grammar.proofs.Parsed.{not_got, got_same, parts}
use Rattle.text_grammar.proofs.Inverse.{Reads, word_reads, field_reads}
use Rattle.listing_count.specs.Parts.{value_at as value_text, values_from}
use Rattle.listing_count.proofs.Cases.{value_none, value_false, value_true}
use Rattle.listing_grammar.specs.Parse.{Column, no_column, unnamed, named, name_at, column_from, column_at}

-- n conditions have these known bits, with these values
abbrev pub Fits : ℕ → ℕ → ℕ → Type 0
Fits zero known values = (known ≡ 0) × (values ≡ 0)
Fits (suc n) known values = (values % 2 ≤ known % 2) × Fits n (known / 2) (values / 2)

-- The words by which condition k is named, true or false. One decimal digit tells conditions apart.
abbrev true_word : ℕ → List ℕ
true_word k = labelled " (true " k ++ text ")"

abbrev false_word : ℕ → List ℕ
false_word k = labelled " (false " k ++ text ")"

one_short : (k : ℕ) → k < 10 → all short (k ∷ []) ≡ true
unfolding short
one_short k l = join (short k) true (lt-ltb k 1000000000 (omega arith)) refl

abbrev read_true : List ℕ → Parsed ℕ
read_true s = field_at (text " (true ") s

abbrev read_false : List ℕ → Parsed ℕ
read_false s = field_at (text " (false ") s

true_first : (j : ℕ) → j < 10 → (s : List ℕ) → read_true (true_word j ++ s) ≡ got j s
true_first j l s = (field_reads (text " (true ")).complete j s tt (one_short j l)

false_first : (j : ℕ) → j < 10 → (s : List ℕ) → read_false (false_word j ++ s) ≡ got j s
false_first j l s = (field_reads (text " (false ")).complete j s tt (one_short j l)

false_not_true : (j : ℕ) (s : List ℕ) → read_true (false_word j ++ s) ≡ none
unfolding field_at word_at
false_not_true j s = refl

-- condition k is not named by the bracket behind the conditions, nor by another condition
not_end : (k : ℕ) (s : List ℕ) → name_at k (text ")" ++ s) ≡ none
unfolding name_at field_at word_at
not_end k s = refl

module _ (k j : ℕ) (m : j < 10) (d : j ≡ k → ⊥) where
  not-true : (s : List ℕ) → name_at k (true_word j ++ s) ≡ none
  unfolding name_at
  not-true s = rw (true_first j m s, ne_eqb j k d)

  not-false : (s : List ℕ) → name_at k (false_word j ++ s) ≡ none
  unfolding name_at
  not-false s = rw (false_not_true j s, false_first j m s, ne_eqb j k d)

-- condition k is named by its own words, and by no others
module _ (k : ℕ) (l : k < 10) where
  is_true : (s : List ℕ) → name_at k (true_word k ++ s) ≡ got 1 s
  unfolding name_at
  is_true s = rw (true_first k l s, eq-eqb k k refl)

  is_false : (s : List ℕ) → name_at k (false_word k ++ s) ≡ got 0 s
  unfolding name_at
  is_false s = rw (false_not_true k s, false_first k l s, eq-eqb k k refl)

pub name_sound : (k : ℕ) (s : List ℕ) (v : ℕ) (r : List ℕ) → name_at k s ≡ got v r → ((v ≡ 1) × (s ≡ true_word k ++ r)) ⊎ ((v ≡ 0) × (s ≡ false_word k ++ r))
unfolding name_at
name_sound k s v r h = at (read_true s) refl (read_false s) refl h
  where
    own : (n m : ℕ) (q : List ℕ) (b : Bool) → eqb n k ≡ b → (if b then got m q else none) ≡ got v r → (n ≡ k) × (v ≡ m) × (q ≡ r)
    own n m q true e z = let g = got_same z in (eqb-true _ _ e, sym g.0, g.1)
    own n m q false e z = not_got z

    at : (x : Parsed ℕ) → read_true s ≡ x → (y : Parsed ℕ) → read_false s ≡ y
        → if_got x (λ n r. if eqb n k then got 1 r else none) (and_then y (λ n r. if eqb n k then got 0 r else none)) ≡ got v r
        → ((v ≡ 1) × (s ≡ true_word k ++ r)) ⊎ ((v ≡ 0) × (s ≡ false_word k ++ r))
    at (got n q) e y f z =
        let o = own n 1 q (eqb n k) refl z in
        inl (o.1, ((field_reads (text " (true ")).sound s n q e).0 ∙ (λ i. true_word (o.0 i) ++ o.2 i))
    at none e (got n q) f z =
        let o = own n 0 q (eqb n k) refl z in
        inr (o.1, ((field_reads (text " (false ")).sound s n q f).0 ∙ (λ i. false_word (o.0 i) ++ o.2 i))
    at none e none f z = not_got z

-- Which of its three texts a condition has, by the lowest bits.
data Text (known values k : ℕ) : Type 0 where
  none_there : known % 2 ≡ 0 → value_text known values k ≡ [] → Text known values k
  false_there : known % 2 ≡ 1 → values % 2 ≡ 0 → value_text known values k ≡ false_word k → Text known values k
  true_there : known % 2 ≡ 1 → values % 2 ≡ 1 → value_text known values k ≡ true_word k → Text known values k

which : (known values k : ℕ) → Text known values k
which known values k = at (two (eqb (known % 2) 0)) (two (eqb (values % 2) 0))
  where
    at : (eqb (known % 2) 0 ≡ true) ⊎ (eqb (known % 2) 0 ≡ false) → (eqb (values % 2) 0 ≡ true) ⊎ (eqb (values % 2) 0 ≡ false) → Text known values k
    at (inl e) d = let q = eqb-true _ _ e in none_there q (value_none known values k q)
    at (inr e) (inl d) =
        let q : known % 2 ≡ 0 → ⊥ = eqb-false _ _ e in
        false_there (omega arith) (eqb-true _ _ d) (value_false known values k q (eqb-true _ _ d))
    at (inr e) (inr d) =
        let q : known % 2 ≡ 0 → ⊥ = eqb-false _ _ e in
        let u : values % 2 ≡ 0 → ⊥ = eqb-false _ _ d in
        true_there (omega arith) (omega arith) (value_true known values k q u)

-- the conditions from k on and the bracket behind them
abbrev pub column_text : ℕ → ℕ → ℕ → ℕ → List ℕ
column_text n k known values = values_from n known values k ++ text ")"

more_text : (n k known values : ℕ) (w : List ℕ) → value_text known values k ≡ w → (s : List ℕ)
    → column_text (suc n) k known values ++ s ≡ w ++ (column_text n (suc k) (known / 2) (values / 2) ++ s)
unfolding values_from
more_text n k known values w e s =
    rw (e, append_assoc w (values_from n (known / 2) (values / 2) (suc k)) (text ")"), append_assoc w (column_text n (suc k) (known / 2) (values / 2)) s)

-- conditions above k do not name it
absent : (n j k known values : ℕ) → k < j → j + n ≤ 10 → (s : List ℕ) → name_at k (column_text n j known values ++ s) ≡ none
unfolding values_from
absent zero j k known values l m s = not_end k s
absent (suc n) j k known values l m s = at (which known values j) (absent n (suc j) k (known / 2) (values / 2) (omega arith) (omega arith) s)
  where
    rest : List ℕ
    rest = column_text n (suc j) (known / 2) (values / 2) ++ s

    at : Text known values j → name_at k rest ≡ none → name_at k (column_text (suc n) j known values ++ s) ≡ none
    at (none_there a e) ih = ap (name_at k) (more_text n j known values [] e s) ∙ ih
    at (false_there a b e) ih = ap (name_at k) (more_text n j known values (false_word j) e s) ∙ not-false k j (omega arith) (λ q. omega arith) rest
    at (true_there a b e) ih = ap (name_at k) (more_text n j known values (true_word j) e s) ∙ not-true k j (omega arith) (λ q. omega arith) rest

module _ (n k : ℕ) (s : List ℕ) where
  pub from_unnamed : name_at k s ≡ none → column_from k (suc n) s ≡ and_then (column_from (suc k) n s) (λ c r. got (unnamed c) r)
  unfolding column_from
  from_unnamed e = rw (e, column_from)

  pub from_named : (v : ℕ) (q : List ℕ) → name_at k s ≡ got v q → column_from k (suc n) s ≡ and_then (column_from (suc k) n q) (λ c r. got (named v c) r)
  unfolding column_from
  from_named v q e = rw (e, column_from)

column_complete : (n k known values : ℕ) → k + n ≤ 10 → Fits n known values → (s : List ℕ)
    → column_from k n (column_text n k known values ++ s) ≡ got (record { known = known; values = values }) s
unfolding column_from values_from value_at
column_complete zero k known values l f s = rw ((word_reads (text ")")).complete tt s tt refl, f.0, f.1)
column_complete (suc n) k known values l f s = at (which known values k) (column_complete n (suc k) (known / 2) (values / 2) (omega arith) f.1 s)
  where
    rest : List ℕ
    rest = column_text n (suc k) (known / 2) (values / 2) ++ s

    half : Column
    half = record { known = known / 2; values = values / 2 }

    at : Text known values k → column_from (suc k) n rest ≡ got half s → column_from k (suc n) (column_text (suc n) k known values ++ s) ≡ got (record { known = known; values = values }) s
    at (none_there a e) ih =
        let u : 2 * (known / 2) ≡ known = omega arith in
        let v : 2 * (values / 2) ≡ values = let w = f.0 in omega arith in
        ap (column_from k (suc n)) (more_text n k known values [] e s)
        ∙ from_unnamed n k rest (absent n (suc k) k (known / 2) (values / 2) (omega arith) (omega arith) s)
        ∙ ap (λ (x : Parsed Column). and_then x (λ c r. got (unnamed c) r)) ih
        ∙ (λ i. got (record { known = u i; values = v i }) s)
    at (false_there a b e) ih =
        let u : 1 + 2 * (known / 2) ≡ known = omega arith in
        let v : 0 + 2 * (values / 2) ≡ values = omega arith in
        ap (column_from k (suc n)) (more_text n k known values (false_word k) e s)
        ∙ from_named n k (false_word k ++ rest) 0 rest (is_false k (omega arith) rest)
        ∙ ap (λ (x : Parsed Column). and_then x (λ c r. got (named 0 c) r)) ih
        ∙ (λ i. got (record { known = u i; values = v i }) s)
    at (true_there a b e) ih =
        let u : 1 + 2 * (known / 2) ≡ known = omega arith in
        let v : 1 + 2 * (values / 2) ≡ values = omega arith in
        ap (column_from k (suc n)) (more_text n k known values (true_word k) e s)
        ∙ from_named n k (true_word k ++ rest) 1 rest (is_true k (omega arith) rest)
        ∙ ap (λ (x : Parsed Column). and_then x (λ c r. got (named 1 c) r)) ih
        ∙ (λ i. got (record { known = u i; values = v i }) s)

abbrev Taken : ℕ → ℕ → List ℕ → Column → List ℕ → Type 0
Taken n k s c r = (s ≡ column_text n k c.known c.values ++ r) × Fits n c.known c.values

column_sound : (n k : ℕ) (s : List ℕ) (c : Column) (r : List ℕ) → column_from k n s ≡ got c r → Taken n k s c r
unfolding column_from values_from value_at value_text
column_sound zero k s c r h =
    let q = parts (word_at (text ")") s) (λ u r. got no_column r) h in
    let g = got_same q.two in
    subst (λ (z : Column). Taken zero k s z r) g.0
    (((word_reads (text ")")).sound s q.value q.rest q.one).0 ∙ ap (λ t. text ")" ++ t) g.1, (refl, refl))
column_sound (suc n) k s c r h = at (name_at k s) refl (column_sound n (suc k))
  where
    take : (w : List ℕ) (d x : Column) (q t : List ℕ) → s ≡ w ++ t → value_text d.known d.values k ≡ w → d.known / 2 ≡ x.known → d.values / 2 ≡ x.values
        → d.values % 2 ≤ d.known % 2 → got d q ≡ got c r → Taken n (suc k) t x q → Taken (suc n) k s c r
    take w d x q t e v a b o z m =
        let g = got_same z in
        subst (λ (y : Column). Taken (suc n) k s y r) g.0 (
          e ∙ ap (λ l. w ++ l) (m.0 ∙ (λ i. column_text n (suc k) (sym a i) (sym b i) ++ g.1 i)) ∙ sym (more_text n k d.known d.values w v r),
          (o, rw (a, b) m.1),
        )

    at : (y : Parsed ℕ) → name_at k s ≡ y
        → ((t : List ℕ) (x : Column) (q : List ℕ) → column_from (suc k) n t ≡ got x q → Taken n (suc k) t x q) → Taken (suc n) k s c r
    at none e ih =
        let q = parts (column_from (suc k) n s) (λ c r. got (unnamed c) r) (sym (from_unnamed n k s e) ∙ h) in
        let x = q.value in
        take [] (unnamed x) x q.rest s refl (value_none (2 * x.known) (2 * x.values) k (omega arith)) (omega arith) (omega arith) (omega arith) q.two
        (ih s x q.rest q.one)
    at (got v t) e ih =
        let q = parts (column_from (suc k) n t) (λ c r. got (named v c) r) (sym (from_named n k s v t e) ∙ h) in
        let x = q.value in
        pick (name_sound k s v t e) x q.rest q.two (ih t x q.rest q.one)
      where
        pick : ((v ≡ 1) × (s ≡ true_word k ++ t)) ⊎ ((v ≡ 0) × (s ≡ false_word k ++ t)) → (x : Column) (q : List ℕ)
            → got (named v x) q ≡ got c r → Taken n (suc k) t x q → Taken (suc n) k s c r
        pick (inl u) x q z m =
            take (true_word k) (named v x) x q t u.1
            (value_true (1 + 2 * x.known) (v + 2 * x.values) k (λ a. omega arith) (λ a. let b = u.0 in omega arith))
            (omega arith) (let b = u.0 in omega arith) (let b = u.0 in omega arith) z m
        pick (inr u) x q z m =
            take (false_word k) (named v x) x q t u.1
            (value_false (1 + 2 * x.known) (v + 2 * x.values) k (λ a. omega arith) (let b = u.0 in omega arith))
            (omega arith) (let b = u.0 in omega arith) (let b = u.0 in omega arith) z m

-- the column behind a number and its blank
abbrev pub when_text : ℕ → Column → List ℕ
when_text n c = text "(when" ++ column_text n 0 c.known c.values

pub column_reads : (n : ℕ) → n ≤ 10 → Reads (column_at n) (λ c. Fits n c.known c.values) (when_text n) (λ c. [])
unfolding column_at
column_reads n few =
    record {
      complete = λ c s f h.
          ap (column_at n) (append_assoc (text "(when") (column_text n 0 c.known c.values) s)
          ∙ rw ((word_reads (text "(when")).complete tt (column_text n 0 c.known c.values ++ s) tt refl)
          (column_complete n 0 c.known c.values (omega arith) f s);
      sound = λ s c r h.
          let q = parts (word_at (text "(when") s) (λ u r. column_from 0 n r) h in
          let m = column_sound n 0 q.rest c r q.two in (
            ((word_reads (text "(when")).sound s q.value q.rest q.one).0 ∙ ap (λ t. text "(when" ++ t) m.0
                ∙ sym (append_assoc (text "(when") (column_text n 0 c.known c.values) r),
            m.1,
            refl,
          );
    }
