-- A run of lines, for any kind of line: what is read is the printed lines, and all of them, up to where no such line
-- stands.
-- Assumes nothing.
use mathlib.Core.Path.{◌≡◌, refl, ap, sym, subst, ◌∙◌}
use mathlib.Core.Bool.{true}
use mathlib.Core.List.{List, [], ◌∷◌, ◌++◌, append_assoc}
use Prim.Native.Nat.{ℕ, zero, suc, ◌≤◌, ◌<◌}
use native.Mathlib.Omega.{arith}
use lib.ListN.{length, length-append}
use Rattle.lists.specs.Lists.{all, each}
use Rattle.lists.proofs.Members.{all_parts, all_joined}
use Rattle.model.specs.Text.{short}
use Rattle.text_grammar.specs.Parse.{Parsed, none, got, and_then, run_in, run_at}
use Rattle.text_grammar.proofs.Parsed.{not_got, got_same, parts}
use Rattle.text_grammar.proofs.Inverse.{Reads}

-- something is known of every value of a list
abbrev pub Every : {A : Type 0} → (A → Type 0) → List A → Type 0
Every Known [] = Unit {0}
Every Known (x ∷ xs) = Known x × Every Known xs

pub every : {A : Type 0} (xs : List A) → Every (λ x. Unit {0}) xs
every [] = tt
every (x ∷ xs) = (tt, every xs)

module _ {A : Type 0} {parse : List ℕ → Parsed A} {Known : A → Type 0} {line numbers : A → List ℕ} (k : Reads parse Known line numbers) (ends : parse [] ≡ none) where
  -- a line is not empty
  pub shorter : (s : List ℕ) (x : A) (r : List ℕ) → parse s ≡ got x r → length r < length s
  shorter s x r h = at (line x) refl
    where
      at : (l : List ℕ) → line x ≡ l → length r < length s
      at [] e =
          let q : parse (line x ++ []) ≡ got x [] = k.complete x [] (k.sound s x r h).1 (k.sound s x r h).2 in
          not_got (sym ends ∙ ap (λ (l : List ℕ). parse (l ++ [])) (sym e) ∙ q)
      at (c ∷ l) e =
          let q : length s ≡ length ((c ∷ l) ++ r) = ap length ((k.sound s x r h).0 ∙ ap (λ z. z ++ r) e) in
          omega (arith, length-append (c ∷ l) r)

  over_in : (n : ℕ) (s : List ℕ) → parse s ≡ none → run_in parse n s ≡ got [] s
  unfolding run_in
  over_in zero s h = refl
  over_in (suc n) s h = rw h

  more_in : (n : ℕ) (s : List ℕ) (x : A) (r : List ℕ) → parse s ≡ got x r → run_in parse (suc n) s ≡ and_then (run_in parse n r) (λ xs q. got (x ∷ xs) q)
  unfolding run_in
  more_in n s x r h = rw h

  -- the bound does not matter
  bound : (n m : ℕ) (s : List ℕ) → length s ≤ n → length s ≤ m → run_in parse n s ≡ run_in parse m s
  bound zero m [] u v = over_in zero [] ends ∙ sym (over_in m [] ends)
  bound zero m (b ∷ s) u v = absurd (omega arith)
  bound (suc n) zero [] u v = over_in (suc n) [] ends ∙ sym (over_in zero [] ends)
  bound (suc n) zero (b ∷ s) u v = absurd (omega arith)
  bound (suc n) (suc m) s u v = at (parse s) refl (bound n m)
    where
      at : (q : Parsed A) → parse s ≡ q → ((r : List ℕ) → length r ≤ n → length r ≤ m → run_in parse n r ≡ run_in parse m r)
          → run_in parse (suc n) s ≡ run_in parse (suc m) s
      at none e ih = over_in (suc n) s e ∙ sym (over_in (suc m) s e)
      at (got x r) e ih =
          let l = shorter s x r e in
          more_in n s x r e ∙ rw (ih r (omega arith) (omega arith)) (sym (more_in m s x r e))

  -- where no such line stands the run is over, and where one stands it goes on behind it
  pub run_over : (s : List ℕ) → parse s ≡ none → run_at parse s ≡ got [] s
  unfolding run_at
  run_over s h = over_in (length s) s h

  pub run_more : (s : List ℕ) (x : A) (r : List ℕ) → parse s ≡ got x r → run_at parse s ≡ and_then (run_at parse r) (λ xs q. got (x ∷ xs) q)
  unfolding run_at
  run_more [] x r h = not_got (sym ends ∙ h)
  run_more (b ∷ s) x r h =
      let l = shorter (b ∷ s) x r h in
      more_in (length s) (b ∷ s) x r h ∙ rw (bound (length s) (length r) r (omega arith) (omega arith))

  pub run_complete : (xs : List A) (s : List ℕ) → Every Known xs → all short (each numbers xs) ≡ true → parse s ≡ none → run_at parse (each line xs ++ s) ≡ got xs s
  run_complete [] s u h o = run_over s o
  run_complete (x ∷ xs) s u h o =
      let n = all_parts short (numbers x) (each numbers xs) h in
      let l : List ℕ = each line xs ++ s in
      rw (append_assoc (line x) (each line xs) s, run_more (line x ++ l) x l (k.complete x l u.0 n.0), run_complete xs s u.1 n.1 o)

  abbrev Took : List ℕ → List A → List ℕ → Type 0
  Took s xs r = (s ≡ each line xs ++ r) × Every Known xs × (all short (each numbers xs) ≡ true)

  took : (s : List ℕ) (ys xs : List A) (q r : List ℕ) → got ys q ≡ got xs r → Took s ys q → Took s xs r
  took s ys xs q r h t = let z = got_same h in subst (λ (u : List A). Took s u r) z.0 (subst (λ (u : List ℕ). Took s ys u) z.1 t)

  sound_in : (n : ℕ) (s : List ℕ) (xs : List A) (r : List ℕ) → run_in parse n s ≡ got xs r → Took s xs r
  unfolding run_in
  sound_in zero s xs r h = took s [] xs s r h (refl, tt, refl)
  sound_in (suc n) s xs r h = at (parse s) refl (sound_in n)
    where
      at : (q : Parsed A) → parse s ≡ q → ((r : List ℕ) (ys : List A) (q : List ℕ) → run_in parse n r ≡ got ys q → Took r ys q) → Took s xs r
      at none e ih = took s [] xs s r (sym (over_in (suc n) s e) ∙ h) (refl, tt, refl)
      at (got x q) e ih =
          let m = parts (run_in parse n q) (λ ys t. got (x ∷ ys) t) (sym (more_in n s x q e) ∙ h) in
          let a = k.sound s x q e in
          let b = ih q m.value m.rest m.one in
          took s (x ∷ m.value) xs m.rest r m.two (
            a.0 ∙ ap (λ l. line x ++ l) b.0 ∙ sym (append_assoc (line x) (each line m.value) m.rest),
            (a.1, b.1),
            all_joined short (numbers x) (each numbers m.value) a.2 b.2,
          )

  pub run_sound : (s : List ℕ) (xs : List A) (r : List ℕ) → run_at parse s ≡ got xs r → Took s xs r
  unfolding run_at
  run_sound s xs r h = sound_in (length s) s xs r h
