-- What an answer of the reader says of the answers that it is made of.
-- Assumes nothing.
use mathlib.Core.Path.{◌≡◌, refl}
use mathlib.Core.Logic.{◌⊎◌, inl, inr}
use mathlib.Core.List.{List}
use Prim.Native.Nat.{ℕ}
use native.Mathlib.Omega.{arith}
use Rattle.model.specs.Plan.{Lines}
use Rattle.text_grammar.specs.Parse.{Parsed, none, got, and_then, or, no_lines, got_lines}

pub not_got : {A P : Type 0} {x : A} {r : List ℕ} → ◌≡◌ {A = Parsed A} none (got x r) → P
not_got h = absurd (let z : ◌≡◌ {A = ℕ} 0 1 = cc in omega arith)

pub not_lines : {P : Type 0} {p : Lines} → no_lines ≡ got_lines p → P
not_lines h = absurd (let z : ◌≡◌ {A = ℕ} 0 1 = cc in omega arith)

pub got_same : {A : Type 0} {x y : A} {r q : List ℕ} → got x r ≡ got y q → (x ≡ y) × (r ≡ q)
got_same h = (cc, cc)

pub record Parts {A B : Type 0} (p : Parsed A) (f : A → List ℕ → Parsed B) (y : B) (r : List ℕ) : Type 0 where
  pub value : A
  pub rest : List ℕ
  pub one : p ≡ got value rest
  pub two : f value rest ≡ got y r

pub parts : {A B : Type 0} (p : Parsed A) (f : A → List ℕ → Parsed B) {y : B} {r : List ℕ} → and_then p f ≡ got y r → Parts p f y r
parts none f h = not_got h
parts (got x s) f h = record { value = x; rest = s; one = refl; two = h }

pub either_got : {A : Type 0} (p q : Parsed A) {x : A} {r : List ℕ} → or p q ≡ got x r → (p ≡ got x r) ⊎ (q ≡ got x r)
either_got none q h = inr h
either_got (got y s) q h = inl h
