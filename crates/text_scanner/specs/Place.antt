-- What is found at a position of the text, as the answers of the code say it: a value and the position behind it, or
-- nothing.
-- Assumes nothing.
use Rattle.std.specs.Prelude.{ℕ, ◌≤◌, ◌≡◌, List, length, drop, Option, None, Some}
use Rattle.text_grammar.specs.Parse.{Parsed, none, got}

pub data Place (A : Type 0) : Type 0 where
  nowhere : Place A
  found : A → ℕ → Place A

-- the same with the rest of the text for the position
abbrev pub seen : {A : Type 0} → List ℕ → Place A → Parsed A
seen text nowhere = none
seen text (found x i) = got x (drop i text)

-- the position is within the text
abbrev pub Within : {A : Type 0} → List ℕ → Place A → Type 0
Within text nowhere = Unit {0}
Within text (found x i) = i ≤ length text

-- What is found is what the grammar reads.
pub record Scanned {A : Type 0} (text : List ℕ) (r : Place A) (p : Parsed A) : Type 0 where
  pub within : Within text r
  pub same : seen text r ≡ p

-- what an answer stands for: of a position alone; of a value, seen as one of the model, with a position; of a number
abbrev pub next : Option ℕ → Place (Unit {0})
next None = nowhere
next (Some i) = found tt i

abbrev pub placed : {A B : Type 0} → (A → B) → Option (A × ℕ) → Place B
placed view None = nowhere
placed view (Some r) = found (view r.0) r.1

abbrev pub number : Option (ℕ × ℕ) → Place ℕ
number r = placed (λ n. n) r
