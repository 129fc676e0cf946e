-- Refusal 13 of one entry and of a table's entries one by one: a test that holds settles the answer, and one that does
-- not leaves it to the rest.
-- Assumes nothing.
use mathlib.Core.Path.{◌≡◌, refl, sym, ap, ◌∙◌}
use mathlib.Core.Bool.{Bool, true, false, ◌||◌}
use mathlib.Core.List.{List}
use Prim.Native.Nat.{ℕ, ◌+◌, ◌≤◌}
use lib.ListN.{length, drop, drop_of_length-le}
use Rattle.lists.specs.Lists.{any}
use Rattle.model.specs.Table.{Entry, entries_of}
use Rattle.checker_rows.specs.MetRows.{entry_from}
use Rattle.checker_rows.proofs.TableWords.{entries_next}

-- Tests of an entry, one after another, none of which holds: what stands behind them says what all say. `from` is the
-- state before the first.
pub record Passed (S : Type 0) : Type 0 where
  pub from : S
  pub all : Bool → Bool
  pub behind : (b : Bool) → b ≡ all b

abbrev pub none_yet : {S : Type 0} → S → Passed S
none_yet s = record { from = s; all = λ b. b; behind = λ b. refl }

abbrev pub pass : {S : Type 0} {a : Bool} → Passed S → a ≡ false → Passed S
pass {a = a} q e = record { from = q.from; all = λ b. q.all (a || b); behind = λ b. ap (λ (x : Bool). x || b) (sym e) ∙ q.behind (a || b) }

pub settles : {S : Type 0} {a : Bool} (q : Passed S) (b : Bool) → a ≡ true → true ≡ q.all (a || b)
settles {a = a} q b e = ap (λ (x : Bool). x || b) (sym e) ∙ q.behind (a || b)

-- what the entries from a place on say is what all of them say
module _ (f : Entry → Bool) (words : List ℕ) where
  abbrev pub Rest : ℕ → Type 0
  Rest at = any f (entries_of words) ≡ any f (entries_of (drop at words))

  pub rest_next : (at : ℕ) → at + 5 ≤ length words → f (entry_from words at) ≡ false → Rest at → Rest (at + 5)
  rest_next at l e h = h ∙ ap (any f) (entries_next words at l) ∙ rw e

  pub rest_found : (at : ℕ) → at + 5 ≤ length words → f (entry_from words at) ≡ true → Rest at → true ≡ any f (entries_of words)
  rest_found at l e h = sym (h ∙ ap (any f) (entries_next words at l) ∙ rw e)

  pub rest_none : (at : ℕ) → length words ≤ at → Rest at → false ≡ any f (entries_of words)
  rest_none at l h = sym (h ∙ ap (λ (ws : List ℕ). any f (entries_of ws)) (drop_of_length-le words l))
