-- A plan text and a listing text, or an input of both, checked: what the answer stands for, and what is printed for it.
-- Assumes nothing.
use Rattle.std.specs.Prelude.{ℕ, ◌≡◌, List, Result, Ok, Err, length}
use Rattle.lists.specs.Front.{front}
use Rattle.model.specs.Refusals.{nothing, refused}
use Rattle.model.specs.Refusals as m
use Rattle.model.specs.ListingText.{ChecksTexts, ChecksInput, check_prints}
use Rattle.refusals.specs.declared.Refusal.{Refusal}
use Rattle.refusals.specs.Numbers.{number_of, numbered}
use Rattle.checker_table.specs.Verdict.{answer_of}

-- the answer to two texts: the first sentence that applies, as the model has it
pub record Checks (text listing : List ℕ) (r : Result (Unit {0}) Refusal) : Type 0 where
  pub refusal : m.Refusal
  pub of_texts : ChecksTexts text listing refusal
  pub answer : numbered r ≡ answer_of refusal

-- what an answer says
abbrev pub refusal_of : Result (Unit {0}) Refusal → m.Refusal
refusal_of (Ok x) = nothing
refusal_of (Err r) = refused (number_of r)

-- what is printed for an input stands at the front of the lent bytes
pub record Prints (input before after : List ℕ) (count : ℕ) : Type 0 where
  pub refusal : m.Refusal
  pub of_input : ChecksInput input refusal
  pub counted : count ≡ length (check_prints refusal)
  pub bytes : after ≡ front (check_prints refusal) before
