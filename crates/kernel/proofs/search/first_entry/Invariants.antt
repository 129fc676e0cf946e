-- `kernel::first_entry` meets its contract: before turn i, what the search from i on finds is the answer.
use Rattle.std.proofs.Common.{◌≡◌, ℕ, Bool, List, drop}
use Rattle.model.specs.Table.{Entry, entries_of}
use Rattle.kernel.specs.Finding.{find_by, TestsOf}
use Rattle.kernel.proofs.search.first_entry.Given as goal

abbrev pub invariant-loop-i : goal.invariant-loop-i
invariant-loop-i g l =
    (test : Entry → Bool) (words : List ℕ) → TestsOf (goal.F-post g l.fits) l.n test words → find_by test (drop l.first (entries_of words)) l.first ≡ find_by test (drop l.i (entries_of words)) l.i
