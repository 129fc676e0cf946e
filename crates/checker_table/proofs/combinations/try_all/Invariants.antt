-- `checker_table::try_all` meets its contract: the least and the greatest so far, with what is left, give the whole.
use mathlib.Core.Bool.{true}
use Rattle.lists.proofs.Greatest.{Most}
use Rattle.plan_index.specs.Index.{laid}
use Rattle.checker_table.specs.Combinations.{found_by}
use Rattle.checker_table.specs.Finding.{first_number, Early}
use Rattle.checker_table.proofs.Least.{Fewest}
use Rattle.checker_table.proofs.combinations.try_all.Given as goal

abbrev pub invariant-loop-c : goal.invariant-loop-c
invariant-loop-c l =
    Early l.first × Fewest (λ k. (found_by (laid l.index) l.table k).first) l.combinations l.c (first_number l.first)
    × Most (λ k. (found_by (laid l.index) l.table k).delay) (λ k. true) l.combinations l.c l.delay
