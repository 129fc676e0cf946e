-- `planner_combination::note_one` meets its contract: the counts are noted where the test says so, and nothing changes
-- elsewhere.
use mathlib.Core.Path.{sym, ◌∙◌}
use borrow.Author.Tests.{eq-eqb, ne_eqb}
use Rattle.planner_combination.proofs.event.note_one.Goals as goal

pub returns-then-comes_of-u : goal.returns-then-comes_of-u
returns-then-comes_of-u c =
    let q = eq-eqb _ _ (sym c.comes_of.ensures ∙ c.if-comes_of-u.true) in
    rw q c.note_counts.ensures

pub returns-else-comes_of-u : goal.returns-else-comes_of-u
returns-else-comes_of-u c =
    let q = ne_eqb _ _ (λ e. c.if-comes_of-u.false (c.comes_of.ensures ∙ e)) in
    rw q
