-- `checker_rows::miscounts` meets its contract: what is left gives the whole answer.
use mathlib.Core.Path.{sym, ap}
use mathlib.Core.Bool.{not}
use borrow.Author.Tests.{eq-eqb, ne_eqb}
use Rattle.lists.proofs.Loops.{left_start, left_next, left_found, left_none}
use Rattle.checker_rows.specs.Due.{differs_at, miscounted_by}
use borrow.Author.Rules.{rules}
use Rattle.checker_rows.proofs.met.miscounts.Goals as goal

pub loop-r-init : goal.loop-r-init
loop-r-init c = let a = c.args in (search rules, left_start (differs_at a.count.now a.due.now) a.rows)

pub returns-then-count-r : goal.returns-then-count-r
unfolding differs_at miscounted_by
returns-then-count-r c =
    let a = c.args in
    sym (left_found (differs_at a.count.now a.due.now) a.rows c.loop-r.r (search rules) (ap not (ne_eqb _ _ c.if-count-r.true)) c.loop-r.invariant.1)

pub loop-r-preserved : goal.loop-r-preserved
unfolding differs_at
loop-r-preserved c =
    let a = c.args in
    (search rules, left_next (differs_at a.count.now a.due.now) a.rows c.loop-r.r (search rules) (ap not (eq-eqb _ _ c.if-count-r.false)) c.loop-r.invariant.1)

pub returns : goal.returns
unfolding miscounted_by
returns c =
    let a = c.args in
    sym (left_none (differs_at a.count.now a.due.now) a.rows c.loop-r.r (search rules) c.loop-r.invariant.1)
