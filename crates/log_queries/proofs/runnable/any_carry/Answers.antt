-- `log_queries::any_carry` meets its contract: the edges from place j on give the whole answer.
use mathlib.Core.Path.{refl, sym, ap, ◌∙◌}
use mathlib.Core.Bool.{not}
use borrow.Author.Tests.{not-true, not-false}
use Rattle.lists.specs.Lists.{any}
use Rattle.plan_index.specs.Index.{laid}
use Rattle.log_rows.specs.Rows.{rows_of}
use Rattle.log_queries.specs.Reading.{carries_by}
use Rattle.log_queries.specs.Queries.{may_carry}
use Rattle.log_queries.proofs.ArrayParts.{part_end, any_pass, any_fail}
use Rattle.log_queries.proofs.runnable.any_carry.Goals as goal

pub loop-j-init : goal.loop-j-init
loop-j-init c =
    refl

pub returns-then-not-never : goal.returns-then-not-never
unfolding carries_by
returns-then-not-never c =
    let a = c.args in
    let b = laid a.index.now in
    let test = may_carry b (rows_of a.rows.now) a.u in
    sym (c.loop-j.invariant
    ∙ any_pass b.into c.loop-j.j a.b c.loop-j-test.true test (ap test (sym c.into_of.ensures.0) ∙ ap not (sym c.never.ensures ∙ not-true _ c.if-not-never.true-raw)))

pub loop-j-preserved : goal.loop-j-preserved
unfolding carries_by
loop-j-preserved c =
    let a = c.args in
    let b = laid a.index.now in
    let test = may_carry b (rows_of a.rows.now) a.u in
    c.loop-j.invariant
    ∙ any_fail b.into c.loop-j.j a.b c.loop-j-test.true test (ap test (sym c.into_of.ensures.0) ∙ ap not (sym c.never.ensures ∙ not-false _ c.if-not-never.false-raw))

pub returns : goal.returns
returns c =
    let a = c.args in
    let b = laid a.index.now in
    sym (c.loop-j.invariant ∙ ap (any (may_carry b (rows_of a.rows.now) a.u)) (part_end b.into c.loop-j.j a.b c.loop-j-test.false))
