-- `log_queries::all_delivered` meets its contract: the edges from place j on give the whole answer.
use mathlib.Core.Path.{refl, sym, ap, ◌∙◌}
use borrow.Author.Tests.{not-true, not-false}
use Rattle.lists.specs.Lists.{all}
use Rattle.plan_index.specs.Index.{laid}
use Rattle.log_rows.specs.Rows.{rows_of}
use Rattle.log_queries.specs.Queries.{has_delivered}
use Rattle.log_queries.proofs.ArrayParts.{part_end, all_pass, all_fail}
use Rattle.log_queries.proofs.readiness.all_delivered.Goals as goal

pub loop-j-init : goal.loop-j-init
loop-j-init c =
    refl

pub returns-then-not-delivered : goal.returns-then-not-delivered
returns-then-not-delivered c =
    let a = c.args in
    let b = laid a.index.now in
    let test = has_delivered b (rows_of a.rows.now) a.u in
    sym (c.loop-j.invariant
    ∙ all_fail b.into c.loop-j.j a.b c.loop-j-test.true test (ap test (sym c.into_of.ensures.0) ∙ sym c.delivered.ensures ∙ not-true _ c.if-not-delivered.true-raw))

pub loop-j-preserved : goal.loop-j-preserved
loop-j-preserved c =
    let a = c.args in
    let b = laid a.index.now in
    let test = has_delivered b (rows_of a.rows.now) a.u in
    c.loop-j.invariant
    ∙ all_pass b.into c.loop-j.j a.b c.loop-j-test.true test (ap test (sym c.into_of.ensures.0) ∙ sym c.delivered.ensures ∙ not-false _ c.if-not-delivered.false-raw)

pub returns : goal.returns
returns c =
    let a = c.args in
    let b = laid a.index.now in
    sym (c.loop-j.invariant ∙ ap (all (has_delivered b (rows_of a.rows.now) a.u)) (part_end b.into c.loop-j.j a.b c.loop-j-test.false))
