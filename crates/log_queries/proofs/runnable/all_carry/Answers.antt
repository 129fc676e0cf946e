-- `log_queries::all_carry` meets its contract: the edges from place j on give the whole answer.
use mathlib.Core.Path.{refl, sym, ap, ◌∙◌}
use mathlib.Core.Bool.{not}
use Rattle.lists.specs.Lists.{all}
use Rattle.plan_index.specs.Index.{laid}
use Rattle.log_rows.specs.Rows.{rows_of}
use Rattle.log_queries.specs.Reading.{carries_by}
use Rattle.log_queries.specs.Queries.{may_carry}
use Rattle.log_queries.proofs.ArrayParts.{part_end, all_pass, all_fail}
use Rattle.log_queries.proofs.runnable.all_carry.Goals as goal

pub loop-j-init : goal.loop-j-init
loop-j-init c =
    refl

pub returns-then-never : goal.returns-then-never
unfolding carries_by
returns-then-never c =
    let a = c.args in
    let b = laid a.index.now in
    let test = may_carry b (rows_of a.rows.now) a.u in
    sym (c.loop-j.invariant
    ∙ all_fail b.into c.loop-j.j a.b c.loop-j-test.true test (ap test (sym c.into_of.ensures.0) ∙ ap not (sym c.never.ensures ∙ c.if-never.true)))

pub loop-j-preserved : goal.loop-j-preserved
unfolding carries_by
loop-j-preserved c =
    let a = c.args in
    let b = laid a.index.now in
    let test = may_carry b (rows_of a.rows.now) a.u in
    c.loop-j.invariant
    ∙ all_pass b.into c.loop-j.j a.b c.loop-j-test.true test (ap test (sym c.into_of.ensures.0) ∙ ap not (sym c.never.ensures ∙ c.if-never.false))

pub returns : goal.returns
returns c =
    let a = c.args in
    let b = laid a.index.now in
    sym (c.loop-j.invariant ∙ ap (all (may_carry b (rows_of a.rows.now) a.u)) (part_end b.into c.loop-j.j a.b c.loop-j-test.false))
