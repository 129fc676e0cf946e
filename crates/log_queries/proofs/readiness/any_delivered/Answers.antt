-- `log_queries::any_delivered` meets its contract: whether one has delivered before place j, and the edges from j on,
-- give the whole answer.
use mathlib.Core.Path.{refl, sym, ap, ◌∙◌}
use mathlib.Core.Bool.{Bool}
use Rattle.log_queries.proofs.readiness.any_delivered.Goals.{then-delivered, else-delivered+else-not-never}
use Prim.Native.Nat.{◌+◌}
use borrow.Author.Tests.{not-true, not-false}
use Rattle.plan_index.specs.Index.{laid}
use Rattle.log_rows.specs.Rows.{rows_of}
use Rattle.log_queries.specs.Reading.{settled_by}
use Rattle.log_queries.specs.Queries.{edges_at, has_delivered, never_delivers}
use Rattle.log_queries.proofs.ArrayParts.{settled, settled_yes, settled_no, settled_waits, settled_end}
use Rattle.log_queries.proofs.readiness.any_delivered.Goals as goal

pub loop-j-init : goal.loop-j-init
unfolding settled_by
loop-j-init c =
    refl

pub returns-then-not-never : goal.returns-then-not-never
returns-then-not-never c =
    let a = c.args in
    let b = laid a.index.now in
    let f = has_delivered b (rows_of a.rows.now) a.u in
    let g = never_delivers b (rows_of a.rows.now) a.u in
    let same = sym c.into_of-e.ensures.0 in
    sym (c.loop-j.invariant
    ∙ settled_waits b.into c.loop-j.j a.b c.loop-j-test.true f g c.loop-j.some (ap f same ∙ sym c.delivered.ensures ∙ c.if-delivered.false) (ap g same ∙ sym c.never.ensures ∙ not-true _ c.if-not-never.true-raw))

pub loop-j-preserved : goal.loop-j-preserved
loop-j-preserved c =
    let a = c.args in
    let b = laid a.index.now in
    let f = has_delivered b (rows_of a.rows.now) a.u in
    let g = never_delivers b (rows_of a.rows.now) a.u in
    let h = c.loop-j-test.true in
    let same = sym c.into_of-e.ensures.0 in
    let after : Bool → Bool = λ s. settled f g s (edges_at b (c.loop-j.j + 1) a.b) in
    c.loop-j.invariant
    ∙ elim c.if-delivered.branch [
      | then-delivered w ↦ settled_yes b.into c.loop-j.j a.b h f g c.loop-j.some (ap f same ∙ sym c.delivered.ensures ∙ w.if-delivered.true) ∙ ap after (sym w.some-is)
      | else-delivered+else-not-never w ↦ settled_no b.into c.loop-j.j a.b h f g c.loop-j.some (ap f same ∙ sym c.delivered.ensures ∙ w.if-delivered.false) (ap g same ∙ sym w.never.ensures ∙ not-false _ w.if-not-never.false-raw) ∙ ap after (sym w.some-is)
    ]

pub returns : goal.returns
returns c =
    let a = c.args in
    let b = laid a.index.now in
    let f = has_delivered b (rows_of a.rows.now) a.u in
    let g = never_delivers b (rows_of a.rows.now) a.u in
    sym (c.loop-j.invariant ∙ settled_end b.into c.loop-j.j a.b f g c.loop-j.some c.loop-j-test.false)
