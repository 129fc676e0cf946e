-- `checker_inputs::misses_some` meets its contract: the edges from place j on give the whole answer.
use mathlib.Core.Path.{refl, sym, ap, ◌∙◌}
use mathlib.Core.Bool.{Bool}
use Prim.Native.Nat.{ℕ}
use Rattle.lists.specs.Lists.{any}
use Rattle.plan_index.specs.Index.{laid}
use Rattle.log_rows.specs.Rows.{rows_of}
use Rattle.log_queries.proofs.ArrayParts.{part_end, any_pass, any_fail}
use Rattle.checker_inputs.specs.Inputs.{edge_misses}
use Rattle.checker_inputs.proofs.undelivered.misses_some.Goals as goal

pub loop-j-init : goal.loop-j-init
loop-j-init c = refl

pub returns-then-misses : goal.returns-then-misses
returns-then-misses c =
    let a = c.args in
    let f : ℕ → Bool = edge_misses (laid a.index.now) (rows_of a.rows.now) a.u in
    sym (c.loop-j.invariant ∙ any_pass (laid a.index.now).into c.loop-j.j a.b c.loop-j-test.true f (ap f (sym c.into_of.ensures.0) ∙ sym c.misses.ensures ∙ c.if-misses.true))

pub loop-j-preserved : goal.loop-j-preserved
loop-j-preserved c =
    let a = c.args in
    let f : ℕ → Bool = edge_misses (laid a.index.now) (rows_of a.rows.now) a.u in
    c.loop-j.invariant ∙ any_fail (laid a.index.now).into c.loop-j.j a.b c.loop-j-test.true f (ap f (sym c.into_of.ensures.0) ∙ sym c.misses.ensures ∙ c.if-misses.false)

pub returns : goal.returns
returns c =
    let a = c.args in
    sym (c.loop-j.invariant ∙ ap (any (edge_misses (laid a.index.now) (rows_of a.rows.now) a.u)) (part_end (laid a.index.now).into c.loop-j.j a.b c.loop-j-test.false))
