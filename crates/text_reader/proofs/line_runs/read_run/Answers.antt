-- `read_run` reads lines one after another: those up to `next` are counted, and stored where there is room.
use mathlib.Core.Path.{refl}
use native.Mathlib.Omega.{arith}
use Rattle.text_reader.proofs.ChainSoFar.{put, left_out, begun, over, more}
use Rattle.text_reader.proofs.line_runs.read_run.Goals as goal
use Rattle.text_reader.proofs.line_runs.read_run.Goals.{then-count-kept, else-count-kept}

pub loop-x-init : goal.loop-x-init
loop-x-init g c = begun c.requires.within

pub line-requires : goal.line-requires
line-requires g c = c.requires.callable _ _ c.loop-x.invariant.within

pub overflow_add-count : goal.overflow_add-count
overflow_add-count g c = omega (arith, c.loop-x.invariant.few, c.loop-x.invariant.within)

pub loop-x-smaller : goal.loop-x-smaller
loop-x-smaller g c = omega (arith, c.requires.forward c.loop-x.next _ _ (_, refl, c.in-Some.ensures))

pub loop-x-preserved : goal.loop-x-preserved
loop-x-preserved g c =
    more c.loop-x.invariant c.requires.forward _ (_, refl, c.in-Some.ensures)
    (elim c.if-count-kept.branch [ then-count-kept w ↦ put (omega arith) w.kept-is | else-count-kept w ↦ left_out (omega arith) w.kept-is ])

pub returns : goal.returns
returns g c = over c.loop-x.invariant (_, refl, c.in_default.ensures)
