-- `c_plan::put_plan` meets its contract: the planner is lent as many words as the lent bytes hold, and no more than a
-- table or a frame list can have.
use mathlib.Core.Path.{sym, ap, ◌∙◌}
use native.Mathlib.Omega.{arith}
use lib.Seq.{length-take-le}
use Rattle.model.specs.Table.{plan_answer}
use Rattle.plan.specs.Memory.{lines}
use Rattle.c_words.proofs.Room.{entry_room}
use Rattle.c_plan.specs.Filled.{put_of}
use Rattle.c_plan.proofs.Putting.{filled_so}
use Rattle.c_plan.proofs.Lending.{more_words, lent_words, lent_enough}
use Rattle.c_plan.proofs.table.put_plan.Goals as goal

pub slice_bounds-put_planned-end : goal.slice_bounds-put_planned-end
slice_bounds-put_planned-end c =
    sym (length-take-le _ _ (omega (arith, c.min-count.ensures, entry_room c.entry_words-words.ensures)))

pub slice_bounds-put_planned-end-2 : goal.slice_bounds-put_planned-end-2
slice_bounds-put_planned-end-2 c =
    sym (length-take-le _ _ (omega (arith, c.min-framecount.ensures, c.frame_words-framewords.ensures)))

pub put_planned-requires : goal.put_planned-requires
put_planned-requires c =
    let a = c.args in
    let t = lent_words _ a.table.now _ _ _ _ (entry_room c.entry_words-words.ensures) (omega arith) c.min-count.ensures c.how_many.ensures in
    let f = lent_words _ a.frames.now _ _ _ _ c.frame_words-framewords.ensures (omega arith) c.min-framecount.ensures c.how_many-2.ensures in
    record { fact_1 = lent_enough _ a.table.now _ 63360 (omega arith) t; fact_2 = lent_enough _ a.frames.now _ 25728 (omega arith) f }

pub returns : goal.returns
returns c =
    let a = c.args in
    let t = lent_words _ a.table.now _ _ _ _ (entry_room c.entry_words-words.ensures) (omega arith) c.min-count.ensures c.how_many.ensures in
    let f = lent_words _ a.frames.now _ _ _ _ c.frame_words-framewords.ensures (omega arith) c.min-framecount.ensures c.how_many-2.ensures in
    let e = (λ i. plan_answer (lines a.p) (t i) (f i)) ∙ more_words (lines a.p) _ _ in
    let w = c.put_planned in
    record { answer = w.ensures.answer ∙ ap put_of e; bytes = filled_so e w.ensures.bytes }
