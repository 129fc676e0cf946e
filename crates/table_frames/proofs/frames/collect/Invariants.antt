-- `table_frames::collect` meets its contract: what is left of the rows gives the whole.
use Rattle.plan_index.specs.Index.{laid}
use Rattle.table_frames.proofs.Collecting.{RowsLeft}
use Rattle.table_frames.proofs.frames.collect.Given as goal

abbrev pub invariant-loop-q : goal.invariant-loop-q
invariant-loop-q l = RowsLeft l.list l.ends (laid l.index).sender (laid l.index).size (laid l.index).processes (laid l.index).rows l.out l.n l.q
