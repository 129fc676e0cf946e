-- `table_frames::collect` meets its contract: what is left of the rows gives the whole.
use mathlib.Core.Path.{sym, subst, transport}
use mathlib.Core.List.{map}
use Prim.Native.Nat.{◌+◌, ◌-◌, ◌<◌}
use native.Mathlib.Omega.{arith}
use lib.ListN.{take}
use lib.Seq.{slice}
use Rattle.plan_index.specs.Index.{laid}
use Rattle.table_frames.specs.Packed.{entry_frame, Collected}
use Rattle.table_frames.proofs.Collecting.{RowsLeft, row_within, rows_left_start, rows_left_next, rows_left_end}
use Rattle.table_frames.proofs.frames.collect.Goals as goal
use Rattle.table_frames.proofs.frames.collect.Goals.{In-loop-q}

-- the row of a turn is one of the plan's
within : (i : In-loop-q) → i.loop-q.q < (laid (i.before.before.before.before).args.index.now).rows
within i = omega (arith, i.loop-q-test.true, i.rows_of-rows.ensures.0)

small : (i : In-loop-q) → i.loop-q.q < 198
small i = omega (arith, i.loop-q-test.true, i.rows_of-rows.ensures.1)

pub loop-q-init : goal.loop-q-init
loop-q-init c =
    let a = c.args in
    let b = laid a.index.now in
    subst (RowsLeft a.list.now a.ends.now b.sender b.size b.processes b.rows a.out.now 0) (sym c.processes_of-q.ensures.0)
    (rows_left_start a.list.now a.ends.now b.sender b.size b.processes b.rows c.requires.2 a.out.now c.requires.1)

pub offset_bounds-ends-q : goal.offset_bounds-ends-q
offset_bounds-ends-q c = omega (arith, small c)

pub bounds-ends-q : goal.bounds-ends-q
bounds-ends-q c = omega (arith, small c.before.before)

pub overflow_add-q : goal.overflow_add-q
overflow_add-q c = omega (arith, small c.before.before.before.before)

pub offset_bounds-ends-q-in-loop-q : goal.offset_bounds-ends-q-in-loop-q
offset_bounds-ends-q-in-loop-q c = omega (arith, small c.before.before.before.before)

pub bounds-ends-q-in-loop-q : goal.bounds-ends-q-in-loop-q
bounds-ends-q-in-loop-q c = omega (arith, small c.before.before.before.before)

pub sender_of-node-requires : goal.sender_of-node-requires
sender_of-node-requires c = (small c.before.before.before.before.before.before, (c.before.before.before.before.before.before.before.before.before.before).requires.0)

pub overflow_cast-node : goal.overflow_cast-node
overflow_cast-node c = omega (arith, c.sender_of-node.ensures.1)

pub size_of-requires : goal.size_of-requires
size_of-requires c = (small c.before.before.before.before.before.before.before, (c.before.before.before.before.before.before.before.before.before.before.before).requires.0)

pub collect_row-n-requires : goal.collect_row-n-requires
collect_row-n-requires c =
    let a = (c.before.before.before.before.before.before.before.before.before.before.before.before.before).args in
    let b = laid a.index.now in
    let r = (c.before.before.before.before.before.before.before.before.before.before.before.before.before).requires.2 in
    let v = c.loop-q.invariant in
    let u = row_within a.list.now a.ends.now b.sender b.size b.processes b.rows r c.loop-q.q v.from (within c.before.before.before.before.before.before.before.before.before) in
    let x = c.wide-to.ensures in
    let y = c.wide-from.ensures in
    let few = v.few in
    (omega (arith, u, x, y), omega (arith, u, x, y), omega (arith, u, x, y, few), r.long, v.long, v.ascends)

pub loop-q-preserved : goal.loop-q-preserved
loop-q-preserved c =
    let a = (c.before.before.before.before.before.before.before.before.before.before.before.before.before.before).args in
    let b = laid a.index.now in
    rows_left_next a.list.now a.ends.now b.sender b.size b.processes b.rows (c.before.before.before.before.before.before.before.before.before.before.before.before.before.before).requires.2 (within c.before.before.before.before.before.before.before.before.before.before) c.loop-q.invariant c.wide-from.ensures c.wide-to.ensures
    (transport
    (λ j. Collected (map (entry_frame (c.sender_of-node.ensures.0 j) (c.size_of.ensures.0 j)) (slice c.wide-from.result c.wide-to.result a.list.now)) (take c.loop-q.n c.loop-q.out)
    c.collect_row-n.new.out (c.loop-q.n + (c.wide-to.result - c.wide-from.result)) c.collect_row-n.result)
    c.collect_row-n.ensures)

pub returns : goal.returns
returns c =
    let a = c.args in
    let b = laid a.index.now in
    let r = rows_left_end a.list.now a.ends.now b.sender b.size b.processes b.rows c.requires.2 (omega (arith, c.loop-q-test.false, c.rows_of-rows.ensures.0)) c.loop-q.invariant in
    (r.0, r.1, c.loop-q.invariant.long)
