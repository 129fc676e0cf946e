-- `listing_entries::put_entries` meets its contract: before each row the entries of the words from i on are still to be
-- stored.
use native.Mathlib.Omega.{arith}
use Rattle.listing_count.specs.Parts.{entry_text}
use Rattle.listing_count.proofs.Words.{entries_end}
use Rattle.listing_bytes.proofs.Stored.{going_start, going_length, going_fits, going_on, going_end}
use Rattle.listing_entries.proofs.Leading.{same_within}
use Rattle.listing_entries.proofs.rows.put_entries.Goals as goal

pub known_sets-sets-requires : goal.known_sets-sets-requires
known_sets-sets-requires c = tt

pub loop-i-init : goal.loop-i-init
loop-i-init c = (omega arith, going_start _ _ _)

pub overflow_sub-n : goal.overflow_sub-n
overflow_sub-n c = omega arith

pub put_row-row-requires : goal.put_row-row-requires
put_row-row-requires c =
    let l = c.loop-i in
    let s = c.known_sets-sets.ensures in
    (omega arith, s, going_fits l.invariant.1 c.requires)

pub loop-i-smaller : goal.loop-i-smaller
loop-i-smaller c =
    let l = c.loop-i in
    let a = c.args in
    let r = c.put_row-row.ensures in
    let s = same_within a.counts.processes a.counts.edges a.counts.conditions a.table.now l.i (omega arith) in
    omega (arith, r.words, s.0, s.1)

pub loop-i-preserved : goal.loop-i-preserved
loop-i-preserved c =
    let l = c.loop-i in
    let a = c.args in
    let r = c.put_row-row.ensures in
    let s = same_within a.counts.processes a.counts.edges a.counts.conditions a.table.now l.i (omega arith) in
    (omega (arith, r.words, s.1), going_on l.invariant.1 r.going)

pub shape_of-out : goal.shape_of-out
shape_of-out c = going_length c.loop-i.invariant.1

pub returns : goal.returns
returns c =
    let l = c.loop-i in
    let a = c.args in
    going_end l.invariant.1 (entries_end a.table.now l.i (entry_text a.counts.processes a.counts.edges a.counts.conditions) (λ h. omega arith))
