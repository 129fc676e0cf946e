-- `listing_entries::put_first` meets its contract: the row tells which text is stored.
use native.Mathlib.Omega.{arith}
use Prim.Native.Nat.{◌-◌}
use lib.ListN.{length-append}
use Rattle.text_grammar.proofs.Numbers.{decimal_length}
use Rattle.text_lines.proofs.Puts.{put_none}
use Rattle.listing_entries.proofs.LineEnds.{fits_most, begin_start, begin_send, begin_tell, begin_none}
use Rattle.listing_entries.proofs.lines.put_first.Goals as goal

pub put_begin-requires : goal.put_begin-requires
put_begin-requires c =
    fits_most c.requires (simp length-append (omega (arith, decimal_length 9 c.args.row (omega arith))))

pub returns-then-number-counts : goal.returns-then-number-counts
returns-then-number-counts c =
    rw (begin_start c.args.counts.processes c.args.counts.edges c.args.counts.conditions c.args.row (omega arith)) c.put_begin.ensures

pub put_begin-requires-then-edge-counts : goal.put_begin-requires-then-edge-counts
put_begin-requires-then-edge-counts c =
    fits_most c.requires (simp length-append (omega (arith, decimal_length 9 (c.args.row - c.args.counts.processes) (omega arith))))

pub returns-then-edge-counts : goal.returns-then-edge-counts
returns-then-edge-counts c =
    rw (begin_send c.args.counts.processes c.args.counts.edges c.args.counts.conditions c.args.row (omega arith) (omega arith)) c.put_begin-then-edge-counts.ensures

pub put_begin-requires-then-condition-counts : goal.put_begin-requires-then-condition-counts
put_begin-requires-then-condition-counts c =
    fits_most c.requires (simp length-append (omega (arith, decimal_length 9 (c.args.row - c.args.counts.processes - c.args.counts.edges) (omega arith))))

pub returns-then-condition-counts : goal.returns-then-condition-counts
returns-then-condition-counts c =
    rw (begin_tell c.args.counts.processes c.args.counts.edges c.args.counts.conditions c.args.row (omega arith) (omega arith) (omega arith)) c.put_begin-then-condition-counts.ensures

pub returns : goal.returns
returns c =
    rw (begin_none c.args.counts.processes c.args.counts.edges c.args.counts.conditions c.args.row (omega arith) (omega arith) (omega arith)) (put_none _ _)
