-- `riscadru_plan::print`: what was printed lies within the bytes for it.
use Rattle.std.proofs.Common.{rules}
use Rattle.program.proofs.PrintedOfText.{count_within}
use Rattle.riscadru_plan.proofs.print.Goals as goal

pub slice_bounds-out-end : goal.slice_bounds-out-end
slice_bounds-out-end c = count_within c.print_all-n.ensures

pub slice_bounds-write_all-end : goal.slice_bounds-write_all-end
slice_bounds-write_all-end c =
    let k = count_within c.print_all-n.ensures in
    search rules
