-- `riscadru_check::print`: what was printed lies within the bytes for it.
use Rattle.std.proofs.Common.{rules}
use Rattle.check_program.proofs.Printing.{count_within}
use Rattle.riscadru_check.proofs.print.Goals as goal

pub slice_bounds-out-end : goal.slice_bounds-out-end
slice_bounds-out-end c = count_within c.print_check-n.ensures

pub slice_bounds-write_all-end : goal.slice_bounds-write_all-end
slice_bounds-write_all-end c =
    let k = count_within c.print_check-n.ensures in
    search rules
