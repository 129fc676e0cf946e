-- `c_interface::lookup::riscadru_row_length` meets its contract, by that of the row query over bytes.

use Rattle.c_interface.proofs.lookup.riscadru_row_length.Goals as goal

pub returns : goal.returns
returns c = c.row_length.ensures
