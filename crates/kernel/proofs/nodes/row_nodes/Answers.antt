-- `kernel::row_nodes` meets its contract: the rows of processes, then of edges, then of conditions have their nodes.
use native.Mathlib.Omega.{arith}
use Rattle.lists.specs.Lists.{fill}
use Rattle.kernel.proofs.NodesOfModel.{row_count, few_rows}
use borrow.Author.Rules.{rules}
use Rattle.kernel.proofs.nodes.row_nodes.Goals as goal

pub put_processes-requires : goal.put_processes-requires
unfolding fill
put_processes-requires c = search rules

pub overflow_add-rows : goal.overflow_add-rows
overflow_add-rows c =
    omega (arith, row_count c.args.p c.requires, few_rows c.args.p c.requires)

pub overflow_add-rows-2 : goal.overflow_add-rows-2
overflow_add-rows-2 c =
    omega (arith, row_count c.args.p c.requires, few_rows c.args.p c.requires)

pub returns : goal.returns
returns c =
    λ j. record { node = c.put_conditions.ensures j; rows = row_count c.args.p c.requires j }
