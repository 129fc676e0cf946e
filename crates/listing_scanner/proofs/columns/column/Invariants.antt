-- `column` gives what the grammar reads: condition by condition, and the bracket behind them.
use Rattle.listing_scanner.proofs.ColumnSteps.{Reading}
use Rattle.listing_scanner.proofs.columns.column.Given as goal

abbrev pub invariant-loop-k : goal.invariant-loop-k
invariant-loop-k l = Reading l.text l.first l.conditions l.s l.bit l.k
