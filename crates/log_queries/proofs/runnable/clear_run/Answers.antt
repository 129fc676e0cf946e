-- `log_queries::clear_run` meets its contract: the part that is filled are the numbers of `run`.
use Rattle.std.proofs.Common.{◌≡◌, length, take, length-take-le}
use Rattle.log_queries.proofs.Clearing.{run_cleared}
use Rattle.log_queries.proofs.runnable.clear_run.Goals as goal

pub returns : goal.returns
returns c =
    let s = c.args.rows.now in
    let q : length (take 64 s) ≡ 64 = length-take-le 64 s c.requires in
    rw (c.fill.ensures.after (λ y e. e), q) (run_cleared s)
