-- `log_queries::update_may_run` meets its contract: what may run is worked out where the test says so, and stays as it
-- was elsewhere.
use mathlib.Core.Path.{◌∙◌, sym}
use native.Mathlib.Omega.{arith}
use borrow.Author.Tests.{eq-eqb, ne_eqb}
use Rattle.log_queries.proofs.runnable.update_may_run.Goals as goal

pub returns-then-broadcastend-u : goal.returns-then-broadcastend-u
returns-then-broadcastend-u c =
    let a = c.args in
    c.may_run.ensures ∙ sym (rw (eq-eqb a.broadcastend a.u (omega (arith, c.if-broadcastend-u.true))))

pub returns-else-broadcastend-u : goal.returns-else-broadcastend-u
returns-else-broadcastend-u c =
    let a = c.args in
    rw (ne_eqb a.broadcastend a.u (λ q. absurd (omega (arith, c.if-broadcastend-u.false, q))))
