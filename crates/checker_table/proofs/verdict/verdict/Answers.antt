-- `checker_table::verdict` meets its contract: the refusal that is found, else the two delays compared.
use mathlib.Core.Path.{subst}
use Prim.Native.Nat.{◌<◌}
use native.Mathlib.Omega.{arith}
use borrow.Author.Tests.{eq-eqb, ne_eqb}
use Rattle.refusals.specs.Numbers.{number_of}
use Rattle.checker_table.specs.Finding.{Early}
use Rattle.checker_table.specs.Verdict.{verdict_by}
use Rattle.checker_table.proofs.verdict.verdict.Goals as goal

pub returns-in-Some : goal.returns-in-Some
unfolding verdict_by
returns-in-Some c =
    let early : number_of c.in-Some.refusal < 20 = subst Early c.in-Some.is c.requires in
    rw (c.in-Some.is, ne_eqb (number_of c.in-Some.refusal) 20 (λ q. omega (arith, early)))

pub returns-then-delay-from : goal.returns-then-delay-from
unfolding verdict_by
returns-then-delay-from c =
    let a = c.args in
    rw (c.in_default.is, ne_eqb a.delay a.found.delay (λ q. omega (arith, c.if-delay-from.true, c.from.ensures)))

pub returns : goal.returns
unfolding verdict_by
returns c =
    let a = c.args in
    rw (c.in_default.is, eq-eqb a.delay a.found.delay (omega (arith, c.if-delay-from.false, c.from.ensures)))
