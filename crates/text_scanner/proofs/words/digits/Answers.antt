-- `digits` gives what the grammar reads: from `i` on, after the digits of `m`, it reads what it reads from `at` on
-- after those of `n`.
use mathlib.Core.Path.{sym, ◌∙◌}
use native.Mathlib.Omega.{arith}
use Rattle.text_grammar.proofs.Numbers.{went_on}
use Rattle.text_scanner.proofs.WordSteps.{digits_end, digits_done, digits_next, digits_off}
use Rattle.text_scanner.proofs.words.digits.Goals as goal

pub returns-then-b-end : goal.returns-then-b-end
returns-then-b-end c =
    let l = c.loop-i in
    record { within = omega arith; same = sym (l.invariant ∙ digits_done _ c.args.text.now l.m l.i (omega arith) c.if-b-end.true) }

pub returns-then-not-may_follow : goal.returns-then-not-may_follow
returns-then-not-may_follow c =
    let l = c.loop-i in
    record { within = tt; same = sym (l.invariant ∙ digits_off _ c.args.text.now l.m l.i (omega arith) c.if-b-end.false (sym c.if-not-may_follow.ensures)) }

pub overflow_mul-m : goal.overflow_mul-m
overflow_mul-m c = omega (arith, went_on c.loop-i.m _ (sym c.if-not-may_follow.ensures))

pub value-requires : goal.value-requires
value-requires c = omega (arith, went_on c.loop-i.m _ (sym c.if-not-may_follow.ensures))

pub overflow_add-m : goal.overflow_add-m
overflow_add-m c = omega (arith, c.value.ensures, went_on c.loop-i.m _ (sym c.if-not-may_follow.ensures))

pub loop-i-preserved : goal.loop-i-preserved
loop-i-preserved c =
    let l = c.loop-i in
    l.invariant ∙ digits_next _ c.args.text.now l.m l.i (omega arith) c.if-b-end.false (sym c.if-not-may_follow.ensures) ∙ rw c.value.ensures

pub returns : goal.returns
returns c =
    let l = c.loop-i in
    record { within = tt; same = sym (l.invariant ∙ digits_end _ _ l.m l.i c.loop-i-test.false) }
