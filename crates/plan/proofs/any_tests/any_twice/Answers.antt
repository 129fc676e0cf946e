-- `plan::any_twice` meets its contract: what is left gives the whole answer.
use mathlib.Core.Path.{◌≡◌, refl, sym, ap, ◌∙◌}
use mathlib.Core.List.{List}
use Prim.Native.Nat.{ℕ}
use lib.ListN.{length}
use Rattle.lists.specs.Lists.{any, below, repeated, earlier}
use Rattle.lists.proofs.Loops.{left_start, left_next, left_found, left_none}
use Rattle.lists.proofs.Marks.{repeated_earlier}
use Rattle.lists.proofs.Places.{list_below}
use Rattle.plan.specs.Tests.{at}
use Rattle.plan.proofs.Taken.{earlier_taken}
use Rattle.plan.proofs.any_tests.any_twice.Goals as goal

whole : (xs : List ℕ) → any (earlier (at xs)) (below (length xs)) ≡ repeated xs
whole xs = sym (repeated_earlier (at xs) (length xs)) ∙ ap repeated (list_below 0 xs (length xs) refl)

pub loop-i-init : goal.loop-i-init
loop-i-init c = left_start (earlier (at c.args.xs.now)) (length c.args.xs.now)

pub returns-then-contains : goal.returns-then-contains
returns-then-contains c =
    let xs = c.args.xs.now in
    let i = c.loop-i.i in
    let l = c.loop-i-test.true in
    sym (left_found (earlier (at xs)) (length xs) i l (sym (earlier_taken xs i l) ∙ sym c.contains.ensures.value ∙ c.if-contains.true) c.loop-i.invariant) ∙ whole xs

pub loop-i-preserved : goal.loop-i-preserved
loop-i-preserved c =
    let xs = c.args.xs.now in
    let i = c.loop-i.i in
    let l = c.loop-i-test.true in
    left_next (earlier (at xs)) (length xs) i l (sym (earlier_taken xs i l) ∙ sym c.contains.ensures.value ∙ c.if-contains.false) c.loop-i.invariant

pub returns : goal.returns
returns c =
    let xs = c.args.xs.now in
    sym (left_none (earlier (at xs)) (length xs) c.loop-i.i c.loop-i-test.false c.loop-i.invariant) ∙ whole xs
