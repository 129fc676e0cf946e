-- `listing_count::value_room` meets its contract: what is taken from the room is the length of the text that the two
-- bits give.
use mathlib.Core.Path.{ap}
use native.Mathlib.Omega.{arith}
use lib.ListN.{length}
use Rattle.listing_count.proofs.Cases.{value_none, value_false, value_true}
use Rattle.listing_count.proofs.Lengths.{false_length, true_length}
use Rattle.listing_count.proofs.value_room.Goals as goal

pub returns-then-known-eq0 : goal.returns-then-known-eq0
returns-then-known-eq0 c =
    let a = c.args in
    omega (arith, ap length (value_none a.known a.values a.k c.if-known-eq0.true))

pub returns-then-values-eq0 : goal.returns-then-values-eq0
returns-then-values-eq0 c =
    let a = c.args in
    omega (arith, ap length (value_false a.known a.values a.k c.if-known-eq0.false c.if-values-eq0.true), false_length a.k, c.saturating_sub.ensures, c.digits.ensures.0)

pub returns : goal.returns
returns c =
    let a = c.args in
    omega (arith, ap length (value_true a.known a.values a.k c.if-known-eq0.false c.if-values-eq0.false), true_length a.k, c.saturating_sub-2.ensures, c.digits-2.ensures.0)
