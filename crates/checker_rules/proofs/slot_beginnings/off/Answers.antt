-- `checker_rules::off` meets its contract.
use mathlib.Core.Path.{ap, ◌∙◌}
use Prim.Native.Nat.{ℕ}
use native.Mathlib.Omega.{arith}
use lib.ListN.{get_or}
use borrow.Author.Tests.{eq-eqb, ne_eqb}
use Rattle.plan_index.specs.Index.{laid}
use Rattle.log_queries.specs.Reading.{placed_by}
use Rattle.checker_rows.specs.MetArrays.{start_by}
use Rattle.checker_rules.specs.Rules.{off_by}
use Rattle.checker_rules.proofs.slot_beginnings.off.Goals as goal

pub returns-then-x-eq0 : goal.returns-then-x-eq0
unfolding off_by placed_by
returns-then-x-eq0 c = simp (← c.comes_of-x.ensures, eq-eqb _ _ c.if-x-eq0.true)

pub overflow_sub-tick : goal.overflow_sub-tick
overflow_sub-tick c =
    let l = c.requires.fact_3.lasts c.args.r (λ q. c.if-x-eq0.false (c.comes_of-x.ensures ∙ q)) in
    omega (arith, c.comes_of-x.ensures, c.span_of.ensures.0, l)

pub overflow_sub-tick-2 : goal.overflow_sub-tick-2
overflow_sub-tick-2 c =
    let l = c.requires.fact_3.lasts c.args.r (λ q. c.if-x-eq0.false (c.comes_of-x.ensures ∙ q)) in
    omega (arith, c.comes_of-x.ensures, c.span_of.ensures.0, l)

pub first_from-requires : goal.first_from-requires
first_from-requires c =
    let b = laid c.args.index.now in
    let h = c.requires.fact_4 in
    let l = c.requires.fact_3.soon c.args.r in
    let o = ap (λ (k : ℕ). get_or b.offset k 0) c.sender_of-n.ensures.0 in
    record {
      node = c.sender_of-n.ensures.1;
      round_one = h.round_one;
      round_most = h.round_most;
      reciprocals = h.reciprocals;
      offset_most = omega (arith, o, h.offsets c.args.r (λ q. c.if-x-eq0.false (c.comes_of-x.ensures ∙ q)));
      tick_most = omega (arith, c.comes_of-x.ensures, l);
    }

pub returns : goal.returns
unfolding off_by placed_by start_by
returns c =
    simp (← c.comes_of-x.ensures, ne_eqb _ _ c.if-x-eq0.false, ← c.span_of.ensures.0, ← c.sender_of-n.ensures.0, c.first_from.ensures)
