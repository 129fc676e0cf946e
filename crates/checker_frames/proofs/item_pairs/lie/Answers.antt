-- `checker_frames::lie` meets its contract, by the tests that come before the last.
use mathlib.Core.Path.{◌∙◌}
use native.Mathlib.Omega.{arith}
use borrow.Author.Tests.{eq-eqb, ne_eqb, le-leb, lt-leb}
use Rattle.log_queries.specs.Reading.{placed_by}
use Rattle.checker_rows.specs.MetArrays.{start_by}
use Rattle.checker_frames.specs.SharedBytes.{lie_by}
use Rattle.checker_frames.proofs.item_pairs.lie.Goals as goal

pub returns-then-x-eq0 : goal.returns-then-x-eq0
unfolding lie_by placed_by
returns-then-x-eq0 c =
    simp (← c.comes_of-x.ensures, eq-eqb _ _ c.if-x-eq0.true)

pub overflow_sub-x : goal.overflow_sub-x
overflow_sub-x c =
    let l = c.requires.fact_3.lasts c.args.j (λ q. c.if-x-eq0.false (c.comes_of-x.ensures ∙ q)) in
    omega (arith, c.comes_of-x.ensures, c.span_of.ensures.0, l)

pub overflow_sub-y : goal.overflow_sub-y
overflow_sub-y c =
    let l = c.requires.fact_3.lasts c.args.i c.requires.fact_1.2 in
    omega (arith, c.comes_of-y.ensures, c.span_of-2.ensures.0, l)

pub returns-then-x-span_of : goal.returns-then-x-span_of
unfolding lie_by placed_by start_by
returns-then-x-span_of c =
    simp (← c.comes_of-x.ensures, ← c.comes_of-y.ensures, ← c.span_of.ensures.0, ← c.span_of-2.ensures.0, ne_eqb _ _ c.if-x-eq0.false, ne_eqb _ _ c.if-x-span_of.true)

pub returns-then-sender_of : goal.returns-then-sender_of
unfolding lie_by placed_by start_by
returns-then-sender_of c =
    simp (← c.comes_of-x.ensures, ← c.comes_of-y.ensures, ← c.span_of.ensures.0, ← c.span_of-2.ensures.0, ← c.sender_of.ensures.0, ← c.sender_of-2.ensures.0, ne_eqb _ _ c.if-x-eq0.false, eq-eqb _ _ c.if-x-span_of.false, ne_eqb _ _ c.if-sender_of.true)

pub overflow_add-a : goal.overflow_add-a
overflow_add-a c =
    let l = c.requires.fact_4.places c.args.j (λ z. c.if-x-eq0.false (c.comes_of-x.ensures ∙ z)) in
    omega (arith, c.place_of-a.ensures, c.size_of.ensures.1, l)

pub returns-then-a-size_of : goal.returns-then-a-size_of
unfolding lie_by placed_by start_by
returns-then-a-size_of c =
    simp (← c.comes_of-x.ensures, ← c.comes_of-y.ensures, ← c.span_of.ensures.0, ← c.span_of-2.ensures.0, ← c.sender_of.ensures.0, ← c.sender_of-2.ensures.0, ← c.place_of-a.ensures, ← c.place_of-b.ensures, ← c.size_of.ensures.0, ne_eqb _ _ c.if-x-eq0.false, eq-eqb _ _ c.if-x-span_of.false, eq-eqb _ _ c.if-sender_of.false, le-leb _ _ c.if-a-size_of.true)

pub overflow_add-b : goal.overflow_add-b
overflow_add-b c =
    let l = c.requires.fact_4.places c.args.i c.requires.fact_1.2 in
    omega (arith, c.place_of-b.ensures, c.size_of-2.ensures.1, l)

pub returns-then-b-size_of : goal.returns-then-b-size_of
unfolding lie_by placed_by start_by
returns-then-b-size_of c =
    simp (← c.comes_of-x.ensures, ← c.comes_of-y.ensures, ← c.span_of.ensures.0, ← c.span_of-2.ensures.0, ← c.sender_of.ensures.0, ← c.sender_of-2.ensures.0, ← c.place_of-a.ensures, ← c.place_of-b.ensures, ← c.size_of.ensures.0, ← c.size_of-2.ensures.0, ne_eqb _ _ c.if-x-eq0.false, eq-eqb _ _ c.if-x-span_of.false, eq-eqb _ _ c.if-sender_of.false, lt-leb _ _ c.if-a-size_of.false, le-leb _ _ c.if-b-size_of.true)

pub returns : goal.returns
unfolding lie_by placed_by start_by
returns c =
    simp (← c.comes_of-x.ensures, ← c.comes_of-y.ensures, ← c.span_of.ensures.0, ← c.span_of-2.ensures.0, ← c.sender_of.ensures.0, ← c.sender_of-2.ensures.0, ← c.place_of-a.ensures, ← c.place_of-b.ensures, ← c.size_of.ensures.0, ← c.size_of-2.ensures.0, ne_eqb _ _ c.if-x-eq0.false, eq-eqb _ _ c.if-x-span_of.false, eq-eqb _ _ c.if-sender_of.false, lt-leb _ _ c.if-a-size_of.false, lt-leb _ _ c.if-b-size_of.false)
