-- `planner_combination::note_all` meets its contract: before condition k, the counts are noted for the conditions below
-- k.
use Rattle.std.specs.Prelude.{if◌then◌else◌}
use mathlib.Core.Path.{◌≡◌, refl, sym, ◌∙◌}
use mathlib.Core.List.{List}
use Prim.Native.Nat.{ℕ, ◌+◌, ◌*◌}
use native.Mathlib.Numerals.{add-one}
use native.Mathlib.Omega.{arith}
use lib.Dec.{eqb}
use lib.ListN.{length, get_or}
use lib.Seq.{sets}
use Rattle.plan_index.specs.Index.{laid}
use Rattle.log_rows.specs.Rows.{rows_of}
use Rattle.planner_nodes.specs.Nodes.{Nodes, nodes_of, with_noted}
use Rattle.planner_combination.specs.Events.{notes_below}
use Rattle.planner_combination.proofs.event.note_all.Goals as goal

pub loop-k-init : goal.loop-k-init
unfolding notes_below
loop-k-init c =
    (omega arith, refl)

pub note_one-requires : goal.note_one-requires
note_one-requires c = (
  omega (arith, c.conditionrow_of-first.ensures.1, c.conditions_of-conditions.ensures.1, c.loop-k-test.true),
  omega (arith, c.conditions_of-conditions.ensures.1, c.loop-k-test.true),
  (λ j. length (c.loop-k.invariant.1 j).passed) ∙ c.requires.1,
)

pub loop-k-preserved : goal.loop-k-preserved
unfolding notes_below
loop-k-preserved c =
    let a = c.args in
    let k : ℕ = c.loop-k.k in
    let q = c.loop-k.invariant.1 in
    let comes : List ℕ = (rows_of a.rows.now).comes in
    let first : Nodes = nodes_of a.nodes.now in (
      omega (arith, c.loop-k-test.true),
      c.note_one.ensures
          ∙ (λ j. with_noted (if eqb (get_or comes (c.conditionrow_of-first.ensures.0 j + k) 0) a.u then sets (q j).noted (k * 8) (q j).passed else (q j).noted) (q j))
          ∙ (λ j. with_noted (notes_below comes a.u (laid a.index.now).conditionrow first.passed (sym (add-one k) j) first.noted) first),
    )

pub returns : goal.returns
returns c =
    let a = c.args in
    let first : Nodes = nodes_of a.nodes.now in
    let q : c.loop-k.k ≡ (laid a.index.now).conditions = omega (arith, c.loop-k.invariant.0, c.loop-k-test.false, c.conditions_of-conditions.ensures.0) in
    c.loop-k.invariant.1 ∙ (λ j. with_noted (notes_below (rows_of a.rows.now).comes a.u (laid a.index.now).conditionrow first.passed (q j) first.noted) first)
