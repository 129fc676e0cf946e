-- `c_check::check_many` meets its contract: 13 where an entry is ill-formed, and else 14, since there are more entries
-- than rows and combinations.
use mathlib.Core.Path.{sym, ap, ◌∙◌}
use Prim.Native.Nat.{ℕ, ◌%◌, ◌^◌}
use native.Mathlib.Omega.{arith}
use Rattle.model.specs.Firmware.{words_of}
use Rattle.plan.specs.Memory.{lines}
use Rattle.c_words.proofs.Reading.{words_small}
use Rattle.plan_index.specs.Index.{laid}
use Rattle.plan_layout.proofs.IndexOfLines.{indexed_lines}
use Rattle.plan_layout.proofs.Bounds.{bounded}
use Rattle.checker_rows.specs.MetRows.{Small}
use Rattle.checker_rows.proofs.DueMade.{row_order}
use Rattle.checker_rules.proofs.FormOfModel.{formed_told}
use Rattle.checker_table.proofs.FirstAnswers.{answer_13}
use Rattle.c_check.proofs.ManyRefused.{answer_14}
use Rattle.c_check.proofs.many_entries.check_many.Goals as goal

pub conditions_of-requires : goal.conditions_of-requires
conditions_of-requires c =
    let p = c.args.p in
    bounded (lines p) (laid c.of_plan-index.result) (indexed_lines c.args.p c.requires.fact_1 c.of_plan-index.ensures)

pub some_ill_formed-requires : goal.some_ill_formed-requires
some_ill_formed-requires c =
    let p = lines c.args.p in
    let b = laid c.of_plan-index.result in
    (c.requires.fact_2.0, c.requires.fact_2.1, bounded p b (indexed_lines c.args.p c.requires.fact_1 c.of_plan-index.ensures), row_order p b (indexed_lines c.args.p c.requires.fact_1 c.of_plan-index.ensures))

pub returns-then-some_ill_formed : goal.returns-then-some_ill_formed
returns-then-some_ill_formed c =
    let a = c.args in
    let words = words_of a.bytes.now in
    let small : Small words = words_small a.bytes.now (λ i. omega (arith, c.type_inv.bytes i)) in
    answer_13 (lines a.p) words a.delay (ap (λ (n : ℕ). n % 5) (sym c.requires.fact_2.0) ∙ c.requires.fact_2.1)
    (formed_told (lines a.p) (laid c.of_plan-index.result) (indexed_lines c.args.p c.requires.fact_1 c.of_plan-index.ensures) c.combinations_of-combinations.result (c.combinations_of-combinations.ensures.0 ∙ ap (λ (n : ℕ). 2 ^ n) c.conditions_of.ensures.0) words small c.some_ill_formed.ensures c.if-some_ill_formed.true)

pub returns : goal.returns
returns c =
    let a = c.args in
    let words = words_of a.bytes.now in
    let small : Small words = words_small a.bytes.now (λ i. omega (arith, c.type_inv.bytes i)) in
    answer_14 (lines a.p) words a.delay c.requires.fact_1 (ap (λ (n : ℕ). n % 5) (sym c.requires.fact_2.0) ∙ c.requires.fact_2.1)
    (formed_told (lines a.p) (laid c.of_plan-index.result) (indexed_lines c.args.p c.requires.fact_1 c.of_plan-index.ensures) c.combinations_of-combinations.result (c.combinations_of-combinations.ensures.0 ∙ ap (λ (n : ℕ). 2 ^ n) c.conditions_of.ensures.0) words small c.some_ill_formed.ensures c.if-some_ill_formed.false)
    (omega (arith, c.requires.fact_2.0, c.requires.fact_2.2))
