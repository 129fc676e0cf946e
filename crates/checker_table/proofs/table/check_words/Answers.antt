-- `checker_table::check_words` meets its contract: 12, then 13, then what is found in all combinations.
use mathlib.Core.Path.{ap, ◌∙◌}
use Prim.Native.Nat.{ℕ, ◌^◌}
use native.Mathlib.Omega.{arith}
use Rattle.plan.specs.Memory.{lines}
use Rattle.plan_index.specs.Index.{laid}
use Rattle.plan_layout.proofs.IndexOfLines.{indexed_lines}
use Rattle.plan_layout.proofs.Bounds.{bounded}
use Rattle.checker_rows.specs.MetRows.{Small}
use Rattle.checker_rows.proofs.DueMade.{row_order}
use Rattle.checker_rules.proofs.FormOfModel.{formed_told}
use Rattle.checker_table.specs.Finding.{Finding}
use Rattle.checker_table.specs.Combinations.{found_all, Tabled}
use Rattle.checker_table.specs.Verdict.{verdict_by}
use Rattle.checker_table.proofs.FirstAnswers.{answer_12, answer_13}
use Rattle.checker_table.proofs.CheckerOfModel.{all_verdict, answer_later}
use Rattle.checker_table.proofs.table.check_words.Goals as goal

pub returns-then-table-ne0 : goal.returns-then-table-ne0
returns-then-table-ne0 c =
    let a = c.args in
    answer_12 (lines a.p) a.table.now a.delay c.if-table-ne0.true

pub conditions_of-requires : goal.conditions_of-requires
conditions_of-requires c =
    let p = c.args.p in
    bounded (lines p) (laid c.of_plan-index.result) (indexed_lines c.args.p c.requires c.of_plan-index.ensures)

pub some_ill_formed-requires : goal.some_ill_formed-requires
some_ill_formed-requires c =
    let p = c.args.p in
    let b = laid c.of_plan-index.result in
    (c.if-table-ne0.false, bounded (lines p) b (indexed_lines c.args.p c.requires c.of_plan-index.ensures), row_order (lines p) b (indexed_lines c.args.p c.requires c.of_plan-index.ensures))

pub returns-then-some_ill_formed : goal.returns-then-some_ill_formed
returns-then-some_ill_formed c =
    let a = c.args in
    let small : Small a.table.now = λ i l. omega (arith, c.type_inv.table i) in
    answer_13 (lines a.p) a.table.now a.delay c.if-table-ne0.false
    (formed_told (lines a.p) (laid c.of_plan-index.result) (indexed_lines c.args.p c.requires c.of_plan-index.ensures) c.combinations_of-combinations.result (c.combinations_of-combinations.ensures.0 ∙ ap (λ (n : ℕ). 2 ^ n) c.conditions_of.ensures.0) a.table.now small c.some_ill_formed.ensures
    c.if-some_ill_formed.true)

pub try_all-requires : goal.try_all-requires
try_all-requires c =
    let a = c.args in
    let small : Small a.table.now = λ i l. omega (arith, c.type_inv.table i) in
    let t : Tabled (laid c.of_plan-index.result) a.table.now = record {
      plan = lines a.p;
      passes = c.requires;
      indexed = indexed_lines c.args.p c.requires c.of_plan-index.ensures;
      fives = c.if-table-ne0.false;
      formed = formed_told (lines a.p) (laid c.of_plan-index.result) (indexed_lines c.args.p c.requires c.of_plan-index.ensures) c.combinations_of-combinations.result (c.combinations_of-combinations.ensures.0 ∙ ap (λ (n : ℕ). 2 ^ n) c.conditions_of.ensures.0) a.table.now small c.some_ill_formed.ensures c.if-some_ill_formed.false;
      small = small;
    } in
    record { fact_1 = t; fact_2 = c.combinations_of-combinations.ensures.0 ∙ ap (λ (n : ℕ). 2 ^ n) c.conditions_of.ensures.0 }

pub returns : goal.returns
returns c =
    let a = c.args in
    let small : Small a.table.now = λ i l. omega (arith, c.type_inv.table i) in
    let t : Tabled (laid c.of_plan-index.result) a.table.now = record {
      plan = lines a.p;
      passes = c.requires;
      indexed = indexed_lines c.args.p c.requires c.of_plan-index.ensures;
      fives = c.if-table-ne0.false;
      formed = formed_told (lines a.p) (laid c.of_plan-index.result) (indexed_lines c.args.p c.requires c.of_plan-index.ensures) c.combinations_of-combinations.result (c.combinations_of-combinations.ensures.0 ∙ ap (λ (n : ℕ). 2 ^ n) c.conditions_of.ensures.0) a.table.now small c.some_ill_formed.ensures c.if-some_ill_formed.false;
      small = small;
    } in
    let b = laid c.of_plan-index.result in
    c.verdict.ensures
    ∙ ap (λ (f : Finding). verdict_by f a.delay) (c.try_all.ensures.0 ∙ ap (λ (n : ℕ). found_all b a.table.now n) (c.combinations_of-combinations.ensures.0 ∙ ap (λ (n : ℕ). 2 ^ n) c.conditions_of.ensures.0))
    ∙ all_verdict b a.table.now t a.delay
    ∙ answer_later (lines a.p) a.table.now a.delay c.if-table-ne0.false t.formed
