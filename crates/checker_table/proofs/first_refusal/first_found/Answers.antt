-- `checker_table::first_found` meets its contract: the first test that holds settles the number.
use mathlib.Core.Path.{sym, ◌∙◌}
use native.Mathlib.Omega.{arith}
use Rattle.plan_index.specs.Index.{laid}
use Rattle.log_rows.specs.Rows.{rows_of}
use Rattle.checker_table.proofs.FirstByTests.{first_15, first_16, first_17, first_18, first_19, first_none}
use Rattle.checker_table.proofs.first_refusal.first_found.Goals as goal

pub returns-then-uses_unknown : goal.returns-then-uses_unknown
returns-then-uses_unknown c =
    let a = c.args in (
      first_15 (laid a.index.now) (rows_of a.rows.now) a.known.now
          (sym c.uses_unknown.ensures ∙ c.if-uses_unknown.true),
      omega arith,
    )

pub returns-then-too_early : goal.returns-then-too_early
returns-then-too_early c =
    let a = c.args in (
      first_16 (laid a.index.now) (rows_of a.rows.now) a.known.now
          (sym c.uses_unknown.ensures ∙ c.if-uses_unknown.false)
          (sym c.too_early.ensures ∙ c.if-too_early.true),
      omega arith,
    )

pub returns-then-off_slot : goal.returns-then-off_slot
returns-then-off_slot c =
    let a = c.args in (
      first_17 (laid a.index.now) (rows_of a.rows.now) a.known.now
          (sym c.uses_unknown.ensures ∙ c.if-uses_unknown.false)
          (sym c.too_early.ensures ∙ c.if-too_early.false)
          (sym c.off_slot.ensures ∙ c.if-off_slot.true),
      omega arith,
    )

pub returns-then-overlap : goal.returns-then-overlap
returns-then-overlap c =
    let a = c.args in (
      first_18 (laid a.index.now) (rows_of a.rows.now) a.known.now
          (sym c.uses_unknown.ensures ∙ c.if-uses_unknown.false)
          (sym c.too_early.ensures ∙ c.if-too_early.false)
          (sym c.off_slot.ensures ∙ c.if-off_slot.false)
          (sym c.overlap.ensures ∙ c.if-overlap.true),
      omega arith,
    )

pub returns-then-share_byte : goal.returns-then-share_byte
returns-then-share_byte c =
    let a = c.args in (
      first_19 (laid a.index.now) (rows_of a.rows.now) a.known.now
          (sym c.uses_unknown.ensures ∙ c.if-uses_unknown.false)
          (sym c.too_early.ensures ∙ c.if-too_early.false)
          (sym c.off_slot.ensures ∙ c.if-off_slot.false)
          (sym c.overlap.ensures ∙ c.if-overlap.false)
          (sym c.share_byte.ensures ∙ c.if-share_byte.true),
      omega arith,
    )

pub returns : goal.returns
returns c =
    let a = c.args in (
      first_none (laid a.index.now) (rows_of a.rows.now) a.known.now
          (sym c.uses_unknown.ensures ∙ c.if-uses_unknown.false)
          (sym c.too_early.ensures ∙ c.if-too_early.false)
          (sym c.off_slot.ensures ∙ c.if-off_slot.false)
          (sym c.overlap.ensures ∙ c.if-overlap.false)
          (sym c.share_byte.ensures ∙ c.if-share_byte.false),
      tt,
    )
