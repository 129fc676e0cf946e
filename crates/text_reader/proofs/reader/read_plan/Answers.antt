-- `read_plan` gives the answer for the text: its parts are what the grammar reads, and the plan that started empty is
-- filled with them.
use mathlib.Core.Path.{◌≡◌, refl, sym, ap}
use Rattle.std.proofs.lemmas.Result.{err_from_is_err_and}
use Rattle.model.specs.Text.{after_refusal}
use Rattle.plan.specs.declared.Plan.{Plan}
use Rattle.plan.specs.declared.PlanLine.{PlanLine}
use Rattle.plan.specs.Memory.{empty_plan}
use Rattle.text_reader.specs.Run.{with_line}
use Rattle.text_reader.proofs.Answers.{long_text, no_form_text, no_plan_line, more_follows, whole_text}
use Rattle.text_reader.proofs.reader.read_plan.Goals as goal

pub returns-then-text-gt-TEXT : goal.returns-then-text-gt-TEXT
returns-then-text-gt-TEXT c = long_text refl c.if-text-gt-TEXT.true

pub returns-in_default : goal.returns-in_default
returns-in_default c =
    let e = c.in_default.ensures in
    no_form_text refl (no_plan_line _ (sym e.same))

pub read_slots-s-requires : goal.read_slots-s-requires
read_slots-s-requires c =
    c.in-Some.ensures.within

-- the plan that started empty, once it has the plan line
begins : {p : Plan} (line : PlanLine) → p ≡ empty_plan → with_line p line ≡ with_line empty_plan line
begins line e = ap (λ (p : Plan). with_line p line) e

pub returns-then-e-text : goal.returns-then-e-text
returns-then-e-text c =
    let first = sym c.in-Some.ensures.same in
    no_form_text refl (more_follows c.in-Some.line first (begins c.in-Some.line c.empty-plan.ensures) c.read_slots-s.ensures c.read_processes-q.ensures
    c.read_conditions-c.ensures c.read_edges-e.ensures c.if-e-text.true)

pub returns-in_err-refuse : goal.returns-in_err-refuse
unfolding after_refusal
returns-in_err-refuse c =
    let first = sym c.in-Some.ensures.same in
    let p = err_from_is_err_and c.from_residual.result c.from_residual.ensures.1 in
    rw (p.1, p.2) (whole_text c.in-Some.line first (begins c.in-Some.line c.empty-plan.ensures) c.read_slots-s.ensures c.read_processes-q.ensures
    c.read_conditions-c.ensures c.read_edges-e.ensures c.if-e-text.false c.if-text-gt-TEXT.false (rw (← c.in_err-refuse.ensures) refl))

pub returns : goal.returns
unfolding after_refusal
returns c =
    let first = sym c.in-Some.ensures.same in
    whole_text c.in-Some.line first (begins c.in-Some.line c.empty-plan.ensures) c.read_slots-s.ensures c.read_processes-q.ensures
    c.read_conditions-c.ensures c.read_edges-e.ensures c.if-e-text.false c.if-text-gt-TEXT.false (rw (← c.in_ok-refuse.ensures) refl)
