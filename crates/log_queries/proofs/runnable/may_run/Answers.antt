-- `log_queries::may_run` meets its contract: before turn i the array says of the first i processes whether they may
-- run.
use mathlib.Core.Path.{◌≡◌, sym, ap, ◌∙◌}
use mathlib.Core.Bool.{Bool}
use Prim.Native.Nat.{ℕ, ◌+◌}
use native.Mathlib.Numerals.{add-one}
use native.Mathlib.Omega.{arith}
use lib.ListN.{replicate}
use Rattle.plan_index.specs.declared.PlanIndex.{PlanIndex}
use Rattle.plan_index.specs.Index.{laid}
use Rattle.log_rows.specs.Rows.{Rows, rows_of, with_run, put_run}
use Rattle.log_queries.specs.Reading.{bit, may_run_by}
use Rattle.log_queries.specs.Queries.{may_run_in, running}
use Rattle.log_queries.proofs.runnable.may_run.Invariants.{runnable}
use Rattle.log_queries.proofs.Bits.{bit_from}
use Rattle.log_queries.proofs.runnable.may_run.Goals as goal

module _ (b : PlanIndex) (u : ℕ) where
  first : (s : Rows) {z : Rows} → z ≡ with_run (replicate 64 0) s → z ≡ with_run (runnable b z u 0) z
  unfolding may_run_by
  first s e = e ∙ sym (ap (λ (r : Rows). with_run (replicate 64 0) r) e)

  next : (z : Rows) (i : ℕ) {v : ℕ} {x : Bool} {r : Rows} →
      r ≡ with_run (runnable b z u i) z → v ≡ bit x → x ≡ may_run_in b r u i → put_run i v r ≡ with_run (runnable b z u (i + 1)) z
  unfolding may_run_by
  next z i e q y = rw (add-one, q, y, e)

  whole : (z s : Rows) {n : ℕ} {r : Rows} → r ≡ with_run (runnable b z u n) z → z ≡ with_run (replicate 64 0) s → n ≡ b.processes → r ≡ with_run (running b s u) s
  whole z s e q y = e ∙ ap (λ (k : ℕ). with_run (runnable b z u k) z) y ∙ ap (λ (x : Rows). with_run (running b x u) x) q

pub loop-i-init : goal.loop-i-init
loop-i-init c =
    let s = c.args in
    (omega arith, first (laid s.index.now) s.u (rows_of s.rows.now) c.clear_run.ensures)

pub loop-i-preserved : goal.loop-i-preserved
loop-i-preserved c =
    let s = c.before.args in
    let z = rows_of c.clear_run.new.rows in
    (omega arith, c.put_run.ensures ∙ next (laid s.index.now) s.u z c.loop-i.i c.loop-i.invariant.1 (c.from-x.ensures ∙ bit_from _) c.runs.ensures)

pub returns : goal.returns
returns c =
    let s = c.args in
    let q : c.loop-i.i ≡ c.processes_of-processes.result = omega arith in
    whole (laid s.index.now) s.u (rows_of c.clear_run.new.rows) (rows_of s.rows.now) c.loop-i.invariant.1 c.clear_run.ensures (q ∙ c.processes_of-processes.ensures.0)
