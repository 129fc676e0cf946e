-- A table with more entries than combinations times rows has a row that some combination meets twice: each entry that
-- is not ill-formed is met in some combination, and where refusal 14 finds nothing, a combination meets at most one
-- entry of each row.
-- Assumes nothing.
use mathlib.Core.Path.{◌≡◌}
use mathlib.Core.Bool.{Bool, true, false}
use mathlib.Core.List.{List, map, Memᴰ as In}
use Prim.Native.Nat.{◌*◌, ◌≤◌, ◌<◌}
use native.Mathlib.Nat.{mul-le-mul_left}
use native.Mathlib.Omega.{arith}
use lib.ListN.{length, length-map}
use Rattle.lists.specs.Lists.{any, keep, repeated}
use Rattle.lists.proofs.Tests.{is_true}
use Rattle.lists.proofs.Members.{none_in, map_in, one_or_none}
use Rattle.lists.proofs.Counts.{passing_few}
use Rattle.lists.proofs.Different.{different_few}
use Rattle.model.specs.Plan.{Lines}
use Rattle.model.specs.Activity.{all_heard, combinations}
use Rattle.model.specs.Bus.{rows}
use Rattle.model.specs.Log.{Placed, Log}
use Rattle.model.specs.Refusals.{nothing, plan_refusal}
use Rattle.model.specs.Table.{Entry, column_met}
use Rattle.model.specs.Checking.{ill_formed, own, met_entries, met_log, due, not_once, in_some}
use Rattle.laws.proofs.Combinations.{few_combinations, in_combinations, combination_length, in_no}
use Rattle.laws.proofs.Formed.{formed}
use Rattle.laws.proofs.Good.{good}
use Rattle.laws.proofs.Lawful.{once_different, met_of, met_somewhere}
use Rattle.laws.proofs.Checks.{none_14}

module _ (p : Lines) (fine : plan_refusal p ≡ nothing) (es : List Entry) (well : any (ill_formed p) es ≡ false) where
  -- where 14 finds nothing, a combination meets no more entries than there are rows
  met_few : (c : List Bool) → not_once p es c ≡ false → length (keep (column_met (all_heard c)) es) ≤ rows p
  unfolding met_log met_entries
  met_few c h =
      let log : Log = met_log es c in
      let low : (x : Placed) → In x log → x.row < rows p =
      λ x m. (let e = met_of es c x m in rw e.3 (formed p e.0 (none_in (ill_formed p) well e.1)).row_in) in
      let once : repeated (map (λ x. x.row) log) ≡ false =
      once_different log (λ x m. (let n = (none_14 p es c).0 h x.row (low x m) in omega (arith, one_or_none (due p c x.row)))) in
      let few : length (map (λ x. x.row) log) ≤ rows p =
      different_few (rows p) (map (λ x. x.row) log) once (λ r m. (let x = map_in (λ x. x.row) log m in rw x.2 (low x.0 x.1))) in
      omega (arith, length-map log (λ x. x.row), length-map (met_entries es c) own)

  -- at most one entry for each row and combination
  pub entries_few : in_some p (not_once p es) ≡ false → length es ≤ 64 * rows p
  entries_few h =
      let g = good p fine in
      let n = passing_few (λ c e. column_met (all_heard c) e) (rows p) (combinations p) es
      (λ e m. let c = met_somewhere p g e (none_in (ill_formed p) well m) in (c.0, in_combinations p c.0 c.1, c.2)) (λ c m. met_few c ((in_no p (not_once p es)).0 h c (combination_length p c m))) in
      omega (arith, mul-le-mul_left (rows p) (few_combinations p g))

  -- so where there are more than 64 times 198, 14 applies in some combination
  pub too_many : 12672 < length es → in_some p (not_once p es) ≡ true
  too_many l =
      let g = good p fine in
      is_true (in_some p (not_once p es)) (λ h. omega (arith, entries_few h, g.few_processes, g.few_edges, g.few_conditions))
