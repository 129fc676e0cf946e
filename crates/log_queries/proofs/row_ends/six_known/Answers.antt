-- `log_queries::six_known` meets its contract: the bits add up to the mask.
use Rattle.std.specs.Prelude.{if◌then◌else◌}
use Rattle.std.specs.Int.{from_bool}
use mathlib.Core.Path.{◌≡◌, ap, ◌∙◌}
use mathlib.Core.Bool.{Bool, true, false}
use Prim.Native.Nat.{ℕ, ◌+◌, ◌≤◌}
use native.Mathlib.Omega.{arith}
use Rattle.log_queries.specs.Reading.{came_by, known_by}
use Rattle.log_queries.proofs.row_ends.six_known.Goals as goal

-- the number of a bit, as the mask has it
number_in : (t : Bool) {b : Bool} {n : ℕ} → b ≡ t → n ≡ from_bool b → (n ≡ (if t then 1 else 0)) × (n ≤ 1)
number_in true p e = let q = e ∙ ap from_bool p in (q, omega arith)
number_in false p e = let q = e ∙ ap from_bool p in (q, omega arith)

pub returns : goal.returns
unfolding known_by came_by
returns c =
    let a = c.args in
    let f : ℕ → Bool = λ j. came_by a.rows.now a.u (a.base + j) in
    let z : a.base ≡ a.base + 0 = omega arith in
    let n0 = number_in (f 0) (c.came.ensures ∙ ap (came_by a.rows.now a.u) z) c.from-a.ensures in
    let n1 = number_in (f 1) c.came-2.ensures c.from-b.ensures in
    let n2 = number_in (f 2) c.came-3.ensures c.from-c.ensures in
    let n3 = number_in (f 3) c.came-4.ensures c.from-d.ensures in
    let n4 = number_in (f 4) c.came-5.ensures c.from-e.ensures in
    let n5 = number_in (f 5) c.came-6.ensures c.from-f.ensures in
    (omega arith, omega arith)
