-- `planner_prefix::clear` meets its contract: the part that is filled is the front.
use Rattle.std.proofs.Common.{◌≡◌, sym, ap, ◌∙◌, ℕ, ◌+◌, ◌≤◌, ◌++◌, List, arith, length, take, drop, replicate, length-take-le}
use Rattle.std.proofs.lemmas.List.{length-replicate}
use lib.Seq.{sets, sets-eq}
use Rattle.planner_prefix.proofs.parts.clear.Goals as goal

cleared : (n : ℕ) (l : List ℕ) → n ≤ length l → replicate n 0 ++ drop n l ≡ sets l 0 (replicate n 0)
cleared n l h =
    let z : 0 + length (replicate n 0) ≡ n = omega (arith, length-replicate {A = ℕ} n 0) in
    sym (sets-eq (replicate n 0) l 0 (omega (arith, z, h)) ∙ ap (λ (k : ℕ). replicate n 0 ++ drop k l) z)

pub returns : goal.returns
returns c =
    let a = c.args in
    let q : length (take a.n a.to.now) ≡ a.n = length-take-le a.n a.to.now c.requires in
    rw (c.fill.ensures.after (λ y e. e), q) (cleared a.n a.to.now c.requires)
