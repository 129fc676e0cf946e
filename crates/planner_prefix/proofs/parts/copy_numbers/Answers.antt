-- `planner_prefix::copy_numbers` meets its contract: the part of `to` that is lent is the part of `from` at the end.
use Rattle.std.proofs.Common.{◌≡◌, sym, ap, ◌∙◌, ℕ, ◌+◌, ◌-◌, ◌≤◌, ◌++◌, List, append_assoc, arith, length, take, drop, length-take-le, length-drop}
use Rattle.std.proofs.lemmas.List.{drop-drop}
use lib.Seq.{sets, sets-eq}
use Rattle.lists.proofs.Parts.{slice_taken}
use Rattle.planner_prefix.proofs.parts.copy_numbers.Goals as goal

-- some numbers stored from place i on, where n is how many
stored : (vs l : List ℕ) (i n : ℕ) → length vs ≡ n → i + n ≤ length l → take i l ++ (vs ++ drop n (drop i l)) ≡ sets l i vs
stored vs l i n z h =
    let e : i + length vs ≡ i + n = ap (λ (k : ℕ). i + k) z in
    rw drop-drop (sym (append_assoc (take i l) vs (drop (i + n) l)) ∙ sym (sets-eq vs l i (omega (arith, z, h)) ∙ ap (λ (k : ℕ). (take i l ++ vs) ++ drop k l) e))

pub returns : goal.returns
returns c =
    let a = c.args in
    let vs : List ℕ = take a.n (drop a.at a.from.now) in
    let to : a.place + a.n - a.place ≡ a.n = omega arith in
    let from : a.at + a.n - a.at ≡ a.n = omega arith in
    let many : length vs ≡ a.n = length-take-le a.n (drop a.at a.from.now) (omega (arith, length-drop a.at a.from.now, c.requires.0)) in
    rw (to, c.copy_from_slice.ensures.after, from) (stored vs a.to.now a.place a.n many c.requires.1)
    ∙ ap (sets a.to.now a.place) (slice_taken a.from.now a.at a.n (omega (arith, c.requires.0)))
