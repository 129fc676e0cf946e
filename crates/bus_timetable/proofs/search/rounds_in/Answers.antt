-- `bus_timetable::search::rounds_in` meets its contract: the product of two numbers below 2^31 fits 64 bits.
use Prim.Native.Nat.{ℕ, ◌*◌, ◌/◌, ◌≤◌}
use native.Mathlib.Nat.{mul-le-mul}
use native.Mathlib.Omega.{arith}
use Rattle.bus_timetable.proofs.search.rounds_in.Goals as goal

-- the product of the numbers that are lent, and the product of their copies
product-most : (a b : ℕ) → a ≤ 2147483647 → b ≤ 2147483647 → a * b ≤ 4611686014132420609
product-most a b l k = mul-le-mul {n₁ = a} {m₁ = b} {n₂ = 2147483647} {m₂ = 2147483647} l k

pub overflow_mul-result : goal.overflow_mul-result
overflow_mul-result c =
    let e = c.requires in
    let m = product-most c.from.result c.from-2.result (omega (arith, e.0, c.from.ensures)) (omega (arith, e.1, c.from-2.ensures)) in
    omega (arith, m)

pub overflow_cast-result : goal.overflow_cast-result
overflow_cast-result c =
    let e = c.requires in
    let m = product-most c.from.result c.from-2.result (omega (arith, e.0, c.from.ensures)) (omega (arith, e.1, c.from-2.ensures)) in
    omega (arith, m)

pub returns : goal.returns
returns c = λ i. c.from.ensures i * c.from-2.ensures i / 2147483648
