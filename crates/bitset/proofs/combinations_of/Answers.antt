-- `bitset::combinations_of` meets its contract: the bit that is moved up stays within the word.
use Rattle.std.proofs.Common.{◌^◌, ◌≤◌, arith}
use native.Mathlib.Nat.{pow-le-pow_right}
use Rattle.bitset.proofs.combinations_of.Goals as goal

pub returns : goal.returns
returns c =
    let few : 2 ^ c.args.conditions ≤ 64 = pow-le-pow_right {n = 2} (omega arith) {i = c.args.conditions} {j = 6} c.requires in
    (omega arith, omega arith)
