-- `checker_table::some_ill_formed` meets its contract: before each turn what is left of the table gives the whole answer.
use mathlib.Core.Path.{◌≡◌, refl, sym, ap, ◌∙◌}
use mathlib.Core.Bool.{Bool}
use mathlib.Core.List.{List}
use Prim.Native.Nat.{ℕ, ◌+◌, ◌*◌, ◌≤◌}
use native.Mathlib.Omega.{arith}
use lib.ListN.{length, drop}
use Rattle.lists.specs.Lists.{any}
use Rattle.model.specs.Table.{Entry, entries_of}
use Rattle.plan_index.specs.Index.{laid}
use Rattle.checker_rules.specs.EntryForm.{is_ill_formed}
use Rattle.checker_rules.proofs.EntryCases.{rest_next, rest_found, rest_none}
use Rattle.checker_table.proofs.table.some_ill_formed.Goals as goal

pub loop-i-init : goal.loop-i-init
loop-i-init c = (omega arith, refl)

pub ill_formed-requires : goal.ill_formed-requires
ill_formed-requires c = (omega (arith, c.requires.0), c.requires.1, c.requires.2)

pub returns-then-ill_formed : goal.returns-then-ill_formed
returns-then-ill_formed c =
    let a = c.args in
    let f : Entry → Bool = is_ill_formed (laid a.index.now) a.combinations in
    rest_found f a.table.now (c.loop-i.i * 5) (omega (arith, c.requires.0)) (sym c.ill_formed.ensures ∙ c.if-ill_formed.true) c.loop-i.invariant.1

pub loop-i-preserved : goal.loop-i-preserved
loop-i-preserved c =
    let a = c.args in
    let w : List ℕ = a.table.now in
    let f : Entry → Bool = is_ill_formed (laid a.index.now) a.combinations in
    let at : ℕ = c.loop-i.i * 5 in
    let room : at + 5 ≤ length w = omega (arith, c.requires.0) in
    let next : at + 5 ≡ (c.loop-i.i + 1) * 5 = omega arith in (
      omega arith,
      rest_next f w at room (sym c.ill_formed.ensures ∙ c.if-ill_formed.false) c.loop-i.invariant.1 ∙ ap (λ (k : ℕ). any f (entries_of (drop k w))) next,
    )

pub returns : goal.returns
returns c =
    let a = c.args in
    let f : Entry → Bool = is_ill_formed (laid a.index.now) a.combinations in
    rest_none f a.table.now (c.loop-i.i * 5) (omega (arith, c.requires.0)) c.loop-i.invariant.1
