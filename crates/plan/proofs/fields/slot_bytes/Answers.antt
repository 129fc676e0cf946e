-- `plan::slot_bytes` meets its contract: the slot that is found is the model's.
use mathlib.Core.Path.{◌≡◌, refl, sym, ap, ◌∙◌}
use mathlib.Core.Bool.{Bool, true, false}
use mathlib.Core.List.{List, [], ◌∷◌, map}
use Prim.Native.Nat.{ℕ}
use lib.Dec.{eqb}
use Rattle.std.proofs.Common.{rules, tests, Some, None, cond, Bor}
use Rattle.std.specs.declared.option.Option.{Option}
use Rattle.std.specs.List.{find}
use Rattle.std.specs.Option.{option_map}
use Rattle.std.proofs.lemmas.Iterator.{YieldsList-from_slice}
use Rattle.std.proofs.lemmas.Iterator.Search.{find_from_yields_List}
use Rattle.model.specs.Bus.{slot_among}
use Rattle.plan.specs.declared.Slot.{Slot}
use Rattle.plan.specs.Memory.{slot_of}
use Rattle.plan.proofs.fields.slot_bytes.Goals as goal

bytes : Option Slot → ℕ
bytes (Some s) = s.bytes
bytes None = 0

found : (n : ℕ) (ss : List Slot) → bytes (find (λ s. eqb s.node n) ss) ≡ (slot_among (map slot_of ss) n).bytes
unfolding slot_among bytes
found n [] = refl
found n (s ∷ ss) = pick (eqb s.node n) (found n ss)
  where
    pick : (b : Bool) → bytes (find (λ s. eqb s.node n) ss) ≡ (slot_among (map slot_of ss) n).bytes →
        bytes (cond b (Some s) (find (λ s. eqb s.node n) ss)) ≡ (cond b (slot_of s) (slot_among (map slot_of ss) n)).bytes
    pick true h = refl
    pick false h = h

-- what is found, by the call of `find`
abbrev shown : Option (Bor Slot) → ℕ
shown r = bytes (option_map (λ y. y.now) r)

pub returns-in-Some : goal.returns-in-Some
unfolding bytes
returns-in-Some c =
    let n = c.args.node in
    let ss = c.args.slots.now in
    ap shown (sym c.in-Some.is)
    ∙ ap bytes
    (find_from_yields_List (λ s. eqb s.node n) c.find.new.self _ c.find.result c.find.ensures.ran (YieldsList-from_slice ss cc) (λ x b q k. search (rules, tests)))
    ∙ found n ss

pub returns-in-None : goal.returns-in-None
unfolding bytes
returns-in-None c =
    let n = c.args.node in
    let ss = c.args.slots.now in
    ap shown (sym c.in-None.is)
    ∙ ap bytes
    (find_from_yields_List (λ s. eqb s.node n) c.find.new.self _ c.find.result c.find.ensures.ran (YieldsList-from_slice ss cc) (λ x b q k. search (rules, tests)))
    ∙ found n ss
