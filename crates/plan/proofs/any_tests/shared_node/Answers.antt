-- `plan::shared_node` meets its contract: the nodes of the slots are those of the lines.
use mathlib.Core.Path.{◌≡◌, sym, ap, ◌∙◌}
use mathlib.Core.List.{List, map}
use Prim.Native.Nat.{ℕ, ◌≤◌, ◌<◌}
use native.Mathlib.Omega.{arith}
use lib.ListN.{length, get_or, take, get_or-map, length-map}
use lib.Seq.{ext_get_or}
use Rattle.std.specs.List.{take-map}
use Rattle.std.proofs.Common.{rules, tests}
use Rattle.lists.specs.Lists.{repeated}
use Rattle.lists.proofs.Keep.{map_map}
use Rattle.model.specs.Plan as m
use Rattle.plan.specs.declared.Slot.{Slot}
use Rattle.plan.specs.Memory.{slot_of, no_slot}
use Rattle.plan.proofs.TestsOnLines.{slots_taken}
use Rattle.plan.proofs.any_tests.shared_node.Goals as goal

abbrev node : Slot → ℕ
node s = s.node

pub returns : goal.returns
returns c =
    let p = c.args.p.now in
    let ns : List ℕ = c.map-nodes.result in
    let h = c.map-nodes.ensures.items in
    let l : p.slots ≤ length p.slot = omega (arith, c.requires.slots) in
    let e : (i : ℕ) → i < 8 → get_or ns i 0 ≡ node (get_or p.slot i no_slot) = λ i u. (let k = h.at i no_slot 0 u in search (rules, tests)) in
    let s : ns ≡ map node p.slot =
    ext_get_or 0 ns (map node p.slot) (omega (arith, h.long, length-map p.slot node))
    (λ i u. e i (omega (arith, h.long)) ∙ sym (get_or-map node p.slot i no_slot)) in
    c.any_twice.ensures
    ∙ ap repeated
    (ap (take p.slots) s ∙ take-map node p.slots p.slot ∙ sym (map_map (λ (s : m.Slot). s.node) slot_of (take p.slots p.slot))
    ∙ ap (map (λ (s : m.Slot). s.node)) (slots_taken p l))
