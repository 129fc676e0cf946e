-- `checker_rules::first_from` meets its contract: the beginning of round 0 is carried on to the tick's round.
use mathlib.Core.Path.{sym, ap, ◌∙◌}
use native.Mathlib.Nat.{zero-mod}
use native.Mathlib.Omega.{arith}
use Rattle.bus_timetable.specs.Bus.{beginning_at, reciprocal_of}
use Rattle.checker_rules.proofs.slot_beginnings.first_from.Goals as goal

pub round_beginning-begun-requires : goal.round_beginning-begun-requires
round_beginning-begun-requires c =
    let h = c.requires in
    let e = c.round_of-round.ensures in
    (omega (arith, e, h.round_one), c.reciprocal_of.ensures ∙ h.reciprocals ∙ ap reciprocal_of (sym e), h.tick_most, record { beginning = zero-mod c.round_of-round.result; by = omega arith })

pub offset_of-requires : goal.offset_of-requires
offset_of-requires c = c.requires.node

pub first_beginning-requires : goal.first_beginning-requires
first_beginning-requires c =
    let h = c.requires in
    (omega (arith, c.round_of-round.ensures, h.round_one), omega (arith, c.round_of-round.ensures, h.round_most), omega (arith, c.offset_of.ensures, h.offset_most), h.tick_most, c.round_beginning-begun.ensures)

pub returns : goal.returns
returns c =
    c.first_beginning.ensures ∙ (λ i. beginning_at (c.round_of-round.ensures i) (c.offset_of.ensures i) c.args.tick)
