-- Of a plan in which refusals 2 to 9 find nothing: what its slots and its bus keep to, and what a timetable says of its
-- bus.
-- Assumes nothing.
use Rattle.std.specs.Prelude.{if◌then◌else◌}
use mathlib.Core.Path.{◌≡◌, refl, sym, ap, ◌∙◌}
use mathlib.Core.Bool.{Bool, true, false}
use mathlib.Core.List.Memᴰ.{head as here}
use mathlib.Core.List.Memᴰ.{tail as there}
use mathlib.Core.List.{List, [], ◌∷◌, map, Memᴰ as In}
use Prim.Native.Nat.{ℕ, ◌+◌, ◌≤◌, ◌<◌}
use native.Mathlib.Omega.{arith}
use lib.Dec.{eqb}
use lib.ListN.{length, get_or, get_or-map, length-map}
use borrow.Author.Tests.{ne_eqb}
use Rattle.limits.specs.Limits.{BYTES, ROUNDTICKS}
use Rattle.lists.specs.Lists.{sum}
use Rattle.lists.proofs.Members.{in_getD}
use Rattle.lists.proofs.Fill.{fill_at}
use Rattle.model.specs.Plan.{Lines, Slot}
use Rattle.model.specs.Bus.{slot_ticks, round, slot_of, offset_among, offset}
use Rattle.model.specs.Refusals.{nothing, plan_refusal}
use Rattle.laws.proofs.Good.{Good, pass, good}
use Rattle.laws.proofs.Slots.{round_one, round_most}
use Rattle.plan.specs.declared.Slot as memory
use Rattle.plan.specs.declared.Plan.{Plan}
use Rattle.plan.specs.Memory.{no_slot, lines}
use Rattle.plan.specs.Memory as held
use Rattle.plan.proofs.TestsOnLines.{Few, few, counts_same}
use Rattle.bus_timetable.specs.declared.Timetable.{Timetable}
use Rattle.bus_timetable.specs.Bus.{reciprocal_of, ticks_of, Short, timetable}

abbrev none : Slot
none = record { node = 0; bytes = 0 }

module _ (p : Lines) where
  -- before a node that has no slot lie all slots; before any, at most all
  before_all : (n : ℕ) (ss : List Slot) → ((s : Slot) → In s ss → s.node < n) → offset_among p ss n ≡ sum (map (slot_ticks p) ss)
  unfolding offset_among
  before_all n [] h = refl
  before_all n (s ∷ ss) h =
      rw (ne_eqb s.node n (λ q. omega (arith, h s (here refl)))) (ap (λ (k : ℕ). slot_ticks p s + k) (before_all n ss (λ s m. h s (there m))))

  before_most : (n : ℕ) (ss : List Slot) → offset_among p ss n ≤ sum (map (slot_ticks p) ss)
  unfolding offset_among
  before_most n [] = omega arith
  before_most n (s ∷ ss) = at (eqb s.node n) (before_most n ss)
    where
      at : (b : Bool) → offset_among p ss n ≤ sum (map (slot_ticks p) ss) → (if b then 0 else slot_ticks p s + offset_among p ss n) ≤ slot_ticks p s + sum (map (slot_ticks p) ss)
      at true r = omega arith
      at false r = omega arith

-- the ticks of a slot, by its line in memory
pub ticks_same : (p : Plan) (s : memory.Slot) → slot_ticks (lines p) (held.slot_of s) ≡ ticks_of p.line s.bytes
unfolding lines slot_ticks
ticks_same p s = refl

module _ (p : Plan) (h : plan_refusal (lines p) ≡ nothing) where
  pub kept : Good (lines p)
  kept = good (lines p) h

  pub fits : Few p
  unfolding plan_refusal
  fits = few p (counts_same p ∙ (pass 2 _ _ h).0)

  node_below : (s : Slot) → In s (lines p).slots → s.node < 8
  node_below s m = omega (arith, kept.slot_node_in s m, kept.few_slots)

  pub short : Short p.line
  unfolding lines
  short = record { byte = kept.byte_most; head = kept.head_most }

  -- no slot of memory has more bytes than a slot may have
  pub small : (ss : List memory.Slot) → map held.slot_of ss ≡ (lines p).slots → (i : ℕ) → i < length ss → (get_or ss i no_slot).bytes ≤ BYTES
  small ss q i l =
      let e : get_or (lines p).slots i none ≡ held.slot_of (get_or ss i no_slot) = ap (λ (xs : List Slot). get_or xs i none) (sym q) ∙ get_or-map held.slot_of ss i no_slot in
      let m = in_getD (lines p).slots i none (omega (arith, l, length-map ss held.slot_of, ap length q)) in
      omega (arith, ap (λ (s : Slot). s.bytes) e, kept.slot_most (get_or (lines p).slots i none) m)

  -- before node 8, which no slot has, lie all slots
  pub before_none : offset (lines p) 8 ≡ round (lines p)
  unfolding offset
  before_none = before_all (lines p) 8 (lines p).slots node_below

-- What a timetable says of a plan's bus, number by number.
pub record Timed (p : Lines) (t : Timetable) : Type 0 where
  pub rounds : t.round ≡ round p
  pub reciprocals : t.reciprocal ≡ reciprocal_of t.round
  pub offsets : (n : ℕ) → n < length p.slots → get_or t.offset n 0 ≡ offset p n
  pub lasts : (n : ℕ) → n < length p.slots → get_or t.ticks n 0 ≡ slot_ticks p (slot_of p n)
  pub rooms : (n : ℕ) → n < length p.slots → get_or t.bytes n 0 ≡ (slot_of p n).bytes
  pub round_one : 1 ≤ t.round
  pub round_most : t.round ≤ ROUNDTICKS
  pub offset_most : (n : ℕ) → n < length p.slots → get_or t.offset n 0 ≤ t.round

module _ (p : Lines) (h : plan_refusal p ≡ nothing) where
  pub some_slot : 1 ≤ length p.slots
  some_slot = (good p h).some_slot

  pub timed : Timed p (timetable p)
  unfolding timetable offset
  timed =
      let g = good p h in
      let few = g.few_slots in
      record {
        rounds = refl;
        reciprocals = refl;
        offsets = λ n l. fill_at 8 (offset p) (length p.slots) n few l;
        lasts = λ n l. fill_at 8 (λ n. slot_ticks p (slot_of p n)) (length p.slots) n few l;
        rooms = λ n l. fill_at 8 (λ n. (slot_of p n).bytes) (length p.slots) n few l;
        round_one = round_one p g;
        round_most = round_most p g;
        offset_most = λ n l. omega (arith, fill_at 8 (offset p) (length p.slots) n few l, before_most p n p.slots);
      }
