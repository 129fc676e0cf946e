-- Frames of slots that begin at their ticks. At most one slot begins at a tick, so that frames of one tick are of one
-- node, and the wider of two is one of them. Of such frames, joined tick by tick, each is one of them, each of them is
-- covered, and no other list in order is so.
-- Assumes nothing.
use mathlib.Core.Path.{◌≡◌, refl, sym, ap, ◌∙◌, subst}
use mathlib.Core.Logic.{◌⊎◌, inl, inr}
use mathlib.Core.Bool.{Bool, true, false}
use mathlib.Core.List.{List, [], ◌∷◌, Memᴰ as In}
use Prim.Native.Nat.{ℕ, ◌≤◌, ◌<◌, max}
use native.Mathlib.Omega.{arith}
use lib.Dec.{leb}
use borrow.Author.Tests.{leb-true, leb-false}
use Rattle.lists.specs.Ordered.{order, same, put_all, Ascending}
use Rattle.lists.proofs.Order.{Joining, order_same, key_unique, put_all_in, in_put_all, put_all_ascends, ascending_equal}
use Rattle.model.specs.Plan.{Lines, Slot}
use Rattle.model.specs.Bus.{begins}
use Rattle.model.specs.Table.{Frame, frame_key, wider}
use Rattle.laws.proofs.Good.{Good}
use Rattle.laws.proofs.Slots.{one_slot_a_tick}

-- a frame of a slot that begins at its tick
pub record Begun (p : Lines) (f : Frame) : Type 0 where
  pub slot : Slot
  pub slot_in : In slot p.slots
  pub its_node : slot.node ≡ f.node
  pub begun : begins p slot.node f.tick ≡ true

-- a frame of the same slot occurrence, as wide or wider
pub record Covers (f g : Frame) : Type 0 where
  pub tick : f.tick ≡ g.tick
  pub node : f.node ≡ g.node
  pub used : f.used ≤ g.used

-- every one of some frames is covered
abbrev pub Covered : List Frame → List Frame → Type 0
Covered fs hs = (f : Frame) → In f fs → (h : Frame) × In h hs × Covers f h

same_key : (f h : Frame) → f.tick ≡ h.tick → frame_key f ≡ frame_key h
unfolding frame_key
same_key f h q = λ i. q i ∷ []

-- frames of a list in order that covers, in another that covers
also_there : (fs hs ks : List Frame) → Ascending frame_key hs → ((h : Frame) → In h hs → In h fs) → Covered fs hs → ((k : Frame) → In k ks → In k fs) → Covered fs ks →
    (h : Frame) → In h hs → In h ks
also_there fs hs ks ascends hs-in hs-cover ks-in ks-cover h m =
    let a = ks-cover h (hs-in h m) in
    let k : Frame = a.0 in
    let b = hs-cover k (ks-in k a.1) in
    let hk : Covers h k = a.2 in
    let kh : Covers k b.0 = b.2 in
    let q : b.0 ≡ h = key_unique frame_key hs ascends b.0 h b.1 m (same_key b.0 h (sym kh.tick ∙ sym hk.tick)) in
    let u : k.used ≡ h.used = omega (arith, hk.used, kh.used, ap (λ (z : Frame). z.used) q) in
    subst (λ (z : Frame). In z ks) (λ i. record { tick = sym hk.tick i; node = sym hk.node i; used = u i }) a.1

module _ (p : Lines) (g : Good p) where
  one_node : (x y : Frame) → Begun p x → Begun p y → order (frame_key x) (frame_key y) ≡ same → (x.tick ≡ y.tick) × (x.node ≡ y.node)
  unfolding frame_key
  one_node x y a b o =
      let q = order_same (frame_key x) (frame_key y) o in
      let t : x.tick ≡ y.tick = cc in
      let s : a.slot ≡ b.slot =
      one_slot_a_tick p g a.slot b.slot a.slot_in b.slot_in y.tick (subst (λ (k : ℕ). begins p a.slot.node k ≡ true) t a.begun) b.begun in
      (t, sym a.its_node ∙ ap (λ (z : Slot). z.node) s ∙ b.its_node)

  widest : Joining frame_key wider (Begun p) Covers
  unfolding wider
  widest =
      record {
        one_of = λ x y a b o. at x y (one_node x y a b o) (leb x.used y.used) refl;
        for_new = λ x y a b o. let q = one_node x y a b o in record { tick = q.0; node = q.1; used = omega arith };
        for_old = λ x y a b o. record { tick = refl; node = refl; used = omega arith };
        itself = λ x. record { tick = refl; node = refl; used = omega arith };
        trans = λ x y z a b. record { tick = a.tick ∙ b.tick; node = a.node ∙ b.node; used = omega arith };
      }
    where
      at : (x y : Frame) → (x.tick ≡ y.tick) × (x.node ≡ y.node) → (b : Bool) → leb x.used y.used ≡ b → (wider x y ≡ x) ⊎ (wider x y ≡ y)
      at x y q true e =
          let l : x.used ≤ y.used = leb-true _ _ e in
          let m : max x.used y.used ≡ y.used = omega arith in
          inr (λ i. record { tick = y.tick; node = y.node; used = m i })
      at x y q false e =
          let l : y.used < x.used = leb-false _ _ e in
          let m : max x.used y.used ≡ x.used = omega arith in
          inl (λ i. record { tick = sym q.0 i; node = sym q.1 i; used = m i })

  module _ (fs : List Frame) (begun : (f : Frame) → In f fs → Begun p f) where
    abbrev pub joined : List Frame
    joined = put_all frame_key wider fs []

    pub joined_one : (f : Frame) → In f joined → In f fs
    joined_one f m = put_all_in frame_key widest f fs begun m

    pub joined_covers : Covered fs joined
    joined_covers f m = in_put_all frame_key widest f fs begun m

    pub joined_ascends : Ascending frame_key joined
    unfolding wider frame_key
    joined_ascends = put_all_ascends frame_key wider (λ f g o. refl) fs [] tt

    pub joined_is : (hs : List Frame) → Ascending frame_key hs → ((h : Frame) → In h hs → In h fs) → Covered fs hs → hs ≡ joined
    joined_is hs ascends one covers =
        ascending_equal frame_key hs joined ascends joined_ascends (also_there fs hs joined ascends one covers joined_one joined_covers)
        (also_there fs joined hs joined_ascends joined_one joined_covers one covers)
