-- Of a lawful table the frames that its entries give are exactly these: ascending ticks, each used by an item, and
-- every item framed. So they do not depend on the order of the entries, and 22 may be tried frame by frame and item by
-- item.
-- Assumes nothing.
use mathlib.Core.Path.{◌≡◌, sym, ap, ◌∙◌, subst}
use mathlib.Core.Bool.{false, not}
use mathlib.Core.List.{List, map, Memᴰ as In}
use Prim.Native.Nat.{ℕ, ◌+◌, ◌≤◌}
use borrow.Author.Tests.{ltb-false, not-true}
use Rattle.lists.specs.Lists.{keep}
use Rattle.lists.proofs.Tests.{is_not}
use Rattle.lists.proofs.Members.{map_in, in_map, keep_in, in_keep}
use Rattle.lists.specs.Ordered.{Ascending}
use Rattle.model.specs.Plan.{Lines}
use Rattle.model.specs.Bus.{is_process, sender, row_node, row_bytes}
use Rattle.model.specs.Table.{Entry, Frame, frame_of, frame_key, frames}
use Rattle.model.specs.Checking.{own}
use Rattle.laws.proofs.Good.{Good}
use Rattle.laws.proofs.Lawful.{met_somewhere, to_met}
use Rattle.laws.proofs.Occurrences.{Begun, Covers, joined_one, joined_covers, joined_is}
use Rattle.laws.proofs.Rows.{sender_in}
use Rattle.laws.proofs.Rules.{Lawful}

-- an item of a table
pub record Item (p : Lines) (es : List Entry) (e : Entry) : Type 0 where
  pub member : In e es
  pub item : is_process p e.row ≡ false

-- what a frame list has to be: every frame is used, and every item has its frame
abbrev pub Used : Lines → List Entry → Frame → Type 0
Used p es f = (e : Entry) × Item p es e × (frame_of p e ≡ f)

abbrev pub Framed : Lines → List Frame → Entry → Type 0
Framed p fs e = (f : Frame) × In f fs × (e.tick ≡ f.tick) × (row_node p e.row ≡ f.node) × (e.place + row_bytes p e.row ≤ f.used)

module _ (p : Lines) (g : Good p) (es : List Entry) (stated : ℕ) (lawful : Lawful p es stated) where
  slot_begun : (e : Entry) → Item p es e → Begun p (frame_of p e)
  unfolding frame_of row_node
  slot_begun e i =
      let c = met_somewhere p g e (lawful.formed e i.member) in
      let k = lawful.keeps c.0 c.1 in
      let m : In (own e) _ = to_met es c.0 e i.member c.2 in
      let h = g.has_slot (sender p e.row) (sender_in p g e.row (k.only_due (own e) m).0) in
      record { slot = h.0; slot_in = h.1; its_node = h.2; begun = rw h.2 (k.in_slot (own e) (record { member = m; high = ltb-false _ _ i.item })) }

  abbrev singles : List Frame
  singles = map (frame_of p) (keep (λ e. not (is_process p e.row)) es)

  single : (f : Frame) → In f singles → Used p es f
  single f m =
      let r = map_in (frame_of p) (keep (λ e. not (is_process p e.row)) es) m in
      let k = keep_in (λ e. not (is_process p e.row)) es r.1 in
      (r.0, record { member = k.0; item = not-true _ k.1 }, sym r.2)

  a_single : (e : Entry) → Item p es e → In (frame_of p e) singles
  a_single e i = in_map (frame_of p) (in_keep (λ e. not (is_process p e.row)) i.member (is_not _ i.item))

  singles_begun : (f : Frame) → In f singles → Begun p f
  singles_begun f m = let r = single f m in subst (Begun p) r.2 (slot_begun r.0 r.1)

  pub frames_used : (f : Frame) → In f (frames p es) → Used p es f
  unfolding frames
  frames_used f m = single f (joined_one p g singles singles_begun f m)

  pub items_framed : (e : Entry) → Item p es e → Framed p (frames p es) e
  unfolding frames frame_of
  items_framed e i =
      let r = joined_covers p g singles singles_begun (frame_of p e) (a_single e i) in
      let c : Covers (frame_of p e) r.0 = r.2 in
      (r.0, r.1, c.tick, c.node, c.used)

  -- A list in order in which every frame is used and every item framed is the frame list that the entries give.
  pub frames_are : (fs : List Frame) → Ascending frame_key fs → ((f : Frame) → In f fs → Used p es f) → ((e : Entry) → Item p es e → Framed p fs e) → fs ≡ frames p es
  unfolding frames frame_of
  frames_are fs ascends used framed =
      joined_is p g singles singles_begun fs ascends (λ f m. let u = used f m in subst (λ (z : Frame). In z singles) u.2 (a_single u.0 u.1)) (λ f m.
      let u = single f m in
      let h = framed u.0 u.1 in
      let q = u.2 in
      let w : u.0.place + row_bytes p u.0.row ≤ h.0.used = h.4 in (
        h.0,
        h.1,
        record {
          tick = sym (ap (λ (z : Frame). z.tick) q) ∙ h.2;
          node = sym (ap (λ (z : Frame). z.node) q) ∙ h.3;
          used = subst (λ (k : ℕ). k ≤ h.0.used) (ap (λ (z : Frame). z.used) q) w;
        },
      ))
