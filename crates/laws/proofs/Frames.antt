-- The frame list has a frame for each slot occurrence that is used in any combination, of the greatest last used byte,
-- and no others.
-- Assumes nothing.
use mathlib.Core.Path.{◌≡◌, sym, ap, subst}
use mathlib.Core.Bool.{Bool, false, not}
use mathlib.Core.List.{List, map, Memᴰ as In}
use Prim.Native.Nat.{◌+◌, ◌≤◌}
use lib.ListN.{length}
use borrow.Author.Tests.{ltb-false, not-true}
use Rattle.lists.specs.Lists.{keep}
use Rattle.lists.proofs.Tests.{is_not}
use Rattle.lists.proofs.Members.{map_in, in_map, keep_in, in_keep}
use Rattle.model.specs.Plan.{Lines}
use Rattle.model.specs.Bus.{is_process, sender, row_node, row_bytes}
use Rattle.model.specs.Log.{Placed}
use Rattle.model.specs.Planning.{bound}
use Rattle.model.specs.Refusals.{nothing, plan_refusal}
use Rattle.model.specs.Table.{Entry, entry_of, Frame, frame_of, frames, result}
use Rattle.laws.proofs.Entries.{final, Made, entries_in}
use Rattle.laws.proofs.Good.{Good, good}
use Rattle.laws.proofs.Occurrences.{Begun, Covers, joined_one, joined_covers}
use Rattle.laws.proofs.Rows.{sender_in}
use Rattle.laws.proofs.Rules.{Item, Kept}
use Rattle.laws.proofs.Safety.{planning_keeps}

-- an item of the planner's table
pub record Sent (p : Lines) (e : Entry) : Type 0 where
  pub member : In e (result p).entries
  pub item : is_process p e.row ≡ false

module _ (p : Lines) (fine : plan_refusal p ≡ nothing) where
  g : Good p
  g = good p fine

  placed_begun : (c : List Bool) → length c ≡ length p.conditions → (x : Placed) → Item p (final p c) x → Begun p (frame_of p (entry_of p c (final p c) x))
  unfolding frame_of entry_of row_node
  placed_begun c cl x i =
      let k : Kept p c (final p c) = planning_keeps p c fine cl (bound p) in
      let h = g.has_slot (sender p x.row) (sender_in p g x.row (k.only_due x i.member).0) in
      record { slot = h.0; slot_in = h.1; its_node = h.2; begun = rw h.2 (k.in_slot x i) }

  slot_begun : (e : Entry) → Sent p e → Begun p (frame_of p e)
  unfolding entry_of
  slot_begun e s =
      let d = entries_in p e s.member in
      let m : Made p d.0 e = d.2 in
      let high : is_process p m.item.row ≡ false = subst (λ (z : Entry). is_process p z.row ≡ false) m.is_its s.item in
      subst (λ (z : Entry). Begun p (frame_of p z)) (sym m.is_its) (placed_begun d.0 d.1 m.item (record { member = m.member; high = ltb-false _ _ high }))

  -- the frames of the items one by one
  abbrev singles : List Frame
  singles = map (frame_of p) (keep (λ e. not (is_process p e.row)) (result p).entries)

  single : (f : Frame) → In f singles → (e : Entry) × Sent p e × (f ≡ frame_of p e)
  single f m =
      let r = map_in (frame_of p) (keep (λ e. not (is_process p e.row)) (result p).entries) m in
      let k = keep_in (λ e. not (is_process p e.row)) (result p).entries r.1 in
      (r.0, record { member = k.0; item = not-true _ k.1 }, r.2)

  singles_begun : (f : Frame) → In f singles → Begun p f
  singles_begun f m = let r = single f m in subst (Begun p) (sym r.2) (slot_begun r.0 r.1)

  -- every frame is used
  pub frame_used : (f : Frame) → In f (result p).frames → (e : Entry) × Sent p e ×
      (e.tick ≡ f.tick) × (row_node p e.row ≡ f.node) × (e.place + row_bytes p e.row ≡ f.used)
  unfolding result frames frame_of
  frame_used f m =
      let r = single f (joined_one p g singles singles_begun f m) in
      let q = sym r.2 in
      (r.0, r.1, ap (λ (z : Frame). z.tick) q, ap (λ (z : Frame). z.node) q, ap (λ (z : Frame). z.used) q)

  -- every item has its frame
  pub item_framed : (e : Entry) → Sent p e → (f : Frame) × In f (result p).frames ×
      (e.tick ≡ f.tick) × (row_node p e.row ≡ f.node) × (e.place + row_bytes p e.row ≤ f.used)
  unfolding result frames frame_of
  item_framed e s =
      let m : In (frame_of p e) singles = in_map (frame_of p) (in_keep (λ e. not (is_process p e.row)) s.member (is_not _ s.item)) in
      let r = joined_covers p g singles singles_begun (frame_of p e) m in
      let c : Covers (frame_of p e) r.0 = r.2 in
      (r.0, r.1, c.tick, c.node, c.used)
