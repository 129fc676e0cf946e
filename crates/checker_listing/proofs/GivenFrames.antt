-- Of a sound table the frames that its entries give are those, and those alone, that are in order and fit: each item
-- has its frame, and each frame is filled.
-- Assumes nothing.
use mathlib.Core.Path.{◌≡◌, refl, sym, ap, ◌∙◌, subst}
use mathlib.Core.Bool.{Bool, false, false≢true, not}
use mathlib.Core.List.{List, [], map, Memᴰ as In}
use Prim.Native.Nat.{ℕ, ◌+◌, ◌*◌, ◌%◌, ◌<◌}
use native.Mathlib.Omega.{arith}
use lib.ListN.{length, get_or}
use borrow.Author.Tests.{ltb-false, le-ltb}
use Rattle.lists.specs.Lists.{keep, same_numbers}
use Rattle.lists.specs.Ordered.{Ascending}
use Rattle.lists.proofs.Tests.{is_true, same_test, same_equal, equal_same}
use Rattle.lists.proofs.Order.{put_all_ascends}
use Rattle.model.specs.Plan.{Lines}
use Rattle.model.specs.Bus.{is_process, row_node, row_bytes}
use Rattle.model.specs.Table.{Entry, Frame, frame_of, frame_key, wider, frames, frame_words, entries_of, frames_of}
use Rattle.model.specs.Checking.{Sound}
use Rattle.laws.proofs.Formed.{Formed, formed}
use Rattle.laws.proofs.Framed.{Item, Used, Framed, frames_used, items_framed, frames_are}
use Rattle.laws.proofs.Good.{good}
use Rattle.laws.proofs.Rules.{Lawful}
use Rattle.laws.proofs.Sound.{sound_iff}
use Rattle.laws.proofs.Words.{frames_back, frame_words_back}
use Rattle.plan_index.specs.declared.PlanIndex.{PlanIndex}
use Rattle.plan_layout.specs.Indexed.{Indexed}
use Rattle.plan_layout.proofs.Bounds.{bounded}
use Rattle.checker_rows.specs.MetRows.{entry_from}
use Rattle.checker_listing.specs.FrameList.{Tells, Ascends}
use Rattle.checker_listing.specs.Filling.{FramedIn, Fills, PlacedIn, Item_at, item_at, Fitted, frames_given}
use Rattle.checker_listing.proofs.WordPlaces.{frame_from, frame_place, place_frame, entry_place, place_entry, frames_ascend, words_ascend}

module _ (p : Lines) (b : PlanIndex) (o : Indexed p b) (table : List ℕ) (delay : ℕ) (sound : Sound p table delay) where
  abbrev es : List Entry
  es = entries_of table

  abbrev entry : ℕ → Entry
  entry i = entry_from table (5 * i)

  fives : length table % 5 ≡ 0
  fives = ((sound_iff p table delay).0 sound).1

  lawful : Lawful p es delay
  lawful = ((sound_iff p table delay).0 sound).2

  -- an entry by its number
  stands : (i : ℕ) → 5 * i < length table → In (entry i) es
  stands i l = place_entry table i (omega (arith, fives))

  entry_formed : (i : ℕ) → 5 * i < length table → Formed p (entry i)
  entry_formed i l = formed p (entry i) (lawful.formed (entry i) (stands i l))

  -- what the code asks of the table
  pub placed_in : PlacedIn b table
  placed_in =
      record {
        fives = fives;
        rows = λ i l.
            omega (arith, (entry_formed i l).row_in, o.processes_count, o.edges_count, o.conditions_count, o.few_processes, o.few_edges, o.few_conditions);
        places = λ i l. (entry_formed i l).place_in;
        bounded = bounded p b o;
      }

  -- an item by its number, and the frame that it alone would give
  item : (i : ℕ) → Item_at b table i → Item p es (entry i)
  item i h = record { member = stands i h.there; item = le-ltb (entry i).row (length p.processes) (omega (arith, h.high, o.processes_count)) }

  item_of : (e : Entry) → Item p es e → (i : ℕ) × Item_at b table i × (e ≡ entry i)
  item_of e h =
      let r = entry_place table h.member in
      let l = ltb-false e.row (length p.processes) h.item in
      let q : e.row ≡ get_or table (5 * r.0) 0 = ap (λ (z : Entry). z.row) r.2 in
      (r.0, record { there = omega (arith, r.1); high = omega (arith, l, q, o.processes_count) }, r.2)

  node_of : (i : ℕ) → Item_at b table i → (item_at b table i).node ≡ row_node p (entry i).row
  node_of i h = o.senders_of (entry i).row (entry_formed i h.there).row_in

  used_of : (i : ℕ) → Item_at b table i → (item_at b table i).used ≡ (entry i).place + row_bytes p (entry i).row
  used_of i h = ap (λ (n : ℕ). (entry i).place + n) (o.bytes_of (entry i).row (entry_formed i h.there).row_in)

  module _ (ws : List ℕ) (threes : length ws % 3 ≡ 0) where
    -- frames that are in order and fit are those that the entries give
    used_frame : Fitted b table ws → (f : Frame) → In f (frames_of ws) → Used p es f
    unfolding frame_of
    used_frame h f m =
        let r = frame_place ws m in
        let k = r.0 in
        let u = h.filled k (omega (arith, r.1)) in
        let i = u.0 in
        let a : Item_at b table i = u.1 in
        let g : Fills ws k (item_at b table i) = u.2 in (
          entry i,
          item i a,
          (λ j. record { tick = sym g.tick j; node = (sym (node_of i a) ∙ sym g.node) j; used = (sym (used_of i a) ∙ sym g.used) j }) ∙ sym r.2,
        )

    framed_item : Fitted b table ws → (e : Entry) → Item p es e → Framed p (frames_of ws) e
    framed_item h e a =
        let r = item_of e a in
        let i = r.0 in
        let g : FramedIn ws (item_at b table i) = h.framed i r.1 in
        let k = g.number in
        let d : Framed p (frames_of ws) (entry i) = (
          frame_from ws k,
          place_frame ws k (omega (arith, g.there, threes)),
          sym g.tick,
          sym (node_of i r.1) ∙ sym g.node,
          omega (arith, g.used, used_of i r.1),
        ) in
        subst (Framed p (frames_of ws)) (sym r.2) d

    given : Ascends ws → Fitted b table ws → ws ≡ frames_given p table
    given a h =
        sym (frame_words_back ws threes)
        ∙ ap frame_words (frames_are p (good p ((sound_iff p table delay).0 sound).0) es delay lawful (frames_of ws) (frames_ascend ws a) (used_frame h) (framed_item h))

    -- and those that the entries give are in order and fit
    module _ (q : ws ≡ frames_given p table) where
      same : frames_of ws ≡ frames p es
      same = ap frames_of q ∙ frames_back (frames p es)

      in_order : Ascends ws
      unfolding frames wider frame_key
      in_order =
          words_ascend ws
          (subst (λ (fs : List Frame). Ascending frame_key fs) (sym same)
          (put_all_ascends frame_key wider (λ f g e. refl) (map (frame_of p) (keep (λ e. not (is_process p e.row)) es)) [] tt))
          threes

      fitted : Fitted b table ws
      unfolding frame_of
      fitted =
          record {
            framed = λ i a.
                let r = items_framed p (good p ((sound_iff p table delay).0 sound).0) es delay lawful (entry i) (item i a) in
                let s = frame_place ws (subst (λ (fs : List Frame). In r.0 fs) (sym same) r.1) in
                let f = s.2 in
                record {
                  number = s.0;
                  there = omega (arith, s.1);
                  tick = sym (ap (λ (z : Frame). z.tick) f) ∙ sym r.2;
                  node = sym (ap (λ (z : Frame). z.node) f) ∙ sym r.3 ∙ sym (node_of i a);
                  used = omega (arith, r.4, used_of i a, ap (λ (z : Frame). z.used) f);
                };
            filled = λ k l.
                let m = subst (λ (fs : List Frame). In (frame_from ws k) fs) same (place_frame ws k (omega (arith, threes))) in
                let u = frames_used p (good p ((sound_iff p table delay).0 sound).0) es delay lawful (frame_from ws k) m in
                let r = item_of u.0 u.1 in
                let i = r.0 in
                let f : frame_of p (entry i) ≡ frame_from ws k = sym (ap (frame_of p) r.2) ∙ u.2 in (
                  i,
                  r.1,
                  record {
                    tick = sym (ap (λ (z : Frame). z.tick) f);
                    node = sym (ap (λ (z : Frame). z.node) f) ∙ sym (node_of i r.1);
                    used = sym (ap (λ (z : Frame). z.used) f) ∙ sym (used_of i r.1);
                  },
                );
          }

    -- so an answer that tells whether they are in order and fit is the comparison with the frames given
    pub not_in_order : (Ascends ws → ⊥) → false ≡ same_numbers ws (frames_given p table)
    not_in_order d =
        same_test false (same_numbers ws (frames_given p table)) (λ e. absurd (false≢true e)) (λ e. absurd (d (in_order (same_equal ws (frames_given p table) e))))

    pub fits_same : (r : Bool) → Ascends ws → Tells r (Fitted b table ws) → r ≡ same_numbers ws (frames_given p table)
    fits_same r a t =
        same_test r (same_numbers ws (frames_given p table)) (λ e. equal_same ws (frames_given p table) (given a (t.0 e))) (λ e.
        is_true r (λ n. t.1 n (fitted (same_equal ws (frames_given p table) e))))
