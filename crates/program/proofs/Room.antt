-- The listing of a plan of at most 3,000 entries has at most 426,210 bytes: lines of entries have at most 104 bytes
-- each, lines of frames, of which there are no more than entries, at most 38, the line of the delay at most 18, and the
-- passed lines, at most eight, at most 24 each.
-- Assumes nothing.
use mathlib.Core.Path.{◌≡◌, sym, ap, ◌∙◌, subst}
use mathlib.Core.Bool.{Bool, not}
use mathlib.Core.List.{List, [], map, Memᴰ as In}
use Prim.Native.Nat.{ℕ, ◌+◌, ◌*◌, ◌≤◌, ◌<◌}
use native.Mathlib.Omega.{arith}
use borrow.Author.Tests.{ltb-false}
use lib.ListN.{length, length-map}
use lib.Seq.{take_all}
use Rattle.limits.specs.Limits.{LISTING}
use Rattle.lists.specs.Lists.{keep, each}
use Rattle.lists.proofs.Counts.{keep_short}
use Rattle.lists.proofs.Order.{put_all_most}
use Rattle.lists.proofs.Sums.{length_each}
use Rattle.model.specs.Plan.{Lines, process}
use Rattle.model.specs.Bus.{is_process, sender, row_node, row_bytes, slot_of}
use Rattle.model.specs.Log.{Placed}
use Rattle.model.specs.Planning.{bound}
use Rattle.model.specs.Refusals.{nothing, plan_refusal}
use Rattle.model.specs.Table.{Entry, Frame, made, result, frames, frame_of, frame_key, wider, entry_of, entry_words, frame_words}
use Rattle.model.specs.Listing.{printed, plan_listing}
use Rattle.text_grammar.proofs.Numbers.{decimal_length}
use Rattle.laws.proofs.Bound.{bound_small}
use Rattle.laws.proofs.Entries.{final, Made, entries_in}
use Rattle.laws.proofs.Frames.{frame_used}
use Rattle.laws.proofs.Good.{Good, good}
use Rattle.laws.proofs.History.{history}
use Rattle.laws.proofs.Passed.{counts_most}
use Rattle.laws.proofs.Rows.{sender_in}
use Rattle.laws.proofs.Rules.{Kept}
use Rattle.laws.proofs.Safety.{planning_keeps}
use Rattle.laws.proofs.Slots.{slot_in}
use Rattle.laws.proofs.Words.{entries_back, frames_back, printed_words, counts_each, entry_words_count, frame_words_count}
use Rattle.listing_count.specs.Parts.{entry_text, entries_text, frame_text, frames_text, listing_of}
use Rattle.listing_count.proofs.DigitCounts.{one_digit}
use Rattle.listing_count.proofs.Lengths.{frame_length, listing_length}
use Rattle.listing_count.proofs.Most.{line_most, passed_most}
use Rattle.listing_count.proofs.Lines.{listing_same}
use Rattle.planner_table.proofs.Most.{delay_most}

-- the bounds of an entry of the planner's table
record Bounded (p : Lines) (e : Entry) : Type 0 where
  tick : e.tick ≤ 999999999
  item : length p.processes ≤ e.row → (row_node p e.row < 8) × (e.place + row_bytes p e.row ≤ 64)

module _ (p : Lines) (fine : plan_refusal p ≡ nothing) where
  g : Good p
  g = good p fine

  placed_bounded : (c : List Bool) → length c ≡ length p.conditions → (x : Placed) → In x (final p c) → Bounded p (entry_of p c (final p c) x)
  unfolding entry_of row_node
  placed_bounded c cl x i =
      let k : Kept p c (final p c) = planning_keeps p c fine cl (bound p) in
      let s : sender p x.row < length p.processes = sender_in p g x.row (k.only_due x i).0 in
      let b = g.slot_most (slot_of p (process p (sender p x.row)).node) (slot_in p g (sender p x.row) s) in
      record {
        tick = omega (arith, (history p c (bound p) x i).0, bound_small p g);
        item = λ h. (omega (arith, g.node_in (sender p x.row) s, g.few_slots), omega (arith, k.in_frame x (record { member = i; high = h }), b));
      }

  entry_bounded : (e : Entry) → In e (result p).entries → Bounded p e
  entry_bounded e i =
      let d = entries_in p e i in
      let w : Made p d.0 e = d.2 in
      subst (Bounded p) (sym w.is_its) (placed_bounded d.0 d.1 w.item w.member)

  entry_most : (e : Entry) → In e (result p).entries → length (entry_text (length p.processes) (length p.edges) (length p.conditions) e) ≤ 104
  entry_most e i =
      let b = entry_bounded e i in
      line_most (length p.processes) (length p.edges) (length p.conditions) e.row e.known e.values e.tick e.place 2 8 1 g.few_conditions
      (λ l. omega (arith, g.few_processes, g.few_edges, g.few_conditions)) (omega (arith, b.tick)) (λ h. (let q = (b.item h).1 in omega arith))

  frame_most : (f : Frame) → In f (result p).frames → length (frame_text f) ≤ 38
  frame_most f i =
      let u = frame_used p fine f i in
      let b = entry_bounded u.0 u.1.member in
      let q = b.item (ltb-false _ _ u.1.item) in
      let t : f.tick ≤ 999999999 = omega (arith, b.tick, u.2) in
      let n : f.node < 8 = omega (arith, q.0, u.3) in
      let o : f.used ≤ 64 = omega (arith, q.1, u.4) in
      omega (arith, frame_length f.tick f.node f.used, decimal_length 8 f.tick (omega arith), one_digit f.node (omega arith), decimal_length 1 f.used (omega arith))

  -- an entry is in one frame at most
  pub frames_few : length (result p).frames ≤ length (result p).entries
  unfolding result frames
  frames_few =
      let es : List Entry = (result p).entries in
      let items : List Entry = keep (λ e. not (is_process p e.row)) es in
      omega (arith, put_all_most frame_key wider (map (frame_of p) items) [], length-map items (frame_of p), keep_short (λ e. not (is_process p e.row)) es)

  -- the listing of a result of at most 3,000 entries
  pub listing_most : length (entry_words (result p).entries) ≤ 15000 → length (plan_listing p) ≤ LISTING
  unfolding plan_listing
  listing_most h =
      let P : ℕ = length p.processes in
      let E : ℕ = length p.edges in
      let C : ℕ = length p.conditions in
      let es : List Entry = (result p).entries in
      let fs : List Frame = (result p).frames in
      let cs : List ℕ = (result p).passed in
      let n : length cs ≡ length p.slots = counts_each p in
      let whole : length (printed p (made (result p))) ≡ length (listing_of P E C (result p).delay cs (entry_words es) (frame_words fs)) =
      ap length
      (printed_words p (result p) n
      ∙ listing_same p (result p).delay cs (entry_words es) (frame_words fs)
      ∙ ap (λ (z : List ℕ). listing_of P E C (result p).delay z (entry_words es) (frame_words fs)) (take_all (length p.slots) cs (omega arith))) in
      let a : length (entries_text P E C (entry_words es)) ≤ 104 * length es =
      omega (arith, ap (λ (xs : List Entry). length (each (entry_text P E C) xs)) (entries_back es), length_each (entry_text P E C) es 104 entry_most) in
      let b : length (frames_text (frame_words fs)) ≤ 38 * length fs =
      omega (arith, ap (λ (xs : List Frame). length (each frame_text xs)) (frames_back fs), length_each frame_text fs 38 frame_most) in
      omega (
        arith,
        listing_length P E C (result p).delay cs (entry_words es) (frame_words fs),
        entry_words_count es,
        frames_few,
        decimal_length 8 (result p).delay (omega (arith, delay_most p fine)),
        passed_most 4 0 cs (omega (arith, g.few_slots)) (λ i. omega (arith, counts_most p fine i)),
        g.few_slots,
      )

  -- the words lent for the frame list suffice
  pub frame_words_few : length (entry_words (result p).entries) ≤ 15000 → length (frame_words (result p).frames) ≤ 9000
  frame_words_few h = omega (arith, entry_words_count (result p).entries, frame_words_count (result p).frames, frames_few)
