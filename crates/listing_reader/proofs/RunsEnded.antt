-- What is answered where lines that were read so far end: they are over, a row is behind a later one, or there are more
-- lines than there may be.
-- Assumes nothing.
use Rattle.std.specs.Prelude.{None, Some}
use Prim.Native.Nat.{ℕ, ◌≤◌, ◌<◌}
use mathlib.Core.Path.{◌≡◌, ap, sym, ◌∙◌}
use mathlib.Core.Bool.{Bool, ◌&&◌}
use mathlib.Core.List.{List}
use native.Mathlib.Omega.{arith}
use borrow.Author.Tests.{le-leb}
use lib.Dec.{leb}
use lib.ListN.{length, drop}
use Rattle.limits.specs.Limits.{PRINTEDENTRIES, PRINTEDFRAMES, PRINTEDWORDS, PRINTEDFRAMEWORDS}
use Rattle.lists.proofs.Tests.{join, and_false}
use Rattle.model.specs.Table.{Entry, Frame}
use Rattle.model.specs.ListingText.{rows_in_order}
use Rattle.text_scanner.specs.Place.{nowhere, found, Scanned}
use Rattle.listing_grammar.specs.Parse.{entry_at, frame_at}
use Rattle.listing_scanner.specs.declared.entries.Counts.{Counts}
use Rattle.listing_scanner.specs.Lines.{Few}
use Rattle.listing_reader.specs.Runs.{EntriesRead, FramesRead}
use Rattle.listing_reader.proofs.LinesSoFar.{Sofar, entries, frames, entries_law, frames_law, over, in_front, all_lines, too_many}
use Rattle.listing_reader.proofs.RowsInOrder.{Ordered, all_ordered, not_ordered}

module _ {text : List ℕ} {at : ℕ} {counts : Counts} {es : List Entry} {before now : List ℕ} {next count row : ℕ} (few : Few counts)
    (p : Sofar (entries counts) es text at before now next count) (ordered : Ordered es row) where
  pub entries_over : length before ≡ PRINTEDWORDS →
      Scanned text nowhere (entry_at counts.processes counts.edges counts.conditions (drop next text)) →
      EntriesRead text at counts before now (Some (count, next))
  entries_over size e =
      let m : length es ≤ PRINTEDENTRIES = omega (arith, p.all, p.few) in
      record {
        lines = es;
        read = over (entries_law few) p e;
        within = p.within;
        form = join (rows_in_order 0 es) (leb (length es) PRINTEDENTRIES) (all_ordered ordered) (le-leb (length es) PRINTEDENTRIES m);
        all = p.all;
        held = in_front (entries_law few) p size;
      }

  module _ (x : Entry) {i : ℕ} (e : Scanned text (found x i) (entry_at counts.processes counts.edges counts.conditions (drop next text))) where
    pub row_behind : x.row < row → EntriesRead text at counts before now None
    row_behind l all rest h =
        let a = all_lines (entries_law few) p x e all rest h in
        ap (λ (b : Bool). b && leb (length all) PRINTEDENTRIES) (ap (rows_in_order 0) (sym a.1) ∙ not_ordered ordered x l a.0)

    pub entries_too_many : PRINTEDENTRIES ≤ count → EntriesRead text at counts before now None
    entries_too_many l all rest h =
        ap (λ (b : Bool). rows_in_order 0 all && b) (too_many (entries_law few) p x e l all rest h) ∙ and_false (rows_in_order 0 all)

module _ {text : List ℕ} {at : ℕ} {fs : List Frame} {before now : List ℕ} {next count : ℕ} (p : Sofar frames fs text at before now next count) where
  pub frames_over : length before ≡ PRINTEDFRAMEWORDS → Scanned text nowhere (frame_at (drop next text)) →
      FramesRead text at before now (Some (count, next))
  frames_over size e =
      let m : length fs ≤ PRINTEDFRAMES = omega (arith, p.all, p.few) in
      record {
        lines = fs;
        read = over frames_law p e;
        within = p.within;
        form = le-leb (length fs) PRINTEDFRAMES m;
        all = p.all;
        held = in_front frames_law p size;
      }

  pub frames_too_many : (x : Frame) {i : ℕ} → Scanned text (found x i) (frame_at (drop next text)) → PRINTEDFRAMES ≤ count →
      FramesRead text at before now None
  frames_too_many x e l = too_many frames_law p x e l
