-- Entries and frames as numbers. An entry is ((tick · 64 + known) · 64 + values) · 64 + place, a frame is tick · 1024 +
-- node · 128 + the last used byte counted from 1. The entries of row q stand in an array from place ends[q] up to place
-- ends[q + 1].
-- Assumes nothing.
use Rattle.std.specs.Prelude.{ℕ, ◌+◌, ◌-◌, ◌*◌, ◌/◌, ◌%◌, ◌<◌, ◌≤◌, max, ◌≡◌, not, List, [], ◌∷◌, map, length, get_or, take}
use Rattle.std.proofs.Math.Seq.{slice}
use Rattle.limits.specs.Limits.{ROWS, ENTRIES}
use Rattle.lists.specs.Lists.{keep, each, upfrom}
use Rattle.lists.specs.Ordered.{put_all}
use Rattle.plan_index.specs.declared.PlanIndex.{PlanIndex}
use Rattle.table_entries.specs.Among.{multiple}
use Rattle.model.specs.Plan.{Lines}
use Rattle.model.specs.Bus.{is_process, row_node, row_bytes, rows}
use Rattle.model.specs.Table.{Entry, Frame}

-- the number of an entry, and of a frame
abbrev pub entry_number : ℕ → ℕ → ℕ → ℕ → ℕ
entry_number tick known values place = ((tick * 64 + known) * 64 + values) * 64 + place

abbrev pub frame_number : ℕ → ℕ → ℕ → ℕ
frame_number tick node used = tick * 1024 + node * 128 + used

-- the frame of an entry of a row with a node and bytes
unfoldable pub entry_frame : ℕ → ℕ → ℕ → ℕ
entry_frame node bytes x = frame_number (x / 262144) node (x % 64 + bytes)

-- frames in order, the greatest of each tick
abbrev pub in_order : List ℕ → List ℕ → List ℕ
in_order new old = put_all (multiple 1024) max new old

-- new frames are put among old ones at the front of an array, of which `end` are there then, at most `most`
pub record Collected (new old after : List ℕ) (most end : ℕ) : Type 0 where
  pub few : end ≤ most
  pub long : length after ≡ ENTRIES
  pub holds : take end after ≡ in_order new old

-- the rows from `processes` up to `rows` are parts of the array, one behind another
pub record Rows (list ends : List ℕ) (processes rows : ℕ) : Type 0 where
  pub first : processes ≤ rows
  pub last : rows ≤ ROWS
  pub long : length list ≡ ENTRIES
  pub rising : (q : ℕ) → processes ≤ q → q < rows → get_or ends q 0 ≤ get_or ends (q + 1) 0
  pub inside : get_or ends rows 0 ≤ ENTRIES

module _ (list ends node bytes : List ℕ) where
  -- the frames of the entries of a row
  unfoldable pub row_frames : ℕ → List ℕ
  row_frames q = map (entry_frame (get_or node q 0) (get_or bytes q 0)) (slice (get_or ends q 0) (get_or ends (q + 1) 0) list)

  -- the frames of the entries of the rows from `processes` up to `rows`
  unfoldable pub packed_frames : ℕ → ℕ → List ℕ
  packed_frames processes rows = in_order (each row_frames (upfrom processes (rows - processes))) []

-- the frames of the entries of the rows behind the processes of a plan laid out
abbrev pub frames_of : PlanIndex → List ℕ → List ℕ → List ℕ
frames_of b list ends = packed_frames list ends b.sender b.size b.processes b.rows

-- frames as words, three each: tick, node, last used byte
unfoldable pub packed_words : List ℕ → List ℕ
packed_words [] = []
packed_words (y ∷ ys) = (y / 1024) ∷ (y % 1024 / 128) ∷ (y % 128) ∷ packed_words ys

-- the entries of items, and the frame of one as a number
abbrev pub items : Lines → List Entry → List Entry
items p es = keep (λ e. not (is_process p e.row)) es

unfoldable pub item_frame : Lines → Entry → ℕ
item_frame p e = frame_number e.tick (row_node p e.row) (e.place + row_bytes p e.row)

-- an entry as a number
unfoldable pub packed_entry : Entry → ℕ
packed_entry e = entry_number e.tick e.known e.values e.place

-- the frame of a number
unfoldable pub frame_from : ℕ → Frame
frame_from y = record { tick = y / 1024; node = y % 1024 / 128; used = y % 128 }

-- the arrays hold the entries of the rows of items, their nodes and their bytes
pub record Holding (p : Lines) (entries : ℕ → List Entry) (list ends node bytes : List ℕ) : Type 0 where
  pub parts : (q : ℕ) → length p.processes ≤ q → q < rows p → slice (get_or ends q 0) (get_or ends (q + 1) 0) list ≡ map packed_entry (entries q)
  pub nodes : (q : ℕ) → length p.processes ≤ q → q < rows p → get_or node q 0 ≡ row_node p q
  pub sizes : (q : ℕ) → length p.processes ≤ q → q < rows p → get_or bytes q 0 ≡ row_bytes p q
