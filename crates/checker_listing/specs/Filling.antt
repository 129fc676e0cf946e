-- When a list of frames, as words, is the one that the entries of a table give: item by item and frame by frame, in the
-- words of a plan's plan index.
-- Assumes nothing.
use Rattle.std.specs.Prelude.{◌≡◌, ◌⊎◌, List, ℕ, ◌+◌, ◌*◌, ◌%◌, ◌<◌, ◌≤◌, length, get_or}
use Rattle.limits.specs.Limits.{ROWS, LASTPLACE, PRINTEDFRAMEWORDS}
use Rattle.model.specs.Plan.{Lines}
use Rattle.model.specs.Table.{Entry, frames, entries_of, frame_words}
use Rattle.model.specs.Checking.{Sound}
use Rattle.plan_index.specs.declared.PlanIndex.{PlanIndex}
use Rattle.plan_index.specs.Index.{Bounded}
use Rattle.plan_layout.specs.Indexed.{Indexed}
use Rattle.checker_rows.specs.MetRows.{entry_from}
use Rattle.checker_listing.specs.declared.frames.ItemFrame.{ItemFrame}
use Rattle.checker_listing.specs.FrameList.{Ascends}

-- the frame that an item alone would give, given senders and sizes by row
abbrev pub item_by : List ℕ → List ℕ → Entry → ItemFrame
item_by sender size e = record { tick = e.tick; node = get_or sender e.row 0; used = e.place + get_or size e.row 0 }

-- a frame of the item's tick and node that reaches as far as the item or farther
pub record FramedIn (frames : List ℕ) (f : ItemFrame) : Type 0 where
  pub number : ℕ
  pub there : 3 * number < length frames
  pub tick : get_or frames (3 * number) 0 ≡ f.tick
  pub node : get_or frames (3 * number + 1) 0 ≡ f.node
  pub used : f.used ≤ get_or frames (3 * number + 2) 0

-- the item fills frame k: it reaches as far as the frame
pub record Fills (frames : List ℕ) (k : ℕ) (f : ItemFrame) : Type 0 where
  pub tick : get_or frames (3 * k) 0 ≡ f.tick
  pub node : get_or frames (3 * k + 1) 0 ≡ f.node
  pub used : get_or frames (3 * k + 2) 0 ≡ f.used

-- marks before and after an item: the frame that it fills is marked too, and no other
pub record Marked (frames : List ℕ) (f : ItemFrame) (old new : List ℕ) : Type 0 where
  pub long : length new ≡ length old
  pub marks : (k : ℕ) → 3 * k < length frames → Fills frames k f → get_or new k 0 ≡ 1
  pub keeps : (k : ℕ) → get_or old k 0 ≡ 1 → get_or new k 0 ≡ 1
  pub only : (k : ℕ) → get_or new k 0 ≡ 1 → (get_or old k 0 ≡ 1) ⊎ Fills frames k f

-- whole frames in order, no more than a printed frame list has
pub record InOrder (frames : List ℕ) : Type 0 where
  pub threes : length frames % 3 ≡ 0
  pub few : length frames ≤ PRINTEDFRAMEWORDS
  pub ascends : Ascends frames

-- a plan index with small numbers, and whole entries of rows that its arrays have, at places in a frame
pub record PlacedIn (b : PlanIndex) (table : List ℕ) : Type 0 where
  pub fives : length table % 5 ≡ 0
  pub rows : (i : ℕ) → 5 * i < length table → get_or table (5 * i) 0 < ROWS
  pub places : (i : ℕ) → 5 * i < length table → get_or table (5 * i + 4) 0 ≤ LASTPLACE
  pub bounded : Bounded b

-- entry i is an item's, and the frame that it alone would give
pub record Item_at (b : PlanIndex) (table : List ℕ) (i : ℕ) : Type 0 where
  pub there : 5 * i < length table
  pub high : b.processes ≤ get_or table (5 * i) 0

abbrev pub item_at : PlanIndex → List ℕ → ℕ → ItemFrame
item_at b table i = item_by b.sender b.size (entry_from table (5 * i))

-- each item has its frame, and each frame is filled
pub record Fitted (b : PlanIndex) (table frames : List ℕ) : Type 0 where
  pub framed : (i : ℕ) → Item_at b table i → FramedIn frames (item_at b table i)
  pub filled : (k : ℕ) → 3 * k < length frames → (i : ℕ) × Item_at b table i × Fills frames k (item_at b table i)

-- the frames that the entries of a table give, as words
abbrev pub frames_given : Lines → List ℕ → List ℕ
frames_given p table = frame_words (frames p (entries_of table))

-- a plan index of some plan, and a sound table for it
pub record SomeSound (b : PlanIndex) (table : List ℕ) : Type 0 where
  pub plan : Lines
  pub delay : ℕ
  pub indexed : Indexed plan b
  pub sound : Sound plan table delay
