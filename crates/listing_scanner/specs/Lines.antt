-- What the answers for the lines of a listing stand for.
-- Assumes nothing.
use Rattle.std.specs.Prelude.{ℕ, ◌≤◌, Option}
use Rattle.limits.specs.Limits.{NODES, PROCESSES, EDGES, CONDITIONS}
use Rattle.model.specs.Table as m
use Rattle.text_scanner.specs.Place.{Place, placed}
use Rattle.listing_scanner.specs.declared.entries.Counts.{Counts}
use Rattle.listing_scanner.specs.declared.entries.Entry.{Entry}
use Rattle.listing_scanner.specs.declared.frames.Frame.{Frame}

-- counts that refusal 2 leaves of a plan
pub record Few (c : Counts) : Type 0 where
  pub slots : c.slots ≤ NODES
  pub processes : c.processes ≤ PROCESSES
  pub edges : c.edges ≤ EDGES
  pub conditions : c.conditions ≤ CONDITIONS

abbrev pub entry_of : Entry → m.Entry
entry_of e = record { row = e.row; known = e.known; values = e.values; tick = e.tick; place = e.place }

abbrev pub entry : Option (Entry × ℕ) → Place m.Entry
entry r = placed entry_of r

abbrev pub frame_of : Frame → m.Frame
frame_of f = record { tick = f.tick; node = f.node; used = f.used }

abbrev pub frame : Option (Frame × ℕ) → Place m.Frame
frame r = placed frame_of r
