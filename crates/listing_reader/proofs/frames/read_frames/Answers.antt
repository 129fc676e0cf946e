-- `read_frames` reads the frames as the grammar does: those up to `next` stand in front.
use Prim.Native.Nat.{◌≤◌, ◌<◌}
use mathlib.Core.List.{[], ◌∷◌, ◌++◌}
use native.Mathlib.Omega.{arith}
use Rattle.limits.specs.Limits.{PRINTEDFRAMES}
use Rattle.listing_scanner.specs.Lines.{frame_of}
use Rattle.listing_reader.proofs.LinesSoFar.{frames_law, begun, as_long, advanced, more}
use Rattle.listing_reader.proofs.RunsEnded.{frames_over, frames_too_many}
use Rattle.listing_reader.proofs.frames.read_frames.Goals as goal

pub loop-f-init : goal.loop-f-init
loop-f-init c = ([], begun frames_law c.requires.0)

pub frame_line-requires : goal.frame_line-requires
frame_line-requires c = c.loop-f.invariant.1.within

pub returns : goal.returns
returns c =
    frames_over c.loop-f.invariant.1 c.requires.1 c.in_default.ensures

pub returns-then-count-ge-PRINTEDFRAMES : goal.returns-then-count-ge-PRINTEDFRAMES
returns-then-count-ge-PRINTEDFRAMES c =
    let full : PRINTEDFRAMES ≤ c.loop-f.count = omega (arith, c.if-count-ge-PRINTEDFRAMES.true) in
    frames_too_many c.loop-f.invariant.1 (frame_of c.in-Some.f) c.in-Some.ensures full

pub loop-f-preserved : goal.loop-f-preserved
loop-f-preserved c =
    let room : c.loop-f.count < PRINTEDFRAMES = omega (arith, c.if-count-ge-PRINTEDFRAMES.false) in
    let x = frame_of c.in-Some.f in
    (c.loop-f.invariant.0 ++ (x ∷ []), more frames_law c.loop-f.invariant.1 x c.in-Some.ensures room c.put_frame.ensures)

pub loop-f-smaller : goal.loop-f-smaller
loop-f-smaller c =
    omega (arith, advanced frames_law c.loop-f.invariant.1 (frame_of c.in-Some.f) c.in-Some.ensures, c.in-Some.ensures.within)

pub put_frame-requires : goal.put_frame-requires
put_frame-requires c =
    (omega (arith, c.if-count-ge-PRINTEDFRAMES.false), omega (arith, as_long frames_law c.loop-f.invariant.1, c.requires.1))
