-- `listing_bytes::put_ends` meets its contract: the two parts together hold every byte of the word.
use mathlib.Core.Path.{◌≡◌}
use Prim.Native.Nat.{◌-◌}
use native.Mathlib.Omega.{arith}
use lib.ListN.{length, take, drop, length-drop}
use lib.Seq.{take_all}
use Rattle.listing_bytes.proofs.Halves.{put_halves}
use Rattle.listing_bytes.proofs.words.put_ends.Goals as goal

pub returns : goal.returns
returns g c =
    let word = c.args.word.now in
    let rest = length word - g.row.N in
    let e : take (length word - rest) (drop rest word) ≡ drop rest word = take_all _ _ (omega (arith, length-drop rest word)) in
    put_halves word g.row.N c.requires.0 c.requires.1 (rw c.copy_from_slice.ensures.after at c.put_word.ensures) (rw (c.copy_from_slice-2.ensures.after, e) at c.put_word-2.ensures)
