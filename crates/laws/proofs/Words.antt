-- Entries and frames as words, and back; and the listing of a result is the listing of its words.
-- Assumes nothing.
use mathlib.Core.Path.{◌≡◌, refl, ap, ◌∙◌}
use mathlib.Core.List.{List, [], ◌∷◌, ◌++◌}
use Prim.Native.Nat.{ℕ, ◌*◌, ◌%◌}
use native.Mathlib.Omega.{arith}
use lib.ListN.{length, length-map}
use lib.Seq.{take_all}
use Rattle.lists.specs.Lists.{below}
use Rattle.lists.proofs.Keep.{length_upfrom}
use Rattle.model.specs.Plan.{Lines}
use Rattle.model.specs.Table.{Entry, Frame, Result, made, plans, passed_by, result, entry_words, frame_words, entries_of, frames_of}
use Rattle.model.specs.Listing.{words_listing, printed}

pub entries_back : (es : List Entry) → entries_of (entry_words es) ≡ es
entries_back [] = refl
entries_back (e ∷ es) = ap (λ (rest : List Entry). e ∷ rest) (entries_back es)

pub frames_back : (fs : List Frame) → frames_of (frame_words fs) ≡ fs
frames_back [] = refl
frames_back (f ∷ fs) = ap (λ (rest : List Frame). f ∷ rest) (frames_back fs)

-- words of whole entries and back
pub words_back : (ws : List ℕ) → length ws % 5 ≡ 0 → entry_words (entries_of ws) ≡ ws
words_back [] h = refl
words_back (a ∷ []) h = absurd (omega arith)
words_back (a ∷ b ∷ []) h = absurd (omega arith)
words_back (a ∷ b ∷ c ∷ []) h = absurd (omega arith)
words_back (a ∷ b ∷ c ∷ d ∷ []) h = absurd (omega arith)
words_back (a ∷ b ∷ c ∷ d ∷ e ∷ ws) h = ap (λ (l : List ℕ). a ∷ b ∷ c ∷ d ∷ e ∷ l) (words_back ws (omega arith))

-- words of whole frames and back
pub frame_words_back : (ws : List ℕ) → length ws % 3 ≡ 0 → frame_words (frames_of ws) ≡ ws
frame_words_back [] h = refl
frame_words_back (a ∷ []) h = absurd (omega arith)
frame_words_back (a ∷ b ∷ []) h = absurd (omega arith)
frame_words_back (a ∷ b ∷ c ∷ ws) h = ap (λ (l : List ℕ). a ∷ b ∷ c ∷ l) (frame_words_back ws (omega arith))

-- the words of one list of entries or frames and then another
pub entry_words_joined : (es fs : List Entry) → entry_words (es ++ fs) ≡ entry_words es ++ entry_words fs
entry_words_joined [] fs = refl
entry_words_joined (e ∷ es) fs = λ i. e.row ∷ e.known ∷ e.values ∷ e.tick ∷ e.place ∷ entry_words_joined es fs i

pub frame_words_joined : (es fs : List Frame) → frame_words (es ++ fs) ≡ frame_words es ++ frame_words fs
frame_words_joined [] fs = refl
frame_words_joined (f ∷ es) fs = λ i. f.tick ∷ f.node ∷ f.used ∷ frame_words_joined es fs i

-- five words to an entry, three to a frame
pub entry_words_count : (es : List Entry) → length (entry_words es) ≡ 5 * length es
entry_words_count [] = refl
entry_words_count (e ∷ es) = let r = entry_words_count es in omega arith

pub frame_words_count : (fs : List Frame) → length (frame_words fs) ≡ 3 * length fs
frame_words_count [] = refl
frame_words_count (f ∷ fs) = let r = frame_words_count fs in omega arith

-- the listing of a result with a count for each node, from its words
pub printed_words : (p : Lines) (r : Result) → length r.passed ≡ length p.slots →
    printed p (made r) ≡ words_listing p r.delay r.passed (entry_words r.entries) (frame_words r.frames)
unfolding printed words_listing
printed_words p r e = rw (entries_back r.entries, frames_back r.frames, take_all (length p.slots) r.passed (omega arith))

-- the planner keeps a count for each node
pub counts_each : (p : Lines) → length (result p).passed ≡ length p.slots
unfolding result
counts_each p = length-map (below (length p.slots)) (passed_by (plans p)) ∙ length_upfrom 0 (length p.slots)
