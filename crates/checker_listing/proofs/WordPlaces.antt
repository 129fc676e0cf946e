-- Entries and frames by their numbers: those of a list of words are those at its fives and threes, and frames are in
-- order where their ticks ascend. And words of whole frames, and back.
-- Assumes nothing.
use mathlib.Core.Path.{◌≡◌, refl, sym, ap, ◌∙◌, subst}
use mathlib.Core.Logic.{◌⊎◌, inl, inr}
use mathlib.Core.Bool.{true, false}
use mathlib.Core.List.Memᴰ.{head as here}
use mathlib.Core.List.Memᴰ.{not-nil as in_none}
use mathlib.Core.List.Memᴰ.{tail as there}
use mathlib.Core.List.{List, [], ◌∷◌, Memᴰ as In}
use Prim.Native.Nat.{ℕ, zero, suc, ◌+◌, ◌*◌, ◌%◌, ◌<◌, ◌≤◌}
use native.Mathlib.Omega.{arith}
use lib.Dec.{eqb, ltb}
use lib.ListN.{length, get_or}
use borrow.Author.Tests.{ltb-true}
use Rattle.lists.specs.Ordered.{less, order, Ascending}
use Rattle.lists.proofs.Tests.{two}
use Rattle.lists.proofs.Order.{order_lt}
use Rattle.model.specs.Table.{Entry, Frame, frame_key, entries_of, frames_of}
use Rattle.checker_rows.specs.MetRows.{entry_from}
use Rattle.checker_listing.specs.FrameList.{Ascends}

-- frame k of words
abbrev pub frame_from : List ℕ → ℕ → Frame
frame_from words k = record { tick = get_or words (3 * k) 0; node = get_or words (3 * k + 1) 0; used = get_or words (3 * k + 2) 0 }

-- one frame more in front
module _ (a b c : ℕ) (ws : List ℕ) (k : ℕ) where
  pub tick_behind : get_or (a ∷ b ∷ c ∷ ws) (3 * suc k) 0 ≡ get_or ws (3 * k) 0
  tick_behind = let q : 3 * suc k ≡ suc (suc (suc (3 * k))) = omega arith in ap (λ (n : ℕ). get_or (a ∷ b ∷ c ∷ ws) n 0) q

  frame_behind : frame_from (a ∷ b ∷ c ∷ ws) (suc k) ≡ frame_from ws k
  frame_behind =
      let q0 : 3 * suc k ≡ suc (suc (suc (3 * k))) = omega arith in
      let q1 : 3 * suc k + 1 ≡ suc (suc (suc (3 * k + 1))) = omega arith in
      let q2 : 3 * suc k + 2 ≡ suc (suc (suc (3 * k + 2))) = omega arith in
      let xs : List ℕ = a ∷ b ∷ c ∷ ws in
      λ i. record { tick = get_or xs (q0 i) 0; node = get_or xs (q1 i) 0; used = get_or xs (q2 i) 0 }

pub frame_place : (ws : List ℕ) {f : Frame} → In f (frames_of ws) → (k : ℕ) × (3 * k + 3 ≤ length ws) × (f ≡ frame_from ws k)
frame_place [] m = absurd (in_none m)
frame_place (a ∷ []) m = absurd (in_none m)
frame_place (a ∷ b ∷ []) m = absurd (in_none m)
frame_place (a ∷ b ∷ c ∷ ws) (here q) = (0, omega arith, q)
frame_place (a ∷ b ∷ c ∷ ws) (there m) =
    let r = frame_place ws m in
    let l = r.1 in
    (suc r.0, omega arith, r.2 ∙ sym (frame_behind a b c ws r.0))

pub place_frame : (ws : List ℕ) (k : ℕ) → 3 * k + 3 ≤ length ws → In (frame_from ws k) (frames_of ws)
place_frame [] k l = absurd (omega arith)
place_frame (a ∷ []) k l = absurd (omega arith)
place_frame (a ∷ b ∷ []) k l = absurd (omega arith)
place_frame (a ∷ b ∷ c ∷ ws) zero l = here refl
place_frame (a ∷ b ∷ c ∷ ws) (suc k) l =
    subst (λ (f : Frame). In f (frames_of (a ∷ b ∷ c ∷ ws))) (sym (frame_behind a b c ws k)) (there (place_frame ws k (omega arith)))

-- the same of entries
entry_behind : (a b c d e : ℕ) (ws : List ℕ) (i : ℕ) → entry_from (a ∷ b ∷ c ∷ d ∷ e ∷ ws) (5 * suc i) ≡ entry_from ws (5 * i)
entry_behind a b c d e ws i =
    let q0 : 5 * suc i ≡ suc (suc (suc (suc (suc (5 * i))))) = omega arith in
    let q1 : 5 * suc i + 1 ≡ suc (suc (suc (suc (suc (5 * i + 1))))) = omega arith in
    let q2 : 5 * suc i + 2 ≡ suc (suc (suc (suc (suc (5 * i + 2))))) = omega arith in
    let q3 : 5 * suc i + 3 ≡ suc (suc (suc (suc (suc (5 * i + 3))))) = omega arith in
    let q4 : 5 * suc i + 4 ≡ suc (suc (suc (suc (suc (5 * i + 4))))) = omega arith in
    let xs : List ℕ = a ∷ b ∷ c ∷ d ∷ e ∷ ws in
    λ j. record { row = get_or xs (q0 j) 0; known = get_or xs (q1 j) 0; values = get_or xs (q2 j) 0; tick = get_or xs (q3 j) 0; place = get_or xs (q4 j) 0 }

pub entry_place : (ws : List ℕ) {e : Entry} → In e (entries_of ws) → (i : ℕ) × (5 * i + 5 ≤ length ws) × (e ≡ entry_from ws (5 * i))
entry_place [] m = absurd (in_none m)
entry_place (a ∷ []) m = absurd (in_none m)
entry_place (a ∷ b ∷ []) m = absurd (in_none m)
entry_place (a ∷ b ∷ c ∷ []) m = absurd (in_none m)
entry_place (a ∷ b ∷ c ∷ d ∷ []) m = absurd (in_none m)
entry_place (a ∷ b ∷ c ∷ d ∷ e ∷ ws) (here q) = (0, omega arith, q)
entry_place (a ∷ b ∷ c ∷ d ∷ e ∷ ws) (there m) =
    let r = entry_place ws m in
    let l = r.1 in
    (suc r.0, omega arith, r.2 ∙ sym (entry_behind a b c d e ws r.0))

pub place_entry : (ws : List ℕ) (i : ℕ) → 5 * i + 5 ≤ length ws → In (entry_from ws (5 * i)) (entries_of ws)
place_entry [] i l = absurd (omega arith)
place_entry (a ∷ []) i l = absurd (omega arith)
place_entry (a ∷ b ∷ []) i l = absurd (omega arith)
place_entry (a ∷ b ∷ c ∷ []) i l = absurd (omega arith)
place_entry (a ∷ b ∷ c ∷ d ∷ []) i l = absurd (omega arith)
place_entry (a ∷ b ∷ c ∷ d ∷ e ∷ ws) zero l = here refl
place_entry (a ∷ b ∷ c ∷ d ∷ e ∷ ws) (suc i) l =
    subst (λ (f : Entry). In f (entries_of (a ∷ b ∷ c ∷ d ∷ e ∷ ws))) (sym (entry_behind a b c d e ws i)) (there (place_entry ws i (omega arith)))

-- frames in order, as words and as frames
pub frames_ascend : (ws : List ℕ) → Ascends ws → Ascending frame_key (frames_of ws)
unfolding frame_key
frames_ascend [] h = tt
frames_ascend (a ∷ []) h = tt
frames_ascend (a ∷ b ∷ []) h = tt
frames_ascend (a ∷ b ∷ c ∷ ws) h = (
  λ y m.
      let r = frame_place ws m in
      let s = h 0 (suc r.0) (omega arith) (omega (arith, r.1)) in
      order_lt a y.tick [] [] (omega (arith, s, tick_behind a b c ws r.0, ap (λ (z : Frame). z.tick) r.2)),
  frames_ascend ws (λ i j l u. let s = h (suc i) (suc j) (omega arith) (omega arith) in omega (arith, s, tick_behind a b c ws i, tick_behind a b c ws j)),
)

less_lt : (x y : ℕ) → order (x ∷ []) (y ∷ []) ≡ less → x < y
unfolding order
less_lt x y o = at (two (ltb x y)) (two (eqb x y))
  where
    at : (ltb x y ≡ true) ⊎ (ltb x y ≡ false) → (eqb x y ≡ true) ⊎ (eqb x y ≡ false) → x < y
    at (inl e) f = ltb-true x y e
    at (inr e) (inl f) = absurd (let w = rw (e, f) at o in let z : ◌≡◌ {A = ℕ} 0 1 = cc in omega arith)
    at (inr e) (inr f) = absurd (let w = rw (e, f) at o in let z : ◌≡◌ {A = ℕ} 0 1 = cc in omega arith)

pub words_ascend : (ws : List ℕ) → Ascending frame_key (frames_of ws) → length ws % 3 ≡ 0 → Ascends ws
unfolding frame_key
words_ascend [] s h i j l u = absurd (omega arith)
words_ascend (a ∷ []) s h i j l u = absurd (omega arith)
words_ascend (a ∷ b ∷ []) s h i j l u = absurd (omega arith)
words_ascend (a ∷ b ∷ c ∷ ws) s h i zero l u = absurd (omega arith)
words_ascend (a ∷ b ∷ c ∷ ws) s h zero (suc j) l u =
    let r = less_lt a (get_or ws (3 * j) 0) (s.0 (frame_from ws j) (place_frame ws j (omega arith))) in
    omega (arith, r, tick_behind a b c ws j)
words_ascend (a ∷ b ∷ c ∷ ws) s h (suc i) (suc j) l u =
    let r = words_ascend ws s.1 (omega arith) i j (omega arith) (omega arith) in
    omega (arith, r, tick_behind a b c ws i, tick_behind a b c ws j)
