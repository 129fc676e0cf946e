-- The entries and frames of words, and the counts of nodes, read from a place on: the next one, and none where too few
-- words are left.
-- Assumes nothing.
use mathlib.Core.Path.{◌≡◌, refl, ap, ◌∙◌}
use mathlib.Core.List.{List, [], ◌∷◌, ◌++◌}
use Prim.Native.Nat.{ℕ, suc, ◌+◌, ◌-◌, ◌≤◌, ◌<◌}
use native.Mathlib.Omega.{arith}
use lib.ListN.{length, get_or, drop, length-drop, drop_of_length-le}
use lib.Seq.{get_or-drop, drop-drop}
use Rattle.lists.specs.Lists.{each}
use Rattle.lists.proofs.Parts.{drop_one}
use Rattle.model.specs.Table.{Entry, Frame, entries_of, frames_of}
use Rattle.listing_count.specs.Parts.{passed_of, passed_text}

entries_next : (ws : List ℕ) → 5 ≤ length ws →
    entries_of ws ≡ record { row = get_or ws 0 0; known = get_or ws 1 0; values = get_or ws 2 0; tick = get_or ws 3 0; place = get_or ws 4 0 } ∷ entries_of (drop 5 ws)
entries_next [] h = absurd (omega arith)
entries_next (a ∷ []) h = absurd (omega arith)
entries_next (a ∷ b ∷ []) h = absurd (omega arith)
entries_next (a ∷ b ∷ c ∷ []) h = absurd (omega arith)
entries_next (a ∷ b ∷ c ∷ d ∷ []) h = absurd (omega arith)
entries_next (a ∷ b ∷ c ∷ d ∷ e ∷ ws) h = refl

entries_none : (ws : List ℕ) → length ws < 5 → entries_of ws ≡ []
entries_none [] h = refl
entries_none (a ∷ []) h = refl
entries_none (a ∷ b ∷ []) h = refl
entries_none (a ∷ b ∷ c ∷ []) h = refl
entries_none (a ∷ b ∷ c ∷ d ∷ []) h = refl
entries_none (a ∷ b ∷ c ∷ d ∷ e ∷ ws) h = absurd (omega arith)

-- five words in front of others are an entry's
entries_front : (e ws : List ℕ) → length e ≡ 5 →
    entries_of (e ++ ws) ≡ record { row = get_or e 0 0; known = get_or e 1 0; values = get_or e 2 0; tick = get_or e 3 0; place = get_or e 4 0 } ∷ entries_of ws
entries_front [] ws h = absurd (omega arith)
entries_front (a ∷ []) ws h = absurd (omega arith)
entries_front (a ∷ b ∷ []) ws h = absurd (omega arith)
entries_front (a ∷ b ∷ c ∷ []) ws h = absurd (omega arith)
entries_front (a ∷ b ∷ c ∷ d ∷ []) ws h = absurd (omega arith)
entries_front (a ∷ b ∷ c ∷ d ∷ e ∷ []) ws h = refl
entries_front (a ∷ b ∷ c ∷ d ∷ e ∷ f ∷ us) ws h = absurd (omega arith)

pub entries_split : (line : Entry → List ℕ) (e rest : List ℕ) {ws : List ℕ} → ws ≡ e ++ rest → length e ≡ 5 →
    each line (entries_of ws)
    ≡ line (record { row = get_or e 0 0; known = get_or e 1 0; values = get_or e 2 0; tick = get_or e 3 0; place = get_or e 4 0 }) ++ each line (entries_of rest)
entries_split line e rest p h = ap (λ (us : List ℕ). each line (entries_of us)) p ∙ ap (each line) (entries_front e rest h)

-- and three a frame's
frames_front : (f ws : List ℕ) → length f ≡ 3 → frames_of (f ++ ws) ≡ record { tick = get_or f 0 0; node = get_or f 1 0; used = get_or f 2 0 } ∷ frames_of ws
frames_front [] ws h = absurd (omega arith)
frames_front (a ∷ []) ws h = absurd (omega arith)
frames_front (a ∷ b ∷ []) ws h = absurd (omega arith)
frames_front (a ∷ b ∷ c ∷ []) ws h = refl
frames_front (a ∷ b ∷ c ∷ d ∷ us) ws h = absurd (omega arith)

pub frames_split : (line : Frame → List ℕ) (f rest : List ℕ) {ws : List ℕ} → ws ≡ f ++ rest → length f ≡ 3 →
    each line (frames_of ws) ≡ line (record { tick = get_or f 0 0; node = get_or f 1 0; used = get_or f 2 0 }) ++ each line (frames_of rest)
frames_split line f rest p h = ap (λ (us : List ℕ). each line (frames_of us)) p ∙ ap (each line) (frames_front f rest h)

module _ (ws : List ℕ) (i : ℕ) where
  pub entries_from : i ≤ length ws → 4 < length ws - i →
      entries_of (drop i ws)
      ≡ record { row = get_or ws i 0; known = get_or ws (i + 1) 0; values = get_or ws (i + 2) 0; tick = get_or ws (i + 3) 0; place = get_or ws (i + 4) 0 }
      ∷ entries_of (drop (i + 5) ws)
  entries_from l h =
      let z : i + 0 ≡ i = omega arith in
      entries_next (drop i ws) (omega (arith, length-drop i ws))
      ∙ rw (drop-drop 5 i ws, get_or-drop i ws 0 0, get_or-drop i ws 1 0, get_or-drop i ws 2 0, get_or-drop i ws 3 0, get_or-drop i ws 4 0, z)

  pub entries_past : (4 < length ws - i → ⊥) → entries_of (drop i ws) ≡ []
  entries_past h = entries_none (drop i ws) (omega (arith, length-drop i ws))

  pub entries_at : (f : Entry → List ℕ) → i ≤ length ws → 4 < length ws - i →
      each f (entries_of (drop i ws))
      ≡ f (record { row = get_or ws i 0; known = get_or ws (i + 1) 0; values = get_or ws (i + 2) 0; tick = get_or ws (i + 3) 0; place = get_or ws (i + 4) 0 })
      ++ each f (entries_of (drop (i + 5) ws))
  entries_at f l h = ap (each f) (entries_from l h)

  pub entries_end : (f : Entry → List ℕ) → (4 < length ws - i → ⊥) → each f (entries_of (drop i ws)) ≡ []
  entries_end f h = ap (each f) (entries_past h)

-- the passed lines of the counts from place i on, which are those from node i on
pub counts_at : (ws : List ℕ) (i : ℕ) → i < length ws → passed_text i (drop i ws) ≡ passed_of i (get_or ws i 0) ++ passed_text (i + 1) (drop (i + 1) ws)
unfolding passed_text
counts_at ws i h =
    let q : suc i ≡ i + 1 = omega arith in
    ap (passed_text i) (drop_one ws i h) ∙ ap (λ (m : ℕ). passed_of i (get_or ws i 0) ++ passed_text m (drop (i + 1) ws)) q

pub counts_end : (ws : List ℕ) (i : ℕ) → length ws ≤ i → passed_text i (drop i ws) ≡ []
unfolding passed_text
counts_end ws i h = ap (passed_text i) (drop_of_length-le ws {i = i} h)
