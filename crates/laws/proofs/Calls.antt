-- The calls of a unit at a tick give exactly the entries that fit, in their order.
-- Assumes nothing.
use Rattle.std.specs.Prelude.{if◌then◌else◌}
use mathlib.Core.Path.{◌≡◌, refl, sym, ◌∙◌}
use mathlib.Core.Bool.{Bool, true, false}
use mathlib.Core.List.{List, [], ◌∷◌, map}
use Prim.Native.Nat.{ℕ, zero, suc, ◌<◌, ◌≤◌}
use native.Mathlib.Nat.{not-suc-le-zero}
use native.Mathlib.Omega.{arith}
use lib.ListN.{length, drop}
use borrow.Author.Tests.{lt-ltb}
use Rattle.lists.specs.Lists.{keep}
use Rattle.lists.proofs.Keep.{drop_next, drop_head, later}
use Rattle.model.specs.Plan.{Lines}
use Rattle.model.specs.Refusals.{nothing, plan_refusal}
use Rattle.model.specs.Table.{Entry, entries_of}
use Rattle.model.specs.Lookup.{Found, entry, fits, find, unless, lookup}
use Rattle.model.specs.Run.{calls, entry_at}

module _ (p : Lines) (words : List ℕ) (n t h v : ℕ) (ask : ℕ → Found) (fine : plan_refusal p ≡ nothing) (unit : n < length p.slots)
    (told : (from : ℕ) → from ≤ length (entries_of words) → ask from ≡ lookup p words n t h v from) where
  abbrev es : List Entry
  es = entries_of words

  abbrev test : Entry → Bool
  test = fits p n t h v

  look : (from : ℕ) → from ≤ length es → ask from ≡ find p n t h v (drop from es) from
  unfolding lookup unless
  look from l = told from l ∙ rw (fine, lt-ltb n (length p.slots) unit)

  module _ (x : Entry) (rest : List Entry) (from : ℕ) (e : drop from es ≡ x ∷ rest) where
    found : test x ≡ true → ask from ≡ entry from
    unfolding find
    found q = let l = later es from x rest e in look from (omega arith) ∙ rw (e, q, find)

    passed : test x ≡ false → ask from ≡ ask (suc from)
    unfolding find
    passed q =
        let l = later es from x rest e in
        look from (omega arith) ∙ rw (e, q, find) (sym (look (suc from) (omega arith) ∙ rw (drop_next es from x rest e)))

    at_from : entry_at words from ≡ x
    at_from = drop_head es from x _ rest e

    one : (fuel : ℕ) (b : Bool) → test x ≡ b → map (entry_at words) (calls fuel ask (suc from)) ≡ keep test rest →
        map (entry_at words) (calls (suc fuel) ask (suc from)) ≡ keep test rest →
        map (entry_at words) (calls (suc fuel) ask from) ≡ (if b then (x ∷ keep test rest) else keep test rest)
    unfolding calls
    one fuel true q r₁ r₂ = rw (found q, calls) (λ i. at_from i ∷ r₁ i)
    one fuel false q r₁ r₂ = rw (passed q, calls) r₂

  -- from an entry on, with enough calls
  answers_from : (rest : List Entry) (from fuel : ℕ) → from ≤ length es → drop from es ≡ rest → length rest < fuel →
      map (entry_at words) (calls fuel ask from) ≡ keep test rest
  unfolding calls find
  answers_from rest from zero u e l = absurd (not-suc-le-zero l)
  answers_from [] from (suc fuel) u e l = rw (look from u, e, calls, find)
  answers_from (x ∷ rest) from (suc fuel) u e l =
      let next = drop_next es from x rest e in
      one x rest from e fuel (test x) refl
      (answers_from rest (suc from) fuel (later es from x rest e) next (omega arith))
      (answers_from rest (suc from) (suc fuel) (later es from x rest e) next (omega arith))

  pub answers : map (entry_at words) (calls (suc (length es)) ask 0) ≡ keep test es
  answers = answers_from es 0 (suc (length es)) (omega arith) refl (omega arith)
