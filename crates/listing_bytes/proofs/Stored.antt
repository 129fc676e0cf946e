-- Texts stored one after another: what is left to store gives the whole, and the lent bytes have room for it.
-- Assumes nothing.
use mathlib.Core.Path.{◌≡◌, refl, ap, sym, subst, ◌∙◌}
use mathlib.Core.List.{List, [], ◌++◌, append_assoc, append-nil}
use Prim.Native.Nat.{ℕ, ◌+◌, ◌≤◌}
use native.Mathlib.Omega.{arith}
use lib.ListN.{length, length-append}
use Rattle.text_lines.specs.Put.{Put}
use Rattle.text_lines.proofs.Puts.{put_none, put_then, put_length}
use Rattle.listing_bytes.specs.Fits.{Fits}
use Rattle.listing_bytes.specs.Going.{Going}

pub fits_first : {l : List ℕ} {at : ℕ} (u v : List ℕ) → Fits l at (u ++ v) → Fits l at u
fits_first u v f = record { within = omega (arith, f.within, length-append u v) }

pub fits_rest : {l m : List ℕ} {at i : ℕ} {u : List ℕ} → Put l m at i u → (v : List ℕ) → Fits l at (u ++ v) → Fits m i v
fits_rest {u = u} p v f = record { within = omega (arith, f.within, p.count, length-append u v, put_length p) }

-- the same by lengths alone: room for a text is room for one that is no longer, and behind what is stored first for as
-- many bytes as are left of it
pub fits_less : {l : List ℕ} {at : ℕ} {w : List ℕ} → Fits l at w → {u : List ℕ} → length u ≤ length w → Fits l at u
fits_less f h = record { within = omega (arith, f.within, h) }

pub fits_behind : {l m : List ℕ} {at i : ℕ} {u w : List ℕ} → Put l m at i u → Fits l at w → {v : List ℕ} → length u + length v ≤ length w → Fits m i v
fits_behind p f h = record { within = omega (arith, f.within, p.count, put_length p, h) }

pub going_start : (l : List ℕ) (at : ℕ) (whole : List ℕ) → Going l l at at whole whole
going_start l at whole = record { done = []; parts = refl; stored = put_none l at }

module _ {l m : List ℕ} {at end : ℕ} {whole rest : List ℕ} (g : Going l m at end whole rest) where
  pub going_length : length m ≡ length l
  going_length = put_length g.stored

  pub going_fits : Fits l at whole → Fits m end rest
  going_fits f = fits_rest g.stored rest (subst (Fits l at) g.parts f)

  -- the rest begins with what was stored before another rest
  onward : (u r : List ℕ) → rest ≡ u ++ r → whole ≡ (g.done ++ u) ++ r
  onward u r e = g.parts ∙ ap (λ (s : List ℕ). g.done ++ s) e ∙ sym (append_assoc g.done u r)

  pub going_next : {n : List ℕ} {next : ℕ} {u r : List ℕ} → rest ≡ u ++ r → Put m n end next u → Going l n at next whole r
  going_next {u = u} {r} e p = record { done = g.done ++ u; parts = onward u r e; stored = put_then g.stored p }

  pub going_end : rest ≡ [] → Put l m at end whole
  going_end e =
      let q : whole ≡ g.done = g.parts ∙ ap (λ (s : List ℕ). g.done ++ s) e ∙ append-nil g.done in
      subst (Put l m at end) (sym q) g.stored

  -- what was stored next leaves a rest of the rest
  pub going_on : {n : List ℕ} {next : ℕ} {last : List ℕ} → Going m n end next rest last → Going l n at next whole last
  going_on {last = last} h = going_next h.parts h.stored
