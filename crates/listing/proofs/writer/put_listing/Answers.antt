-- `listing::put_listing` meets its contract: each part has room, and the parts together are the listing.
-- Assumes nothing.
use Rattle.std.proofs.Common.{◌≡◌, ◌++◌, List, ℕ, refl, ap, sym, ◌∙◌}
use Rattle.text_lines.specs.declared.Writer.{Writer}
use Rattle.text_lines.specs.Line.{put_on}
use Rattle.text_lines.specs.Put.{Put}
use Rattle.text_lines.proofs.Puts.{put_then}
use Rattle.listing_bytes.specs.Fits.{Fits}
use Rattle.listing_bytes.proofs.Stored.{fits_first, fits_rest}
use Rattle.listing_count.specs.Parts.{totals_of, entries_text, frames_text, listing_of}
use Rattle.listing.proofs.writer.put_listing.Goals as goal

-- a part put, as the line writers before and after it show it
part : {w r : Writer} {u : List ℕ} → r ≡ put_on w u → Put w.out.now r.out.now w.at r.at u
part e = rw e (record { count = refl; holds = refl })

-- a part put leaves the borrow its name
name : (w : Writer) (u : List ℕ) {r : Writer} → r ≡ put_on w u → w.out.ghost_name ≡ r.out.ghost_name
name w u e = sym (ap (λ w. w.out.ghost_name) e)

-- each part has room behind those before it
module _ (p e k d : ℕ) (passed table list : List ℕ) (w₀ : Writer) {l : List ℕ} (same : w₀.out.now ≡ l) (at₀ : w₀.at ≡ 0) (f : Fits l 0 (listing_of p e k d passed table list)) where
  whole : Fits w₀.out.now w₀.at (totals_of d passed ++ (entries_text p e k table ++ frames_text list))
  unfolding listing_of
  whole = rw (same, at₀) f

  behind_totals : {w₁ : Writer} → w₁ ≡ put_on w₀ (totals_of d passed) → Fits w₁.out.now w₁.at (entries_text p e k table ++ frames_text list)
  behind_totals e₁ = fits_rest (part e₁) _ whole

-- the parts together are the listing
listed : (p e k d : ℕ) (passed table list : List ℕ) (w₀ : Writer) {w₁ w₂ w₃ : Writer} (l zs : List ℕ) (r : ℕ) → w₀.out.now ≡ l → w₀.at ≡ 0 → w₁ ≡ put_on w₀ (totals_of d passed) → w₂ ≡ put_on w₁ (entries_text p e k table)
    → w₃ ≡ put_on w₂ (frames_text list) → r ≡ w₃.at → zs ≡ w₃.out.now → Put l zs 0 r (listing_of p e k d passed table list)
unfolding listing_of
listed p e k d passed table list w₀ l zs r same at₀ e₁ e₂ e₃ i z =
    rw (← same, ← at₀) (put_then (part e₁) (put_then (part e₂) (rw (i, z) (part e₃))))

pub totals-requires : goal.totals-requires
totals-requires c = (fits_first _ _ (whole c.args.counts.processes c.args.counts.edges c.args.counts.conditions c.args.delay c.args.passed.now c.args.table.now c.args.list.now c.start-w.result (ap (λ x. x.now) c.start-w.ensures.0) c.start-w.ensures.1 c.requires.0), c.requires.1)

pub entries-requires : goal.entries-requires
entries-requires c = fits_first _ _ (behind_totals c.args.counts.processes c.args.counts.edges c.args.counts.conditions c.args.delay c.args.passed.now c.args.table.now c.args.list.now c.start-w.result (ap (λ x. x.now) c.start-w.ensures.0) c.start-w.ensures.1 c.requires.0 c.totals.ensures)

pub frames-requires : goal.frames-requires
frames-requires c =
    fits_rest (part c.entries.ensures) _ (behind_totals c.args.counts.processes c.args.counts.edges c.args.counts.conditions c.args.delay c.args.passed.now c.args.table.now c.args.list.now c.start-w.result (ap (λ x. x.now) c.start-w.ensures.0) c.start-w.ensures.1 c.requires.0 c.totals.ensures)

pub returns : goal.returns
returns c =
    let names = sym (ap (λ x. x.ghost_name) c.start-w.ensures.0) ∙ name _ _ c.totals.ensures ∙ name _ _ c.entries.ensures ∙ name _ _ c.frames.ensures in
    listed c.args.counts.processes c.args.counts.edges c.args.counts.conditions c.args.delay c.args.passed.now c.args.table.now c.args.list.now _ _ _ _ (ap (λ x. x.now) c.start-w.ensures.0) c.start-w.ensures.1 c.totals.ensures c.entries.ensures
    c.frames.ensures c.filled.ensures.0 (c.out-1.given.1.1 names ∙ c.filled.ensures.1)
