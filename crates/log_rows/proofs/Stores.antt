-- A store into an array of the list is a store into that array, and leaves the others.
-- Assumes nothing.
use mathlib.Core.Path.{◌≡◌, refl, ap, sym, ◌∙◌}
use mathlib.Core.List.{List, [], ◌∷◌}
use Prim.Native.Nat.{ℕ, suc, ◌+◌, ◌≤◌, ◌<◌}
use native.Mathlib.Omega.{arith}
use lib.ListN.{length, set, replicate, length-replicate}
use lib.Seq.{sets, length-sets}
use Rattle.lists.proofs.Cutting.{within, behind, before, zeros_cut, cut_long}
use Rattle.lists.proofs.Stores.{sets_append, sets_whole}
use Rattle.log_rows.specs.Rows.{rows_of, no_rows, with_run, with_unmet, with_place, put_run, put_unmet, put_comes, put_place}

pub stored_run : (s : List ℕ) (i v : ℕ) → i < 64 → rows_of (set s (0 + i) v) ≡ put_run i v (rows_of s)
unfolding rows_of
stored_run s i v l =
    λ k.
    record {
      run = within s 0 64 i v l k;
      unmet = behind s 64 128 (0 + i) v (omega (arith, l)) k;
      comes = behind s 192 198 (0 + i) v (omega (arith, l)) k;
      place = behind s 390 198 (0 + i) v (omega (arith, l)) k;
    }

pub stored_unmet : (s : List ℕ) (i v : ℕ) → i < 128 → rows_of (set s (64 + i) v) ≡ put_unmet i v (rows_of s)
unfolding rows_of
stored_unmet s i v l =
    λ k.
    record {
      run = before s 0 64 (64 + i) v (omega arith) k;
      unmet = within s 64 128 i v l k;
      comes = behind s 192 198 (64 + i) v (omega (arith, l)) k;
      place = behind s 390 198 (64 + i) v (omega (arith, l)) k;
    }

pub stored_comes : (s : List ℕ) (i v : ℕ) → i < 198 → rows_of (set s (192 + i) v) ≡ put_comes i v (rows_of s)
unfolding rows_of
stored_comes s i v l =
    λ k.
    record {
      run = before s 0 64 (192 + i) v (omega arith) k;
      unmet = before s 64 128 (192 + i) v (omega arith) k;
      comes = within s 192 198 i v l k;
      place = behind s 390 198 (192 + i) v (omega (arith, l)) k;
    }

pub stored_place : (s : List ℕ) (i v : ℕ) → i < 198 → rows_of (set s (390 + i) v) ≡ put_place i v (rows_of s)
unfolding rows_of
stored_place s i v l =
    λ k.
    record {
      run = before s 0 64 (390 + i) v (omega arith) k;
      unmet = before s 64 128 (390 + i) v (omega arith) k;
      comes = before s 192 198 (390 + i) v (omega arith) k;
      place = within s 390 198 i v l k;
    }

-- an array of zeros
pub empty : rows_of (replicate 588 0) ≡ no_rows
unfolding rows_of
empty =
    λ k.
    record {
      run = zeros_cut 588 0 64 (omega arith) k;
      unmet = zeros_cut 588 64 128 (omega arith) k;
      comes = zeros_cut 588 192 198 (omega arith) k;
      place = zeros_cut 588 390 198 (omega arith) k;
    }

-- numbers stored one after another from a place on
pub stored_places : (vs s : List ℕ) (i : ℕ) → i + length vs ≤ 198 → rows_of (sets s (390 + i) vs) ≡ with_place (sets (rows_of s).place i vs) (rows_of s)
stored_places [] s i l = refl
stored_places (v ∷ vs) s i l =
    let e : suc (390 + i) ≡ 390 + suc i = omega arith in
    let p = stored_place s i v (omega (arith, l)) in
    ap (λ (k : ℕ). rows_of (sets (set s (390 + i) v) k vs)) e ∙ stored_places vs (set s (390 + i) v) (suc i) (omega (arith, l)) ∙ (λ k. with_place (sets (p k).place (suc i) vs) (p k))

pub stored_runs : (vs s : List ℕ) (i : ℕ) → i + length vs ≤ 64 → rows_of (sets s (0 + i) vs) ≡ with_run (sets (rows_of s).run i vs) (rows_of s)
stored_runs [] s i l = refl
stored_runs (v ∷ vs) s i l =
    let e : suc (0 + i) ≡ 0 + suc i = omega arith in
    let p = stored_run s i v (omega (arith, l)) in
    ap (λ (k : ℕ). rows_of (sets (set s (0 + i) v) k vs)) e ∙ stored_runs vs (set s (0 + i) v) (suc i) (omega (arith, l)) ∙ (λ k. with_run (sets (p k).run (suc i) vs) (p k))

pub stored_unmets : (vs s : List ℕ) (i : ℕ) → i + length vs ≤ 128 → rows_of (sets s (64 + i) vs) ≡ with_unmet (sets (rows_of s).unmet i vs) (rows_of s)
stored_unmets [] s i l = refl
stored_unmets (v ∷ vs) s i l =
    let e : suc (64 + i) ≡ 64 + suc i = omega arith in
    let p = stored_unmet s i v (omega (arith, l)) in
    ap (λ (k : ℕ). rows_of (sets (set s (64 + i) v) k vs)) e ∙ stored_unmets vs (set s (64 + i) v) (suc i) (omega (arith, l)) ∙ (λ k. with_unmet (sets (p k).unmet (suc i) vs) (p k))

-- how long each array is
pub comes_long : (s : List ℕ) → length s ≡ 588 → length (rows_of s).comes ≡ 198
unfolding rows_of
comes_long s l = cut_long s 192 198 (omega (arith, l))

pub place_long : (s : List ℕ) → length s ≡ 588 → length (rows_of s).place ≡ 198
unfolding rows_of
place_long s l = cut_long s 390 198 (omega (arith, l))

run_long : (s : List ℕ) → length s ≡ 588 → length (rows_of s).run ≡ 64
unfolding rows_of
run_long s l = cut_long s 0 64 (omega (arith, l))

unmet_long : (s : List ℕ) → length s ≡ 588 → length (rows_of s).unmet ≡ 128
unfolding rows_of
unmet_long s l = cut_long s 64 128 (omega (arith, l))

-- zeros stored in all of the array, and in its first two parts
pub all_cleared : (s : List ℕ) → length s ≡ 588 → rows_of (sets s 0 (replicate 588 0)) ≡ no_rows
all_cleared s l = ap rows_of (sets_whole (replicate 588 0) s (length-replicate {A = ℕ} 588 0 ∙ sym l)) ∙ empty

pub front_cleared : (s : List ℕ) → length s ≡ 588 → rows_of (sets s 0 (replicate 192 0)) ≡ with_run (replicate 64 0) (with_unmet (replicate 128 0) (rows_of s))
front_cleared s l =
    let u : List ℕ = replicate 64 0 in
    let v : List ℕ = replicate 128 0 in
    let t : List ℕ = sets s 0 u in
    let p = stored_runs u s 0 (omega arith) in
    let r = sets_whole u (rows_of s).run (sym (run_long s l)) in
    let w = sets_whole v (rows_of t).unmet (sym (unmet_long t (length-sets s 0 u ∙ l))) in
    ap rows_of (sets_append u v s 0)
    ∙ stored_unmets v t 0 (omega arith)
    ∙ (λ i. with_unmet (w i) (p i))
    ∙ (λ i. with_unmet v (with_run (r i) (rows_of s)))
