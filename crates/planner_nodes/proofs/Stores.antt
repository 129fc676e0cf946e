-- A store into an array of the list is a store into that array, and leaves the others.
-- Assumes nothing.
use mathlib.Core.Path.{◌≡◌, refl, ap, ◌∙◌}
use mathlib.Core.List.{List, [], ◌∷◌}
use Prim.Native.Nat.{ℕ, suc, ◌+◌, ◌≤◌, ◌<◌}
use native.Mathlib.Omega.{arith}
use lib.ListN.{length, set, replicate}
use lib.Seq.{sets}
use Rattle.lists.proofs.Cutting.{within, behind, before, zeros_cut}
use Rattle.planner_nodes.specs.Nodes.{nodes_of, no_nodes, with_passed, with_noted, put_busy, put_passed, put_nextsend, put_lastarrival, put_waitend, put_noted, put_wait}

pub stored_busy : (s : List ℕ) (i v : ℕ) → i < 8 → nodes_of (set s (0 + i) v) ≡ put_busy i v (nodes_of s)
unfolding nodes_of
stored_busy s i v l =
    λ k.
    record {
      busy = within s 0 8 i v l k;
      passed = behind s 8 8 (0 + i) v (omega (arith, l)) k;
      nextsend = behind s 16 8 (0 + i) v (omega (arith, l)) k;
      lastarrival = behind s 24 8 (0 + i) v (omega (arith, l)) k;
      waitend = behind s 32 8 (0 + i) v (omega (arith, l)) k;
      noted = behind s 40 48 (0 + i) v (omega (arith, l)) k;
      wait = behind s 88 128 (0 + i) v (omega (arith, l)) k;
    }

pub stored_passed : (s : List ℕ) (i v : ℕ) → i < 8 → nodes_of (set s (8 + i) v) ≡ put_passed i v (nodes_of s)
unfolding nodes_of
stored_passed s i v l =
    λ k.
    record {
      busy = before s 0 8 (8 + i) v (omega arith) k;
      passed = within s 8 8 i v l k;
      nextsend = behind s 16 8 (8 + i) v (omega (arith, l)) k;
      lastarrival = behind s 24 8 (8 + i) v (omega (arith, l)) k;
      waitend = behind s 32 8 (8 + i) v (omega (arith, l)) k;
      noted = behind s 40 48 (8 + i) v (omega (arith, l)) k;
      wait = behind s 88 128 (8 + i) v (omega (arith, l)) k;
    }

pub stored_nextsend : (s : List ℕ) (i v : ℕ) → i < 8 → nodes_of (set s (16 + i) v) ≡ put_nextsend i v (nodes_of s)
unfolding nodes_of
stored_nextsend s i v l =
    λ k.
    record {
      busy = before s 0 8 (16 + i) v (omega arith) k;
      passed = before s 8 8 (16 + i) v (omega arith) k;
      nextsend = within s 16 8 i v l k;
      lastarrival = behind s 24 8 (16 + i) v (omega (arith, l)) k;
      waitend = behind s 32 8 (16 + i) v (omega (arith, l)) k;
      noted = behind s 40 48 (16 + i) v (omega (arith, l)) k;
      wait = behind s 88 128 (16 + i) v (omega (arith, l)) k;
    }

pub stored_lastarrival : (s : List ℕ) (i v : ℕ) → i < 8 → nodes_of (set s (24 + i) v) ≡ put_lastarrival i v (nodes_of s)
unfolding nodes_of
stored_lastarrival s i v l =
    λ k.
    record {
      busy = before s 0 8 (24 + i) v (omega arith) k;
      passed = before s 8 8 (24 + i) v (omega arith) k;
      nextsend = before s 16 8 (24 + i) v (omega arith) k;
      lastarrival = within s 24 8 i v l k;
      waitend = behind s 32 8 (24 + i) v (omega (arith, l)) k;
      noted = behind s 40 48 (24 + i) v (omega (arith, l)) k;
      wait = behind s 88 128 (24 + i) v (omega (arith, l)) k;
    }

pub stored_waitend : (s : List ℕ) (i v : ℕ) → i < 8 → nodes_of (set s (32 + i) v) ≡ put_waitend i v (nodes_of s)
unfolding nodes_of
stored_waitend s i v l =
    λ k.
    record {
      busy = before s 0 8 (32 + i) v (omega arith) k;
      passed = before s 8 8 (32 + i) v (omega arith) k;
      nextsend = before s 16 8 (32 + i) v (omega arith) k;
      lastarrival = before s 24 8 (32 + i) v (omega arith) k;
      waitend = within s 32 8 i v l k;
      noted = behind s 40 48 (32 + i) v (omega (arith, l)) k;
      wait = behind s 88 128 (32 + i) v (omega (arith, l)) k;
    }

pub stored_noted : (s : List ℕ) (i v : ℕ) → i < 48 → nodes_of (set s (40 + i) v) ≡ put_noted i v (nodes_of s)
unfolding nodes_of
stored_noted s i v l =
    λ k.
    record {
      busy = before s 0 8 (40 + i) v (omega arith) k;
      passed = before s 8 8 (40 + i) v (omega arith) k;
      nextsend = before s 16 8 (40 + i) v (omega arith) k;
      lastarrival = before s 24 8 (40 + i) v (omega arith) k;
      waitend = before s 32 8 (40 + i) v (omega arith) k;
      noted = within s 40 48 i v l k;
      wait = behind s 88 128 (40 + i) v (omega (arith, l)) k;
    }

pub stored_wait : (s : List ℕ) (i v : ℕ) → i < 128 → nodes_of (set s (88 + i) v) ≡ put_wait i v (nodes_of s)
unfolding nodes_of
stored_wait s i v l =
    λ k.
    record {
      busy = before s 0 8 (88 + i) v (omega arith) k;
      passed = before s 8 8 (88 + i) v (omega arith) k;
      nextsend = before s 16 8 (88 + i) v (omega arith) k;
      lastarrival = before s 24 8 (88 + i) v (omega arith) k;
      waitend = before s 32 8 (88 + i) v (omega arith) k;
      noted = before s 40 48 (88 + i) v (omega arith) k;
      wait = within s 88 128 i v l k;
    }

-- an array of zeros
pub empty : nodes_of (replicate 216 0) ≡ no_nodes
unfolding nodes_of
empty =
    λ k.
    record {
      busy = zeros_cut 216 0 8 (omega arith) k;
      passed = zeros_cut 216 8 8 (omega arith) k;
      nextsend = zeros_cut 216 16 8 (omega arith) k;
      lastarrival = zeros_cut 216 24 8 (omega arith) k;
      waitend = zeros_cut 216 32 8 (omega arith) k;
      noted = zeros_cut 216 40 48 (omega arith) k;
      wait = zeros_cut 216 88 128 (omega arith) k;
    }

-- numbers stored one after another from a place on
pub stored_run_passed : (vs s : List ℕ) (i : ℕ) → i + length vs ≤ 8 → nodes_of (sets s (8 + i) vs) ≡ with_passed (sets (nodes_of s).passed i vs) (nodes_of s)
stored_run_passed [] s i l = refl
stored_run_passed (v ∷ vs) s i l =
    let e : suc (8 + i) ≡ 8 + suc i = omega arith in
    let p = stored_passed s i v (omega (arith, l)) in
    ap (λ (k : ℕ). nodes_of (sets (set s (8 + i) v) k vs)) e ∙ stored_run_passed vs (set s (8 + i) v) (suc i) (omega (arith, l)) ∙ (λ k. with_passed (sets (p k).passed (suc i) vs) (p k))

pub stored_run_noted : (vs s : List ℕ) (i : ℕ) → i + length vs ≤ 48 → nodes_of (sets s (40 + i) vs) ≡ with_noted (sets (nodes_of s).noted i vs) (nodes_of s)
stored_run_noted [] s i l = refl
stored_run_noted (v ∷ vs) s i l =
    let e : suc (40 + i) ≡ 40 + suc i = omega arith in
    let p = stored_noted s i v (omega (arith, l)) in
    ap (λ (k : ℕ). nodes_of (sets (set s (40 + i) v) k vs)) e ∙ stored_run_noted vs (set s (40 + i) v) (suc i) (omega (arith, l)) ∙ (λ k. with_noted (sets (p k).noted (suc i) vs) (p k))
