-- The passed lines while they are read: how they begin, what the line of the next node makes of them, and what they are
-- when there are as many as nodes, or where the next is missing.
-- Assumes nothing.
use Prim.Native.Nat.{ℕ, zero, suc, ◌+◌, ◌-◌, ◌≤◌, ◌<◌}
use mathlib.Core.Path.{◌≡◌, refl, ap, sym, ◌∙◌}
use mathlib.Core.List.{List, [], ◌∷◌, ◌++◌, append_assoc, append-nil}
use native.Mathlib.Omega.{arith}
use lib.ListN.{length, drop, set, length-append}
use lib.Seq.{sets}
use Rattle.lists.proofs.Stores.{sets_append, sets_front}
use Rattle.text_grammar.specs.Parse.{Parsed, none, got, and_then}
use Rattle.text_scanner.specs.Place.{nowhere, found, Scanned}
use Rattle.listing_grammar.specs.Parse.{count_at, passed_at}
use Rattle.listing_reader.specs.Runs.{CountsFound}

-- The passed lines of the nodes before `node`, from `at` to `next`: all are these and then those from `node` on.
pub record Sofar (counts text : List ℕ) (at slots : ℕ) (before now : List ℕ) (next node : ℕ) : Type 0 where
  pub read : passed_at 0 slots (drop at text) ≡ and_then (passed_at node (slots - node) (drop next text)) (λ cs q. got (counts ++ cs) q)
  pub within : next ≤ length text
  pub all : length counts ≡ node
  pub few : node ≤ slots
  pub held : now ≡ sets before 0 counts

-- before the first line none is read
pub begun : {text : List ℕ} {at slots : ℕ} {before : List ℕ} → at ≤ length text → Sofar [] text at slots before before at 0
begun {text} {at} {slots} h =
    let z : slots - 0 ≡ slots = omega arith in
    record { read = rw z (unchanged (passed_at 0 slots (drop at text))); within = h; all = refl; few = omega arith; held = refl }
  where
    unchanged : (p : Parsed (List ℕ)) → p ≡ and_then p (λ cs q. got ([] ++ cs) q)
    unchanged none = refl
    unchanged (got cs q) = refl

-- the line of a node, and then the lines of those behind it
next_line : (n k : ℕ) (s : List ℕ) → 0 < k → passed_at n k s ≡ and_then (count_at n s) (λ c r. and_then (passed_at (suc n) (k - 1) r) (λ cs q. got (c ∷ cs) q))
unfolding passed_at
next_line n zero s l = absurd (omega arith)
next_line n (suc k) s l = let z : suc k - 1 ≡ k = omega arith in rw z

module _ {counts text : List ℕ} {at slots : ℕ} {before now : List ℕ} {next node : ℕ} (p : Sofar counts text at slots before now next node) where
  -- as many as nodes
  pub over : slots ≤ node → slots ≤ length before → CountsFound text at slots before now next
  unfolding passed_at
  over l room =
      let e : node ≡ slots = omega (arith, p.few) in
      let z : slots - node ≡ 0 = omega arith in
      record {
        counts = counts;
        read = p.read ∙ rw (z, append-nil counts);
        within = p.within;
        for_each = p.all ∙ e;
        held = p.held ∙ sets_front counts before (omega (arith, p.all));
      }

  -- the next one is missing
  pub missing : node < slots → Scanned text nowhere (count_at node (drop next text)) → passed_at 0 slots (drop at text) ≡ none
  missing l e = p.read ∙ rw (next_line node (slots - node) (drop next text) (omega arith), ← e.same)

  -- the line of the next node
  pub more : (count : ℕ) {i : ℕ} {after : List ℕ} → node < slots → Scanned text (found count i) (count_at node (drop next text)) → after ≡ set now node count →
      Sofar (counts ++ (count ∷ [])) text at slots before after i (node + 1)
  more count {i} l e stored =
      let one : suc node ≡ node + 1 = omega arith in
      let left : slots - node - 1 ≡ slots - (node + 1) = omega arith in
      record {
        read = p.read ∙ rw (next_line node (slots - node) (drop next text) (omega arith), ← e.same, one, left) (regrouped (passed_at (node + 1) (slots - (node + 1)) (drop i text)));
        within = e.within;
        all = omega (arith, length-append counts (count ∷ []), p.all);
        few = omega arith;
        held =
            stored
            ∙ (λ j. sets (p.held j) (place j) (count ∷ []))
            ∙ sym (sets_append counts (count ∷ []) before 0);
      }
    where
      place : node ≡ 0 + length counts
      place = omega (arith, p.all)

      regrouped : (r : Parsed (List ℕ)) →
          and_then (and_then r (λ cs q. got (count ∷ cs) q)) (λ cs q. got (counts ++ cs) q) ≡ and_then r (λ cs q. got ((counts ++ (count ∷ [])) ++ cs) q)
      regrouped none = refl
      regrouped (got cs q) = ap (λ (l : List ℕ). got l q) (sym (append_assoc counts (count ∷ []) cs))
