-- A text that states a listing has at most 439,242 bytes, so that the program need not read more: places and the
-- numbers of frames may have nine digits, more than the planner's.
-- Assumes nothing.
use mathlib.Core.Path.{◌≡◌, ap, sym, ◌∙◌}
use mathlib.Core.Bool.{true}
use mathlib.Core.List.{List, [], ◌∷◌, ◌++◌, Memᴰ as In}
use Prim.Native.Nat.{ℕ, zero, suc, ◌*◌, ◌≤◌, ◌<◌}
use native.Mathlib.Omega.{arith}
use borrow.Author.Tests.{ltb-true}
use lib.ListN.{get_or, length, length-append}
use Rattle.lists.specs.Lists.{all, each}
use Rattle.lists.proofs.Tests.{both}
use Rattle.lists.proofs.Members.{all_in, in_all, in_each}
use Rattle.lists.proofs.Sums.{length_each}
use Rattle.model.specs.Plan.{Lines}
use Rattle.model.specs.Refusals.{nothing, plan_refusal}
use Rattle.model.specs.Text.{text, decimal, short}
use Rattle.model.specs.Table.{Entry, Frame, Result}
use Rattle.model.specs.ListingText.{entry_numbers, frame_numbers, States}
use Rattle.laws.proofs.Good.{Good, good}
use Rattle.text_grammar.proofs.Numbers.{decimal_length}
use Rattle.listing_count.specs.Parts.{entry_text, frame_text, passed_text}
use Rattle.listing_count.proofs.Lengths.{frame_length}
use Rattle.listing_count.proofs.Most.{line_most, passed_most}
use Rattle.listing_grammar.proofs.Whole.{delay_line, in_turn, numbers_apart}

nine : (n : ℕ) → short n ≡ true → n < 1000000000
unfolding short
nine n h = ltb-true n 1000000000 h

-- each of short numbers, and zero behind them
nine_each : (ns : List ℕ) → all short ns ≡ true → (i : ℕ) → get_or ns i 0 < 1000000000
nine_each [] h i = omega arith
nine_each (n ∷ ns) h zero = nine n (both (short n) (all short ns) h).0
nine_each (n ∷ ns) h (suc i) = nine_each ns (both (short n) (all short ns) h).1 i

delay_most : (d : ℕ) → short d ≡ true → length (delay_line d) ≤ 18
delay_most d h = omega (arith, length-append (decimal d) (text ")"), length-append (decimal d ++ text ")") (text "\n"), decimal_length 8 d (nine d h))

module _ (p : Lines) (fine : plan_refusal p ≡ nothing) where
  g : Good p
  g = good p fine

  entry_most : (e : Entry) → all short (entry_numbers e) ≡ true → length (entry_text (length p.processes) (length p.edges) (length p.conditions) e) ≤ 111
  entry_most e h =
      let a = both (short e.tick) _ h in
      let b = both (short e.place) _ a.1 in
      line_most (length p.processes) (length p.edges) (length p.conditions) e.row e.known e.values e.tick e.place 2 8 8 g.few_conditions
      (λ l. omega (arith, g.few_processes, g.few_edges, g.few_conditions)) (nine e.tick a.0) (λ l. nine e.place b.0)

  frame_most : (f : Frame) → all short (frame_numbers f) ≡ true → length (frame_text f) ≤ 53
  frame_most f h =
      let a = both (short f.tick) _ h in
      let b = both (short f.node) _ a.1 in
      let c = both (short f.used) _ b.1 in
      omega (arith, frame_length f.tick f.node f.used, decimal_length 8 f.tick (nine _ a.0), decimal_length 8 f.node (nine _ b.0), decimal_length 8 f.used (nine _ c.0))

  part_short : {A : Type 0} (numbers : A → List ℕ) (xs : List A) → all short (each numbers xs) ≡ true → (x : A) → In x xs → all short (numbers x) ≡ true
  part_short numbers xs h x m = in_all short (numbers x) (λ n i. all_in short h (in_each numbers m i))

  pub states_length : {bytes : List ℕ} {r : Result} → States p bytes r → length bytes ≤ 439242
  states_length {bytes} {r} s =
      let n = numbers_apart p fine r s.all_short in
      let es : List ℕ = each (entry_text (length p.processes) (length p.edges) (length p.conditions)) r.entries in
      let fs : List ℕ = each frame_text r.frames in
      let ps : List ℕ = passed_text 0 r.passed in
      let a : length es ≤ 111 * length r.entries = length_each _ r.entries 111 (λ e m. entry_most e (part_short entry_numbers r.entries n.2 e m)) in
      let b : length fs ≤ 53 * length r.frames = length_each frame_text r.frames 53 (λ f m. frame_most f (part_short frame_numbers r.frames n.3 f m)) in
      let c : length ps ≤ 28 * length r.passed = passed_most 8 0 r.passed (omega (arith, s.count_for_each, g.few_slots)) (nine_each r.passed n.1) in
      let d : length (delay_line r.delay) ≤ 18 = delay_most r.delay (both (short r.delay) true n.0).0 in
      omega (
        arith,
        ap length (sym s.prints ∙ in_turn p fine r),
        length-append (delay_line r.delay) (ps ++ (es ++ (fs ++ []))),
        length-append ps (es ++ (fs ++ [])),
        length-append es (fs ++ []),
        length-append fs [],
        s.few_entries,
        s.few_frames,
        s.count_for_each,
        g.few_slots,
      )
