-- Document 02, point 3: "A listing with the old line, other nodes or another order is not of the form." Behind the delay
-- line and the passed lines of some nodes, not of all, the passed line of the next node stands; behind those of all
-- nodes there is no further one.
-- Assumes nothing.
use mathlib.Core.Path.{◌≡◌, refl, sym, ap, ◌∙◌}
use mathlib.Core.Bool.{true}
use mathlib.Core.List.{List, [], ◌∷◌, ◌++◌, append_assoc}
use Prim.Native.Nat.{ℕ, suc, ◌+◌, ◌≤◌, ◌<◌}
use native.Mathlib.Omega.{arith}
use lib.ListN.{length}
use Rattle.lists.specs.Lists.{all, each}
use Rattle.lists.proofs.Tests.{both, join}
use Rattle.model.specs.Plan.{Lines}
use Rattle.model.specs.Refusals.{nothing, plan_refusal}
use Rattle.model.specs.Table.{Result}
use Rattle.model.specs.Text.{text, decimal, field, short}
use Rattle.model.specs.Listing.{passed_line, passed_lines}
use Rattle.model.specs.ListingText.{States}
use Rattle.laws.proofs.Good.{good}
use Rattle.text_grammar.specs.Parse.{none, got, word_at, number_to, digit, closed_at}
use Rattle.text_grammar.proofs.Numbers.{bracketed}
use Rattle.text_grammar.proofs.Parsed.{not_got, got_same}
use Rattle.text_grammar.proofs.Inverse.{word_reads, number_to_reads, closed_reads}
use Rattle.text_grammar.proofs.Runs.{run_over}
use Rattle.listing_count.specs.Parts.{frame_text, passed_of, passed_text}
use Rattle.listing_count.proofs.Lines.{passed_same, passed_line_same}
use Rattle.listing_grammar.specs.Parse.{numbered_at, start_at, item_at, entry_at, frame_at, count_at, listing_at, no_reading, read, to_end, read_listing}
use Rattle.listing_grammar.proofs.Forms.{entry_reads, frame_reads, count_reads}
use Rattle.listing_grammar.proofs.Whole.{reading, frame_over, entry_over, delay_line, passed_reads, few, small, line, in_turn, numbers_apart, states_read}

-- The passed lines of some nodes from n on stand in front of two texts, in the second those of more nodes: the first goes
-- on with the line of the next node.
goes_on : (n : ℕ) (counts others rest more : List ℕ) → n + length others ≤ 1000000000 → all short counts ≡ true → all short others ≡ true → length counts < length others →
    passed_text n counts ++ rest ≡ passed_text n others ++ more → (count : ℕ) × (behind : List ℕ) × (rest ≡ passed_of (n + length counts) count ++ behind)
unfolding passed_text
goes_on n [] [] rest more l h k few e = absurd (omega arith)
goes_on n [] (c ∷ cs) rest more l h k few e =
    let z : n + 0 ≡ n = omega arith in
    (c, passed_text (suc n) cs ++ more, e ∙ append_assoc (passed_of n c) (passed_text (suc n) cs) more ∙ ap (λ (m : ℕ). passed_of m c ++ (passed_text (suc n) cs ++ more)) (sym z))
goes_on n (b ∷ bs) [] rest more l h k few e = absurd (omega arith)
goes_on n (b ∷ bs) (c ∷ cs) rest more l h k few e =
    let z : suc n + length bs ≡ n + suc (length bs) = omega arith in
    let x = both (short b) (all short bs) h in
    let y = both (short c) (all short cs) k in
    let one : count_at n (passed_of n b ++ (passed_text (suc n) bs ++ rest)) ≡ got b (passed_text (suc n) bs ++ rest) =
    (count_reads n (omega arith)).complete b (passed_text (suc n) bs ++ rest) tt (join (short b) true x.0 refl) in
    let other : count_at n (passed_of n c ++ (passed_text (suc n) cs ++ more)) ≡ got c (passed_text (suc n) cs ++ more) =
    (count_reads n (omega arith)).complete c (passed_text (suc n) cs ++ more) tt (join (short c) true y.0 refl) in
    let same : passed_of n b ++ (passed_text (suc n) bs ++ rest) ≡ passed_of n c ++ (passed_text (suc n) cs ++ more) =
    sym (append_assoc (passed_of n b) (passed_text (suc n) bs) rest) ∙ e ∙ append_assoc (passed_of n c) (passed_text (suc n) cs) more in
    let left = (got_same (sym one ∙ ap (count_at n) same ∙ other)).1 in
    let r = goes_on (suc n) bs cs rest more (omega arith) x.1 y.1 (omega arith) left in
    (r.0, r.1, r.2 ∙ ap (λ (m : ℕ). passed_of m r.0 ++ r.1) z)

-- the front of a listing: the delay line, and passed lines from node 0 on
abbrev pub begins : ℕ → List ℕ → List ℕ → List ℕ
begins delay counts rest = field "delay" delay ++ text "\n" ++ passed_lines 0 counts ++ rest

begins_in_turn : (delay : ℕ) (counts rest : List ℕ) → begins delay counts rest ≡ delay_line delay ++ (passed_text 0 counts ++ rest)
unfolding field
begins_in_turn delay counts rest = append_assoc (delay_line delay) (passed_lines 0 counts) rest ∙ ap (λ (s : List ℕ). delay_line delay ++ (s ++ rest)) (passed_same 0 counts)

module _ (p : Lines) (fine : plan_refusal p ≡ nothing) (delay : ℕ) (counts rest : List ℕ) (nine : short delay ≡ true) where
  -- what a text with such a front states has its delay, and the same stands behind the delay line
  same_delay : (r : Result) → States p (begins delay counts rest) r →
      (more : List ℕ) × (passed_text 0 counts ++ rest ≡ passed_text 0 r.passed ++ more)
  same_delay r m =
      let n = numbers_apart p fine (r) m.all_short in
      let behind : List ℕ = each (line p fine) r.entries ++ (each frame_text r.frames ++ []) in
      let same : delay_line delay ++ (passed_text 0 counts ++ rest) ≡ delay_line r.delay ++ (passed_text 0 r.passed ++ behind) =
      sym (begins_in_turn delay counts rest) ∙ sym m.prints ∙ in_turn p fine r in
      let one = (closed_reads (text "(delay ") (text "\n")).complete delay (passed_text 0 counts ++ rest) tt (join (short delay) true nine refl) in
      let other = (closed_reads (text "(delay ") (text "\n")).complete r.delay (passed_text 0 r.passed ++ behind) tt n.0 in
      (behind, (got_same (sym one ∙ ap (closed_at (text "(delay ") (text "\n")) same ∙ other)).1)

  -- behind the lines of some nodes, not of all, stands the line of the next
  pub next_line : (r : Result) → all short counts ≡ true → length counts < length p.slots → States p (begins delay counts rest) r →
      (count : ℕ) × (behind : List ℕ) × (rest ≡ passed_line (length counts) count ++ behind)
  next_line r h few m =
      let g = good p fine in
      let s = same_delay r m in
      let q = goes_on 0 counts r.passed rest s.0 (omega (arith, m.count_for_each, g.few_slots)) h (numbers_apart p fine r m.all_short).1 (omega (arith, m.count_for_each)) s.1 in
      let z : 0 + length counts ≡ length counts = omega arith in
      (q.0, q.1, q.2 ∙ ap (λ (n : ℕ). passed_of n q.0 ++ q.1) z ∙ ap (λ (s : List ℕ). s ++ q.1) (sym (passed_line_same (length counts) q.0)))

-- no number begins with a bracket
no_number : (s : List ℕ) → number_to 41 (40 ∷ s) ≡ none
unfolding number_to digit
no_number s = refl

-- the old line is no node's
pub not_the_old : (count n other : ℕ) (rest behind : List ℕ) → short count ≡ true → field "passed" count ++ rest ≡ passed_line n other ++ behind → ⊥
unfolding field passed_line
not_the_old count n other rest behind h e =
    let left : field "passed" count ++ rest ≡ text "(passed " ++ (bracketed count ++ rest) = append_assoc (text "(passed ") (bracketed count) rest in
    let after : List ℕ = text "node " ++ decimal n ++ text ")" ++ text " " ++ decimal other ++ text ")\n" ++ behind in
    let right : passed_line n other ++ behind ≡ text "(passed " ++ (40 ∷ after) = refl in
    let a = (word_reads (text "(passed ")).complete tt (bracketed count ++ rest) tt refl in
    let b = (word_reads (text "(passed ")).complete tt (40 ∷ after) tt refl in
    let q : bracketed count ++ rest ≡ 40 ∷ after = (got_same (sym a ∙ ap (word_at (text "(passed ")) (sym left ∙ e ∙ right) ∙ b)).1 in
    let c = (number_to_reads 41 (omega arith)).complete count rest tt (join (short count) true h refl) in
    not_got (sym (no_number after) ∙ ap (number_to 41) (sym q) ∙ c)

-- a passed line is no line of an entry and none of a frame
no_entry : (processes edges conditions : ℕ) (s : List ℕ) → entry_at processes edges conditions (text "(passed " ++ s) ≡ none
unfolding entry_at start_at item_at numbered_at word_at
no_entry processes edges conditions s = refl

no_frame : (s : List ℕ) → frame_at (text "(passed " ++ s) ≡ none
unfolding frame_at numbered_at word_at
no_frame s = refl

-- behind the lines of all nodes stands no further one
module _ (p : Lines) (fine : plan_refusal p ≡ nothing) (delay : ℕ) (counts rest : List ℕ) (nine : short delay ≡ true) (short-counts : all short counts ≡ true) (all-nodes : length counts ≡ length p.slots) where
  none_read : reading p (begins delay counts (text "(passed " ++ rest)) ≡ no_reading
  unfolding read_listing listing_at to_end
  none_read =
      let g = good p fine in
      rw (
        begins_in_turn delay counts (text "(passed " ++ rest),
        (closed_reads (text "(delay ") (text "\n")).complete delay (passed_text 0 counts ++ (text "(passed " ++ rest)) tt (join (short delay) true nine refl),
        (passed_reads 0 (length p.slots) (omega (arith, g.few_slots))).complete counts (text "(passed " ++ rest) all-nodes short-counts,
        run_over (entry_reads (length p.processes) (length p.edges) (length p.conditions) (few p fine) (small p fine)) (entry_over _ _ _ []) (text "(passed " ++ rest) (no_entry _ _ _ rest),
        run_over frame_reads frame_over (text "(passed " ++ rest) (no_frame rest),
      )

  pub no_further : (r : Result) → States p (begins delay counts (text "(passed " ++ rest)) r → ⊥
  no_further r m = not_read (sym none_read ∙ states_read p fine m)
    where
      not_read : no_reading ≡ read r → ⊥
      not_read e = let z : ◌≡◌ {A = ℕ} 0 1 = cc in omega arith
