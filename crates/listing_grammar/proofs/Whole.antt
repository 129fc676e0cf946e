-- The reader of listings reads exactly what a text states, so that a text states at most one listing.
-- Assumes nothing.
use Rattle.std.specs.Prelude.{if◌then◌else◌}
use mathlib.Core.Path.{◌≡◌, refl, ap, sym, subst, ◌∙◌}
use mathlib.Core.Bool.{Bool, true, false, not, ◌&&◌, ◌||◌}
use mathlib.Core.Logic.{◌⊎◌, inl, inr}
use mathlib.Core.List.{List, [], ◌∷◌, ◌++◌, append_assoc, append-nil}
use Prim.Native.Nat.{ℕ, zero, suc, ◌+◌, ◌/◌, ◌%◌, ◌^◌, ◌≤◌, ◌<◌}
use native.Mathlib.Nat.{pow-suc}
use native.Mathlib.Omega.{arith}
use borrow.Author.Tests.{ltb-true, ltb-false, lt-ltb, le-ltb, leb-true, le-leb, eqb-true, eq-eqb}
use lib.Dec.{eqb, leb, ltb}
use lib.ListN.{length}
use Rattle.lists.specs.Lists.{all, each}
use Rattle.lists.proofs.Joined.{each_equal}
use Rattle.lists.proofs.Tests.{two, both, join, or_right, or_left}
use Rattle.lists.proofs.Members.{all_parts, all_joined}
use Rattle.model.specs.Plan.{Lines}
use Rattle.model.specs.Bus.{rows, is_process}
use Rattle.model.specs.Refusals.{nothing, plan_refusal}
use Rattle.model.specs.Text.{text, short, field}
use Rattle.model.specs.Table.{Entry, Frame, Result, bits_within}
use Rattle.model.specs.Listing.{entry_line, frame_line, passed_lines, listing}
use Rattle.model.specs.ListingText.{listable, rows_in_order, entry_numbers, frame_numbers, listing_numbers, States, Listed, listed, not_listed, AnswersListing, no_listing, a_listing}
use Rattle.laws.proofs.Good.{good}
use Rattle.text_grammar.specs.Parse.{Parsed, none, got, word_at, closed_at, run_at}
use Rattle.text_grammar.proofs.Parsed.{got_same, parts}
use Rattle.text_grammar.proofs.Numbers.{bracketed}
use Rattle.text_grammar.proofs.Inverse.{Reads, closed_reads}
use Rattle.text_grammar.proofs.Runs.{Every, every, run_complete, run_sound}
use Rattle.listing_count.specs.Parts.{entry_text, frame_text, frame_of, passed_of, passed_text}
use Rattle.listing_count.proofs.Lines.{entry_same, frame_same, passed_same}
use Rattle.listing_grammar.specs.Parse.{numbered_at, start_at, item_at, entry_at, frame_at, count_at, passed_at, listing_at, Read, no_reading, read, in_form, to_end, read_listing}
use Rattle.listing_grammar.proofs.Columns.{Fits}
use Rattle.listing_grammar.proofs.Forms.{Line, entry_reads, frame_reads, count_reads}

-- known and value bits that n conditions have
fits_in : (n known values : ℕ) → known < 2 ^ n → values < 2 ^ n → bits_within n values known ≡ true → Fits n known values
unfolding bits_within
fits_in zero known values k v h = (omega arith, omega arith)
fits_in (suc n) known values k v h =
    let b = both (leb (values % 2) (known % 2)) (bits_within n (values / 2) (known / 2)) h in
    (leb-true _ _ b.0, fits_in n (known / 2) (values / 2) (omega (arith, pow-suc 2 n)) (omega (arith, pow-suc 2 n)) b.1)

in_fits : (n known values : ℕ) → Fits n known values → (known < 2 ^ n) × (values < 2 ^ n) × (bits_within n values known ≡ true)
unfolding bits_within
in_fits zero known values f = let a = f.0 in let b = f.1 in (omega arith, omega arith, refl)
in_fits (suc n) known values f =
    let r = in_fits n (known / 2) (values / 2) f.1 in
    let a = r.0 in
    let b = r.1 in
    (omega (arith, pow-suc 2 n), omega (arith, pow-suc 2 n), join (leb (values % 2) (known % 2)) _ (le-leb _ _ f.0) r.2)

module _ (p : Lines) where
  abbrev N : ℕ
  N = length p.slots

  abbrev P : ℕ
  P = length p.processes

  abbrev E : ℕ
  E = length p.edges

  abbrev C : ℕ
  C = length p.conditions

  abbrev pub reading : List ℕ → Read
  reading bytes = read_listing N P E C bytes

  -- what may be listed is what a line says
  listable_line : (e : Entry) → listable p e ≡ true → Line P E C e
  unfolding listable
  listable_line e h =
      let a = both _ (not (is_process p e.row) || eqb e.place 0) h in
      let b = both _ (bits_within C e.values e.known) a.0 in
      let c = both _ (ltb e.values (2 ^ C)) b.0 in
      let d = both (ltb e.row (rows p)) (ltb e.known (2 ^ C)) c.0 in
      let l : e.row < P + E + C = ltb-true _ _ d.0 in
      let f : Fits C e.known e.values = fits_in C e.known e.values (ltb-true _ _ d.1) (ltb-true _ _ c.1) b.1 in
      at l f (two (ltb e.row P)) (two (ltb e.row (P + E))) a.1
    where
      place : (b c : Bool) → b ≡ true → (not b || c) ≡ true → c ≡ true
      place true c q h = h
      place false c q h = absurd (let z : false ≡ true = q in mathlib.Core.Bool.false≢true z)

      at : e.row < P + E + C → Fits C e.known e.values → (ltb e.row P ≡ true) ⊎ (ltb e.row P ≡ false) →
          (ltb e.row (P + E) ≡ true) ⊎ (ltb e.row (P + E) ≡ false) → (not (ltb e.row P) || eqb e.place 0) ≡ true → Line P E C e
      at l f (inl a) b q = inl (inl (ltb-true _ _ a, f, eqb-true _ _ (place (ltb e.row P) (eqb e.place 0) a q)))
      at l f (inr a) (inl b) q = inl (inr (ltb-false _ _ a, ltb-true _ _ b, f))
      at l f (inr a) (inr b) q = inr (ltb-false _ _ b, l, f)

  line_listable : (e : Entry) → Line P E C e → listable p e ≡ true
  unfolding listable
  line_listable e = at
    where
      all_five : e.row < P + E + C → Fits C e.known e.values → (not (is_process p e.row) || eqb e.place 0) ≡ true → listable p e ≡ true
      all_five l f q =
          let r = in_fits C e.known e.values f in
          join _ (not (is_process p e.row) || eqb e.place 0)
          (join _ (bits_within C e.values e.known)
          (join _ (ltb e.values (2 ^ C)) (join (ltb e.row (rows p)) (ltb e.known (2 ^ C)) (lt-ltb _ _ l) (lt-ltb _ _ r.0)) (lt-ltb _ _ r.1)) r.2) q

      at : Line P E C e → listable p e ≡ true
      at (inl (inl k)) = let l = k.0 in all_five (omega arith) k.1 (or_right (not (is_process p e.row)) (eqb e.place 0) (eq-eqb _ _ k.2))
      at (inl (inr k)) =
          let l = k.1 in
          all_five (omega arith) k.2 (or_left (not (is_process p e.row)) (eqb e.place 0) (rw (le-ltb e.row P k.0)))
      at (inr k) =
          let l = k.0 in
          all_five k.1 k.2 (or_left (not (is_process p e.row)) (eqb e.place 0) (rw (le-ltb e.row P (omega arith))))

  all_lines : (es : List Entry) → all (listable p) es ≡ true → Every (Line P E C) es
  all_lines [] h = tt
  all_lines (e ∷ es) h = let b = both (listable p e) (all (listable p) es) h in (listable_line e b.0, all_lines es b.1)

  lines_all : (es : List Entry) → Every (Line P E C) es → all (listable p) es ≡ true
  lines_all [] h = refl
  lines_all (e ∷ es) h = join (listable p e) (all (listable p) es) (line_listable e h.0) (lines_all es h.1)

-- Where the entries begin and the frames end nothing of another kind stands.
pub frame_over : frame_at [] ≡ none
unfolding frame_at numbered_at word_at
frame_over = refl

pub entry_over : (processes edges conditions : ℕ) (fs : List Frame) → entry_at processes edges conditions (each frame_text fs ++ []) ≡ none
unfolding entry_at start_at item_at numbered_at word_at frame_of
entry_over processes edges conditions [] = refl
entry_over processes edges conditions (f ∷ fs) = refl

-- the delay line
abbrev pub delay_line : ℕ → List ℕ
delay_line d = (text "(delay " ++ bracketed d) ++ text "\n"

-- The passed lines of the nodes from n on are read as their counts, of which there are as many as nodes.
passed_complete : (n k : ℕ) → n + k ≤ 1000000000 → (cs s : List ℕ) → length cs ≡ k → all short cs ≡ true → passed_at n k (passed_text n cs ++ s) ≡ got cs s
unfolding passed_at passed_text
passed_complete n zero l [] s e h = refl
passed_complete n zero l (c ∷ cs) s e h = absurd (omega arith)
passed_complete n (suc k) l [] s e h = absurd (omega arith)
passed_complete n (suc k) l (c ∷ cs) s e h =
    let b = both (short c) (all short cs) h in
    rw (
      append_assoc (passed_of n c) (passed_text (suc n) cs) s,
      (count_reads n (omega arith)).complete c (passed_text (suc n) cs ++ s) tt (join (short c) true b.0 refl),
      passed_complete (suc n) k (omega arith) cs s (omega arith) b.1,
    )

-- What is read are the printed lines of as many short counts.
abbrev Passed : ℕ → ℕ → List ℕ → List ℕ → List ℕ → Type 0
Passed n k s cs r = (s ≡ passed_text n cs ++ r) × (length cs ≡ k) × (all short cs ≡ true)

passed_sound : (n k : ℕ) → n + k ≤ 1000000000 → (s cs r : List ℕ) → passed_at n k s ≡ got cs r → Passed n k s cs r
unfolding passed_at passed_text
passed_sound n zero l s cs r h = let g = got_same h in subst (λ (z : List ℕ). Passed n 0 s z r) g.0 (g.1, refl, refl)
passed_sound n (suc k) l s cs r h =
    let a = parts (count_at n s) _ h in
    let b = parts (passed_at (suc n) k a.rest) _ a.two in
    let g = got_same b.two in
    let f = (count_reads n (omega arith)).sound s a.value a.rest a.one in
    let d = passed_sound (suc n) k (omega arith) a.rest b.value b.rest b.one in
    let e : a.rest ≡ passed_text (suc n) b.value ++ r = d.0 ∙ ap (λ (z : List ℕ). passed_text (suc n) b.value ++ z) g.1 in
    subst (λ (z : List ℕ). Passed n (suc k) s z r) g.0 (
      f.0 ∙ ap (λ (z : List ℕ). passed_of n a.value ++ z) e ∙ sym (append_assoc (passed_of n a.value) (passed_text (suc n) b.value) r),
      ap suc d.1,
      join (short a.value) (all short b.value) (both (short a.value) true f.2).0 d.2,
    )

-- both
pub passed_reads : (n k : ℕ) → n + k ≤ 1000000000 → Reads (passed_at n k) (λ cs. length cs ≡ k) (passed_text n) (λ cs. cs)
passed_reads n k l = record { complete = passed_complete n k l; sound = passed_sound n k l }

module _ (p : Lines) (fine : plan_refusal p ≡ nothing) where
  pub few : C p ≤ 10
  few = let h = (good p fine).few_conditions in omega arith

  pub small : P p + E p + C p < 1000000000
  small = let g = good p fine in omega (arith, g.few_processes, g.few_edges, g.few_conditions)

  -- the nodes' numbers are short
  few_nodes : 0 + N p ≤ 1000000000
  few_nodes = let g = good p fine in omega (arith, g.few_slots)

  abbrev pub line : Entry → List ℕ
  line = entry_text (P p) (E p) (C p)

  pub in_turn : (r : Result) → listing p r.delay r.passed r.entries r.frames
      ≡ delay_line r.delay ++ (passed_text 0 r.passed ++ (each line r.entries ++ (each frame_text r.frames ++ [])))
  unfolding listing field
  in_turn r =
      regrouped (delay_line r.delay) (passed_lines 0 r.passed) (each (entry_line p) r.entries) (each frame_line r.frames)
      ∙ (λ i. delay_line r.delay ++ (passed_same 0 r.passed i ++ (each_equal (entry_same p) r.entries i ++ (each_equal frame_same r.frames i ++ []))))
    where
      regrouped : (a b c d : List ℕ) → a ++ b ++ c ++ d ≡ a ++ (b ++ (c ++ (d ++ [])))
      regrouped a b c d = simp (append_assoc, append-nil)

  abbrev pub Numbers : Result → Type 0
  Numbers r = (all short (r.delay ∷ []) ≡ true) × (all short r.passed ≡ true) × (all short (each entry_numbers r.entries) ≡ true) × (all short (each frame_numbers r.frames) ≡ true)

  pub numbers_apart : (r : Result) → all short (listing_numbers r) ≡ true → Numbers r
  unfolding listing_numbers
  numbers_apart r h =
      let a = all_parts short ((r.delay ∷ r.passed) ++ each entry_numbers r.entries) (each frame_numbers r.frames) h in
      let b = all_parts short (r.delay ∷ r.passed) (each entry_numbers r.entries) a.0 in
      let c = all_parts short (r.delay ∷ []) r.passed b.0 in
      (c.0, c.1, b.1, a.1)

  numbers_joined : (r : Result) → Numbers r → all short (listing_numbers r) ≡ true
  unfolding listing_numbers
  numbers_joined r h =
      all_joined short ((r.delay ∷ r.passed) ++ each entry_numbers r.entries) (each frame_numbers r.frames)
      (all_joined short (r.delay ∷ r.passed) (each entry_numbers r.entries) (all_joined short (r.delay ∷ []) r.passed h.0 h.1) h.2) h.3

  listing_complete : (r : Result) → length r.passed ≡ N p → all short (listing_numbers r) ≡ true → all (listable p) r.entries ≡ true
      → listing_at (N p) (P p) (E p) (C p) (listing p r.delay r.passed r.entries r.frames) ≡ got r []
  unfolding listing_at
  listing_complete r each_one h lines =
      let n = numbers_apart r h in
      let r₃ : List ℕ = each frame_text r.frames ++ [] in
      let r₂ : List ℕ = each line r.entries ++ r₃ in
      let r₁ : List ℕ = passed_text 0 r.passed ++ r₂ in
      rw (
        in_turn r,
        (closed_reads (text "(delay ") (text "\n")).complete r.delay r₁ tt n.0,
        (passed_reads 0 (N p) few_nodes).complete r.passed r₂ each_one n.1,
        run_complete (entry_reads (P p) (E p) (C p) few small) (entry_over (P p) (E p) (C p) []) r.entries r₃ (all_lines p r.entries lines) n.2 (entry_over (P p) (E p) (C p) r.frames),
        run_complete frame_reads frame_over r.frames [] (every r.frames) n.3 frame_over,
      )

  -- what a reading says, but for the order of the rows and how many lines there are
  record Form (bytes : List ℕ) (r : Result) : Type 0 where
    count_for_each : length r.passed ≡ N p
    all_short : all short (listing_numbers r) ≡ true
    all_listable : all (listable p) r.entries ≡ true
    prints : listing p r.delay r.passed r.entries r.frames ≡ bytes

  listing_sound : (s : List ℕ) (r : Result) → listing_at (N p) (P p) (E p) (C p) s ≡ got r [] → Form s r
  unfolding listing_at
  listing_sound s r h =
      let a = parts (closed_at (text "(delay ") (text "\n") s) _ h in
      let b = parts (passed_at 0 (N p) a.rest) _ a.two in
      let c = parts (run_at (entry_at (P p) (E p) (C p)) b.rest) _ b.two in
      let d = parts (run_at frame_at c.rest) _ c.two in
      let f = (closed_reads (text "(delay ") (text "\n")).sound s a.value a.rest a.one in
      let g = (passed_reads 0 (N p) few_nodes).sound a.rest b.value b.rest b.one in
      let i = run_sound (entry_reads (P p) (E p) (C p) few small) (entry_over (P p) (E p) (C p) []) b.rest c.value c.rest c.one in
      let j = run_sound frame_reads frame_over c.rest d.value d.rest d.one in
      put_together a.rest b.rest c.rest d.rest (record { delay = a.value; passed = b.value; entries = c.value; frames = d.value })
      d.two f.0 g.0 i.0 j.0 g.1 (lines_all p c.value i.1) (f.2, g.2, i.2, j.2)
    where
      put_together : (r₁ r₂ r₃ r₄ : List ℕ) (q : Result) → got q r₄ ≡ got r [] → s ≡ delay_line q.delay ++ r₁ → r₁ ≡ passed_text 0 q.passed ++ r₂
          → r₂ ≡ each line q.entries ++ r₃ → r₃ ≡ each frame_text q.frames ++ r₄ → length q.passed ≡ N p → all (listable p) q.entries ≡ true → Numbers q → Form s r
      put_together r₁ r₂ r₃ r₄ q z a b c d each_one lines n =
          let g = got_same z in
          subst (Form s) g.0
          (record {
            count_for_each = each_one;
            all_short = numbers_joined q n;
            all_listable = lines;
            prints = in_turn q ∙ sym (a ∙ rw (b, c, d, g.1));
          })

  pub states_read : {bytes : List ℕ} {r : Result} → States p bytes r → reading p bytes ≡ read r
  unfolding read_listing to_end in_form
  states_read {bytes} {r} m =
      rw (← m.prints, listing_complete r m.count_for_each m.all_short m.all_listable, m.in_order, le-leb _ _ m.few_entries, le-leb _ _ m.few_frames)

  not_read : {A : Type 0} {r : Result} → no_reading ≡ read r → A
  not_read h = absurd (let z : ◌≡◌ {A = ℕ} 0 1 = cc in omega arith)

  to_end_got : (q : Parsed Result) (r : Result) → to_end q ≡ read r → (q ≡ got r []) × (in_form r ≡ true)
  unfolding to_end
  to_end_got none r h = not_read h
  to_end_got (got q []) r h = at (in_form q) refl h
    where
      at : (b : Bool) → in_form q ≡ b → (if b then read q else no_reading) ≡ read r → (got q [] ≡ got r []) × (in_form r ≡ true)
      at true e z = let u : q ≡ r = cc in (ap (λ (x : Result). got x []) u, ap in_form (sym u) ∙ e)
      at false e z = not_read z
  to_end_got (got q (b ∷ s)) r h = not_read h

  pub read_states : {bytes : List ℕ} {r : Result} → reading p bytes ≡ read r → States p bytes r
  unfolding read_listing in_form
  read_states {bytes} {r} h =
      let e = to_end_got (listing_at (N p) (P p) (E p) (C p) bytes) r h in
      let f = listing_sound bytes r e.0 in
      let a = both (rows_in_order 0 r.entries) (leb (length r.entries) 3000 && leb (length r.frames) 2000) e.1 in
      let b = both (leb (length r.entries) 3000) (leb (length r.frames) 2000) a.1 in
      record {
        count_for_each = f.count_for_each;
        all_short = f.all_short;
        all_listable = f.all_listable;
        in_order = a.0;
        prints = f.prints;
        few_entries = leb-true _ _ b.0;
        few_frames = leb-true _ _ b.1;
      }

  -- a listing text has at most one meaning
  pub states_unique : {bytes : List ℕ} {r q : Result} → States p bytes r → States p bytes q → r ≡ q
  states_unique m n = let h = sym (states_read m) ∙ states_read n in cc

  pub one_listing : (bytes : List ℕ) → (l : Listed) × AnswersListing p bytes l
  one_listing bytes = at (reading p bytes) refl
    where
      at : (x : Read) → reading p bytes ≡ x → (l : Listed) × AnswersListing p bytes l
      at no_reading e = (not_listed 21, no_listing (λ r m. not_read (sym e ∙ states_read m)))
      at (read r) e = (listed r, a_listing r (read_states e))

  pub listing_unique : {bytes : List ℕ} {l m : Listed} → AnswersListing p bytes l → AnswersListing p bytes m → l ≡ m
  listing_unique (no_listing f) (no_listing g) = refl
  listing_unique (no_listing f) (a_listing q n) = absurd (f q n)
  listing_unique (a_listing r m) (no_listing g) = absurd (g r m)
  listing_unique (a_listing r m) (a_listing q n) = ap listed (states_unique m n)
