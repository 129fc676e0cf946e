-- The reader of each kind of line takes exactly its printed forms.
-- Assumes nothing.
use Rattle.std.specs.Prelude.{if◌then◌else◌}
use mathlib.Core.Path.{◌≡◌, refl, ap, sym, ◌∙◌}
use mathlib.Core.Bool.{true}
use mathlib.Core.Logic.{◌⊎◌}
use mathlib.Core.List.{List, [], ◌∷◌, ◌++◌, append_assoc}
use Prim.Native.Nat.{ℕ, ◌+◌, ◌-◌, ◌≤◌, ◌<◌}
use native.Mathlib.Omega.{arith}
use borrow.Author.Tests.{ltb-true, lt-ltb, eqb-true, eq-eqb}
use lib.Dec.{eqb, ltb}
use Rattle.lists.specs.Lists.{all}
use Rattle.lists.proofs.Tests.{both, join}
use Rattle.model.specs.Text.{text, decimal, short}
use Rattle.model.specs.Table.{Entry, Frame}
use Rattle.model.specs.ListingText.{entry_numbers, frame_numbers}
use Rattle.text_grammar.specs.Parse.{none, got, and_then, or, word_at, field_at, closed_at}
use Rattle.text_grammar.proofs.Numbers.{ended, bracketed}
use Rattle.text_grammar.proofs.Inverse.{Reads, Inverse, told_as, whole, guarded, known_first, first, made, one_of, word_reads, number_to_reads, field_reads, closed_reads}
use Rattle.listing_count.specs.Parts.{values_from, column_of, start_of, item_of, entry_text, frame_of, frame_text, passed_of}
use Rattle.listing_count.proofs.Cases.{entry_start, entry_send, entry_tell}
use Rattle.listing_grammar.specs.Parse.{Column, made_entry, column_at, numbered_at, start_at, item_at, entry_at, frame_at, count_at}
use Rattle.listing_grammar.proofs.Columns.{Fits, when_text, column_reads}

-- numbers of at most nine digits
pub small_short : (n : ℕ) → n < 1000000000 → short n ≡ true
unfolding short
small_short n l = lt-ltb n 1000000000 l

numbered_reads : (w : List ℕ) → Inverse (numbered_at w) (λ n. w ++ ended 32 n) (λ n. n ∷ [])
unfolding numbered_at
numbered_reads w = whole (first (word_reads w) (λ n. tt) (λ u n known. refl) (λ u. number_to_reads 32 (omega arith))) (λ n. tt) (λ n. refl)

-- the column of an entry
abbrev column : Entry → Column
column e = record { known = e.known; values = e.values }

abbrev at_text : Entry → List ℕ
at_text e = text " (at " ++ bracketed e.tick

-- The lines are put together in another way than they are taken apart.
start_regroup : (n v t : List ℕ)
    → (text "(start " ++ (n ++ text " ")) ++ ((text "(when" ++ (v ++ text ")")) ++ ((text " (at " ++ (t ++ text ")")) ++ text ")\n"))
    ≡ (text "(start " ++ n) ++ ((text " (when" ++ (v ++ (text ") (at " ++ t))) ++ text "))\n")
start_regroup n v t = simp append_assoc

item_regroup : (w n v t l : List ℕ)
    → (w ++ (n ++ text " ")) ++ ((text "(when" ++ (v ++ text ")")) ++ ((text " (at " ++ (t ++ text ")")) ++ ((text " (place " ++ (l ++ text ")")) ++ text ")\n")))
    ≡ (w ++ n) ++ ((text " (when" ++ (v ++ (text ") (at " ++ t))) ++ ((text ") (place " ++ l) ++ text "))\n"))
item_regroup w n v t l = simp append_assoc

-- what is known of an entry that a line says
module _ (processes edges conditions : ℕ) where
  abbrev Start : Entry → Type 0
  Start e = (e.row < processes) × Fits conditions e.known e.values × (e.place ≡ 0)

  abbrev Item : ℕ → ℕ → Entry → Type 0
  Item base count e = (base ≤ e.row) × (e.row < base + count) × Fits conditions e.known e.values

  abbrev pub Line : Entry → Type 0
  Line e = (Start e ⊎ Item processes edges e) ⊎ Item (processes + edges) conditions e

no_place : short 0 ≡ true
unfolding short
no_place = refl

module _ (processes edges conditions : ℕ) (few : conditions ≤ 10) (small : processes + edges + conditions < 1000000000) where
  abbrev OwnStart : ℕ → Column → Entry → Type 0
  OwnStart i c e = (t : ℕ) × (made_entry i c t 0 ≡ e)

  start_first : Reads (start_at processes conditions)
      (λ e. (ltb e.row processes ≡ true) × (Fits conditions e.known e.values × OwnStart e.row (column e) e))
      (λ e. (text "(start " ++ ended 32 e.row) ++ (when_text conditions (column e) ++ (at_text e ++ text ")\n")))
      (λ e. (e.row ∷ []) ++ ([] ++ (e.tick ∷ [])))
  unfolding start_at
  start_first =
      first (numbered_reads (text "(start "))
      {next = λ i r. if ltb i processes then (and_then (column_at conditions r) (λ c q. and_then (closed_at (text " (at ") (text ")\n") q) (λ t o. got (made_entry i c t 0) o))) else none}
      {Known = λ i e. (ltb i processes ≡ true) × (Fits conditions e.known e.values × OwnStart i (column e) e)}
      {line = λ e. when_text conditions (column e) ++ (at_text e ++ text ")\n")}
      {numbers = λ e. [] ++ (e.tick ∷ [])}
      (λ e. e.row)
      (λ i e known. ap (λ (z : Entry). z.row) known.1.1.1)
      (λ i. guarded (ltb i processes)
      (known_first (column_reads conditions few) {Known = λ c e. OwnStart i c e} {line = λ e. at_text e ++ text ")\n"} {numbers = λ e. e.tick ∷ []}
      column
      (λ c e f known. λ j. record { known = (known.1 j).known; values = (known.1 j).values })
      (λ c. made (closed_reads (text " (at ") (text ")\n")) (λ t. made_entry i c t 0) (λ t. refl) (λ t. refl))))

  start_reads : Reads (start_at processes conditions) (Start processes edges conditions) (entry_text processes edges conditions) entry_numbers
  unfolding start_of column_of
  start_reads =
      told_as start_first
      (λ e known h. (
        (lt-ltb e.row processes known.0, (known.1, (e.tick, λ i. record { row = e.row; known = e.known; values = e.values; tick = e.tick; place = sym known.2 i }))),
        join (short e.row) (all short (e.tick ∷ [])) (small_short e.row (let l = known.0 in omega arith)) (join (short e.tick) true (both (short e.tick) _ h).0 refl),
      ))
      (λ e known h.
      let z : e.place ≡ 0 = ap (λ (z : Entry). z.place) (sym known.1.1.1) in (
        (ltb-true e.row processes known.0, known.1.0, z),
        join (short e.tick) (all short (e.place ∷ [])) (both (short e.tick) true (both (short e.row) _ h).1).0 (join (short e.place) true (ap short z ∙ no_place) refl),
      ))
      (λ e known.
      same_text e ∙ sym (entry_start processes edges conditions e.row e.known e.values e.tick e.place (ltb-true e.row processes known.0)))
    where
      same_text : (e : Entry) → (text "(start " ++ ended 32 e.row) ++ (when_text conditions (column e) ++ (at_text e ++ text ")\n"))
          ≡ start_of conditions e.row e.known e.values e.tick
      same_text e = start_regroup (decimal e.row) (values_from conditions e.known e.values 0) (decimal e.tick)

  -- an edge's or a condition's line
  module _ (w : List ℕ) (base count : ℕ) (room : count < 1000000000) where
    abbrev place_text : Entry → List ℕ
    place_text e = (text " (place " ++ bracketed e.place) ++ text ")\n"

    abbrev OwnItem : ℕ → Column → ℕ → Entry → Type 0
    OwnItem i c t e = (l : ℕ) × (made_entry (base + i) c t l ≡ e)

    item_first : Reads (item_at w base count conditions)
        (λ e. (ltb (e.row - base) count ≡ true) × (Fits conditions e.known e.values × OwnItem (e.row - base) (column e) e.tick e))
        (λ e. (w ++ ended 32 (e.row - base)) ++ (when_text conditions (column e) ++ (at_text e ++ place_text e)))
        (λ e. ((e.row - base) ∷ []) ++ ([] ++ ((e.tick ∷ []) ++ (e.place ∷ []))))
    unfolding item_at
    item_first =
        first (numbered_reads w)
        {next = λ i r. if ltb i count then (and_then (column_at conditions r) (λ c q. and_then (field_at (text " (at ") q) (λ t o.
        and_then (closed_at (text " (place ") (text ")\n") o) (λ l m. got (made_entry (base + i) c t l) m)))) else none}
        {Known = λ i e. (ltb i count ≡ true) × (Fits conditions e.known e.values × OwnItem i (column e) e.tick e)}
        {line = λ e. when_text conditions (column e) ++ (at_text e ++ place_text e)}
        {numbers = λ e. [] ++ ((e.tick ∷ []) ++ (e.place ∷ []))}
        (λ e. e.row - base)
        (λ i e known. let q : base + i ≡ e.row = ap (λ (z : Entry). z.row) known.1.1.1 in omega arith)
        (λ i. guarded (ltb i count)
        (known_first (column_reads conditions few) {Known = λ c e. OwnItem i c e.tick e} {line = λ e. at_text e ++ place_text e} {numbers = λ e. (e.tick ∷ []) ++ (e.place ∷ [])}
        column
        (λ c e f known. λ j. record { known = (known.1 j).known; values = (known.1 j).values })
        (λ c. first (field_reads (text " (at ")) {Known = λ t e. OwnItem i c t e} {line = place_text} {numbers = λ e. e.place ∷ []}
        (λ e. e.tick)
        (λ t e known. ap (λ (z : Entry). z.tick) known.1)
        (λ t. made (closed_reads (text " (place ") (text ")\n")) (λ l. made_entry (base + i) c t l) (λ l. refl) (λ l. refl)))))

    item_reads : ((e : Entry) → Item processes edges conditions base count e
        → entry_text processes edges conditions e ≡ item_of w conditions (e.row - base) e.known e.values e.tick e.place)
        → Reads (item_at w base count conditions) (Item processes edges conditions base count) (entry_text processes edges conditions) entry_numbers
    unfolding item_of column_of
    item_reads own =
        told_as item_first
        (λ e known h.
        let q : base + (e.row - base) ≡ e.row = let l = known.0 in omega arith in
        let l : e.row - base < count = let a = known.0 in let b = known.1 in omega arith in (
          (lt-ltb (e.row - base) count l, (known.2, (e.place, λ i. record { row = q i; known = e.known; values = e.values; tick = e.tick; place = e.place }))),
          join (short (e.row - base)) (all short (e.tick ∷ e.place ∷ [])) (small_short (e.row - base) (omega arith)) h,
        ))
        (λ e known h. (item e known, (both (short (e.row - base)) _ h).1))
        (λ e known. same_text e ∙ sym (own e (item e known)))
      where
        item : (e : Entry) → (ltb (e.row - base) count ≡ true) × (Fits conditions e.known e.values × OwnItem (e.row - base) (column e) e.tick e)
            → Item processes edges conditions base count e
        item e known =
            let l : e.row - base < count = ltb-true (e.row - base) count known.0 in
            let q : base + (e.row - base) ≡ e.row = ap (λ (z : Entry). z.row) known.1.1.1 in
            (omega arith, omega arith, known.1.0)

        same_text : (e : Entry) → (w ++ ended 32 (e.row - base)) ++ (when_text conditions (column e) ++ (at_text e ++ place_text e))
            ≡ item_of w conditions (e.row - base) e.known e.values e.tick e.place
        same_text e = item_regroup w (decimal (e.row - base)) (values_from conditions e.known e.values 0) (decimal e.tick) (decimal e.place)

  -- a line of one kind is none of another
  abbrev send_text : Entry → List ℕ
  send_text e = item_of (text "(send ") conditions (e.row - processes) e.known e.values e.tick e.place

  abbrev tell_text : Entry → List ℕ
  tell_text e = item_of (text "(tell ") conditions (e.row - (processes + edges)) e.known e.values e.tick e.place

  no_start : (e : Entry) (s : List ℕ) → start_at processes conditions (send_text e ++ s) ≡ none
  unfolding start_at numbered_at word_at item_of
  no_start e s = refl

  neither_kind : (e : Entry) (s : List ℕ) → or (start_at processes conditions (tell_text e ++ s)) (item_at (text "(send ") processes edges conditions (tell_text e ++ s)) ≡ none
  unfolding start_at item_at numbered_at word_at item_of
  neither_kind e s = refl

  send_is : (e : Entry) → Item processes edges conditions processes edges e → entry_text processes edges conditions e ≡ send_text e
  send_is e k =
      let a = k.0 in
      let b = k.1 in
      entry_send processes edges conditions e.row e.known e.values e.tick e.place a (omega arith)

  tell_is : (e : Entry) → Item processes edges conditions (processes + edges) conditions e → entry_text processes edges conditions e ≡ tell_text e
  tell_is e k =
      let a = k.0 in
      let b = k.1 in
      let q : e.row - processes - edges ≡ e.row - (processes + edges) = omega arith in
      entry_tell processes edges conditions e.row e.known e.values e.tick e.place (omega arith) (omega arith) (omega arith)
      ∙ ap (λ (n : ℕ). item_of (text "(tell ") conditions n e.known e.values e.tick e.place) q

  pub entry_reads : Reads (entry_at processes edges conditions) (Line processes edges conditions) (entry_text processes edges conditions) entry_numbers
  unfolding entry_at
  entry_reads =
      one_of
      (one_of start_reads (item_reads (text "(send ") processes edges (omega arith) send_is) (λ e s k.
      ap (λ (l : List ℕ). start_at processes conditions (l ++ s)) (send_is e k) ∙ no_start e s))
      (item_reads (text "(tell ") (processes + edges) conditions (omega arith) tell_is) (λ e s k.
      ap (λ (l : List ℕ). or (start_at processes conditions (l ++ s)) (item_at (text "(send ") processes edges conditions (l ++ s))) (tell_is e k) ∙ neither_kind e s)

frame_regroup : (t n b : List ℕ)
    → (text "(frame " ++ (t ++ text " ")) ++ ((text "(node " ++ (n ++ text ")")) ++ ((text " (bytes " ++ (b ++ text ")")) ++ text ")\n"))
    ≡ (text "(frame " ++ t) ++ ((text " (node " ++ n) ++ ((text ") (bytes " ++ b) ++ text "))\n"))
frame_regroup t n b = simp append_assoc

pub frame_reads : Inverse frame_at frame_text frame_numbers
unfolding frame_at frame_of
frame_reads =
    whole
    (first (numbered_reads (text "(frame ")) (λ f. f.tick) (λ t f known. ap (λ (z : Frame). z.tick) known.1) (λ t.
    first (field_reads (text "(node ")) (λ f. f.node) (λ n f known. ap (λ (z : Frame). z.node) known.1) (λ n.
    made (closed_reads (text " (bytes ") (text ")\n")) (λ b. record { tick = t; node = n; used = b }) (λ b. refl) (λ b. refl))))
    (λ f. (f.used, refl))
    (λ f. frame_regroup (decimal f.tick) (decimal f.node) (decimal f.used))

-- a passed line is put together in another way than it is taken apart
passed_regroup : (n c : List ℕ) → ((text "(passed (node " ++ (n ++ text ")")) ++ text " ") ++ ((c ++ text ")") ++ text "\n") ≡ (text "(passed (node " ++ n) ++ ((text ") " ++ c) ++ text ")\n")
passed_regroup n c = simp append_assoc

-- the passed line of a node, whose number has at most nine digits
pub count_reads : (n : ℕ) → n < 1000000000 → Inverse (count_at n) (passed_of n) (λ c. c ∷ [])
unfolding count_at passed_of
count_reads n l =
    told_as
    (first (closed_reads (text "(passed (node ") (text " "))
    {next = λ m r. if eqb m n then closed_at [] (text "\n") r else none}
    {Known = λ m c. (eqb m n ≡ true) × Unit {0}}
    {line = λ c. ([] ++ bracketed c) ++ text "\n"}
    {numbers = λ c. c ∷ []}
    (λ c. n)
    (λ m c known. eqb-true m n known.0)
    (λ m. guarded (eqb m n) (closed_reads [] (text "\n"))))
    (λ c known h. ((eq-eqb n n refl, tt), join (short n) (all short (c ∷ [])) (small_short n l) h))
    (λ c known h. (tt, (both (short n) (all short (c ∷ [])) h).1))
    (λ c known. passed_regroup (decimal n) (decimal c))
