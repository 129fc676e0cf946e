-- An accepted listing is a sound table; the listing of a sound table in the planner's order is read as that table and
-- accepted; and so is the planner's own.
-- Assumes nothing.
use Rattle.std.specs.Prelude.{if◌then◌else◌}
use mathlib.Core.Path.{◌≡◌, refl, ap, sym, subst, ◌∙◌}
use mathlib.Core.Bool.{Bool, true, false, not}
use mathlib.Core.List.Memᴰ.{head as here}
use mathlib.Core.List.Memᴰ.{tail as there}
use mathlib.Core.List.{List, [], ◌∷◌, ◌++◌, map, Memᴰ as In}
use Prim.Native.Nat.{ℕ, ◌^◌, ◌≤◌, ◌<◌}
use native.Mathlib.Nat.{pow-le-pow_right}
use native.Mathlib.Omega.{arith}
use borrow.Author.Tests.{ltb-true, ltb-false, le-leb, eqb-true, not-true}
use lib.Dec.{eqb, leb, ltb}
use lib.ListN.{length}
use Rattle.lists.specs.Lists.{all, each, keep, below}
use Rattle.lists.specs.Ordered.{Order, less, same, more, order, put, put_all, Ascending}
use Rattle.lists.proofs.Tests.{join}
use Rattle.lists.proofs.Members.{in_all, map_in, keep_in, all_joined, all_each}
use Rattle.lists.proofs.Sums.{greatest_le}
use Rattle.model.specs.Plan.{Lines, edge, local}
use Rattle.model.specs.Bus.{is_process, is_edge, sender, row_node, row_bytes, row_edge}
use Rattle.model.specs.Log.{delay, full_ticks}
use Rattle.model.specs.Planning.{State}
use Rattle.model.specs.Refusals.{nothing, plan_refusal}
use Rattle.model.specs.Table.{Entry, Frame, Result, made, plans, key, value_bits, known_bits, entry_of, frame_of, frame_key, wider, frames, passed_by, result, entry_words, entries_of}
use Rattle.model.specs.Checking.{Sound}
use Rattle.model.specs.Text.{short}
use Rattle.model.specs.Listing.{listing, printed}
use Rattle.model.specs.ListingText.{listable, rows_in_order, entry_numbers, frame_numbers, listing_numbers, States, stated_refusal}
use Rattle.laws.proofs.Accepted.{accepts}
use Rattle.laws.proofs.Bound.{bound_small, delay_within}
use Rattle.laws.proofs.Columns.{value_most, known_small}
use Rattle.laws.proofs.Entries.{final, Made, entries_in, entries_ascend}
use Rattle.laws.proofs.Formed.{Formed, formed}
use Rattle.laws.proofs.Good.{Good, good}
use Rattle.laws.proofs.OwnTable.{own_table_sound}
use Rattle.laws.proofs.Passed.{plan_in, node_passed}
use Rattle.laws.proofs.Rows.{sender_in, edge_is_edge, edge_back, edge_bytes, condition_bytes, known_by, known_length, done_by, Kind, a_process, an_edge, a_condition, kind}
use Rattle.laws.proofs.Rules.{Lawful}
use Rattle.laws.proofs.Slots.{slot_in}
use Rattle.laws.proofs.Sound.{sound_iff}
use Rattle.laws.proofs.Words.{entries_back, words_back, counts_each}
use Rattle.text_grammar.proofs.Runs.{Every}
use Rattle.listing_grammar.proofs.Forms.{small_short}
use Rattle.laws.proofs.Listable.{formed_listable}

-- Ascending entries have their rows in order.
first_le : (a b : ℕ) (xs ys : List ℕ) → order (a ∷ xs) (b ∷ ys) ≡ less → a ≤ b
unfolding order
first_le a b xs ys h = at (ltb a b) (eqb a b) refl refl h
  where
    at : (x y : Bool) → ltb a b ≡ x → eqb a b ≡ y → (if x then less else if y then order xs ys else more) ≡ less → a ≤ b
    at true y u v h = let q = ltb-true a b u in omega arith
    at false true u v h = let q = eqb-true a b v in omega arith
    at false false u v h = absurd (let z : ◌≡◌ {A = ℕ} 0 1 = cc in omega arith)

pub ascending_rows : (r : ℕ) (es : List Entry) → ((e : Entry) → In e es → r ≤ e.row) → Ascending key es → rows_in_order r es ≡ true
unfolding rows_in_order key
ascending_rows r [] l s = refl
ascending_rows r (e ∷ es) l s =
    join (leb r e.row) (rows_in_order e.row es) (le-leb _ _ (l e (here refl)))
    (ascending_rows e.row es (λ f m. first_le e.row f.row _ _ (s.0 f m)) s.1)

-- what joining keeps of two elements is kept by putting
module _ {A : Type 0} (key : A → List ℕ) (join : A → A → A) (Class : A → Type 0) (joined : (x y : A) → Class x → Class y → Class (join x y)) where
  put_keeps : (x : A) (ys : List A) → Class x → Every Class ys → Every Class (put key join x ys)
  unfolding put
  put_keeps x [] c d = (c, tt)
  put_keeps x (y ∷ ys) c d = at (order (key x) (key y)) (put_keeps x ys c d.1)
    where
      at : (o : Order) → Every Class (put key join x ys) → Every Class (elim o [ less ↦ x ∷ y ∷ ys | same ↦ join x y ∷ ys | more ↦ y ∷ put key join x ys ])
      at less r = (c, d)
      at same r = (joined x y c d.0, d.1)
      at more r = (d.0, r)

  put_all_keeps : (xs ys : List A) → Every Class xs → Every Class ys → Every Class (put_all key join xs ys)
  unfolding put_all
  put_all_keeps [] ys c d = d
  put_all_keeps (x ∷ xs) ys c d = put_all_keeps xs (put key join x ys) c.1 (put_keeps x ys c.0 d)

every_in : {A : Type 0} {Class : A → Type 0} (xs : List A) → ((x : A) → In x xs → Class x) → Every Class xs
every_in [] h = tt
every_in (x ∷ xs) h = (h x (here refl), every_in xs (λ y m. h y (there m)))

every_all : {A : Type 0} {Class : A → Type 0} (g : A → List ℕ) (f : ℕ → Bool) (xs : List A) → ((x : A) → Class x → all f (g x) ≡ true) → Every Class xs → all f (each g xs) ≡ true
every_all g f [] h c = refl
every_all g f (x ∷ xs) h c = all_joined f (g x) (each g xs) (h x c.0) (every_all g f xs h c.1)

-- the frames of formed entries have short numbers
record Narrow (f : Frame) : Type 0 where
  tick : f.tick < 1000000000
  node : f.node < 1000000000
  used : f.used < 1000000000

module _ (p : Lines) (fine : plan_refusal p ≡ nothing) where
  g : Good p
  g = good p fine

  item_most : (e : Entry) → Formed p e → is_process p e.row ≡ false → row_bytes p e.row ≤ 64
  item_most e f q = at e.row (kind p e.row f.row_in) q f.between
    where
      at : (r : ℕ) → Kind p r → is_process p r ≡ false → (is_process p r ≡ false → is_edge p r ≡ true → local p (row_edge p r) ≡ false) → row_bytes p r ≤ 64
      at r (a_process i l) q b = absurd (let z : length p.processes ≤ i = ltb-false _ _ q in omega arith)
      at r (an_edge i l) q b =
          let z : local p i ≡ false = subst (λ (j : ℕ). local p j ≡ false) (edge_back p i) (b q (edge_is_edge p i l)) in
          omega (arith, edge_bytes p i l, g.fits i l z, g.slot_most _ (slot_in p g (edge p i).from (g.from_in i l)))
      at r (a_condition k l) q b = omega (arith, condition_bytes p k)

  frame_narrow : (e : Entry) → Formed p e → is_process p e.row ≡ false → Narrow (frame_of p e)
  unfolding frame_of row_node
  frame_narrow e f q =
      record {
        tick = omega (arith, f.tick_in);
        node = omega (arith, g.node_in (sender p e.row) (sender_in p g e.row f.row_in), g.few_slots);
        used = omega (arith, f.place_in, item_most e f q);
      }

  frames_narrow : (es : List Entry) → ((e : Entry) → In e es → Formed p e) → Every Narrow (frames p es)
  unfolding frames wider
  frames_narrow es h =
      put_all_keeps frame_key wider Narrow
      (λ x y a b. record { tick = b.tick; node = b.node; used = omega (arith, a.used, b.used) })
      (map (frame_of p) (keep (λ e. not (is_process p e.row)) es)) []
      (every_in _ (λ x m.
      let k = map_in (frame_of p) (keep (λ e. not (is_process p e.row)) es) m in
      let n = keep_in (λ e. not (is_process p e.row)) es k.1 in
      subst Narrow (sym k.2) (frame_narrow k.0 (h k.0 n.0) (not-true _ n.1)))) tt

  -- the counts of the nodes are short
  counts_short : all short (result p).passed ≡ true
  unfolding result
  counts_short =
      in_all short (map (passed_by (plans p)) (below (length p.slots))) (λ c m.
      let k = map_in (passed_by (plans p)) (below (length p.slots)) m in
      small_short c (omega (arith, k.2, node_passed p fine k.0)))

  -- The listing of a sound table states it. Its words have 32 bits, its delay nine digits, its rows are in order, and
  -- it is not too long.
  module _ (ws : List ℕ) (stated : ℕ) (sound : Sound p ws stated) (word : (e : Entry) → In e (entries_of ws) → e.values < 2 ^ 32) (nine : stated < 1000000000)
      (ordered : rows_in_order 0 (entries_of ws) ≡ true) (few_entries : length (entries_of ws) ≤ 3000) (few_frames : length (frames p (entries_of ws)) ≤ 2000) where
    abbrev es : List Entry
    es = entries_of ws

    abbrev pub listed_table : Result
    listed_table = record { delay = stated; passed = (result p).passed; entries = es; frames = frames p es }

    lawful : Lawful p es stated
    lawful = ((sound_iff p ws stated).0 sound).2

    its_formed : (e : Entry) → In e es → Formed p e
    its_formed e m = formed p e (lawful.formed e m)

    pub table_states : States p (listing p stated (result p).passed es (frames p es)) listed_table
    unfolding listing_numbers
    table_states =
        record {
          count_for_each = counts_each p;
          all_short =
              all_joined short ((stated ∷ (result p).passed) ++ each entry_numbers es) (each frame_numbers (frames p es))
              (all_joined short (stated ∷ (result p).passed) (each entry_numbers es)
              (join (short stated) (all short (result p).passed) (small_short stated nine) counts_short)
              (all_each short entry_numbers es (λ e m.
              let f = its_formed e m in
              join (short e.tick) (all short (e.place ∷ [])) (small_short _ (omega (arith, f.tick_in))) (join (short e.place) true (small_short _ (omega (arith, f.place_in))) refl))))
              (every_all {Class = Narrow} frame_numbers short (frames p es) (λ f n.
              join (short f.tick) (all short (f.node ∷ f.used ∷ [])) (small_short _ n.tick)
              (join (short f.node) (all short (f.used ∷ [])) (small_short _ n.node) (join (short f.used) true (small_short _ n.used) refl))) (frames_narrow es its_formed));
          all_listable = in_all (listable p) es (λ e m. formed_listable p e (omega (arith, g.few_conditions)) (word e m) (its_formed e m));
          in_order = ordered;
          prints = refl;
          few_entries = few_entries;
          few_frames = few_frames;
        }

    pub table_accepted : stated_refusal p listed_table ≡ nothing
    table_accepted =
        accepts p listed_table
        (record { sound = rw (words_back ws ((sound_iff p ws stated).0 sound).1) sound; its_frames = refl; its_counts = refl })

  -- the planner's own listing
  own_value : (e : Entry) → In e (result p).entries → e.values < 2 ^ 32
  unfolding entry_of
  own_value e m =
      let d = entries_in p e m in
      let s : Made p d.0 e = d.2 in
      let h = known_by p d.0 (final p d.0) s.item.tick in
      let v : e.values ≡ value_bits h = ap (λ (z : Entry). z.values) s.is_its in
      let k : known_bits h < 2 ^ length h = known_small h in
      let l : length h ≡ length p.conditions = known_length p d.0 (done_by p (final p d.0) s.item.tick) in
      let few : length h ≤ 6 = omega (arith, g.few_conditions) in
      let b : 2 ^ length h ≤ 2 ^ 6 = pow-le-pow_right (omega arith) few in
      omega (arith, value_most h)

  own_delay : (result p).delay < 1000000000
  unfolding result
  own_delay =
      let q : (result p).delay ≤ 999999999 =
      greatest_le (λ s. delay p (full_ticks p) s.state.log) 999999999 (plans p) (λ s i.
      let c = plan_in p s i in
      omega (arith, ap (λ (z : State). delay p (full_ticks p) z.log) c.2, delay_within p c.0 fine c.1, bound_small p g)) in
      omega arith

  module _ (few_entries : length (result p).entries ≤ 3000) (few_frames : length (result p).frames ≤ 2000) where
    abbrev E : List Entry
    E = (result p).entries

    abbrev W : List ℕ
    W = entry_words E

    back : entries_of W ≡ E
    back = entries_back E

    framed : frames p E ≡ (result p).frames
    unfolding result
    framed = refl

    -- what holds of the listing of the planner's table as words holds of what the planner gives
    of_own : (Holds : List Entry → Result → Type 0)
        → Holds (entries_of W) (record { delay = (result p).delay; passed = (result p).passed; entries = entries_of W; frames = frames p (entries_of W) }) → Holds E (result p)
    of_own Holds h =
        subst (λ (fs : List Frame). Holds E (record { delay = (result p).delay; passed = (result p).passed; entries = E; frames = fs })) framed
        (subst (λ (es : List Entry). Holds es (record { delay = (result p).delay; passed = (result p).passed; entries = es; frames = frames p es })) back h)

    own_word : (e : Entry) → In e (entries_of W) → e.values < 2 ^ 32
    own_word e m = own_value e (subst (λ (es : List Entry). In e es) back m)

    own_order : rows_in_order 0 (entries_of W) ≡ true
    own_order = ap (rows_in_order 0) back ∙ ascending_rows 0 E (λ e m. omega arith) (entries_ascend p)

    own_few : length (entries_of W) ≤ 3000
    own_few = omega (arith, ap length back)

    own_frames : length (frames p (entries_of W)) ≤ 2000
    own_frames = omega (arith, ap (λ (es : List Entry). length (frames p es)) back, ap length framed)

    -- what the planner prints states what it planned, and is accepted
    pub own_states : States p (printed p (made (result p))) (result p)
    unfolding printed
    own_states =
        of_own (λ es r. States p (listing p r.delay r.passed r.entries r.frames) r)
        (table_states W (result p).delay (own_table_sound p fine) own_word own_delay own_order own_few own_frames)

    pub own_accepted : stated_refusal p (result p) ≡ nothing
    own_accepted =
        of_own (λ es r. stated_refusal p r ≡ nothing) (table_accepted W (result p).delay (own_table_sound p fine) own_word own_delay own_order own_few own_frames)
