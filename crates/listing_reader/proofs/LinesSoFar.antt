-- Lines of one kind, entries or frames, while they are read into words: how they begin, what one line more makes of
-- them, and what they are when they are over.
-- Assumes nothing.
use Prim.Native.Nat.{ℕ, ◌+◌, ◌*◌, ◌≤◌, ◌<◌}
use mathlib.Core.Path.{◌≡◌, refl, ap, sym, ◌∙◌}
use mathlib.Core.Bool.{false}
use mathlib.Core.List.{List, [], ◌∷◌, ◌++◌, append_assoc, append-nil}
use native.Mathlib.Nat.{mul-le-mul_left}
use native.Mathlib.Omega.{arith}
use borrow.Author.Tests.{leb-true}
use lib.Dec.{leb}
use lib.ListN.{length, drop, length-append, length-drop}
use lib.Seq.{sets, length-sets}
use Rattle.limits.specs.Limits.{PRINTEDENTRIES, PRINTEDFRAMES}
use Rattle.lists.specs.Front.{front}
use Rattle.lists.proofs.Stores.{sets_append, sets_front}
use Rattle.lists.proofs.Tests.{is_false}
use Rattle.model.specs.Table.{Entry, Frame, entry_words, frame_words}
use Rattle.laws.proofs.Words.{entry_words_joined, frame_words_joined, entry_words_count, frame_words_count}
use Rattle.text_grammar.specs.Parse.{Parsed, none, got, and_then, run_at}
use Rattle.text_grammar.proofs.Parsed.{got_same, parts}
use Rattle.text_grammar.proofs.Runs.{shorter, run_over, run_more}
use Rattle.text_scanner.specs.Place.{nowhere, found, Scanned}
use Rattle.listing_grammar.specs.Parse.{entry_at, frame_at}
use Rattle.listing_grammar.proofs.Forms.{entry_reads, frame_reads}
use Rattle.listing_grammar.proofs.Whole.{entry_over, frame_over}
use Rattle.listing_scanner.specs.declared.entries.Counts.{Counts}
use Rattle.listing_scanner.specs.Lines.{Few}

-- A kind of line: how it is read, the words of such lines, how many a line has, and how many lines there may be.
pub record Kind : Type 1 where
  pub Line : Type 0
  pub line_at : List ℕ → Parsed Line
  pub words : List Line → List ℕ
  pub size : ℕ
  pub most : ℕ

abbrev pub entries : Counts → Kind
entries c =
    record {
      Line = Entry;
      line_at = entry_at c.processes c.edges c.conditions;
      words = entry_words;
      size = 5;
      most = PRINTEDENTRIES;
    }

abbrev pub frames : Kind
frames = record { Line = Frame; line_at = frame_at; words = frame_words; size = 3; most = PRINTEDFRAMES }

-- Lines follow one another up to where none stands, and none is empty; each has as many words, which stand in the order
-- of the lines.
pub record Law (kind : Kind) : Type 0 where
  pub run_ends : (s : List ℕ) → kind.line_at s ≡ none → run_at kind.line_at s ≡ got [] s
  pub run_goes_on : (s : List ℕ) (x : kind.Line) (r : List ℕ) → kind.line_at s ≡ got x r →
      run_at kind.line_at s ≡ and_then (run_at kind.line_at r) (λ xs q. got (x ∷ xs) q)
  pub not_empty : (s : List ℕ) (x : kind.Line) (r : List ℕ) → kind.line_at s ≡ got x r → length r < length s
  pub no_words : kind.words [] ≡ []
  pub counted : (xs : List kind.Line) → length (kind.words xs) ≡ kind.size * length xs
  pub joined : (xs ys : List kind.Line) → kind.words (xs ++ ys) ≡ kind.words xs ++ kind.words ys

pub entries_law : {c : Counts} → Few c → Law (entries c)
entries_law {c} few =
    let reads = entry_reads c.processes c.edges c.conditions (omega (arith, few.conditions)) (omega (arith, few.processes, few.edges, few.conditions)) in
    let ends = entry_over c.processes c.edges c.conditions [] in
    record {
      run_ends = run_over reads ends;
      run_goes_on = run_more reads ends;
      not_empty = shorter reads ends;
      no_words = refl;
      counted = entry_words_count;
      joined = entry_words_joined;
    }

pub frames_law : Law frames
frames_law =
    record {
      run_ends = run_over frame_reads frame_over;
      run_goes_on = run_more frame_reads frame_over;
      not_empty = shorter frame_reads frame_over;
      no_words = refl;
      counted = frame_words_count;
      joined = frame_words_joined;
    }

-- The lines from `at` to `next`, which are no more than there may be: all lines are these and then those from `next`
-- on.
pub record Sofar (kind : Kind) (lines : List kind.Line) (text : List ℕ) (at : ℕ) (before now : List ℕ) (next count : ℕ) : Type 0 where
  pub read : run_at kind.line_at (drop at text) ≡ and_then (run_at kind.line_at (drop next text)) (λ ys q. got (lines ++ ys) q)
  pub within : next ≤ length text
  pub all : count ≡ length lines
  pub few : count ≤ kind.most
  pub held : now ≡ sets before 0 (kind.words lines)

module _ {kind : Kind} (law : Law kind) {text : List ℕ} {at : ℕ} {before : List ℕ} where
  pub begun : at ≤ length text → Sofar kind [] text at before before at 0
  begun h =
      record {
        read = unchanged (run_at kind.line_at (drop at text));
        within = h;
        all = refl;
        few = omega arith;
        held = ap (sets before 0) (sym law.no_words);
      }
    where
      unchanged : (p : Parsed (List kind.Line)) → p ≡ and_then p (λ ys q. got ([] ++ ys) q)
      unchanged none = refl
      unchanged (got ys q) = refl

module _ {kind : Kind} (law : Law kind) {lines : List kind.Line} {text : List ℕ} {at : ℕ} {before now : List ℕ} {next count : ℕ} (p : Sofar kind lines text at before now next count) where
  -- the words so far, as many as before
  pub as_long : length now ≡ length before
  as_long = ap length p.held ∙ length-sets before 0 (kind.words lines)

  words_few : length (kind.words lines) ≤ kind.size * kind.most
  words_few =
      let n = p.all in
      let l : length lines ≤ kind.most = omega (arith, p.few) in
      omega (arith, law.counted lines, mul-le-mul_left kind.size l)

  -- where no further line stands they are over
  pub over : Scanned text nowhere (kind.line_at (drop next text)) → run_at kind.line_at (drop at text) ≡ got lines (drop next text)
  over e = p.read ∙ rw (law.run_ends (drop next text) (sym e.same), append-nil lines)

  pub in_front : length before ≡ kind.size * kind.most → now ≡ front (kind.words lines) before
  in_front size = p.held ∙ sets_front (kind.words lines) before (omega (arith, size, words_few))

  -- a further line
  module _ (x : kind.Line) {i : ℕ} (e : Scanned text (found x i) (kind.line_at (drop next text))) where
    further : run_at kind.line_at (drop at text) ≡ and_then (run_at kind.line_at (drop i text)) (λ ys q. got (lines ++ (x ∷ ys)) q)
    further =
        p.read
        ∙ rw (law.run_goes_on (drop next text) x (drop i text) (sym e.same))
        (regrouped (run_at kind.line_at (drop i text)))
      where
        regrouped : (r : Parsed (List kind.Line)) →
            and_then (and_then r (λ xs q. got (x ∷ xs) q)) (λ ys q. got (lines ++ ys) q) ≡ and_then r (λ ys q. got (lines ++ (x ∷ ys)) q)
        regrouped none = refl
        regrouped (got ys q) = refl

    pub advanced : next < i
    advanced =
        omega (
          arith,
          law.not_empty (drop next text) x (drop i text) (sym e.same),
          length-drop next text,
          length-drop i text,
          p.within,
        )

    pub more : {after : List ℕ} → count < kind.most → after ≡ sets now (kind.size * count) (kind.words (x ∷ [])) → Sofar kind (lines ++ (x ∷ [])) text at before after i (count + 1)
    more room stored =
        record {
          read = further ∙ regrouped (run_at kind.line_at (drop i text));
          within = e.within;
          all = omega (arith, length-append lines (x ∷ []), p.all);
          few = omega arith;
          held =
              stored
              ∙ (λ j. sets (p.held j) (place j) (kind.words (x ∷ [])))
              ∙ sym (sets_append (kind.words lines) (kind.words (x ∷ [])) before 0)
              ∙ ap (sets before 0) (sym (law.joined lines (x ∷ [])));
        }
      where
        place : kind.size * count ≡ 0 + length (kind.words lines)
        place = ap (λ (n : ℕ). kind.size * n) p.all ∙ sym (law.counted lines) ∙ (let z : length (kind.words lines) ≡ 0 + length (kind.words lines) = omega arith in z)

        regrouped : (r : Parsed (List kind.Line)) →
            and_then r (λ ys q. got (lines ++ (x ∷ ys)) q) ≡ and_then r (λ ys q. got ((lines ++ (x ∷ [])) ++ ys) q)
        regrouped none = refl
        regrouped (got ys q) = ap (λ l. got l q) (sym (append_assoc lines (x ∷ []) ys))

    -- all lines are those so far, this one and others
    pub all_lines : (xs : List kind.Line) (rest : List ℕ) → run_at kind.line_at (drop at text) ≡ got xs rest →
        (ys : List kind.Line) × (lines ++ (x ∷ ys) ≡ xs)
    all_lines xs rest h =
        let q = parts (run_at kind.line_at (drop i text)) (λ ys q. got (lines ++ (x ∷ ys)) q) (sym further ∙ h) in
        (q.value, (got_same q.two).0)

    -- of which there may be no more
    pub too_many : kind.most ≤ count → (xs : List kind.Line) (rest : List ℕ) → run_at kind.line_at (drop at text) ≡ got xs rest →
        leb (length xs) kind.most ≡ false
    too_many full xs rest h =
        let a = all_lines xs rest h in
        let n : length xs ≡ length (lines ++ (x ∷ a.0)) = ap length (sym a.1) in
        is_false (leb (length xs) kind.most) (λ t. omega (arith, leb-true (length xs) kind.most t, length-append lines (x ∷ a.0), p.all))
