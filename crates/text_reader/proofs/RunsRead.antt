-- A run of lines, for any kind of line: what a reader gives one after another is what the grammar reads.
-- Assumes nothing.
use Rattle.std.specs.Prelude.{Option, None, Some}
use Prim.Native.Nat.{ℕ, ◌≤◌, ◌<◌}
use mathlib.Core.Path.{◌≡◌, refl, sym, subst, ◌∙◌}
use mathlib.Core.List.{List, [], ◌∷◌, map}
use native.Mathlib.Omega.{arith}
use Rattle.std.specs.Borrow.{Bor}
use denote.Struct.Field.{Field}
use lib.ListN.{length, drop, length-drop, length-map}
use Rattle.model.specs.Text.{slot_line, process_line, condition_line, edge_line, slot_numbers, process_numbers, condition_numbers, edge_numbers}
use Rattle.text_grammar.specs.Parse.{none, got, run_at}
use Rattle.text_grammar.proofs.Inverse.{Inverse}
use Rattle.text_grammar.proofs.Forms.{slot_reads, process_reads, condition_reads, edge_reads}
use Rattle.text_grammar.proofs.Runs.{shorter, run_over, run_more}
use Rattle.text_grammar.proofs.Whole.{slot_over, process_over, condition_over, edge_over}
use Rattle.plan.specs.declared.Plan.{Plan}
use Rattle.plan.specs.Memory.{slot_of, process_of, edge_of}
use Rattle.plan.proofs.HeldLines.{process_held, edge_held}
use Rattle.text_scanner.specs.Place.{found, Scanned, placed}
use Rattle.text_reader.specs.Chain.{Answers, Chain, Kept}
use Rattle.text_reader.specs.Run.{Kind, slots, processes, conditions, edges, Run}

-- The lines of a kind are read as they are printed, and none stands at the end of the text; a line in memory holds the
-- line that it stands for.
pub record Law (kind : Kind) : Type 0 where
  pub line : kind.Line → List ℕ
  pub numbers : kind.Line → List ℕ
  pub inverse : Inverse kind.line_at line numbers
  pub ends : kind.line_at [] ≡ none
  pub of : kind.Held → kind.Line
  pub held : (x : kind.Held) → kind.hold (of x) ≡ x

abbrev pub slots_law : Law slots
slots_law =
    record {
      line = slot_line;
      numbers = slot_numbers;
      inverse = slot_reads;
      ends = slot_over [] [] [];
      of = slot_of;
      held = λ x. refl;
    }

abbrev pub processes_law : Law processes
processes_law =
    record {
      line = process_line;
      numbers = process_numbers;
      inverse = process_reads;
      ends = process_over [] [];
      of = process_of;
      held = process_held;
    }

abbrev pub conditions_law : Law conditions
conditions_law =
    record {
      line = condition_line;
      numbers = condition_numbers;
      inverse = condition_reads;
      ends = condition_over [];
      of = λ i. i;
      held = λ x. refl;
    }

abbrev pub edges_law : Law edges
edges_law =
    record {
      line = edge_line;
      numbers = edge_numbers;
      inverse = edge_reads;
      ends = edge_over;
      of = edge_of;
      held = edge_held;
    }

-- an array of structs in a struct has as many elements as its form in memory
pub array_long : (F : Field) (xs : List F.Value) (n : ℕ) → length (map F.into xs) ≡ n → length xs ≡ n
array_long F xs n e = sym (length-map xs F.into) ∙ e

-- a line ends behind its beginning
pub ahead : {kind : Kind} (law : Law kind) {t text : List ℕ} {i : ℕ} (x : kind.Held) {k : ℕ} → t ≡ text →
    Scanned t (found (law.of x) k) (kind.line_at (drop i t)) → (i < k) × (k ≤ length text)
ahead law {t} {text} {i} x {k} e s =
    subst (λ u. (i < k) × (k ≤ length u)) e (
      omega (arith, shorter law.inverse law.ends (drop i t) (law.of x) (drop k t) (sym s.same), length-drop i t, length-drop k t),
      s.within,
    )

-- A reader of a kind of line gives what the grammar reads.
module _ {kind : Kind} (law : Law kind) (post : Bor (List ℕ) → ℕ → Option (kind.Held × ℕ) → Type 0)
    (told : (t : Bor (List ℕ)) (i : ℕ) (r : Option (kind.Held × ℕ)) → post t i r → Scanned t.now (placed law.of r) (kind.line_at (drop i t.now)))
    (text : List ℕ) where
  scanned : (i : ℕ) (r : Option (kind.Held × ℕ)) → Answers post text i r → Scanned text (placed law.of r) (kind.line_at (drop i text))
  scanned i r a = subst (λ s. Scanned s (placed law.of r) (kind.line_at (drop i s))) a.1 (told a.0 i r a.2)

  chain_read : (xs : List kind.Held) (i j : ℕ) → i ≤ length text → Chain (Answers post text) i xs j →
      (run_at kind.line_at (drop i text) ≡ got (map law.of xs) (drop j text)) × (j ≤ length text)
  chain_read [] i j l c =
      subst (λ k. (run_at kind.line_at (drop i text) ≡ got [] (drop k text)) × (k ≤ length text)) c.1
      (run_over law.inverse law.ends (drop i text) (sym (scanned i None c.0).same), l)
  chain_read (x ∷ xs) i j l c =
      let e = scanned i (Some (x, c.0)) c.1 in
      let r = chain_read xs c.0 j e.within c.2 in
      (run_more law.inverse law.ends (drop i text) (law.of x) (drop c.0 text) (sym e.same) ∙ rw r.0, r.1)

  held_again : (xs : List kind.Held) → map kind.hold (map law.of xs) ≡ xs
  held_again [] = refl
  held_again (x ∷ xs) = rw (law.held x, held_again xs)

  pub run_read : {at : ℕ} (before : Plan) {after : List kind.Held} {count next : ℕ} → at ≤ length text → length (kind.array before) ≡ kind.room →
      Kept (Answers post text) at (kind.array before) after count next →
      Run kind text at before (record { plan = kind.with_lines before count after; next = next })
  run_read {at} before {after} {count} {next} l size k =
      let r = chain_read k.lines at next l k.read in
      let n : count ≡ length (map law.of k.lines) = k.all ∙ sym (length-map k.lines law.of) in
      record {
        lines = map law.of k.lines;
        read = r.0;
        within = r.1;
        plan = rw (n, k.kept, size, held_again k.lines);
      }
