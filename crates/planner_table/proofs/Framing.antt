-- The frames that are collected from the entries listed are those of the plan's frame list.
-- Assumes nothing.
use mathlib.Core.Path.{◌≡◌, sym, ap, ◌∙◌}
use mathlib.Core.List.{List}
use Prim.Native.Nat.{ℕ, ◌*◌, ◌≤◌, ◌<◌}
use native.Mathlib.Omega.{arith}
use lib.ListN.{length, get_or, take}
use Rattle.lists.specs.Front.{front}
use Rattle.model.specs.Plan.{Lines}
use Rattle.model.specs.Bus.{rows}
use Rattle.model.specs.Refusals.{nothing, plan_refusal}
use Rattle.model.specs.Table.{plans, row_entries, result, entry_words, frame_words}
use Rattle.plan_index.specs.declared.PlanIndex.{PlanIndex}
use Rattle.plan_layout.specs.Indexed.{Indexed}
use Rattle.table_entries.specs.Words.{Laid, table}
use Rattle.table_frames.specs.Packed.{Rows, Holding, packed_frames, frames_of, packed_words}
use Rattle.table_frames.proofs.FramesOfModel.{collected_words, collected_small, collected_count}
use Rattle.planner_table.specs.Planner.{Entered}

-- the entries lie row after row, as many as counted
pub laid_of : (b : PlanIndex) (list ends : List ℕ) (count : ℕ) (p : Lines) → Indexed p b → Entered p list ends count → {r : ℕ} → r ≡ b.rows → Laid list ends r × (get_or ends r 0 ≡ count)
laid_of b list ends count p o e {r} q = let m : r ≡ rows p = q ∙ o.row_count in rw m (e.laid, e.last)

-- the rows of the items can be collected from
pub rows_of : (b : PlanIndex) (list ends : List ℕ) (count : ℕ) (p : Lines) → Indexed p b → Entered p list ends count → Rows list ends b.processes b.rows
rows_of b list ends count p o e =
    let r : b.rows ≡ rows p = o.row_count in
    let n = o.processes_count in
    record {
      first = omega arith;
      last = omega (arith, o.few_processes, o.few_edges, o.few_conditions, o.edges_count, o.conditions_count);
      long = e.laid.long;
      rising = λ q l u. e.laid.rising q (omega arith);
      inside = rw r e.laid.inside;
    }

-- The first n numbers of an array are the frames of the plan's frame list.
pub record Framed (p : Lines) (out : List ℕ) (n : ℕ) : Type 0 where
  pub long : length out ≡ 12672
  pub few : n ≤ 12672
  pub words : packed_words (take n out) ≡ frame_words (result p).frames
  pub small : (i : ℕ) → i < n → get_or out i 0 < 4398046511104
  pub counted : length (frame_words (result p).frames) ≡ 3 * n

pub framed : (b : PlanIndex) (list ends : List ℕ) (count : ℕ) (out : List ℕ) (n : ℕ) → take n out ≡ frames_of b list ends →
    n ≤ get_or ends b.rows 0 → length out ≡ 12672 →
    (p : Lines) → plan_refusal p ≡ nothing → Indexed p b → Entered p list ends count → Framed p out n
framed b list ends count out n t l long p fine o e =
    let r : b.rows ≡ rows p = o.row_count in
    let h : Holding p (row_entries p (plans p)) list ends b.sender b.size =
    record { parts = λ q f u. e.parts q u; nodes = λ q f u. o.senders_of q u; sizes = λ q f u. o.bytes_of q u } in
    let q : take n out ≡ packed_frames list ends b.sender b.size (length p.processes) (rows p) =
    t ∙ (λ i. packed_frames list ends b.sender b.size (o.processes_count i) (r i)) in
    let few : n ≤ 12672 = omega (arith, ap (λ (k : ℕ). get_or ends k 0) r, e.laid.inside) in
    record {
      long = long;
      few = few;
      words = ap packed_words q ∙ collected_words p fine list ends b.sender b.size h;
      small = collected_small p fine list ends b.sender b.size h out n (omega arith) q;
      counted = collected_count p fine list ends b.sender b.size h out n (omega arith) q;
    }

-- what is written of both are the words of the table and of the frame list
pub words_front : (b : PlanIndex) (list ends : List ℕ) (count : ℕ) (p : Lines) → Indexed p b → Entered p list ends count → (lent : List ℕ) {now : List ℕ} {r : ℕ} → r ≡ b.rows →
    now ≡ front (table list ends r) lent → now ≡ front (entry_words (result p).entries) lent
words_front b list ends count p o e lent m q = q ∙ ap (λ (k : ℕ). front (table list ends k) lent) (m ∙ o.row_count) ∙ ap (λ (ws : List ℕ). front ws lent) (sym e.words)

pub frames_front : (p : Lines) (out : List ℕ) (n : ℕ) → Framed p out n → (lent : List ℕ) {now : List ℕ} → now ≡ front (packed_words (take n out)) lent → now ≡ front (frame_words (result p).frames) lent
frames_front p out n f lent q = q ∙ ap (λ (ws : List ℕ). front ws lent) f.words
