-- The planner's answer is put into lent bytes as the definitions say: nothing where it refuses, and else the words of
-- the table, of the frame list and the totals.
-- Assumes nothing.
use mathlib.Core.Path.{◌≡◌, refl, sym, ap, ◌∙◌}
use mathlib.Core.List.{List, ◌∷◌}
use Prim.Native.Nat.{ℕ, ◌*◌}
use lib.ListN.{length, take}
use Rattle.std.specs.Prelude.{Ok, Err}
use Rattle.std.specs.Prelude as std
use Rattle.lists.specs.Front.{front}
use Rattle.model.specs.Plan.{Lines}
use Rattle.model.specs.Table.{Answer, turned_down, made}
use Rattle.planner_table.specs.declared.Made.{Made}
use Rattle.planner_table.specs.Planner.{answer_of}
use Rattle.planner_table.proofs.Given.{turned, Stands}
use Rattle.c_words.specs.Bytes.{bytes_of}
use Rattle.c_plan.specs.Stored.{Stored}
use Rattle.c_plan.specs.Filled.{put_of, totals_of, table_bytes_after, frame_bytes_after, totals_after, Filled}

-- a refusal leaves the bytes unchanged
pub nothing_filled : (n : ℕ) (table frames totals : List ℕ) → Filled (turned_down n) table frames totals table frames totals
unfolding table_bytes_after frame_bytes_after totals_after
nothing_filled n table frames totals = record { table_bytes = refl; frame_bytes = refl; total_bytes = refl }

-- an equal answer is put alike
pub filled_so : {a b : Answer} {table frames totals table-now frames-now totals-now : List ℕ} → a ≡ b → Filled a table frames totals table-now frames-now totals-now →
    Filled b table frames totals table-now frames-now totals-now
filled_so {table = table} {frames} {totals} e q =
    record {
      table_bytes = q.table_bytes ∙ ap (λ (x : Answer). table_bytes_after x table) e;
      frame_bytes = q.frame_bytes ∙ ap (λ (x : Answer). frame_bytes_after x frames) e;
      total_bytes = q.total_bytes ∙ ap (λ (x : Answer). totals_after x totals) e;
    }

-- a number of bytes that were written
abbrev ok : ℕ → std.Result ℕ ℕ
ok n = Ok n

pub refusal_put : (a : Answer) (n : ℕ) (table frames totals : List ℕ) → Err n ≡ answer_of a →
    (Err n ≡ put_of a) × Filled a table frames totals table frames totals
unfolding put_of
refusal_put a n table frames totals e = (rw (turned a n e), filled_so (sym (turned a n e)) (nothing_filled n table frames totals))

module _ (p : Lines) (a : Answer) (m : Made) (words framewords passed words-now framewords-now passed-now : List ℕ) (s : Stands p a m words framewords passed words-now framewords-now passed-now)
    (nodes : ℕ) (each : nodes ≡ length p.slots) (table frames totals table-now frames-now totals-now : List ℕ) where
  pub made_put : Stored m words-now framewords-now (take nodes passed-now) table frames totals table-now frames-now totals-now →
      (Ok (4 * m.words) ≡ put_of a) × Filled a table frames totals table-now frames-now totals-now
  unfolding put_of table_bytes_after frame_bytes_after totals_after totals_of
  made_put l =
      let w = s.was in
      let counts : take nodes passed-now ≡ w.result.passed = ap (λ (n : ℕ). take n passed-now) each ∙ s.counts_words in (
        (ap (λ (n : ℕ). ok (4 * n)) w.words) ∙ ap put_of (sym w.is_made),
        filled_so {a = made w.result} (sym w.is_made)
            (record {
              table_bytes = l.table_bytes ∙ ap (λ (ws : List ℕ). front (bytes_of ws) table) s.table_words;
              frame_bytes = l.frame_bytes ∙ ap (λ (ws : List ℕ). front (bytes_of ws) frames) s.frames_words;
              total_bytes =
                  l.total_bytes
                  ∙ (λ i. front (take (length totals) (bytes_of (w.words i ∷ w.framewords i ∷ w.delay i ∷ counts i))) totals);
            }),
      )
