-- A run by a sound table starts and sends, row by row, what the met entries say, each at its tick.
-- Assumes nothing.
use mathlib.Core.Path.{◌≡◌, refl, sym, subst}
use mathlib.Core.Bool.{Bool}
use mathlib.Core.List.{List, Memᴰ as In}
use Prim.Native.Nat.{ℕ, zero, suc, ◌<◌, ◌≤◌}
use native.Mathlib.Omega.{arith}
use lib.Dec.{eqb, ltb}
use lib.ListN.{length}
use borrow.Author.Tests.{eq-eqb, lt-ltb, le-ltb}
use Rattle.lists.specs.Lists.{keep}
use Rattle.lists.proofs.Members.{in_keep, keep_in}
use Rattle.lists.proofs.Keep.{keep_false}
use Rattle.model.specs.Plan.{Lines}
use Rattle.model.specs.Bus.{rows}
use Rattle.model.specs.Log.{Placed, Log, of_row, over, known}
use Rattle.model.specs.Refusals.{nothing, plan_refusal}
use Rattle.model.specs.Table.{entries_of}
use Rattle.model.specs.Checking.{Sound, met_log}
use Rattle.model.specs.Run.{Ask, hears, run_before}
use Rattle.model.specs.Demand.{Answered, Within}
use Rattle.laws.proofs.Good.{Good, good}
use Rattle.laws.proofs.Rules.{Kept, Lawful}
use Rattle.laws.proofs.RunHeard.{Upto, heard_known, heard_own}
use Rattle.laws.proofs.RunTick.{tick_row}
use Rattle.laws.proofs.Sound.{sound_iff}

-- a log whose rows are those of M before T
module _ (p : Lines) (M N : Log) (T : ℕ) (keeps : (x : Placed) → In x M → x.row < rows p)
    (same : (r : ℕ) → r < rows p → of_row N r ≡ keep (λ x. ltb x.tick T) (of_row M r)) where
  abbrev sooner : Placed → Bool
  sooner x = ltb x.tick T

  in_row : {log : Log} (x : Placed) → In x log → In x (of_row log x.row)
  in_row x m = in_keep (λ y. eqb y.row x.row) m (eq-eqb x.row x.row refl)

  row_in : (log : Log) (r : ℕ) {x : Placed} → In x (of_row log r) → In x log
  row_in log r m = (keep_in (λ y. eqb y.row r) log m).0

  rows_part : Upto p M N T
  rows_part =
      record {
        to = λ x m l. row_in N x.row (subst (λ (z : Log). In x z) (sym (same x.row (keeps x m))) (in_keep sooner (in_row x m) (lt-ltb x.tick T l)));
        from = λ x b m. row_in M x.row (keep_in sooner (of_row M x.row) (subst (λ (z : Log). In x z) (same x.row b) (in_row x m))).0;
      }

module _ (p : Lines) (words : List ℕ) (stated : ℕ) (ask : Ask) (sound : Sound p words stated) (told : Answered p words ask) (c : List Bool)
    (cl : length c ≡ length p.conditions) (times : List ℕ) (within : Within p times) where
  abbrev M : Log
  M = met_log (entries_of words) c

  abbrev run : ℕ → Log
  run T = run_before p words ask c times T

  fine : plan_refusal p ≡ nothing
  fine = ((sound_iff p words stated).0 sound).0

  lawful : Lawful p (entries_of words) stated
  lawful = ((sound_iff p words stated).0 sound).2

  g : Good p
  g = good p fine

  keeps : Kept p c M
  keeps = lawful.keeps c cl

  part : (T : ℕ) → ((r : ℕ) → r < rows p → of_row (run T) r ≡ keep (λ x. ltb x.tick T) (of_row M r)) → Upto p M (run T) T
  part T same = rows_part p M (run T) T (λ x m. (keeps.only_due x m).0) same

  pub run_matches : (T : ℕ) → T ≤ 1000000000 → (r : ℕ) → r < rows p → of_row (run_before p words ask c times T) r ≡ keep (λ x. ltb x.tick T) (of_row M r)
  unfolding run_before
  run_matches zero u r l = sym (keep_false (λ x. ltb x.tick 0) (of_row M r) (λ x. le-ltb x.tick 0 (omega arith)))
  run_matches (suc T) u r l = at (run_matches T (omega arith))
    where
      at : ((r : ℕ) → r < rows p → of_row (run T) r ≡ keep (λ x. ltb x.tick T) (of_row M r)) → of_row (run (suc T)) r ≡ keep (λ x. ltb x.tick (suc T)) (of_row M r)
      at same =
          tick_row p words stated ask fine lawful told c cl times T u (run T)
          (heard_known p c g times within M T keeps (run T) (part T same) T (omega arith)) r l (same r l)

  pub run_part : (T : ℕ) → T ≤ 1000000000 → Upto p M (run T) T
  run_part T u = part T (run_matches T u)

  -- what a run hears at a tick is what its own log makes known
  pub hears_own : (T : ℕ) → T ≤ 1000000000 → hears p c times (run T) T ≡ known p c (over p times (run T) T)
  hears_own T u = heard_own p c g times within M T keeps (run T) (run_part T u) T (omega arith)
