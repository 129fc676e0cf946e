-- What is left alone of a log's rows and of what planning keeps by node, from array to array.
-- Assumes nothing.
use mathlib.Core.Path.{◌≡◌, ◌∙◌}
use mathlib.Core.List.{List}
use Prim.Native.Nat.{ℕ}
use Rattle.log_rows.specs.Rows.{Rows, with_comes, with_place}
use Rattle.planner_nodes.specs.Nodes.{Nodes, with_wait}

-- of the rows only what is placed, and where
pub rows_rest : (s s' : Rows) → s'.run ≡ s.run → s'.unmet ≡ s.unmet → s' ≡ with_place s'.place (with_comes s'.comes s)
rows_rest s s' run unmet = λ i. record { run = run i; unmet = unmet i; comes = s'.comes; place = s'.place }

-- by node only the messages that wait
pub wait_rest : (ns m ns' : Nodes) {xs : List ℕ} → m ≡ with_wait m.wait ns → ns' ≡ with_wait xs m → ns' ≡ with_wait ns'.wait ns
wait_rest ns m ns' p q =
    λ i.
    record {
      busy = ((λ j. (q j).busy) ∙ (λ j. (p j).busy)) i;
      passed = ((λ j. (q j).passed) ∙ (λ j. (p j).passed)) i;
      nextsend = ((λ j. (q j).nextsend) ∙ (λ j. (p j).nextsend)) i;
      lastarrival = ((λ j. (q j).lastarrival) ∙ (λ j. (p j).lastarrival)) i;
      waitend = ((λ j. (q j).waitend) ∙ (λ j. (p j).waitend)) i;
      noted = ((λ j. (q j).noted) ∙ (λ j. (p j).noted)) i;
      wait = ns'.wait;
    }
