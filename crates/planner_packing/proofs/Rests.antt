-- What is left alone of a log's rows and of what planning keeps by node, step by step, and the same by equal names.
-- Assumes nothing.
use mathlib.Core.Path.{◌≡◌, sym, ◌∙◌, subst}
use mathlib.Core.List.{List}
use Prim.Native.Nat.{ℕ}
use Rattle.plan_index.specs.declared.PlanIndex.{PlanIndex}
use Rattle.log_rows.specs.Rows.{Rows, with_comes, with_place}
use Rattle.planner_nodes.specs.Nodes.{Nodes, with_passed, with_nextsend, with_lastarrival, with_waitend, with_wait}
use Rattle.planner_sends.specs.Packing.{Listed}
use Rattle.planner_sends.proofs.Places.{Moving}
use Rattle.planner_sends.specs.NextSends.{Roomy}
use Rattle.planner_packing.specs.declared.packing.Sent.{Sent}
use Rattle.planner_packing.specs.Sending.{OnlyPlaced, OnlyTaken, OnlyFilled, OnlySent, SendsAll}

pub placed_join : (s m s' : Rows) {xs ys : List ℕ} → OnlyPlaced s m → s' ≡ with_place xs (with_comes ys m) → OnlyPlaced s s'
placed_join s m s' p q =
    λ i.
    record {
      run = ((λ j. (q j).run) ∙ (λ j. (p j).run)) i;
      unmet = ((λ j. (q j).unmet) ∙ (λ j. (p j).unmet)) i;
      comes = s'.comes;
      place = s'.place;
    }

pub taken_join : (ns m ns' : Nodes) {xs ys : List ℕ} → OnlyTaken ns m → ns' ≡ with_lastarrival xs (with_wait ys m) → OnlyTaken ns ns'
taken_join ns m ns' p q =
    λ i.
    record {
      busy = ((λ j. (q j).busy) ∙ (λ j. (p j).busy)) i;
      passed = ((λ j. (q j).passed) ∙ (λ j. (p j).passed)) i;
      nextsend = ((λ j. (q j).nextsend) ∙ (λ j. (p j).nextsend)) i;
      lastarrival = ns'.lastarrival;
      waitend = ((λ j. (q j).waitend) ∙ (λ j. (p j).waitend)) i;
      noted = ((λ j. (q j).noted) ∙ (λ j. (p j).noted)) i;
      wait = ns'.wait;
    }

pub filled_join : (ns m ns' : Nodes) {xs : List ℕ} → OnlyTaken ns m → ns' ≡ with_passed xs m → OnlyFilled ns ns'
filled_join ns m ns' p q =
    λ i.
    record {
      busy = ((λ j. (q j).busy) ∙ (λ j. (p j).busy)) i;
      passed = ns'.passed;
      nextsend = ((λ j. (q j).nextsend) ∙ (λ j. (p j).nextsend)) i;
      lastarrival = ns'.lastarrival;
      waitend = ((λ j. (q j).waitend) ∙ (λ j. (p j).waitend)) i;
      noted = ((λ j. (q j).noted) ∙ (λ j. (p j).noted)) i;
      wait = ns'.wait;
    }

pub sent_join : (ns m ns' : Nodes) {xs ys : List ℕ} → OnlyFilled ns m → ns' ≡ with_nextsend xs (with_waitend ys m) → OnlySent ns ns'
sent_join ns m ns' p q =
    λ i.
    record {
      busy = ((λ j. (q j).busy) ∙ (λ j. (p j).busy)) i;
      passed = ns'.passed;
      nextsend = ns'.nextsend;
      lastarrival = ns'.lastarrival;
      waitend = ns'.waitend;
      noted = ((λ j. (q j).noted) ∙ (λ j. (p j).noted)) i;
      wait = ns'.wait;
    }

-- a part that is moved down
pub moving_as : {before : List ℕ} {k j z : ℕ} {after after' : List ℕ} {to i : ℕ} → after' ≡ after → Moving before k j z after to i → Moving before k j z after' to i
moving_as {before} {k} {j} {z} {after} {after'} {to} {i} p h = subst (λ (xs : List ℕ). Moving before k j z xs to i) (sym p) h

-- numbers that stand in an array
pub listed_after : {before after after' : List ℕ} {a r : ℕ} {numbers : List ℕ} → after' ≡ after → Listed before after a r numbers → Listed before after' a r numbers
listed_after {before} {after} {after'} {a} {r} {numbers} p h = subst (λ (xs : List ℕ). Listed before xs a r numbers) (sym p) h

pub listed_same : {before before' after : List ℕ} {a a' r : ℕ} {numbers numbers' : List ℕ} → before ≡ before' → a ≡ a' → numbers ≡ numbers' → Listed before after a r numbers → Listed before' after a' r numbers'
listed_same {before} {before'} {after} {a} {a'} {r} {numbers} {numbers'} p q e h =
    subst (λ (xs : List ℕ). Listed xs after a' r numbers') p (subst (λ (n : ℕ). Listed before after n r numbers') q (subst (Listed before after a r) e h))

pub roomy_same : {wait wait' waitend waitend' : List ℕ} → wait' ≡ wait → waitend' ≡ waitend → Roomy wait waitend → Roomy wait' waitend'
roomy_same {wait} {wait'} {waitend} {waitend'} p q h = subst (λ (xs : List ℕ). Roomy xs waitend') (sym p) (subst (Roomy wait) (sym q) h)

-- what a slot takes, by its end
pub sends_same : {b : PlanIndex} {n u end end' : ℕ} {s : Rows} {ns : Nodes} {r : Sent} {s' : Rows} {ns' : Nodes} → end ≡ end' → SendsAll b n u end s ns r s' ns' → SendsAll b n u end' s ns r s' ns'
sends_same {b} {n} {u} {end} {end'} {s} {ns} {r} {s'} {ns'} p h = subst (λ (x : ℕ). SendsAll b n u x s ns r s' ns') p h
