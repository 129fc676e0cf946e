-- What is left alone of what planning keeps by node, and a node whose messages are listed anew.
-- Assumes nothing.
use Prim.Native.Nat.{ℕ, ◌+◌, ◌≤◌}
use mathlib.Core.Path.{◌≡◌, sym, ◌∙◌, subst}
use mathlib.Core.List.{List}
use lib.ListN.{get_or, set}
use Rattle.plan_index.specs.declared.PlanIndex.{PlanIndex}
use Rattle.log_rows.specs.Rows.{Rows}
use Rattle.planner_nodes.specs.Nodes.{Nodes, with_nextsend, with_waitend, with_wait, put_waitend}
use Rattle.planner_sends.specs.Packing.{Listed}
use Rattle.planner_sends.specs.Pending.{waiting_of}
use Rattle.planner_sends.specs.NextSends.{Relisted, UpdatedNode, Relists, OnlyUpdated}

-- only these three arrays changed, in one step after another
pub updated_join : (ns m ns' : Nodes) {xs ys zs : List ℕ} → OnlyUpdated ns m → ns' ≡ with_nextsend xs (with_waitend ys (with_wait zs m)) → OnlyUpdated ns ns'
updated_join ns m ns' p q =
    λ i.
    record {
      busy = ((λ j. (q j).busy) ∙ (λ j. (p j).busy)) i;
      passed = ((λ j. (q j).passed) ∙ (λ j. (p j).passed)) i;
      nextsend = ns'.nextsend;
      lastarrival = ((λ j. (q j).lastarrival) ∙ (λ j. (p j).lastarrival)) i;
      waitend = ns'.waitend;
      noted = ((λ j. (q j).noted) ∙ (λ j. (p j).noted)) i;
      wait = ns'.wait;
    }

-- the same with equal names
pub relisted_as : {queuefirst : List ℕ} {n : ℕ} {messages wait waitend wait₁ waitend₁ wait₂ waitend₂ : List ℕ} → wait₂ ≡ wait₁ → waitend₂ ≡ waitend₁ → Relisted queuefirst n messages wait waitend wait₁ waitend₁ →
    Relisted queuefirst n messages wait waitend wait₂ waitend₂
relisted_as {queuefirst} {n} {messages} {wait} {waitend} {wait₁} {waitend₁} {wait₂} {waitend₂} p q h =
    subst (λ (xs : List ℕ). Relisted queuefirst n messages wait waitend xs waitend₂) (sym p) (subst (Relisted queuefirst n messages wait waitend wait₁) (sym q) h)

pub updated_as : {broadcastend u : ℕ} {busy busy₁ queuefirst : List ℕ} {n : ℕ} {messages wait waitend wait₁ waitend₁ : List ℕ} → busy ≡ busy₁ → UpdatedNode broadcastend u busy queuefirst n messages wait waitend wait₁ waitend₁ →
    UpdatedNode broadcastend u busy₁ queuefirst n messages wait waitend wait₁ waitend₁
updated_as {broadcastend} {u} {busy} {busy₁} {queuefirst} {n} {messages} {wait} {waitend} {wait₁} {waitend₁} p h =
    subst (λ (xs : List ℕ). UpdatedNode broadcastend u xs queuefirst n messages wait waitend wait₁ waitend₁) p h

-- the messages are listed, and then the place behind them is stored
pub relists : (b : PlanIndex) (s : Rows) (u n : ℕ) (ns m ns' : Nodes) (x y z : ℕ) → x ≡ get_or b.queuefirst n 0 → y ≡ get_or b.queuefirst (n + 1) 0 →
    Listed ns.wait m.wait x z (waiting_of b s u x y) → z ≤ y → m ≡ with_wait m.wait ns → ns' ≡ put_waitend n z m → Relists b s u n ns ns'
relists b s u n ns m ns' x y z qx qy h l p q =
    record {
      waits = relisted_as (λ i. (q i).wait) (λ i. (q i).waitend)
          record {
            end = z;
            listed =
                subst (λ (v : ℕ). Listed ns.wait m.wait v z (waiting_of b s u v (get_or b.queuefirst (n + 1) 0))) qx
                (subst (λ (v : ℕ). Listed ns.wait m.wait x z (waiting_of b s u x v)) qy h);
            upto = subst (λ (v : ℕ). z ≤ v) qy l;
            stored = λ i. set (p i).waitend n z;
          };
      rest =
          λ i.
          record {
            busy = ((λ j. (q j).busy) ∙ (λ j. (p j).busy)) i;
            passed = ((λ j. (q j).passed) ∙ (λ j. (p j).passed)) i;
            nextsend = ((λ j. (q j).nextsend) ∙ (λ j. (p j).nextsend)) i;
            lastarrival = ((λ j. (q j).lastarrival) ∙ (λ j. (p j).lastarrival)) i;
            waitend = ns'.waitend;
            noted = ((λ j. (q j).noted) ∙ (λ j. (p j).noted)) i;
            wait = ns'.wait;
          };
    }
