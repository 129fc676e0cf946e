-- `planner_sends::any_sends` meets its contract: what is found before node n, or a slot of the nodes from n on,
-- gives the whole answer.
use mathlib.Core.Path.{◌≡◌, refl, sym, ap, ◌∙◌}
use mathlib.Core.Bool.{Bool, ◌||◌}
use mathlib.Core.List.{List}
use Prim.Native.Nat.{ℕ, ◌+◌, ◌-◌, ◌<◌}
use native.Mathlib.Omega.{arith}
use lib.Dec.{eqb}
use lib.ListN.{get_or}
use Rattle.lists.specs.Lists.{any, upfrom, below}
use Rattle.lists.proofs.Tests.{or_assoc, or_false}
use Rattle.lists.proofs.Loops.{upfrom_next, upfrom_end}
use Rattle.planner_nodes.specs.Nodes.{nodes_of}
use Rattle.planner_sends.proofs.clocks.any_sends.Goals as goal

-- one node on
module _ (f : ℕ → Bool) (found : Bool) (n : ℕ) (l : n < 8) (h : any f (below 8) ≡ (found || any f (upfrom n (8 - n)))) where
  own : any f (below 8) ≡ (found || (f n || any f (upfrom (n + 1) (8 - (n + 1)))))
  own = h ∙ ap (λ (ks : List ℕ). found || any f ks) (upfrom_next 8 n l)

  joined : any f (below 8) ≡ ((found || f n) || any f (upfrom (n + 1) (8 - (n + 1))))
  joined = own ∙ sym (or_assoc found (f n) (any f (upfrom (n + 1) (8 - (n + 1)))))

pub loop-n-init : goal.loop-n-init
loop-n-init c = (omega arith, refl)

pub loop-n-preserved : goal.loop-n-preserved
loop-n-preserved c =
    let a = c.args in
    let f : ℕ → Bool = λ k. eqb (get_or (nodes_of a.nodes.now).nextsend k 0) a.u in
    let n : ℕ = c.loop-n.n in
    let same = c.nextsend_of.ensures in
    let o : n < 8 = omega (arith, c.loop-n-test.true) in (
      omega arith,
      joined f c.loop-n.found n o c.loop-n.invariant.1 ∙ ap (λ (x : ℕ). (c.loop-n.found || eqb x a.u) || any f (upfrom (n + 1) (8 - (n + 1)))) (sym same),
    )

pub returns : goal.returns
returns c =
    let a = c.args in
    let f : ℕ → Bool = λ k. eqb (get_or (nodes_of a.nodes.now).nextsend k 0) a.u in
    sym (c.loop-n.invariant.1 ∙ ap (λ (ks : List ℕ). c.loop-n.found || any f ks) (upfrom_end 8 c.loop-n.n (omega (arith, c.loop-n-test.false))) ∙ or_false c.loop-n.found)
