-- `planner_sends::which_sends` meets its contract: the nodes from n on give the whole answer.
use mathlib.Core.Path.{sym, ap, ◌∙◌}
use lib.Dec.{eqb}
use lib.ListN.{get_or}
use borrow.Author.Tests.{eq-eqb, ne_eqb}
use Rattle.lists.proofs.Loops.{upfrom_start, upfrom_next, upfrom_end}
use Rattle.planner_nodes.specs.Nodes.{nodes_of}
use Rattle.planner_sends.specs.Clocks.{first_or, sending_node_by}
use Rattle.planner_sends.proofs.clocks.which_sends.Goals as goal

pub loop-n-init : goal.loop-n-init
loop-n-init c =
    let a = c.args in
    ap (first_or a.slots (λ k. eqb (get_or (nodes_of a.nodes.now).nextsend k 0) a.u)) (upfrom_start a.slots)

pub returns-then-nextsend_of-u-clause-first : goal.returns-then-nextsend_of-u-clause-first
unfolding first_or sending_node_by
returns-then-nextsend_of-u-clause-first c =
    let a = c.args in
    sym (c.loop-n.invariant ∙ ap (first_or a.slots (λ k. eqb (get_or (nodes_of a.nodes.now).nextsend k 0) a.u)) (upfrom_next a.slots c.loop-n.n c.loop-n-test.true) ∙ rw (eq-eqb _ _ (sym c.nextsend_of.ensures ∙ c.if-nextsend_of-u.true)))

pub loop-n-preserved : goal.loop-n-preserved
unfolding first_or
loop-n-preserved c =
    let a = c.args in
    c.loop-n.invariant ∙ ap (first_or a.slots (λ k. eqb (get_or (nodes_of a.nodes.now).nextsend k 0) a.u)) (upfrom_next a.slots c.loop-n.n c.loop-n-test.true) ∙ rw (ne_eqb _ _ (λ z. c.if-nextsend_of-u.false (c.nextsend_of.ensures ∙ z)))

pub returns-clause-first : goal.returns-clause-first
unfolding first_or sending_node_by
returns-clause-first c =
    let a = c.args in
    sym (c.loop-n.invariant ∙ ap (first_or a.slots (λ k. eqb (get_or (nodes_of a.nodes.now).nextsend k 0) a.u)) (upfrom_end a.slots c.loop-n.n c.loop-n-test.false))
