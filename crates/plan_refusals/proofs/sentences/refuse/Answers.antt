-- `plan_refusals::refuse` meets its contract: each test is that of its sentence, on the lines of the plan.
use mathlib.Core.Path.{sym, ◌∙◌}
use Rattle.model.specs.Refusals.{plan_refusal}
use Rattle.plan.specs.Bounds.{Few, Ended}
use Rattle.plan.specs.Memory.{lines}
use Rattle.plan.proofs.TestsOnLines.{few, counts_same, ended}
use Rattle.plan_refusals.proofs.sentences.refuse.Goals as goal
use Rattle.plan_refusals.proofs.sentences.refuse.Goals.{Else-wrong_counts, Else-wrong_ends}

-- what refusals 2 and 6 leave
counted : (c : Else-wrong_counts) → Few c.args.p
counted c = few c.args.p (counts_same c.args.p ∙ sym c.wrong_counts.ensures ∙ c.if-wrong_counts.false)

linked : (c : Else-wrong_ends) → Ended (lines c.args.p)
linked c = ended (lines c.args.p) (sym c.wrong_ends.ensures ∙ c.if-wrong_ends.false)

pub returns-then-wrong_counts : goal.returns-then-wrong_counts
unfolding plan_refusal
returns-then-wrong_counts c = rw (sym c.wrong_counts.ensures ∙ c.if-wrong_counts.true)

pub wrong_sizes-requires : goal.wrong_sizes-requires
wrong_sizes-requires c = counted (goal.at.wrong_sizes-requires c).Else-wrong_counts

pub returns-then-wrong_sizes : goal.returns-then-wrong_sizes
unfolding plan_refusal
returns-then-wrong_sizes c = rw (sym c.wrong_counts.ensures ∙ c.if-wrong_counts.false, sym c.wrong_sizes.ensures ∙ c.if-wrong_sizes.true)

pub wrong_nodes-requires : goal.wrong_nodes-requires
wrong_nodes-requires c = counted (goal.at.wrong_nodes-requires c).Else-wrong_counts

pub returns-then-wrong_nodes : goal.returns-then-wrong_nodes
unfolding plan_refusal
returns-then-wrong_nodes c = rw (sym c.wrong_counts.ensures ∙ c.if-wrong_counts.false, sym c.wrong_sizes.ensures ∙ c.if-wrong_sizes.false, sym c.wrong_nodes.ensures ∙ c.if-wrong_nodes.true)

pub wrong_deciders-requires : goal.wrong_deciders-requires
wrong_deciders-requires c = counted (goal.at.wrong_deciders-requires c).Else-wrong_counts

pub returns-then-wrong_deciders : goal.returns-then-wrong_deciders
unfolding plan_refusal
returns-then-wrong_deciders c = rw (sym c.wrong_counts.ensures ∙ c.if-wrong_counts.false, sym c.wrong_sizes.ensures ∙ c.if-wrong_sizes.false, sym c.wrong_nodes.ensures ∙ c.if-wrong_nodes.false, sym c.wrong_deciders.ensures ∙ c.if-wrong_deciders.true)

pub wrong_ends-requires : goal.wrong_ends-requires
wrong_ends-requires c = counted (goal.at.wrong_ends-requires c).Else-wrong_counts

pub returns-then-wrong_ends : goal.returns-then-wrong_ends
unfolding plan_refusal
returns-then-wrong_ends c = rw (sym c.wrong_counts.ensures ∙ c.if-wrong_counts.false, sym c.wrong_sizes.ensures ∙ c.if-wrong_sizes.false, sym c.wrong_nodes.ensures ∙ c.if-wrong_nodes.false, sym c.wrong_deciders.ensures ∙ c.if-wrong_deciders.false, sym c.wrong_ends.ensures ∙ c.if-wrong_ends.true)

pub twin_edges-requires : goal.twin_edges-requires
twin_edges-requires c = (counted (goal.at.twin_edges-requires c).Else-wrong_counts, linked (goal.at.twin_edges-requires c).Else-wrong_ends)

pub returns-then-twin_edges : goal.returns-then-twin_edges
unfolding plan_refusal
returns-then-twin_edges c = rw (sym c.wrong_counts.ensures ∙ c.if-wrong_counts.false, sym c.wrong_sizes.ensures ∙ c.if-wrong_sizes.false, sym c.wrong_nodes.ensures ∙ c.if-wrong_nodes.false, sym c.wrong_deciders.ensures ∙ c.if-wrong_deciders.false, sym c.wrong_ends.ensures ∙ c.if-wrong_ends.false, sym c.twin_edges.ensures ∙ c.if-twin_edges.true)

pub wrong_whens-requires : goal.wrong_whens-requires
wrong_whens-requires c = counted (goal.at.wrong_whens-requires c).Else-wrong_counts

pub returns-then-wrong_whens : goal.returns-then-wrong_whens
unfolding plan_refusal
returns-then-wrong_whens c = rw (sym c.wrong_counts.ensures ∙ c.if-wrong_counts.false, sym c.wrong_sizes.ensures ∙ c.if-wrong_sizes.false, sym c.wrong_nodes.ensures ∙ c.if-wrong_nodes.false, sym c.wrong_deciders.ensures ∙ c.if-wrong_deciders.false, sym c.wrong_ends.ensures ∙ c.if-wrong_ends.false, sym c.twin_edges.ensures ∙ c.if-twin_edges.false, sym c.wrong_whens.ensures ∙ c.if-wrong_whens.true)

pub long_messages-requires : goal.long_messages-requires
long_messages-requires c = (counted (goal.at.long_messages-requires c).Else-wrong_counts, linked (goal.at.long_messages-requires c).Else-wrong_ends)

pub returns-then-long_messages : goal.returns-then-long_messages
unfolding plan_refusal
returns-then-long_messages c = rw (sym c.wrong_counts.ensures ∙ c.if-wrong_counts.false, sym c.wrong_sizes.ensures ∙ c.if-wrong_sizes.false, sym c.wrong_nodes.ensures ∙ c.if-wrong_nodes.false, sym c.wrong_deciders.ensures ∙ c.if-wrong_deciders.false, sym c.wrong_ends.ensures ∙ c.if-wrong_ends.false, sym c.twin_edges.ensures ∙ c.if-twin_edges.false, sym c.wrong_whens.ensures ∙ c.if-wrong_whens.false, sym c.long_messages.ensures ∙ c.if-long_messages.true)

pub returns : goal.returns
unfolding plan_refusal
returns c =
    rw (sym c.wrong_counts.ensures ∙ c.if-wrong_counts.false, sym c.wrong_sizes.ensures ∙ c.if-wrong_sizes.false, sym c.wrong_nodes.ensures ∙ c.if-wrong_nodes.false, sym c.wrong_deciders.ensures ∙ c.if-wrong_deciders.false, sym c.wrong_ends.ensures ∙ c.if-wrong_ends.false, sym c.twin_edges.ensures ∙ c.if-twin_edges.false, sym c.wrong_whens.ensures ∙ c.if-wrong_whens.false, sym c.long_messages.ensures ∙ c.if-long_messages.false)
