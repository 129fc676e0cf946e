-- `planner_combination::note_counts` meets its contract: what is copied are the counts, and they stand where the
-- condition's are noted.
use Rattle.std.proofs.Common.{◌≡◌, sym, ap, ◌∙◌, ℕ, ◌+◌, ◌*◌, ◌<◌, ◌++◌, List, arith, length, take, drop}
use Rattle.std.specs.List.{copy_within}
use lib.Seq.{sets, sets-eq}
use Rattle.lists.specs.Cut.{cut}
use Rattle.planner_nodes.specs.Nodes.{nodes_of, with_noted}
use Rattle.planner_nodes.proofs.Stores.{stored_run_noted}
use Rattle.planner_combination.proofs.event.note_counts.Goals as goal

noted : (s : List ℕ) (k : ℕ) → k < 6 → length s ≡ 216 → length (nodes_of s).passed ≡ 8 →
    nodes_of (copy_within s 8 16 (40 + k * 8)) ≡ with_noted (sets (nodes_of s).noted (k * 8) (nodes_of s).passed) (nodes_of s)
unfolding nodes_of cut
noted s k l long many =
    let vs : List ℕ = take 8 (drop 8 s) in
    let h : length vs ≡ 8 = many in
    let q : 40 + k * 8 + length vs ≡ 40 + k * 8 + 8 = ap (λ (n : ℕ). 40 + k * 8 + n) h in
    let e : copy_within s 8 16 (40 + k * 8) ≡ sets s (40 + k * 8) vs =
    sym (sets-eq vs s (40 + k * 8) (omega (arith, h, l, long)) ∙ ap (λ (n : ℕ). (take (40 + k * 8) s ++ vs) ++ drop n s) q) in
    ap nodes_of e ∙ stored_run_noted vs s (k * 8) (omega (arith, h, l))

pub returns : goal.returns
returns c = let a = c.args in ap nodes_of c.copy_within.ensures.after ∙ noted a.nodes.now a.k c.requires.0 c.told-nodes c.requires.1
