-- What is copied into cleared rows and nodes that were empty is all that they hold.
-- Assumes nothing.
use mathlib.Core.Path.{◌≡◌, refl, sym, ◌∙◌}
use mathlib.Core.List.{List}
use Prim.Native.Nat.{ℕ, ◌+◌, ◌*◌, ◌≤◌}
use native.Mathlib.Omega.{arith}
use lib.ListN.{length, replicate}
use lib.Seq.{sets, slice, length-slice}
use Rattle.lists.proofs.Fill.{fill_part}
use Rattle.lists.proofs.Stores.{sets_whole}
use Rattle.log_rows.specs.Rows.{rows_of, no_rows, with_run, with_unmet, with_comes, with_place}
use Rattle.log_rows.proofs.Stores.{stored_places}
use Rattle.planner_nodes.specs.Nodes.{nodes_of, no_nodes, with_busy, with_passed, with_noted}
use Rattle.planner_nodes.proofs.Stores.{stored_run_passed, stored_run_noted}
use Rattle.table_entries.specs.Logs.{block}
use Rattle.planner_prefix.specs.Prefix.{counts_from, notes_from}

pub rows_filled : (before cleared ended place xs : List ℕ) (d : ℕ) → length (rows_of before).place ≡ 198 →
    rows_of cleared ≡ with_run (replicate 64 0) (with_unmet (replicate 128 0) (rows_of before)) → rows_of ended ≡ with_comes xs (rows_of cleared) → d * 198 + 198 ≤ length place →
    rows_of (sets ended 390 (block place d)) ≡ with_place (block place d) (with_comes xs no_rows)
rows_filled before cleared ended place xs d z c e l =
    let long : length (block place d) ≡ 198 = omega (arith, length-slice (d * 198) (d * 198 + 198) place l) in
    let q : rows_of ended ≡ with_comes xs (with_run (replicate 64 0) (with_unmet (replicate 128 0) (rows_of before))) = e ∙ (λ i. with_comes xs (c i)) in
    let whole : sets (rows_of before).place 0 (block place d) ≡ block place d = sets_whole (block place d) (rows_of before).place (long ∙ sym z) in
    stored_places (block place d) ended 0 (omega (arith, long)) ∙ (λ i. with_place (sets (q i).place 0 (block place d)) (q i)) ∙ (λ i. with_place (whole i) (with_comes xs no_rows))

pub nodes_filled : (before ended notes xs : List ℕ) (at slots d : ℕ) → nodes_of before ≡ no_nodes → nodes_of ended ≡ with_busy xs (nodes_of before) → slots ≤ 8 → at + slots ≤ length notes → d * 56 + 48 ≤ length notes →
    nodes_of (sets (sets ended 8 (slice at (at + slots) notes)) 40 (slice (d * 56) (d * 56 + 48) notes)) ≡ with_noted (notes_from notes (d * 56)) (with_passed (counts_from notes at slots) (with_busy xs no_nodes))
unfolding counts_from notes_from
nodes_filled before ended notes xs at slots d z e u l m =
    let counts : List ℕ = slice at (at + slots) notes in
    let noted : List ℕ = slice (d * 56) (d * 56 + 48) notes in
    let counted : List ℕ = sets ended 8 counts in
    let few : length counts ≡ slots = omega (arith, length-slice at (at + slots) notes l) in
    let many : length noted ≡ 48 = omega (arith, length-slice (d * 56) (d * 56 + 48) notes m) in
    let q : nodes_of ended ≡ with_busy xs no_nodes = e ∙ (λ i. with_busy xs (z i)) in
    let r : nodes_of counted ≡ with_passed (counts_from notes at slots) (with_busy xs no_nodes) =
    stored_run_passed counts ended 0 (omega (arith, few, u))
    ∙ (λ i. with_passed (sets (q i).passed 0 counts) (q i))
    ∙ (λ i. with_passed (fill_part 8 notes at slots {zeros = replicate 8 0} refl u l i) (with_busy xs no_nodes)) in
    stored_run_noted noted counted 0 (omega (arith, many))
    ∙ (λ i. with_noted (sets (r i).noted 0 noted) (r i))
    ∙ (λ i. with_noted (fill_part 48 notes (d * 56) 48 {zeros = replicate 48 0} refl (omega arith) m i) (with_passed (counts_from notes at slots) (with_busy xs no_nodes)))
