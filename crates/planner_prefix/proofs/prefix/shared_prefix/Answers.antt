-- `planner_prefix::shared_prefix` meets its contract: combination 0 finds rows and nodes as they were, each other one
-- fills them from its source.
use mathlib.Core.Path.{◌≡◌, refl, sym, ap, ◌∙◌, subst}
use mathlib.Core.List.{List}
use Prim.Native.Nat.{ℕ, ◌+◌, ◌*◌, ◌^◌, ◌<◌}
use native.Mathlib.Omega.{arith}
use lib.ListN.{length, replicate}
use lib.Seq.{sets, slice}
use Rattle.plan_index.specs.Index.{laid}
use Rattle.log_rows.specs.Rows.{rows_of, no_rows, with_run, with_unmet, with_comes, with_place}
use Rattle.log_rows.proofs.Stores.{all_cleared, front_cleared, comes_long, place_long}
use Rattle.planner_nodes.specs.Nodes.{nodes_of, no_nodes, with_busy, with_passed, with_noted}
use Rattle.table_entries.specs.Logs.{block}
use Rattle.planner_prefix.specs.declared.prefix.Source.{Source}
use Rattle.planner_prefix.specs.Prefix.{cut, ends_below, source_among, counts_from, notes_from, counts_at, begins, goes_on}
use Rattle.planner_prefix.proofs.Sources.{Sourced, sourced}
use Rattle.planner_prefix.proofs.LastEnds.{counts_within}
use Rattle.planner_prefix.proofs.Filling.{rows_filled, nodes_filled}
use Rattle.planner_prefix.proofs.prefix.shared_prefix.Goals as goal

-- the source is an earlier combination, which lacks one condition
given : (comes : List ℕ) (row n c : ℕ) (s : Source) → s ≡ source_among comes row c n → 0 < c → c < 2 ^ n → Sourced comes row n c s
given comes row n c s e z l = subst (Sourced comes row n c) (sym e) (sourced comes row c n z l)

pub returns-then-c-eq0 : goal.returns-then-c-eq0
returns-then-c-eq0 c =
    let r = ap rows_of c.clear.ensures ∙ all_cleared c.args.rows.now (omega arith) in
    let n = c.requires.4 in
    record {
      prefix = begins c.if-c-eq0.true refl (λ i. (r i).comes) (λ i. (r i).place) (λ i. (n i).busy) (λ i. (n i).passed) (λ i. (n i).noted);
      rows_rest = r ∙ sym (λ i. with_place (r i).place (with_comes (r i).comes no_rows));
      nodes_rest = n ∙ sym (λ i. with_noted (n i).noted (with_passed (n i).passed (with_busy (n i).busy no_nodes)));
    }

pub source_of-s-requires : goal.source_of-s-requires
source_of-s-requires c = (
  c.conditionrow_of.ensures.1,
  c.conditions_of.ensures.1,
  omega (arith, c.if-c-eq0.false),
  subst (λ (k : ℕ). c.args.c < 2 ^ k) (sym c.conditions_of.ensures.0) c.requires.1,
)

-- the rows, whose runs and `when`s are cleared
front-rows : (rows to : List ℕ) → length rows ≡ 588 → to ≡ sets rows 0 (replicate 192 0) → rows_of to ≡ with_run (replicate 64 0) (with_unmet (replicate 128 0) (rows_of rows))
front-rows rows to l e = ap rows_of e ∙ front_cleared rows l

pub cut_rows-requires : goal.cut_rows-requires
cut_rows-requires c =
    let g = given c.args.comes.now c.conditionrow_of.result c.conditions_of.result c.args.c c.source_of-s.result c.source_of-s.ensures (omega (arith, c.if-c-eq0.false)) (subst (λ (k : ℕ). c.args.c < 2 ^ k) (sym c.conditions_of.ensures.0) c.requires.1) in
    let low : c.source_of-s.result.from < 64 = omega (arith, g.without, c.requires.0) in
    let long : length c.args.rows.now ≡ 588 = omega arith in
    let front = front-rows c.args.rows.now c.clear-2.new.to long c.clear-2.ensures in
    (low, c.requires.2, (λ i. length (front i).comes) ∙ comes_long c.args.rows.now long)

pub overflow_mul-from : goal.overflow_mul-from
overflow_mul-from c =
    let g = given c.args.comes.now c.conditionrow_of.result c.conditions_of.result c.args.c c.source_of-s.result c.source_of-s.ensures (omega (arith, c.if-c-eq0.false)) (subst (λ (k : ℕ). c.args.c < 2 ^ k) (sym c.conditions_of.ensures.0) c.requires.1) in
    let low : c.source_of-s.result.from < 64 = omega (arith, g.without, c.requires.0) in
    omega (arith, low)

pub copy_numbers-requires : goal.copy_numbers-requires
copy_numbers-requires c =
    let g = given c.args.comes.now c.conditionrow_of.result c.conditions_of.result c.args.c c.source_of-s.result c.source_of-s.ensures (omega (arith, c.if-c-eq0.false)) (subst (λ (k : ℕ). c.args.c < 2 ^ k) (sym c.conditions_of.ensures.0) c.requires.1) in
    let low : c.source_of-s.result.from < 64 = omega (arith, g.without, c.requires.0) in
    (omega (arith, low, c.requires.3), omega arith)

pub last_ends-requires : goal.last_ends-requires
last_ends-requires c = (c.requires.2, λ i. (c.requires.4 i).busy)

pub place_of_counts-requires : goal.place_of_counts-requires
place_of_counts-requires c =
    let g = given c.args.comes.now c.conditionrow_of.result c.conditions_of.result c.args.c c.source_of-s.result c.source_of-s.ensures (omega (arith, c.if-c-eq0.false)) (subst (λ (k : ℕ). c.args.c < 2 ^ k) (sym c.conditions_of.ensures.0) c.requires.1) in
    let low : c.source_of-s.result.from < 64 = omega (arith, g.without, c.requires.0) in
    (low, omega (arith, g.condition_in, c.conditions_of.ensures.1))

pub copy_numbers-requires-2 : goal.copy_numbers-requires-2
copy_numbers-requires-2 c =
    let g = given c.args.comes.now c.conditionrow_of.result c.conditions_of.result c.args.c c.source_of-s.result c.source_of-s.ensures (omega (arith, c.if-c-eq0.false)) (subst (λ (k : ℕ). c.args.c < 2 ^ k) (sym c.conditions_of.ensures.0) c.requires.1) in
    let low : c.source_of-s.result.from < 64 = omega (arith, g.without, c.requires.0) in
    let within = counts_within c.source_of-s.result low (omega (arith, g.condition_in, c.conditions_of.ensures.1)) in
    (omega (arith, within, c.place_of_counts.ensures, c.slots_of.ensures.1), omega (arith, c.slots_of.ensures.1))

pub overflow_mul-from-2 : goal.overflow_mul-from-2
overflow_mul-from-2 c =
    let g = given c.args.comes.now c.conditionrow_of.result c.conditions_of.result c.args.c c.source_of-s.result c.source_of-s.ensures (omega (arith, c.if-c-eq0.false)) (subst (λ (k : ℕ). c.args.c < 2 ^ k) (sym c.conditions_of.ensures.0) c.requires.1) in
    let low : c.source_of-s.result.from < 64 = omega (arith, g.without, c.requires.0) in
    omega (arith, low)

pub copy_numbers-requires-3 : goal.copy_numbers-requires-3
copy_numbers-requires-3 c =
    let g = given c.args.comes.now c.conditionrow_of.result c.conditions_of.result c.args.c c.source_of-s.result c.source_of-s.ensures (omega (arith, c.if-c-eq0.false)) (subst (λ (k : ℕ). c.args.c < 2 ^ k) (sym c.conditions_of.ensures.0) c.requires.1) in
    let low : c.source_of-s.result.from < 64 = omega (arith, g.without, c.requires.0) in
    (omega (arith, low), omega arith)

pub returns : goal.returns
returns c =
    let a = c.args in
    let b = laid a.index.now in
    let source = c.source_of-s.result in
    let long : length a.rows.now ≡ 588 = omega arith in
    let g = given c.args.comes.now c.conditionrow_of.result c.conditions_of.result c.args.c c.source_of-s.result c.source_of-s.ensures (omega (arith, c.if-c-eq0.false)) (subst (λ (k : ℕ). c.args.c < 2 ^ k) (sym c.conditions_of.ensures.0) c.requires.1) in
    let low : c.source_of-s.result.from < 64 = omega (arith, g.without, c.requires.0) in
    let within = counts_within source low (omega (arith, g.condition_in, c.conditions_of.ensures.1)) in
    let named : source ≡ source_among a.comes.now b.conditionrow a.c b.conditions =
    c.source_of-s.ensures ∙ (λ i. source_among a.comes.now (c.conditionrow_of.ensures.0 i) a.c (c.conditions_of.ensures.0 i)) in
    let rows : rows_of c.copy_numbers.new.to ≡ with_place (block a.place.now source.from) (with_comes (cut (block a.comes.now source.from) b.span source.clock) no_rows) =
    ap rows_of c.copy_numbers.ensures
    ∙ rows_filled a.rows.now c.clear-2.new.to c.cut_rows.new.rows a.place.now (cut (block a.comes.now source.from) b.span source.clock) source.from (place_long a.rows.now long) (front-rows a.rows.now c.clear-2.new.to long c.clear-2.ensures) c.cut_rows.ensures
    (omega (arith, low, c.requires.3)) in
    let ends : List ℕ = ends_below b.node (rows_of c.copy_numbers.new.to).comes b.processes in
    let nodes : nodes_of c.copy_numbers-3.new.to ≡ with_noted (notes_from a.notes.now (source.from * 56)) (with_passed (counts_from a.notes.now c.place_of_counts.result c.slots_of.result) (with_busy ends no_nodes)) =
    ap nodes_of (c.copy_numbers-3.ensures ∙ ap (λ (xs : List ℕ). sets xs 40 (slice (source.from * 56) (source.from * 56 + 48) a.notes.now)) c.copy_numbers-2.ensures)
    ∙ nodes_filled a.nodes.now c.last_ends.new.nodes a.notes.now ends c.place_of_counts.result c.slots_of.result source.from c.requires.4 c.last_ends.ensures c.slots_of.ensures.1
    (omega (arith, within, c.place_of_counts.ensures, c.slots_of.ensures.1)) (omega (arith, low)) in
    record {
      prefix = goes_on (omega (arith, c.if-c-eq0.false))
          record {
            until = ap (λ (x : Source). x.clock) named;
            rows_cut = (λ i. (rows i).comes) ∙ ap (λ (x : Source). cut (block a.comes.now x.from) b.span x.clock) named;
            places_whole = (λ i. (rows i).place) ∙ ap (λ (x : Source). block a.place.now x.from) named;
            ends_last = λ i. (nodes i).busy;
            counts_then = (λ i. (nodes i).passed) ∙ (λ i. counts_from a.notes.now ((c.place_of_counts.ensures ∙ ap counts_at named) i) (c.slots_of.ensures.0 i));
            notes_then = (λ i. (nodes i).noted) ∙ ap (λ (x : Source). notes_from a.notes.now (x.from * 56)) named;
          };
      rows_rest = rows ∙ sym (λ i. with_place (rows i).place (with_comes (rows i).comes no_rows));
      nodes_rest = nodes ∙ sym (λ i. with_noted (nodes i).noted (with_passed (nodes i).passed (with_busy (nodes i).busy no_nodes)));
    }
