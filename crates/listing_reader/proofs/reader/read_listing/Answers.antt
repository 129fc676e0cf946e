-- `read_listing` gives what the text states for a plan: the lines are read into words of its own, and copied from
-- there.
use native.Mathlib.Omega.{arith}
use lib.ListN.{replicate}
use Rattle.limits.specs.Limits.{NODES, PRINTEDWORDS, PRINTEDFRAMEWORDS}
use Rattle.listing_scanner.specs.Lines.{Few}
use Rattle.listing_reader.specs.Runs.{Lines-stated}
use Rattle.listing_reader.proofs.AnswersForPlan.{few, counts_of, refused_for, stated_for}
use borrow.Author.Rules.{rules}
use Rattle.listing_reader.proofs.reader.read_listing.Goals as goal

-- refused: the lent words are as they were
pub returns-in_default : goal.returns-in_default
returns-in_default c p fine k = refused_for p fine k c.in_default.ensures

pub overflow_cast-counts : goal.overflow_cast-counts
overflow_cast-counts c =
    let f = few c.requires.fact_1 in
    let l = f.0 in
    search rules

pub overflow_cast-counts-2 : goal.overflow_cast-counts-2
overflow_cast-counts-2 c =
    let f = few c.requires.fact_1 in
    let l = f.1 in
    search rules

pub overflow_cast-counts-3 : goal.overflow_cast-counts-3
overflow_cast-counts-3 c =
    let f = few c.requires.fact_1 in
    let l = f.2 in
    search rules

pub overflow_cast-counts-4 : goal.overflow_cast-counts-4
overflow_cast-counts-4 c =
    let f = few c.requires.fact_1 in
    let l = f.3 in
    search rules

pub read_lines-requires : goal.read_lines-requires
read_lines-requires c =
    let f = few c.requires.fact_1 in
    let q : Few (counts_of _ _ _ _) = record { slots = f.0; processes = f.1; edges = f.2; conditions = f.3 } in
    search rules

pub copy_part-requires-3 : goal.copy_part-requires-3
copy_part-requires-3 c =
    let f = few c.requires.fact_1 in
    let l = f.0 in
    search rules

-- what the lines state, in the function's own words
pub returns : goal.returns
returns c p fine k =
    let few = (few c.requires.fact_1).0 in
    let room = c.requires.fact_2 in
    let h : Lines-stated c.args.text.now (counts_of c.args.slots c.args.processes c.args.edges c.args.conditions)
    (replicate PRINTEDWORDS 1) (replicate PRINTEDFRAMEWORDS 1) (replicate NODES 1)
    c.read_lines.new.table c.read_lines.new.frames c.read_lines.new.passed c.in-Some.s
    = c.in-Some.ensures in
    stated_for p fine k h (omega (arith, h.few_words, room.0)) (omega (arith, h.few_framewords, room.1)) (search (rules, few)) c.copy_part.ensures c.copy_part-2.ensures c.copy_part-3.ensures
