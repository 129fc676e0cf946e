-- `planner_combination::plan_combination` meets its contract: each turn of the loop is the next event, by what is kept
-- from event to event, and so what the last moment leads to the first one leads to.
use mathlib.Core.Path.{refl, sym, ap, subst}
use Prim.Native.Nat.{◌≤◌}
use native.Mathlib.Omega.{arith}
use Rattle.plan_index.specs.Index.{laid}
use Rattle.log_rows.specs.Rows.{Rows, rows_of}
use Rattle.planner_nodes.specs.Nodes.{Nodes, nodes_of}
use Rattle.planner_combination.specs.Events.{Moment, Leads, over, from_clock}
use Rattle.planner_combination.specs.Planning.{moment_of}
use Rattle.planner_combination.proofs.EventParts.{next_later}
use Rattle.planner_combination.proofs.RunBegins.{Come, at_start, come_start, at_event, moved, come_on}
use Rattle.planner_combination.proofs.combination.plan_combination.Goals as goal

pub begin_nodes-requires : goal.begin_nodes-requires
begin_nodes-requires c = let p = c.requires.1 in (p.no_nextsend, p.no_arrival)

pub loop-at-init : goal.loop-at-init
loop-at-init c =
    let a = c.args in
    let s : Rows = rows_of a.rows.now in
    let q = c.begin_nodes.ensures in
    subst
    (λ (x : Nodes).
    Come (laid a.index.now) s.unmet (from_clock a.start x.busy s.comes s.place x.passed x.noted) (at_start a.start) s (nodes_of c.begin_nodes.new.nodes))
    (sym q) (come_start (laid a.index.now) c.requires.0 a.start s (nodes_of a.nodes.now) c.requires.1 _ q)

pub event-at-requires : goal.event-at-requires
event-at-requires c =
    (c.requires.0, at_event (laid c.args.index.now) c.requires.0 _ _ c.loop-at.at (rows_of c.loop-at.rows) (nodes_of c.loop-at.nodes) c.loop-at.invariant (omega (arith, c.loop-at-test.true)))

pub loop-at-smaller : goal.loop-at-smaller
loop-at-smaller c =
    let b = laid c.args.index.now in
    let low : c.loop-at.at.u ≤ 1000000000 = omega (arith, c.loop-at-test.true) in
    let on = moved b c.requires.0 _ _ c.loop-at.at (rows_of c.loop-at.rows) (nodes_of c.loop-at.nodes) c.loop-at.invariant low _ _ _ c.event-at.ensures in
    omega (arith, ap (λ (m : Moment). m.u) on, next_later b (rows_of c.args.rows.now).unmet c.requires.0 (moment_of c.loop-at.at (rows_of c.loop-at.rows) (nodes_of c.loop-at.nodes)) low, c.loop-at-test.true)

pub loop-at-preserved : goal.loop-at-preserved
loop-at-preserved c =
    come_on (laid c.args.index.now) c.requires.0 _ _ c.loop-at.at (rows_of c.loop-at.rows) (nodes_of c.loop-at.nodes) c.loop-at.invariant (omega (arith, c.loop-at-test.true)) _ _ _ c.event-at.ensures

pub returns : goal.returns
returns c =
    let a = c.args in
    let s : Rows = rows_of a.rows.now in
    let m : Moment = moment_of c.loop-at.at (rows_of c.loop-at.rows) (nodes_of c.loop-at.nodes) in
    record {
      end = m;
      leads =
          subst (λ (x : Nodes). Leads (laid a.index.now) s.unmet (from_clock a.start x.busy s.comes s.place x.passed x.noted) m) c.begin_nodes.ensures
          (c.loop-at.invariant.going.leads m (over m (omega (arith, c.loop-at-test.false))));
      rows = refl;
      places = refl;
      counts = refl;
      notes_end = refl;
    }
