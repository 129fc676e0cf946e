-- `planner_sends::pending_broadcasts` meets its contract: those taken, and those of the members left that are ready, are
-- those of all the conditions that the node decides.
use Rattle.std.specs.Prelude.{if◌then◌else◌}
use mathlib.Core.Path.{◌≡◌, sym, ap, ◌∙◌}
use mathlib.Core.Bool.{Bool, true, false}
use Prim.Native.Nat.{ℕ, ◌+◌, ◌-◌, ◌<◌}
use native.Mathlib.Omega.{arith}
use lib.ListN.{get_or}
use Rattle.bitset.specs.Masks.{passing}
use Rattle.bitset.proofs.Built.{built_small}
use Rattle.bitset.proofs.Passing.{passing_next, passing_none}
use Rattle.plan_index.specs.Index.{laid}
use Rattle.log_rows.specs.Rows.{rows_of}
use Rattle.planner_sends.specs.Pending.{ready_to_broadcast, waits_to_broadcast}
use Rattle.planner_sends.proofs.Scan.{member_small}
use Rattle.planner_sends.proofs.Decided.{decided_pending}
use Rattle.planner_sends.proofs.broadcasts.pending_broadcasts.Goals as goal
use Rattle.planner_sends.proofs.broadcasts.pending_broadcasts.Goals.{After-lowest-k, After-ready_to_broadcast, Start}

-- the broadcasts that are ready
abbrev ready : Start → ℕ → Bool
ready s = let a = s.args in ready_to_broadcast (laid a.index.now) (rows_of a.rows.now) a.u

-- the mask of those of the node that are
pending : (s : Start) → let a = s.args in
    passing (ready s) (get_or (laid a.index.now).decides a.n 0) < 64
pending s =
    let a = s.args in
    omega (
      arith,
      decided_pending (laid a.index.now) (rows_of a.rows.now) a.n a.u s.requires.0 s.requires.1 s.requires.2,
      built_small (waits_to_broadcast (laid a.index.now) (rows_of a.rows.now) a.n a.u) 0 (laid a.index.now).conditions 6 s.requires.1.few_conditions,
    )

pub loop-left-init : goal.loop-left-init
loop-left-init c = (c.decides_of-left.ensures.1, omega (arith, ap (passing (ready c.before)) c.decides_of-left.ensures.0))

-- the lowest member is a condition
condition : (c : After-lowest-k) → c.lowest-k.result < 6
condition c = member_small c.loop-left.left c.lowest-k.result c.lowest-k.ensures

pub overflow_cast-k : goal.overflow_cast-k
overflow_cast-k c = omega (arith, condition c)

pub ready_to_broadcast-requires : goal.ready_to_broadcast-requires
ready_to_broadcast-requires c =
    (condition c.before, c.requires.1)

-- one member more is looked at
next : (c : After-ready_to_broadcast) (b : Bool) → c.ready_to_broadcast.result ≡ b →
    let f = ready c.before.before.before.before.before.before in
    (if b then c.loop-left.mask + (c.loop-left.left - c.without_lowest-rest.result) else c.loop-left.mask) + passing f c.without_lowest-rest.result
    ≡ c.loop-left.mask + passing f c.loop-left.left
next c b e =
    passing_next c.loop-left.left c.without_lowest-rest.result c.lowest-k.result c.loop-left.invariant.0 c.without_lowest-rest.ensures.1 c.lowest-k.ensures c.without_lowest-rest.ensures.0
    (ready c.before.before.before.before.before.before) c.loop-left.mask b (sym c.ready_to_broadcast.ensures ∙ e)

pub overflow_add-mask : goal.overflow_add-mask
overflow_add-mask c =
    omega (arith, c.loop-left.invariant, pending c.before.before.before.before.before.before.before)

pub loop-left-preserved-then-ready_to_broadcast : goal.loop-left-preserved-then-ready_to_broadcast
loop-left-preserved-then-ready_to_broadcast c =
    (omega (arith, c.without_lowest-rest.ensures.1, c.loop-left.invariant.0), next c.before true c.if-ready_to_broadcast.true ∙ c.loop-left.invariant.1)

pub loop-left-preserved : goal.loop-left-preserved
loop-left-preserved c =
    (omega (arith, c.without_lowest-rest.ensures.1, c.loop-left.invariant.0), next c.before false c.if-ready_to_broadcast.false ∙ c.loop-left.invariant.1)

pub returns : goal.returns
returns c =
    let a = c.args in
    let z : c.loop-left.left ≡ 0 = omega (arith, c.loop-left-test.false) in
    let none = ap (passing (ready c.before.before.before)) z ∙ passing_none (ready c.before.before.before) in
    let all : c.loop-left.mask ≡ passing (ready c.before.before.before) (get_or (laid a.index.now).decides a.n 0) = omega (arith, c.loop-left.invariant.1, none) in
    all ∙ decided_pending (laid a.index.now) (rows_of a.rows.now) a.n a.u c.requires.0 c.requires.1 c.requires.2
