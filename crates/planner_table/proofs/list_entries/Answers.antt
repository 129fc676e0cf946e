-- `planner_table::list_entries` meets its contract: the entries listed from the logs are those of the table.
use mathlib.Core.Path.{◌≡◌, ap, ◌∙◌}
use Prim.Native.Nat.{ℕ, ◌^◌}
use Rattle.plan_index.specs.Index.{laid}
use Rattle.plan_layout.proofs.Bounds.{bounded}
use Rattle.planner_table.proofs.Entering.{all_readable, entered}
use Rattle.planner_table.proofs.list_entries.Goals as goal
use Rattle.planner_table.proofs.list_entries.Goals.{After-how_many-combinations}

pub conditions_of-requires : goal.conditions_of-requires
conditions_of-requires c = let d = c.requires.0 in bounded d.plan _ d.indexed

-- how many combinations there are
count : (n : After-how_many-combinations) → n.how_many-combinations.result ≡ 2 ^ (laid n.args.index.now).conditions
count n = n.how_many-combinations.ensures.0 ∙ ap (λ (k : ℕ). 2 ^ k) n.conditions_of.ensures.0

pub all_entries-requires : goal.all_entries-requires
all_entries-requires c =
    let a = c.args in
    let d = c.requires.0 in (
      bounded d.plan _ d.indexed,
      c.how_many-combinations.ensures.1,
      c.requires.1,
      c.requires.2,
      all_readable (laid a.index.now) a.comes.now a.place.now a.since.now d c.how_many-combinations.result (count c.before.before),
    )

pub returns : goal.returns
returns c =
    let a = c.args in
    entered (laid a.index.now) a.comes.now a.place.now a.since.now c.how_many-combinations.result (count c.before.before.before) _ _ _ c.all_entries.ensures
