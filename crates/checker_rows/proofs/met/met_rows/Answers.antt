-- `checker_rows::met_rows` meets its contract: before each turn what is left of the table gives the whole arrays.
use mathlib.Core.Path.{◌≡◌, refl}
use mathlib.Core.List.{List}
use Prim.Native.Nat.{ℕ, ◌+◌, ◌*◌, ◌≤◌}
use native.Mathlib.Omega.{arith}
use lib.ListN.{length}
use Rattle.plan_index.specs.Index.{laid}
use Rattle.log_rows.specs.Rows.{Rows, rows_of}
use Rattle.checker_rows.specs.MetRows.{counted, ends, placed, column, entry_from, met_rows}
use Rattle.checker_rows.proofs.TableWords.{rowed_here, rowed_next, left_start, left_next, left_end, only_next, only_end}
use Rattle.checker_rows.proofs.met.met_rows.Goals as goal

pub loop-i-init : goal.loop-i-init
loop-i-init c =
    let a = c.args in
    let t : List ℕ = a.table.now in (
      omega arith,
      c.requires.fact_1.1,
      left_start t counted a.c c.zeros-count.ensures,
      left_start t column a.c c.zeros-known.ensures,
      left_start t (ends (laid a.index.now).span) a.c c.requires.fact_2.0,
      left_start t placed a.c c.requires.fact_2.1,
      refl,
    )

pub put_entry-requires : goal.put_entry-requires
put_entry-requires c =
    let room : c.loop-i.i * 5 + 5 ≤ length c.args.table.now = omega arith in
    let here = rowed_here c.args.table.now (c.loop-i.i * 5) room c.loop-i.invariant.1 in
    (room, here.0, here.1, c.requires.fact_1.2)

pub loop-i-preserved : goal.loop-i-preserved
loop-i-preserved c =
    let a = c.args in
    let t : List ℕ = a.table.now in
    let h = c.loop-i.invariant in
    let at : ℕ = c.loop-i.i * 5 in
    let room : at + 5 ≤ length t = omega arith in
    let next : at + 5 ≡ (c.loop-i.i + 1) * 5 = omega arith in
    let span : List ℕ = (laid a.index.now).span in
    let r : Rows = rows_of c.loop-i.rows in
    let e = c.put_entry.ensures in (
      omega arith,
      rowed_next t at room next h.1,
      left_next t counted a.c at c.loop-i.count room next e.0 h.2,
      left_next t column a.c at c.loop-i.known room next e.1 h.3,
      left_next t (ends span) a.c at r.comes room next (λ i. (e.2 i).comes) h.4,
      left_next t placed a.c at r.place room next (λ i. (e.2 i).place) h.5,
      only_next span a.c (entry_from t at) (rows_of a.rows.now) r e.2 h.6,
    )

pub returns : goal.returns
unfolding met_rows
returns c =
    let a = c.args in
    let t : List ℕ = a.table.now in
    let h = c.loop-i.invariant in
    let at : ℕ = c.loop-i.i * 5 in
    let n : length t ≤ at = omega arith in (
      λ i. record { count = left_end t counted a.c at n h.2 i; known = left_end t column a.c at n h.3 i },
      only_end (rows_of a.rows.now) h.6 (left_end t (ends (laid a.index.now).span) a.c at n h.4) (left_end t placed a.c at n h.5),
    )
