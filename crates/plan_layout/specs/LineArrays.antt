-- Arrays by process and by edge, worked out of a plan's columns and orders number by number.
-- Assumes nothing.
use Rattle.std.specs.Prelude.{List, ℕ, suc, ◌+◌, eqb, ltb, if◌then◌else◌}
use Rattle.lists.specs.Lists.{fill}
use Rattle.plan.specs.Tests.{at}

-- one more than the node that receives, 0 where it is the node that sends
abbrev pub receiver_of : ℕ → ℕ → ℕ
receiver_of a b = if eqb a b then 0 else suc b

-- the row that makes a `when` of this kind known: the sender's where it is always met, else that of its condition's
-- broadcast
abbrev pub knownby_of : ℕ → ℕ → ℕ → ℕ
knownby_of kind from row = if eqb kind 0 then from else row

-- 1 where a process says `any` and the places of the edges into it are not none
abbrev pub as_any_of : ℕ → ℕ → ℕ → ℕ
as_any_of any first end = if eqb any 0 then 0 else if ltb first end then 1 else 0

-- by process and by edge, for the first of them
unfoldable pub as_any_by_process : List ℕ → List ℕ → ℕ → List ℕ
as_any_by_process any first processes = fill 64 (λ i. as_any_of (at any i) (at first i) (at first (i + 1))) processes

unfoldable pub known_rows_by_edge : List ℕ → List ℕ → List ℕ → ℕ → ℕ → List ℕ
known_rows_by_edge kind condition from edges conditionrow = fill 128 (λ k. knownby_of (at kind k) (at from k) (conditionrow + at condition k)) edges

unfoldable pub remote_by_edge : List ℕ → List ℕ → List ℕ → ℕ → List ℕ
remote_by_edge node from to edges = fill 128 (λ k. receiver_of (at node (at from k)) (at node (at to k))) edges
