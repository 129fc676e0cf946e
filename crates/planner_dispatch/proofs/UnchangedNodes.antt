-- A process for which nothing has changed can start just where it could before (`idle_stays`); the start of a node with
-- nothing new changes nothing after the nodes before it have started (`old_then`); after the starts no process of a
-- free node can start (`starts_idle`).
-- Assumes nothing.
use Rattle.std.specs.Prelude.{if◌then◌else◌}
use mathlib.Core.Path.{◌≡◌, refl, sym, ap, ◌∙◌, subst}
use mathlib.Core.Logic.{◌⊎◌, inl, inr}
use mathlib.Core.Bool.{Bool, true, false, not, ◌&&◌, ◌||◌}
use mathlib.Core.List.{List, Memᴰ as In}
use Prim.Native.Nat.{ℕ, zero, suc, ◌+◌, ◌≤◌, ◌<◌}
use native.Mathlib.Nat.{not-suc-le-zero}
use native.Mathlib.Omega.{arith}
use lib.Dec.{eqb, leb, ltb}
use lib.ListN.{length, get_or, set, length-set}
use lib.Seq.{set_out, get_or-set_other}
use borrow.Author.Tests.{leb-true, ltb-true, ltb-false}
use Rattle.lists.proofs.Tests.{two, below_suc}
use Rattle.lists.proofs.Members.{any_same, all_same}
use Rattle.model.specs.Listing.{bit}
use Rattle.log_queries.specs.Reading.{came_by, edges_into, message_by, delivered_by, never_by, settled_by, ready_by}
use Rattle.planner_dispatch.specs.Starts.{Ends, can_start, start_by, starts_by}
use Rattle.planner_dispatch.specs.Unchanged.{Idle, Unchanged}
use Rattle.planner_dispatch.proofs.Ends.{set_there, came_start}
use Rattle.planner_dispatch.proofs.Steps.{step_busy, idle_step, Stepped, stays, begins, stepped}

-- a process that ends after the clock starts: what has come by the clock stays
came_after : (comes : List ℕ) (u i end : ℕ) → u < end → get_or comes i 0 ≡ 0 → came_by (set comes i end) u ≡ came_by comes u
came_after comes u i end high fresh = by (two (ltb i (length comes)))
  where
    by : (ltb i (length comes) ≡ true) ⊎ (ltb i (length comes) ≡ false) → came_by (set comes i end) u ≡ came_by comes u
    by (inl e) = came_start comes u i end (ltb-true i (length comes) e) high fresh
    by (inr e) = ap (λ (xs : List ℕ). came_by xs u) (set_out comes i end (ltb-false i (length comes) e))

-- What process i waits for is the same at clock v with the rows `comes` and at clock u with the rows `comes'`: whether
-- it has started; of an edge into it between nodes, whether its item has arrived; of one within its node, whether the
-- sender is over; and whether the `when` of an edge within its node, or of an unmet one, is known.
pub record Alike (processes : ℕ) (remote from knownby unmet intofirst into : List ℕ) (v u : ℕ) (comes comes' : List ℕ) (i : ℕ) : Type 0 where
  pub fresh : eqb (get_or comes' i 0) 0 ≡ eqb (get_or comes i 0) 0
  pub arrived : (e : ℕ) → In e (edges_into intofirst into i) → eqb (get_or remote e 0) 0 ≡ false → came_by comes' u (processes + e) ≡ came_by comes v (processes + e)
  pub ended : (e : ℕ) → In e (edges_into intofirst into i) → eqb (get_or remote e 0) 0 ≡ true → came_by comes' u (get_or from e 0) ≡ came_by comes v (get_or from e 0)
  pub known : (e : ℕ) → In e (edges_into intofirst into i) → (eqb (get_or remote e 0) 0 ≡ true) ⊎ (eqb (get_or unmet e 0) 0 ≡ false) →
      came_by comes' u (get_or knownby e 0) ≡ came_by comes v (get_or knownby e 0)

module _ (processes : ℕ) (remote from knownby unmet run asany intofirst into : List ℕ) where
  module _ (v u : ℕ) (comes comes' : List ℕ) (i : ℕ) (a : Alike processes remote from knownby unmet intofirst into v u comes comes' i) where
    delivered_stays : (e : ℕ) → In e (edges_into intofirst into i) → delivered_by from knownby unmet comes' u processes remote e ≡ delivered_by from knownby unmet comes v processes remote e
    unfolding delivered_by message_by
    delivered_stays e m = by (two (eqb (get_or remote e 0) 0))
      where
        by : (eqb (get_or remote e 0) 0 ≡ true) ⊎ (eqb (get_or remote e 0) 0 ≡ false) →
            (if eqb (get_or remote e 0) 0 then (eqb (get_or unmet e 0) 0 && (came_by comes' u (get_or from e 0) && came_by comes' u (get_or knownby e 0))) else came_by comes' u (processes + e))
            ≡ (if eqb (get_or remote e 0) 0 then (eqb (get_or unmet e 0) 0 && (came_by comes v (get_or from e 0) && came_by comes v (get_or knownby e 0))) else came_by comes v (processes + e))
        by (inl t) = rw t (λ j. eqb (get_or unmet e 0) 0 && (a.ended e m t j && a.known e m (inl t) j))
        by (inr t) = rw t (a.arrived e m t)

    never_stays : (e : ℕ) → In e (edges_into intofirst into i) → never_by from knownby unmet comes' u run e ≡ never_by from knownby unmet comes v run e
    unfolding never_by
    never_stays e m = ap (λ (b : Bool). eqb (get_or run (get_or from e 0) 0) 0 || b) (by (two (eqb (get_or unmet e 0) 0)))
      where
        by : (eqb (get_or unmet e 0) 0 ≡ true) ⊎ (eqb (get_or unmet e 0) 0 ≡ false) →
            (not (eqb (get_or unmet e 0) 0) && came_by comes' u (get_or knownby e 0)) ≡ (not (eqb (get_or unmet e 0) 0) && came_by comes v (get_or knownby e 0))
        by (inl t) = rw t refl
        by (inr t) = ap (λ (b : Bool). not (eqb (get_or unmet e 0) 0) && b) (a.known e m (inr t))

    ready_stays : ready_by from knownby unmet comes' u processes remote run asany intofirst into i ≡ ready_by from knownby unmet comes v processes remote run asany intofirst into i
    unfolding ready_by settled_by
    ready_stays =
        let edges : List ℕ = edges_into intofirst into i in
        let some = any_same (delivered_by from knownby unmet comes' u processes remote) (delivered_by from knownby unmet comes v processes remote) edges delivered_stays in
        let each = all_same (delivered_by from knownby unmet comes' u processes remote) (delivered_by from knownby unmet comes v processes remote) edges delivered_stays in
        let settled =
        all_same (λ e. delivered_by from knownby unmet comes' u processes remote e || never_by from knownby unmet comes' u run e)
        (λ e. delivered_by from knownby unmet comes v processes remote e || never_by from knownby unmet comes v run e) edges (λ e m j. delivered_stays e m j || never_stays e m j) in
        λ j. if not (eqb (get_or asany i 0) 0) then (some j && settled j) else each j

    -- a process for which nothing has changed can start just where it could
    pub idle_stays : can_start processes remote from knownby unmet run asany intofirst into u comes' i ≡ can_start processes remote from knownby unmet run asany intofirst into v comes i
    unfolding can_start
    idle_stays = λ j. a.fresh j && ready_stays j

  -- where the same rows are over, and the process has started in both or in neither
  pub alike_rows : (u : ℕ) (comes comes' : List ℕ) (i : ℕ) → eqb (get_or comes' i 0) 0 ≡ eqb (get_or comes i 0) 0 → came_by comes' u ≡ came_by comes u →
      Alike processes remote from knownby unmet intofirst into u u comes comes' i
  alike_rows u comes comes' i f c =
      record {
        fresh = f;
        arrived = λ e m t. ap (λ (d : ℕ → Bool). d (processes + e)) c;
        ended = λ e m t. ap (λ (d : ℕ → Bool). d (get_or from e 0)) c;
        known = λ e m t. ap (λ (d : ℕ → Bool). d (get_or knownby e 0)) c;
      }

  module _ (u : ℕ) (dispatchfirst dispatch ticks : List ℕ) where
    abbrev step : ℕ → Ends → Ends
    step = start_by processes remote from knownby unmet run asany intofirst into u dispatchfirst dispatch ticks

    abbrev can : List ℕ → ℕ → Bool
    can = can_start processes remote from knownby unmet run asany intofirst into u

    abbrev idle_at : List ℕ → ℕ → Type 0
    idle_at = Idle processes remote from knownby unmet run asany intofirst into u dispatchfirst dispatch

    abbrev stepped_at : ℕ → Ends → Type 0
    stepped_at = Stepped processes remote from knownby unmet run asany intofirst into u dispatchfirst dispatch ticks

    module _ (slots new : ℕ) (busy comes : List ℕ) (low : (j : ℕ) → get_or dispatch j 0 < 64)
        (q : Unchanged processes slots remote from knownby unmet run asany intofirst into dispatchfirst dispatch ticks u new busy comes) where
      abbrev after : ℕ → Ends
      after n = starts_by processes remote from knownby unmet run asany intofirst into u dispatchfirst dispatch ticks n (record { busy = busy; comes = comes })

      step_at : (n : ℕ) (s : Ends) → stepped_at n s
      step_at n s = stepped processes remote from knownby unmet run asany intofirst into u dispatchfirst dispatch ticks n s low

      -- process x, at place j in the dispatch order of node n, starts
      module _ (n : ℕ) (l : n < slots) (rows : List ℕ) (x j : ℕ) (a : get_or dispatchfirst n 0 ≤ j) (b : j < get_or dispatchfirst (n + 1) 0) (e : x ≡ get_or dispatch j 0) where
        abbrev end : ℕ
        end = u + get_or ticks x 0

        high : u < end
        high = omega (arith, q.ticks_one x (omega (arith, e, q.members n j l a b)))

        -- what has come by the clock stays, and the rows of the other nodes' processes
        came_begun : get_or rows x 0 ≡ 0 → came_by (set rows x end) u ≡ came_by rows u
        came_begun = came_after rows u x end high

        row_begun : (m k : ℕ) → (n ≡ m → ⊥) → m < slots → get_or dispatchfirst m 0 ≤ k → k < get_or dispatchfirst (m + 1) 0 →
            get_or (set rows x end) (get_or dispatch k 0) 0 ≡ get_or rows (get_or dispatch k 0) 0
        row_begun m k d o f g = get_or-set_other rows x (get_or dispatch k 0) end 0 (λ w. d (q.own n m j k l o a b f g (sym e ∙ sym w)))

      -- After the starts of the nodes below n: the nodes from n on are as before, and so are the rows of their
      -- processes and what has come by the clock.
      record SoFar (n : ℕ) (s : Ends) : Type 0 where
        came : came_by s.comes u ≡ came_by comes u
        later_rows : (m j : ℕ) → n ≤ m → m < slots → get_or dispatchfirst m 0 ≤ j → j < get_or dispatchfirst (m + 1) 0 → get_or s.comes (get_or dispatch j 0) 0 ≡ get_or comes (get_or dispatch j 0) 0
        later_nodes : (m : ℕ) → n ≤ m → get_or s.busy m 0 ≡ get_or busy m 0

      next : (n : ℕ) → n < slots → (s : Ends) → SoFar n s → stepped_at n s → SoFar (suc n) (step n s)
      next n l s z (stays h e) =
          subst (SoFar (suc n)) (sym e)
          (record { came = z.came; later_rows = λ m j r. z.later_rows m j (omega arith); later_nodes = λ m r. z.later_nodes m (omega arith) })
      next n l s z (begins x j a b e fresh made) =
          subst (SoFar (suc n)) (sym made)
          (record {
            came = came_begun n l s.comes x j a b e fresh ∙ z.came;
            later_rows = λ m k r o c d. row_begun n l s.comes x j a b e m k (λ w. absurd (omega arith)) o c d ∙ z.later_rows m k (omega arith) o c d;
            later_nodes = λ m r. get_or-set_other s.busy n m (u + get_or ticks x 0) 0 (λ w. absurd (omega arith)) ∙ z.later_nodes m (omega arith);
          })

      so_far : (n : ℕ) → n ≤ slots → SoFar n (after n)
      unfolding starts_by
      so_far zero l = record { came = refl; later_rows = λ m j r o a b. refl; later_nodes = λ m r. refl }
      so_far (suc n) l = next n (omega arith) (after n) (so_far n (omega arith)) (step_at n (after n))

      -- after the nodes below n have started, node n has nothing to start where nothing is new for it, and its start
      -- changes nothing
      idle_then : (n : ℕ) → n < slots → bit new n ≡ false → get_or (after n).busy n 0 ≤ u → idle_at (after n).comes n
      idle_then n l t b j c d =
          let z = so_far n (omega arith) in
          idle_stays u u comes (after n).comes (get_or dispatch j 0)
          (alike_rows u comes (after n).comes (get_or dispatch j 0) (ap (λ (x : ℕ). eqb x 0) (z.later_rows n j (omega arith) l c d)) z.came)
          ∙ q.idle n l t (omega (arith, z.later_nodes n (omega arith))) j c d

      pub old_then : (n : ℕ) → n < slots → bit new n ≡ false → step n (after n) ≡ after n
      old_then n l t = by (two (leb (get_or (after n).busy n 0) u))
        where
          by : (leb (get_or (after n).busy n 0) u ≡ true) ⊎ (leb (get_or (after n).busy n 0) u ≡ false) → step n (after n) ≡ after n
          by (inl e) =
              idle_step processes remote from knownby unmet run asany intofirst into u dispatchfirst dispatch ticks n (after n) (idle_then n l t (leb-true (get_or (after n).busy n 0) u e))
          by (inr e) = step_busy processes remote from knownby unmet run asany intofirst into u dispatchfirst dispatch ticks n (after n) e

      -- After the starts of the nodes below n, none of their processes can start where they are free.
      record Settled (n : ℕ) (s : Ends) : Type 0 where
        long : slots ≤ length s.busy
        idle_below : (m : ℕ) → m < n → m < slots → get_or s.busy m 0 ≤ u → idle_at s.comes m

      settled_next : (n : ℕ) → n < slots → (s : Ends) → Settled n s → stepped_at n s → Settled (suc n) (step n s)
      settled_next n l s y (stays h made) =
          subst (Settled (suc n)) (sym made) (record { long = y.long; idle_below = λ m r o. at m o (below_suc m n r) })
        where
          at : (m : ℕ) → m < slots → (m < n) ⊎ (m ≡ n) → get_or s.busy m 0 ≤ u → idle_at s.comes m
          at m o (inl r) = y.idle_below m r o
          at m o (inr e) = subst (λ (k : ℕ). get_or s.busy k 0 ≤ u → idle_at s.comes k) (sym e) h
      settled_next n l s y (begins x j a b e fresh made) =
          subst (Settled (suc n)) (sym made)
          (record { long = omega (arith, y.long, length-set s.busy n (u + get_or ticks x 0)); idle_below = λ m r o. at m o (below_suc m n r) })
        where
          at : (m : ℕ) → m < slots → (m < n) ⊎ (m ≡ n) → get_or (set s.busy n (u + get_or ticks x 0)) m 0 ≤ u → idle_at (set s.comes x (u + get_or ticks x 0)) m
          at m o (inl r) free k c d =
              idle_stays u u s.comes (set s.comes x (u + get_or ticks x 0)) (get_or dispatch k 0)
              (alike_rows u s.comes (set s.comes x (u + get_or ticks x 0)) (get_or dispatch k 0)
              (ap (λ (v : ℕ). eqb v 0) (row_begun n l s.comes x j a b e m k (λ w. absurd (omega arith)) o c d)) (came_begun n l s.comes x j a b e fresh))
              ∙ y.idle_below m r o (omega (arith, get_or-set_other s.busy n m (u + get_or ticks x 0) 0 (λ w. absurd (omega arith)))) k c d
          at m o (inr w) free k c d =
              absurd (omega (arith, high n l s.comes x j a b e, set_there s.busy n m (u + get_or ticks x 0) (omega (arith, y.long)) w))

      module _ (long : slots ≤ length busy) where
        settled : (n : ℕ) → n ≤ slots → Settled n (after n)
        unfolding starts_by
        settled zero l = record { long = long; idle_below = λ m r. absurd (not-suc-le-zero r) }
        settled (suc n) l = settled_next n (omega arith) (after n) (settled n (omega arith)) (step_at n (after n))

        -- after the starts, no process of a free node can start
        pub starts_idle : (n : ℕ) → n < slots → get_or (after slots).busy n 0 ≤ u → idle_at (after slots).comes n
        starts_idle n l = (settled slots (omega arith)).idle_below n l l
