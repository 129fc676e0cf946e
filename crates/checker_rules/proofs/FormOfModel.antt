-- Refusal 13 of the code is that of the model: for a plan's plan index and words of 32 bits, an entry is ill formed in
-- the words of the arrays just where it is ill formed for the plan.
-- Assumes nothing.
use mathlib.Core.Path.{◌≡◌, refl, sym, ap, ◌∙◌, subst}
use mathlib.Core.Bool.{Bool, true, false, not, ◌&&◌, ◌||◌, and_assoc}
use mathlib.Core.List.Memᴰ.{head as here}
use mathlib.Core.List.Memᴰ.{not-nil as in_none}
use mathlib.Core.List.Memᴰ.{tail as there}
use mathlib.Core.List.{List, [], ◌∷◌, Memᴰ as In}
use Prim.Native.Nat.{ℕ, suc, ◌+◌, ◌-◌, ◌^◌, ◌≤◌, ◌<◌}
use native.Mathlib.Omega.{arith}
use lib.Dec.{eqb, leb, ltb}
use lib.ListN.{length, get_or}
use lib.Pow.{pow_mono}
use Rattle.lists.specs.Lists.{any}
use Rattle.lists.proofs.Members.{any_same}
use Rattle.model.specs.Plan.{Lines, local}
use Rattle.model.specs.Bus.{rows, is_process, is_edge, row_edge}
use Rattle.model.specs.Table.{Entry, entries_of, bits_within}
use Rattle.model.specs.Checking.{ill_formed}
use Rattle.plan_index.specs.declared.PlanIndex.{PlanIndex}
use Rattle.plan_layout.specs.Indexed.{Indexed}
use Rattle.checker_rules.proofs.Bits.{shared_within}
use Rattle.checker_rows.specs.MetRows.{Small}
use Rattle.checker_rules.specs.EntryForm.{local_row, ill_formed_by}

-- the values of an entry are one of the table's words
values_small : (words : List ℕ) (m : ℕ) → ((i : ℕ) → i < length words → get_or words i 0 < m) → (e : Entry) → In e (entries_of words) → e.values < m
values_small [] m h e i = absurd (in_none i)
values_small (a ∷ []) m h e i = absurd (in_none i)
values_small (a ∷ b ∷ []) m h e i = absurd (in_none i)
values_small (a ∷ b ∷ c ∷ []) m h e i = absurd (in_none i)
values_small (a ∷ b ∷ c ∷ d ∷ []) m h e i = absurd (in_none i)
values_small (a ∷ b ∷ c ∷ d ∷ x ∷ ws) m h e (here q) = subst (λ (z : Entry). z.values < m) (sym q) (h 2 (omega arith))
values_small (a ∷ b ∷ c ∷ d ∷ x ∷ ws) m h e (there i) = values_small ws m (λ i l. h (suc (suc (suc (suc (suc i))))) (omega arith)) e i

-- seven tests, grouped from the right and from the left
regroup : (a b c d e f g : Bool) → (a || (b || (c || (d || (e || (f || g)))))) ≡ ((((((a || b) || c) || d) || e) || f) || g)
regroup true b c d e f g = refl
regroup false true c d e f g = refl
regroup false false true d e f g = refl
regroup false false false true e f g = refl
regroup false false false false true f g = refl
regroup false false false false false f g = refl

module _ (p : Lines) (b : PlanIndex) (w : Indexed p b) where
  conditionrow_same : b.conditionrow ≡ length p.processes + length p.edges
  conditionrow_same = w.first_condition_row ∙ (λ i. w.processes_count i + w.edges_count i)

  local_same : (r : ℕ) → local_row b.processes b.conditionrow b.remote r ≡ ((not (is_process p r) && is_edge p r) && local p (row_edge p r))
  unfolding local_row
  local_same r =
      let h = w.holds 0 (let l : 2 ^ 0 ≤ 2 ^ length p.conditions = pow_mono {i = 0} {j = length p.conditions} (omega arith) in omega arith) in
      (λ i. not (ltb r (w.processes_count i)) && (ltb r (conditionrow_same i) && eqb (get_or b.remote (r - w.processes_count i) 0) 0))
      ∙ (λ i. not (is_process p r) && (is_edge p r && h.locals (row_edge p r) i))
      ∙ sym (and_assoc (not (is_process p r)) (is_edge p r) (local p (row_edge p r)))

  entry_same : (combinations : ℕ) → combinations ≡ 2 ^ b.conditions → (e : Entry) → e.values < 2 ^ 32 →
      ill_formed_by b.processes b.conditionrow b.rows combinations b.remote e ≡ ill_formed p e
  unfolding ill_formed_by ill_formed
  entry_same combinations q e s =
      (λ i.
      leb (w.row_count i) e.row
      || (local_same e.row i
      || (leb ((q ∙ ap (λ (n : ℕ). 2 ^ n) w.conditions_count) i) e.known
      || (not (shared_within 32 e.values e.known s i)
      || (ltb 999999999 e.tick
      || (ltb 63 e.place
      || (ltb e.row (w.processes_count i) && ltb 0 e.place)))))))
      ∙ regroup (leb (rows p) e.row) ((not (is_process p e.row) && is_edge p e.row) && local p (row_edge p e.row))
      (leb (2 ^ length p.conditions) e.known) (not (bits_within 32 e.values e.known)) (ltb 999999999 e.tick) (ltb 63 e.place)
      (is_process p e.row && ltb 0 e.place)

  formed_same : (combinations : ℕ) → combinations ≡ 2 ^ b.conditions → (words : List ℕ) → Small words →
      any (ill_formed_by b.processes b.conditionrow b.rows combinations b.remote) (entries_of words) ≡ any (ill_formed p) (entries_of words)
  formed_same combinations q words s =
      any_same (ill_formed_by b.processes b.conditionrow b.rows combinations b.remote) (ill_formed p) (entries_of words)
      (λ e m. entry_same combinations q e (values_small words (2 ^ 32) s e m))

  -- what the code tells of a table is what the model says of it
  pub formed_told : (combinations : ℕ) → combinations ≡ 2 ^ b.conditions → (words : List ℕ) → Small words → {told x : Bool} →
      told ≡ any (ill_formed_by b.processes b.conditionrow b.rows combinations b.remote) (entries_of words) → told ≡ x → any (ill_formed p) (entries_of words) ≡ x
  formed_told combinations q words s t e = sym (formed_same combinations q words s) ∙ sym t ∙ e
