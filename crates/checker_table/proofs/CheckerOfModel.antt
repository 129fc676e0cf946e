-- What is found in all combinations gives the answer of refusals 14 to 20, and so the checker's answer is that of the
-- model.
-- Assumes nothing.
use Rattle.std.specs.Prelude.{if◌then◌else◌, Result, Ok, Err}
use mathlib.Core.Path.{◌≡◌, refl, sym, ap, ◌∙◌}
use mathlib.Core.Logic.{◌⊎◌, inl, inr}
use mathlib.Core.Bool.{Bool, true, false, not}
use mathlib.Core.List.{List, [], map, Memᴰ as In}
use Prim.Native.Nat.{ℕ, ◌%◌, ◌^◌}
use native.Mathlib.Omega.{arith}
use lib.Dec.{eqb}
use lib.ListN.{length, get_or}
use borrow.Author.Tests.{eqb-true, eq-eqb}
use Rattle.lists.specs.Lists.{any, below, greatest}
use Rattle.lists.proofs.Tests.{two}
use Rattle.lists.proofs.Members.{map_same, below_in}
use Rattle.lists.proofs.Keep.{map_map}
use Rattle.lists.proofs.Places.{list_below, any_places}
use Rattle.bitset.proofs.Numbered.{combinations_count}
use Rattle.model.specs.Plan.{Lines}
use Rattle.model.specs.Activity.{combinations}
use Rattle.model.specs.Log.{full_ticks, delay}
use Rattle.model.specs.Refusals.{Refusal, nothing, refused, sentence}
use Rattle.model.specs.Table.{Entry, entries_of}
use Rattle.model.specs.Checking.{ill_formed, met_log, not_once, uses_unknown, too_early, off_slot, overlap, share_byte, greatest_delay, in_some, table_refusal}
use Rattle.plan_index.specs.declared.PlanIndex.{PlanIndex}
use Rattle.checker_table.specs.FirstRefusal.{first_of}
use Rattle.checker_table.specs.Combinations.{found_by, least, found_all, Tabled}
use Rattle.checker_table.specs.Verdict.{answer_of, verdict_by}
use Rattle.checker_table.proofs.Least.{refusal_at, least_same, least_in, least_chain}
use Rattle.checker_table.proofs.CombinationOfModel.{found_first, found_delay}

-- refusals 14 to 20
abbrev pub later : Lines → List Entry → ℕ → Refusal
later p es stated =
    sentence 14 (in_some p (not_once p es))
    (sentence 15 (in_some p (uses_unknown p es))
    (sentence 16 (in_some p (too_early p es))
    (sentence 17 (in_some p (off_slot p es))
    (sentence 18 (in_some p (overlap p es))
    (sentence 19 (in_some p (share_byte p es))
    (sentence 20 (not (eqb stated (greatest_delay p es)))
    nothing))))))

-- the verdict on a number and the delay
judge : (n d stated : ℕ) → verdict_by (record { first = n; delay = d }) stated ≡ answer_of (refusal_at n (sentence 20 (not (eqb stated d)) nothing))
unfolding verdict_by answer_of
judge n d stated = at (eqb n 20) (eqb stated d)
  where
    at : (x y : Bool) →
        (if x then (if y then Ok tt else Err 20) else Err n) ≡ answer_of (if x then sentence 20 (not y) nothing else refused n)
    at true true = refl
    at true false = refl
    at false y = refl

-- where the number is not 20, the delay says nothing
unjudged : (n d e stated : ℕ) → (n ≡ 20 → d ≡ e) → verdict_by (record { first = n; delay = d }) stated ≡ verdict_by (record { first = n; delay = e }) stated
unfolding verdict_by
unjudged n d e stated h = at (two (eqb n 20))
  where
    at : (eqb n 20 ≡ true) ⊎ (eqb n 20 ≡ false) →
        ◌≡◌ {A = Result (Unit {0}) ℕ} (if eqb n 20 then (if eqb stated d then Ok tt else Err 20) else Err n) (if eqb n 20 then (if eqb stated e then Ok tt else Err 20) else Err n)
    at (inl q) = λ i. if eqb n 20 then (if eqb stated (h (eqb-true n 20 q) i) then Ok tt else Err 20) else Err n
    at (inr q) = rw q

module _ (b : PlanIndex) (words : List ℕ) (t : Tabled b words) where
  abbrev p : Lines
  p = t.plan

  abbrev es : List Entry
  es = entries_of words

  abbrev N : ℕ
  N = 2 ^ b.conditions

  abbrev at : ℕ → List Bool
  at c = get_or (combinations p) c []

  abbrev number : ℕ → ℕ
  number c =
      if not_once p es (at c) then 14
      else first_of (uses_unknown p es (at c)) (too_early p es (at c)) (off_slot p es (at c)) (overlap p es (at c)) (share_byte p es (at c))

  count : length (combinations p) ≡ N
  count = combinations_count (length p.conditions) ∙ ap (λ (n : ℕ). 2 ^ n) (sym t.indexed.conditions_count)

  first_same : least (λ c. (found_by b words c).first) (below N) ≡ least number (below N)
  first_same = least_same (λ c. (found_by b words c).first) number (below N) (λ c m. found_first b words t c (below_in N m))

  -- a test over the numbers of the combinations
  some_same : (f : List Bool → Bool) → any (λ c. f (at c)) (below N) ≡ in_some p f
  unfolding in_some
  some_same f = any_places [] (combinations p) N count f (λ c. f (at c)) (λ c l. refl)

  first_refusal : (next : Refusal) →
      refusal_at (least (λ c. (found_by b words c).first) (below N)) next
      ≡ sentence 14 (in_some p (not_once p es))
      (sentence 15 (in_some p (uses_unknown p es))
      (sentence 16 (in_some p (too_early p es)) (sentence 17 (in_some p (off_slot p es)) (sentence 18 (in_some p (overlap p es)) (sentence 19 (in_some p (share_byte p es)) next)))))
  first_refusal next =
      ap (λ (n : ℕ). refusal_at n next) first_same
      ∙ least_chain (λ c. not_once p es (at c)) (λ c. uses_unknown p es (at c)) (λ c. too_early p es (at c)) (λ c. off_slot p es (at c)) (λ c. overlap p es (at c))
      (λ c. share_byte p es (at c)) (below N) next
      ∙ (λ i.
      sentence 14 (some_same (not_once p es) i)
      (sentence 15 (some_same (uses_unknown p es) i)
      (sentence 16 (some_same (too_early p es) i)
      (sentence 17 (some_same (off_slot p es) i) (sentence 18 (some_same (overlap p es) i) (sentence 19 (some_same (share_byte p es) i) next))))))

  -- where none of 14 to 19 applies in some combination, 14 applies in none
  once : (c : ℕ) → In c (below N) → least (λ c. (found_by b words c).first) (below N) ≡ 20 → not_once p es (at c) ≡ false
  once c m e = from (two (not_once p es (at c)))
    where
      from : (not_once p es (at c) ≡ true) ⊎ (not_once p es (at c) ≡ false) → not_once p es (at c) ≡ false
      from (inl q) =
          let k : (found_by b words c).first ≡ 14 = found_first b words t c (below_in N m) ∙ rw q in
          absurd (omega (arith, least_in (λ c. (found_by b words c).first) (below N) m, e, k))
      from (inr q) = q

  delay_same : least (λ c. (found_by b words c).first) (below N) ≡ 20 → greatest (map (λ c. (found_by b words c).delay) (below N)) ≡ greatest_delay p es
  unfolding greatest_delay
  delay_same e =
      ap greatest
      (map_same (λ c. (found_by b words c).delay) (λ c. delay p (full_ticks p) (met_log es (at c))) (below N) (λ c m. found_delay b words t c (below_in N m) (once c m e))
      ∙ sym (map_map (λ C. delay p (full_ticks p) (met_log es C)) at (below N))
      ∙ ap (map (λ C. delay p (full_ticks p) (met_log es C))) (list_below [] (combinations p) N count))

  pub all_verdict : (stated : ℕ) → verdict_by (found_all b words (2 ^ b.conditions)) stated ≡ answer_of (later t.plan (entries_of words) stated)
  unfolding found_all
  all_verdict stated =
      let n : ℕ = least (λ c. (found_by b words c).first) (below N) in
      unjudged n (greatest (map (λ c. (found_by b words c).delay) (below N))) (greatest_delay p es) stated delay_same
      ∙ judge n (greatest_delay p es) stated
      ∙ ap answer_of (first_refusal (sentence 20 (not (eqb stated (greatest_delay p es))) nothing))

-- the answer where neither 12 nor 13 applies
module _ (p : Lines) (words : List ℕ) (stated : ℕ) where
  pub answer_later : length words % 5 ≡ 0 → any (ill_formed p) (entries_of words) ≡ false → answer_of (later p (entries_of words) stated) ≡ answer_of (table_refusal p words stated)
  unfolding table_refusal
  answer_later q e = rw (eq-eqb (length words % 5) 0 q, e)
