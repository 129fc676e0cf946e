-- What a head changes and what not: above 16 it is refused, up to there plans that differ in the head alone are refused
-- alike, a slot that begins with the same view takes the same items, at the same places, and 19 is found of the same
-- tables.
-- Assumes nothing.
use mathlib.Core.Path.{◌≡◌, refl, sym, ap, ◌∙◌}
use mathlib.Core.Bool.{Bool, true, false, ◌||◌}
use mathlib.Core.List.{List, [], ◌∷◌, ◌++◌, map}
use Prim.Native.Nat.{ℕ, zero, suc, ◌+◌, ◌-◌, ◌≤◌, ◌<◌}
use lib.Dec.{leb, ltb}
use lib.ListN.{length, get_or}
use borrow.Author.Tests.{lt-ltb, le-ltb}
use Rattle.lists.specs.Lists.{any, keep, greatest}
use Rattle.lists.specs.Ordered.{sort}
use Rattle.lists.proofs.Tests.{or_right}
use Rattle.model.specs.Plan.{Lines, Slot, Pick, by_urgency, by_number, When, always, on, process, edge, edges, conditions, out_of, with_head}
use Rattle.model.specs.Bus.{edge_row, condition_row, slot_of, sender, row_node, row_bytes}
use Rattle.model.specs.Log.{Log, message_ready, broadcast_ready}
use Rattle.model.specs.Planning.{View, urgencies_from, urgencies, weights_by, weights, queue, waits_to_broadcast, waits_to_send, pending, pack, takes, passes_over}
use Rattle.model.specs.Table.{Entry}
use Rattle.model.specs.Checking.{past_end, lie_together, share_byte}
use Rattle.model.specs.Refusals.{nothing, outside, refused, sentence, wrong_counts, wrong_plan, wrong_slot, wrong_edge, wrong_ticks, wrong_sizes, no_node, wrong_nodes, no_process, wrong_deciders, wrong_ends, twin_edges, undecided, wrong_when, too_long, plan_refusal}

module _ (p : Lines) (h : ℕ) where
  urgencies_alike : (i n : ℕ) → urgencies_from (with_head p h) i n ≡ urgencies_from p i n
  unfolding urgencies_from
  urgencies_alike i zero = refl
  urgencies_alike i (suc n) =
      ap (λ (later : List ℕ). ((process p i).ticks + greatest (map (λ e. get_or later ((edge p e).to - suc i) 0) (out_of p i))) ∷ later)
      (urgencies_alike (suc i) n)

  weights_alike : weights (with_head p h) ≡ weights p
  unfolding weights weights_by urgencies
  weights_alike = by p.plan.pick
    where
      by : (k : Pick) → weights_by (with_head p h) k ≡ weights_by p k
      by by_urgency = urgencies_alike 0 _
      by by_number = refl

  queue_alike : queue (with_head p h) ≡ queue p
  unfolding queue
  queue_alike = ap (λ (w : List ℕ). sort (λ e. get_or w (edge p e).to 0) (edges p)) weights_alike

  pending_alike : (v : View) (n : ℕ) → pending (with_head p h) v n ≡ pending p v n
  unfolding pending waits_to_broadcast waits_to_send message_ready broadcast_ready
  pending_alike v n =
      ap (λ (q : List ℕ). map (condition_row p) (keep (waits_to_broadcast p v n) (conditions p)) ++ map (edge_row p) (keep (waits_to_send p v n) q)) queue_alike

  pack_alike : (size t at : ℕ) (rs : List ℕ) → pack (with_head p h) size t at rs ≡ pack p size t at rs
  unfolding pack row_bytes
  pack_alike size t at [] = refl
  pack_alike size t at (r ∷ rs) = by (leb (at + row_bytes p r) size) (pack_alike size t (at + row_bytes p r) rs) (pack_alike size t at rs)
    where
      by : (b : Bool) → pack (with_head p h) size t (at + row_bytes p r) rs ≡ pack p size t (at + row_bytes p r) rs → pack (with_head p h) size t at rs ≡ pack p size t at rs →
          ◌≡◌ {A = Log}
          (elim b [ true ↦ record { row = r; tick = t; place = at } ∷ pack (with_head p h) size t (at + row_bytes p r) rs | false ↦ pack (with_head p h) size t at rs ])
          (elim b [ true ↦ record { row = r; tick = t; place = at } ∷ pack p size t (at + row_bytes p r) rs | false ↦ pack p size t at rs ])
      by true a b = ap (λ (l : Log). record { row = r; tick = t; place = at } ∷ l) a
      by false a b = b

  pub takes_alike : (v : View) (t : ℕ) (s : Slot) → takes (with_head p h) v t s ≡ takes p v t s
  unfolding takes
  takes_alike v t s = pack_alike s.bytes t 0 (pending (with_head p h) v s.node) ∙ ap (pack p s.bytes t 0) (pending_alike v s.node)

  pub passes_alike : (v : View) (t : ℕ) (s : Slot) → passes_over (with_head p h) v t s ≡ passes_over p v t s
  unfolding passes_over
  passes_alike v t s = λ i. ltb (length (takes_alike v t s i)) (length (pending_alike v s.node i))

  pub shares_alike : (es : List Entry) (c : List Bool) → share_byte (with_head p h) es c ≡ share_byte p es c
  unfolding share_byte past_end lie_together row_node sender row_bytes slot_of
  shares_alike es c = refl

  undecided_alike : (i : ℕ) (w : When) → undecided (with_head p h) i w ≡ undecided p i w
  unfolding undecided
  undecided_alike i always = refl
  undecided_alike i (on v k) = refl

  pub refused_alike : p.plan.head ≤ 16 → h ≤ 16 → plan_refusal (with_head p h) ≡ plan_refusal p
  unfolding plan_refusal wrong_counts wrong_plan wrong_sizes no_node wrong_nodes no_process wrong_deciders wrong_ends wrong_when too_long slot_of
  refused_alike l k =
      let test : ltb 16 h ≡ ltb 16 p.plan.head = le-ltb 16 h k ∙ sym (le-ltb 16 p.plan.head l) in
      λ i.
      sentence 2 (wrong_counts p)
      (sentence 3 (outside 1 1000 p.plan.byte || test i || any wrong_slot p.slots || any wrong_edge p.edges || any wrong_ticks p.processes)
      (sentence 4 (wrong_nodes p)
      (sentence 5 (wrong_deciders p)
      (sentence 6 (any (wrong_ends p) p.edges)
      (sentence 7 (twin_edges p.edges)
      (sentence 8 (any (λ e. undecided_alike e.from e.when i) p.edges)
      (sentence 9 (any (too_long p) (edges p))
      nothing)))))))

pub head_refused : (p : Lines) → wrong_counts p ≡ false → 16 < p.plan.head → plan_refusal p ≡ refused 3
unfolding plan_refusal wrong_plan wrong_sizes
head_refused p c l = rw (c, or_right (outside 1 1000 p.plan.byte) (ltb 16 p.plan.head) (lt-ltb 16 p.plan.head l))
