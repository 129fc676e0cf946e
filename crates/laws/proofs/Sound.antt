-- A table is sound just where 2 to 9 find nothing in the plan, its words come in fives, and it is lawful.
-- Assumes nothing.
use Rattle.std.specs.Prelude.{if◌then◌else◌}
use mathlib.Core.Path.{◌≡◌, refl, sym, ap, ◌∙◌, subst}
use mathlib.Core.Logic.{◌⊎◌, inl, inr, ◌↔◌}
use mathlib.Core.Bool.{Bool, true, false, not, beq}
use mathlib.Core.List.Memᴰ.{head as here}
use mathlib.Core.List.{List, map, Memᴰ as In}
use Prim.Native.Nat.{ℕ, ◌≤◌, ◌<◌, ◌%◌}
use native.Mathlib.Omega.{arith}
use lib.Dec.{eqb}
use lib.ListN.{length, get_or, set, length-set}
use lib.Seq.{get_or-set_same}
use borrow.Author.Tests.{eqb-true, eq-eqb, not-false}
use Rattle.lists.specs.Lists.{repeated}
use Rattle.lists.proofs.Tests.{both, clash, no}
use Rattle.lists.proofs.Members.{none_in, any_false, keep_in, in_keep, in_length, only, one_or_none}
use Rattle.model.specs.Plan.{Lines, When, always, on, edge, local}
use Rattle.model.specs.Activity.{Heard, heard, unheard, is, meets, all_heard, active, carries}
use Rattle.model.specs.Bus.{rows, edge_row}
use Rattle.model.specs.Log.{Placed, Log, of_row, placed}
use Rattle.model.specs.Refusals.{Refusal, nothing, sentence, or_else, plan_refusal}
use Rattle.model.specs.Table.{Entry, entries_of, known_bits, bits_within, column_met}
use Rattle.model.specs.Checking.{ill_formed, own, met_log, due, not_once, uses_unknown, too_early, off_slot, overlap, share_byte, greatest_delay, table_refusal, check, Sound}
use Rattle.laws.proofs.Active.{heard_all}
use Rattle.laws.proofs.Checks.{none_14, none_15, none_16, none_17, none_18, none_19}
use Rattle.laws.proofs.Columns.{Met, Named, other_value, known_part}
use Rattle.laws.proofs.Combinations.{in_no}
use Rattle.laws.proofs.Good.{Good, good, pass, or_nothing}
use Rattle.laws.proofs.Lawful.{once_different, formed_row, met_of, to_met, row_count}
use Rattle.laws.proofs.Rows.{edge_due, in_placed, known_by}
use Rattle.laws.proofs.Rules.{Lawful}

not_both_values : (v : Bool) → beq (not v) v ≡ false
not_both_values true = refl
not_both_values false = refl

-- what 14 and 15 say of all combinations
abbrev Counted : Lines → List Entry → Type 0
Counted p es = (c : List Bool) → length c ≡ length p.conditions → (r : ℕ) → r < rows p → length (of_row (met_log es c) r) ≡ (if due p c r then 1 else 0)

abbrev NamedKnown : Lines → List Entry → Type 0
NamedKnown p es =
    (c : List Bool) → length c ≡ length p.conditions → (e : Entry) → In e es → column_met (all_heard c) e ≡ true →
    bits_within 32 e.known (known_bits (known_by p c (met_log es c) e.tick)) ≡ true

-- what follows from them and 13
module _ (p : Lines) (es : List Entry) (g : Good p) (formed : (e : Entry) → In e es → ill_formed p e ≡ false) (counted : Counted p es) (columns : NamedKnown p es) where
  module _ (c : List Bool) (cl : length c ≡ length p.conditions) where
    abbrev M : Log
    M = met_log es c

    only_due : (x : Placed) → In x M → (x.row < rows p) × (due p c x.row ≡ true)
    only_due x m = (row_in, at (due p c x.row) refl)
      where
        row_in : x.row < rows p
        row_in = let e = met_of es c x m in rw e.3 (formed_row p e.0 (formed e.0 e.1)).0

        at : (b : Bool) → due p c x.row ≡ b → b ≡ true
        at true e = refl
        at false e =
            let n : length (of_row M x.row) ≡ 0 = counted c cl x.row row_in ∙ rw e in
            let k : 1 ≤ length (of_row M x.row) = in_length (in_keep (λ z. eqb z.row x.row) m (eq-eqb x.row x.row refl)) in
            absurd (omega arith)

    all_placed : (r : ℕ) → r < rows p → due p c r ≡ true → placed M r ≡ true
    all_placed r l d =
        let x = only (of_row M r) (counted c cl r l ∙ rw d) in
        let m = keep_in (λ z. eqb z.row r) M (subst (λ (z : Log). In x.0 z) (sym x.1) (here refl)) in
        in_placed m.0 r (eqb-true _ _ m.1)

    different : repeated (map (λ x. x.row) M) ≡ false
    different = once_different M (λ x m. omega (arith, counted c cl x.row (only_due x m).0, one_or_none (due p c x.row)))

    -- a message that is sent carries
    meets_all : (e : ℕ) → e < length p.edges → (x : Placed) → In x M → x.row ≡ edge_row p e → meets (all_heard c) (edge p e).when ≡ true
    unfolding carries
    meets_all e l x m q =
        (both (active p c (edge p e).from) _ (both (carries p c e) (not (local p e)) (sym (edge_due p c e l) ∙ ap (due p c) (sym q) ∙ (only_due x m).1)).0).1

  -- A conditional message is sent only once its value is known: if the column did not name the condition, the entry
  -- would be met with the other value too, where it is not due.
  module _ (c : List Bool) (cl : length c ≡ length p.conditions) where
    when_met : (x : Placed) → In x (met_log es c) → (e : ℕ) → e < length p.edges → x.row ≡ edge_row p e → meets (known_by p c (met_log es c) x.tick) (edge p e).when ≡ true
    unfolding column_met
    when_met x m e l q = at (edge p e).when refl (meets_all c cl e l x m q)
      where
        h : List Heard
        h = known_by p c (met_log es c) x.tick

        met : (f : Entry) × In f es × (column_met (all_heard c) f ≡ true) × (x ≡ own f)
        met = met_of es c x m

        -- with the other value of condition k
        other : (v : Bool) (k : ℕ) → (edge p e).when ≡ on v k → k < length c → Met 32 met.0.known met.0.values (all_heard (set c k (not v))) → ⊥
        other v k w b s =
            let d : List Bool = set c k (not v) in
            let n : length d ≡ length c = length-set c k (not v) in
            let i : In x (met_log es d) = subst (λ (z : Placed). In z (met_log es d)) (sym met.3) (to_met es d met.0 met.1 s) in
            let a : meets (all_heard d) (on v k) ≡ true = subst (λ (z : When). meets (all_heard d) z ≡ true) w (meets_all d (n ∙ cl) e l x i q) in
            let f : get_or (all_heard d) k unheard ≡ heard (not v) = heard_all d k (omega arith) ∙ ap heard (get_or-set_same c k (not v) false b) in
            clash (rw f at a) (not_both_values v)

        at : (w : When) → (edge p e).when ≡ w → meets (all_heard c) w ≡ true → meets h w ≡ true
        at always w a = refl
        at (on v k) w a = pick (other_value (not v) 32 met.0.known met.0.values c k (let few = g.few_conditions in let b = k_in in omega arith) k_in met.2)
          where
            k_in : k < length c
            k_in = let b = (g.decided e l v k w).0 in omega arith

            pick : Met 32 met.0.known met.0.values (all_heard (set c k (not v))) ⊎ Named 32 met.0.known c k → is (get_or h k unheard) v ≡ true
            pick (inl s) = absurd (other v k w k_in s)
            pick (inr s) =
                let b : bits_within 32 met.0.known (known_bits h) ≡ true =
                subst (λ (z : Placed). bits_within 32 met.0.known (known_bits (known_by p c (met_log es c) z.tick)) ≡ true) (sym met.3) (columns c cl met.0 met.1 met.2) in
                rw (s h (known_part p c cl _) b) (rw (heard_all c k k_in) at a)

pass_back : (n : ℕ) (b : Bool) (r : Refusal) → b ≡ false → r ≡ nothing → sentence n b r ≡ nothing
pass_back n b r e q = rw e q

-- 12 to 20 find nothing just where the words come in fives and the table is lawful
module _ (p : Lines) (words : List ℕ) (stated : ℕ) where
  abbrev es : List Entry
  es = entries_of words

  lawful : Good p → table_refusal p words stated ≡ nothing → (length words % 5 ≡ 0) × Lawful p es stated
  unfolding table_refusal
  lawful g h =
      let s12 = pass 12 (not (eqb (length words % 5) 0)) _ h in
      let s13 = pass 13 _ _ s12.1 in
      let s14 = pass 14 _ _ s13.1 in
      let s15 = pass 15 _ _ s14.1 in
      let s16 = pass 16 _ _ s15.1 in
      let s17 = pass 17 _ _ s16.1 in
      let s18 = pass 18 _ _ s17.1 in
      let s19 = pass 19 _ _ s18.1 in
      let s20 = pass 20 _ nothing s19.1 in
      let formed : (e : Entry) → In e es → ill_formed p e ≡ false = λ e m. none_in (ill_formed p) s13.0 m in
      let counted : Counted p es =
      λ c cl. (none_14 p es c).0 ((in_no p (not_once p es)).0 s14.0 c cl) in
      let columns : NamedKnown p es =
      λ c cl. (none_15 p es c).0 ((in_no p (uses_unknown p es)).0 s15.0 c cl) in (
        eqb-true _ _ (not-false _ s12.0),
        record {
          formed = formed;
          keeps = λ c cl.
              let t16 = (none_16 p es c).0 ((in_no p (too_early p es)).0 s16.0 c cl) in
              let t18 = (none_18 p es c).0 ((in_no p (overlap p es)).0 s18.0 c cl) in
              let t19 = (none_19 p es c).0 ((in_no p (share_byte p es)).0 s19.0 c cl) in
              record {
                once = different p es g formed counted columns c cl;
                only_due = only_due p es g formed counted columns c cl;
                after_inputs = t16.0;
                after_sender = t16.1;
                when_met = when_met p es g formed counted columns c cl;
                in_slot = (none_17 p es c).0 ((in_no p (off_slot p es)).0 s17.0 c cl);
                no_overlap = λ x y m n q d. t18 x y d m n q;
                in_frame = t19.0;
                no_share = λ x y m n q r d. t19.1 x y d m n q r;
              };
          all_there = all_placed p es g formed counted columns;
          known_columns = columns;
          worst = eqb-true _ _ (not-false _ s20.0);
        },
      )

  finds_nothing : (length words % 5 ≡ 0) × Lawful p es stated → table_refusal p words stated ≡ nothing
  unfolding table_refusal
  finds_nothing h =
      let s : Lawful p es stated = h.1 in
      pass_back 12 _ _ (no (eq-eqb _ _ h.0))
      (pass_back 13 _ _ (any_false (ill_formed p) es s.formed)
      (pass_back 14 _ _ ((in_no p (not_once p es)).1 (λ c cl. (none_14 p es c).1 (row_count p es stated s c cl)))
      (pass_back 15 _ _ ((in_no p (uses_unknown p es)).1 (λ c cl. (none_15 p es c).1 (s.known_columns c cl)))
      (pass_back 16 _ _ ((in_no p (too_early p es)).1 (λ c cl. (none_16 p es c).1 ((s.keeps c cl).after_inputs, (s.keeps c cl).after_sender)))
      (pass_back 17 _ _ ((in_no p (off_slot p es)).1 (λ c cl. (none_17 p es c).1 (s.keeps c cl).in_slot))
      (pass_back 18 _ _ ((in_no p (overlap p es)).1 (λ c cl. (none_18 p es c).1 (λ x y d m n q. (s.keeps c cl).no_overlap x y m n q d)))
      (pass_back 19 _ _ ((in_no p (share_byte p es)).1 (λ c cl. (none_19 p es c).1 ((s.keeps c cl).in_frame, λ x y d m n q r. (s.keeps c cl).no_share x y m n q r d)))
      (pass_back 20 _ _ (no (eq-eqb stated (greatest_delay p es) s.worst)) refl))))))))

pub sound_iff : (p : Lines) (words : List ℕ) (stated : ℕ) → Sound p words stated ↔ ((plan_refusal p ≡ nothing) × (length words % 5 ≡ 0) × Lawful p (entries_of words) stated)
unfolding check or_else
sound_iff p words stated = (
  λ h.
      let r = or_nothing (plan_refusal p) (table_refusal p words stated) h in
      let l = lawful p words stated (good p r.0) r.1 in
      (r.0, l.0, l.1),
  λ h. rw h.0 (finds_nothing p words stated (h.1, h.2)),
)
