-- What stands in a list where parts are stored one behind the other, and a plan index read off such a list: it is the
-- one whose fields were stored.
-- Assumes nothing.
use mathlib.Core.Path.{◌≡◌, refl, sym, ap, ◌∙◌}
use mathlib.Core.List.{List, [], ◌∷◌, ◌++◌, map}
use Prim.Native.Nat.{ℕ, zero, suc, ◌+◌, ◌<◌}
use native.Mathlib.Omega.{arith}
use lib.ListN.{length, get_or, replicate, length-append, length-map, length-replicate, get_or-append}
use lib.Seq.{sets, ext_get_or, get_or-append-add}
use Rattle.lists.specs.Lists.{each, upfrom}
use Rattle.lists.proofs.Joined.{joined, regroup}
use Rattle.lists.proofs.Keep.{length_upfrom, getD_upfrom}
use Rattle.lists.proofs.Stores.{sets_append, sets_whole}
use Rattle.plan_index.specs.declared.PlanIndex.{PlanIndex}
use Rattle.plan_index.specs.Index.{field, laid}
use Rattle.plan_layout.specs.Laying.{counts, ProcessesLaid, EdgesLaid, OrdersLaid, BusLaid, RowsLaid}

-- parts one behind the other: the whole, part k, and where it begins
abbrev whole : List (List ℕ) → List ℕ
whole = each (λ (x : List ℕ). x)

abbrev part_of : List (List ℕ) → ℕ → List ℕ
part_of [] k = []
part_of (x ∷ xs) zero = x
part_of (x ∷ xs) (suc k) = part_of xs k

abbrev begins : List (List ℕ) → ℕ → ℕ
begins [] k = 0
begins (x ∷ xs) zero = 0
begins (x ∷ xs) (suc k) = length x + begins xs k

whole_at : (xs : List (List ℕ)) (k i : ℕ) → i < length (part_of xs k) → get_or (whole xs) (begins xs k + i) 0 ≡ get_or (part_of xs k) i 0
whole_at [] k i l = absurd (omega (arith, l))
whole_at (x ∷ xs) zero i l = ap (λ (j : ℕ). get_or (x ++ whole xs) j 0) (omega arith) ∙ get_or-append x (whole xs) 0 i l
whole_at (x ∷ xs) (suc k) i l =
    ap (λ (j : ℕ). get_or (x ++ whole xs) j 0) (omega arith) ∙ get_or-append-add x (whole xs) (begins xs k + i) 0 ∙ whole_at xs k i l

-- a field is the part that begins at its place
field_part : (xs : List (List ℕ)) (k a n : ℕ) → begins xs k ≡ a → length (part_of xs k) ≡ n → field (whole xs) a n ≡ part_of xs k
unfolding field
field_part xs k a n e l =
    let long : length (map (λ j. get_or (whole xs) j 0) (upfrom a n)) ≡ n = length-map (upfrom a n) (λ j. get_or (whole xs) j 0) ∙ length_upfrom a n in
    ext_get_or 0 (map (λ j. get_or (whole xs) j 0) (upfrom a n)) (part_of xs k) (long ∙ sym l)
    (λ i u. getD_upfrom (λ j. get_or (whole xs) j 0) a n i 0 (omega (arith, long)) ∙ ap (λ (j : ℕ). get_or (whole xs) (j + i) 0) (sym e) ∙ whole_at xs k i (omega (arith, long, l)))

-- what is stored behind what was stored
behind : (l u v xs : List ℕ) (a : ℕ) → xs ≡ sets l 0 u → length u ≡ a → sets xs a v ≡ sets l 0 (u ++ v)
behind l u v xs a q e =
    let z : 0 + length u ≡ a = omega (arith, e) in
    ap (λ (ys : List ℕ). sets ys a v) q ∙ ap (λ (k : ℕ). sets (sets l 0 u) k v) (sym z) ∙ sym (sets_append u v l 0)

-- the fields of a plan index in their order
abbrev parts : PlanIndex → List (List ℕ)
parts b = b.node ∷ b.ticks ∷ b.asany ∷ b.from ∷ b.knownby ∷ b.remote ∷ b.bytes ∷ b.kind ∷ b.condition ∷ b.decider ∷ b.intofirst ∷ b.into ∷ b.dispatchfirst ∷ b.dispatch ∷ b.queuefirst ∷ b.queue ∷ b.offset ∷ b.lasts ∷ b.rooms ∷ b.decides ∷ b.span ∷ b.sender ∷ b.size ∷ []

laid_parts : (b : PlanIndex) (xs : List ℕ)
    (l-node : length b.node ≡ 64)
    (l-ticks : length b.ticks ≡ 64)
    (l-asany : length b.asany ≡ 64)
    (l-from : length b.from ≡ 128)
    (l-knownby : length b.knownby ≡ 128)
    (l-remote : length b.remote ≡ 128)
    (l-bytes : length b.bytes ≡ 128)
    (l-kind : length b.kind ≡ 128)
    (l-condition : length b.condition ≡ 128)
    (l-decider : length b.decider ≡ 6)
    (l-intofirst : length b.intofirst ≡ 65)
    (l-into : length b.into ≡ 128)
    (l-dispatchfirst : length b.dispatchfirst ≡ 65)
    (l-dispatch : length b.dispatch ≡ 128)
    (l-queuefirst : length b.queuefirst ≡ 65)
    (l-queue : length b.queue ≡ 128)
    (l-offset : length b.offset ≡ 8)
    (l-lasts : length b.lasts ≡ 8)
    (l-rooms : length b.rooms ≡ 8)
    (l-decides : length b.decides ≡ 8)
    (l-span : length b.span ≡ 198)
    (l-sender : length b.sender ≡ 198)
    (l-size : length b.size ≡ 198)
    → xs ≡ whole (counts b ∷ parts b) → laid xs ≡ b
unfolding laid
laid_parts b xs l-node l-ticks l-asany l-from l-knownby l-remote l-bytes l-kind l-condition l-decider l-intofirst l-into l-dispatchfirst l-dispatch l-queuefirst l-queue l-offset l-lasts l-rooms l-decides l-span l-sender l-size q =
    let ps : List (List ℕ) = counts b ∷ parts b in
    λ i.
    record {
      processes = get_or (q i) 0 0;
      edges = get_or (q i) 1 0;
      conditions = get_or (q i) 2 0;
      slots = get_or (q i) 3 0;
      conditionrow = get_or (q i) 4 0;
      rows = get_or (q i) 5 0;
      node = (ap (λ (l : List ℕ). field l 8 64) q ∙ field_part ps 1 8 64 (omega (arith)) l-node) i;
      ticks = (ap (λ (l : List ℕ). field l 72 64) q ∙ field_part ps 2 72 64 (omega (arith, l-node)) l-ticks) i;
      asany = (ap (λ (l : List ℕ). field l 136 64) q ∙ field_part ps 3 136 64 (omega (arith, l-node, l-ticks)) l-asany) i;
      from = (ap (λ (l : List ℕ). field l 200 128) q ∙ field_part ps 4 200 128 (omega (arith, l-node, l-ticks, l-asany)) l-from) i;
      knownby = (ap (λ (l : List ℕ). field l 328 128) q ∙ field_part ps 5 328 128 (omega (arith, l-node, l-ticks, l-asany, l-from)) l-knownby) i;
      remote = (ap (λ (l : List ℕ). field l 456 128) q ∙ field_part ps 6 456 128 (omega (arith, l-node, l-ticks, l-asany, l-from, l-knownby)) l-remote) i;
      bytes = (ap (λ (l : List ℕ). field l 584 128) q ∙ field_part ps 7 584 128 (omega (arith, l-node, l-ticks, l-asany, l-from, l-knownby, l-remote)) l-bytes) i;
      kind = (ap (λ (l : List ℕ). field l 712 128) q ∙ field_part ps 8 712 128 (omega (arith, l-node, l-ticks, l-asany, l-from, l-knownby, l-remote, l-bytes)) l-kind) i;
      condition = (ap (λ (l : List ℕ). field l 840 128) q ∙ field_part ps 9 840 128 (omega (arith, l-node, l-ticks, l-asany, l-from, l-knownby, l-remote, l-bytes, l-kind)) l-condition) i;
      decider = (ap (λ (l : List ℕ). field l 968 6) q ∙ field_part ps 10 968 6 (omega (arith, l-node, l-ticks, l-asany, l-from, l-knownby, l-remote, l-bytes, l-kind, l-condition)) l-decider) i;
      intofirst = (ap (λ (l : List ℕ). field l 974 65) q ∙ field_part ps 11 974 65 (omega (arith, l-node, l-ticks, l-asany, l-from, l-knownby, l-remote, l-bytes, l-kind, l-condition, l-decider)) l-intofirst) i;
      into = (ap (λ (l : List ℕ). field l 1039 128) q ∙ field_part ps 12 1039 128 (omega (arith, l-node, l-ticks, l-asany, l-from, l-knownby, l-remote, l-bytes, l-kind, l-condition, l-decider, l-intofirst)) l-into) i;
      dispatchfirst = (ap (λ (l : List ℕ). field l 1167 65) q ∙ field_part ps 13 1167 65 (omega (arith, l-node, l-ticks, l-asany, l-from, l-knownby, l-remote, l-bytes, l-kind, l-condition, l-decider, l-intofirst, l-into)) l-dispatchfirst) i;
      dispatch = (ap (λ (l : List ℕ). field l 1232 128) q ∙ field_part ps 14 1232 128 (omega (arith, l-node, l-ticks, l-asany, l-from, l-knownby, l-remote, l-bytes, l-kind, l-condition, l-decider, l-intofirst, l-into, l-dispatchfirst)) l-dispatch) i;
      queuefirst = (ap (λ (l : List ℕ). field l 1360 65) q ∙ field_part ps 15 1360 65 (omega (arith, l-node, l-ticks, l-asany, l-from, l-knownby, l-remote, l-bytes, l-kind, l-condition, l-decider, l-intofirst, l-into, l-dispatchfirst, l-dispatch)) l-queuefirst) i;
      queue = (ap (λ (l : List ℕ). field l 1425 128) q ∙ field_part ps 16 1425 128 (omega (arith, l-node, l-ticks, l-asany, l-from, l-knownby, l-remote, l-bytes, l-kind, l-condition, l-decider, l-intofirst, l-into, l-dispatchfirst, l-dispatch, l-queuefirst)) l-queue) i;
      round = get_or (q i) 6 0;
      reciprocal = get_or (q i) 7 0;
      offset = (ap (λ (l : List ℕ). field l 1553 8) q ∙ field_part ps 17 1553 8 (omega (arith, l-node, l-ticks, l-asany, l-from, l-knownby, l-remote, l-bytes, l-kind, l-condition, l-decider, l-intofirst, l-into, l-dispatchfirst, l-dispatch, l-queuefirst, l-queue)) l-offset) i;
      lasts = (ap (λ (l : List ℕ). field l 1561 8) q ∙ field_part ps 18 1561 8 (omega (arith, l-node, l-ticks, l-asany, l-from, l-knownby, l-remote, l-bytes, l-kind, l-condition, l-decider, l-intofirst, l-into, l-dispatchfirst, l-dispatch, l-queuefirst, l-queue, l-offset)) l-lasts) i;
      rooms = (ap (λ (l : List ℕ). field l 1569 8) q ∙ field_part ps 19 1569 8 (omega (arith, l-node, l-ticks, l-asany, l-from, l-knownby, l-remote, l-bytes, l-kind, l-condition, l-decider, l-intofirst, l-into, l-dispatchfirst, l-dispatch, l-queuefirst, l-queue, l-offset, l-lasts)) l-rooms) i;
      decides = (ap (λ (l : List ℕ). field l 1577 8) q ∙ field_part ps 20 1577 8 (omega (arith, l-node, l-ticks, l-asany, l-from, l-knownby, l-remote, l-bytes, l-kind, l-condition, l-decider, l-intofirst, l-into, l-dispatchfirst, l-dispatch, l-queuefirst, l-queue, l-offset, l-lasts, l-rooms)) l-decides) i;
      span = (ap (λ (l : List ℕ). field l 1585 198) q ∙ field_part ps 21 1585 198 (omega (arith, l-node, l-ticks, l-asany, l-from, l-knownby, l-remote, l-bytes, l-kind, l-condition, l-decider, l-intofirst, l-into, l-dispatchfirst, l-dispatch, l-queuefirst, l-queue, l-offset, l-lasts, l-rooms, l-decides)) l-span) i;
      sender = (ap (λ (l : List ℕ). field l 1783 198) q ∙ field_part ps 22 1783 198 (omega (arith, l-node, l-ticks, l-asany, l-from, l-knownby, l-remote, l-bytes, l-kind, l-condition, l-decider, l-intofirst, l-into, l-dispatchfirst, l-dispatch, l-queuefirst, l-queue, l-offset, l-lasts, l-rooms, l-decides, l-span)) l-sender) i;
      size = (ap (λ (l : List ℕ). field l 1981 198) q ∙ field_part ps 23 1981 198 (omega (arith, l-node, l-ticks, l-asany, l-from, l-knownby, l-remote, l-bytes, l-kind, l-condition, l-decider, l-intofirst, l-into, l-dispatchfirst, l-dispatch, l-queuefirst, l-queue, l-offset, l-lasts, l-rooms, l-decides, l-span, l-sender)) l-size) i;
    }

-- what is stored so far, and how long it is; one part more
record Sofar (z xs u : List ℕ) (a : ℕ) : Type 0 where
  store : xs ≡ sets z 0 u
  long : length u ≡ a

more : (z xs u v : List ℕ) (a n : ℕ) → Sofar z xs u a → length v ≡ n → Sofar z (sets xs a v) (u ++ v) (a + n)
more z xs u v a n s l = record { store = behind z u v xs a s.store s.long; long = omega (arith, length-append u v, s.long, l) }

regained : (z xs ys u : List ℕ) (a : ℕ) → ys ≡ xs → Sofar z xs u a → Sofar z ys u a
regained z xs ys u a q s = record { store = q ∙ s.store; long = s.long }

-- the plan index read off the list in which its fields are stored one after another
pub laid_all : (b : PlanIndex) (z u0 u1 u2 u3 u4 u5 : List ℕ) → z ≡ replicate 2179 0 → u0 ≡ sets z 0 (counts b) → ProcessesLaid b u0 u1 → EdgesLaid b u1 u2 →
    OrdersLaid b u2 u3 → BusLaid b u3 u4 → RowsLaid b u4 u5 → laid u5 ≡ b
laid_all b z u0 u1 u2 u3 u4 u5 zs q0 q1 q2 q3 q4 q5 =
    let s0 : Sofar z u0 (counts b) 8 = record { store = q0; long = refl } in
    let s-node = more z _ _ b.node 8 64 s0 q1.node_long in
    let s-ticks = more z _ _ b.ticks 72 64 s-node q1.ticks_long in
    let s-asany = more z _ _ b.asany 136 64 s-ticks q1.asany_long in
    let s1 = regained z _ _ _ _ q1.stores s-asany in
    let s-from = more z _ _ b.from 200 128 s1 q2.from_long in
    let s-knownby = more z _ _ b.knownby 328 128 s-from q2.knownby_long in
    let s-remote = more z _ _ b.remote 456 128 s-knownby q2.remote_long in
    let s-bytes = more z _ _ b.bytes 584 128 s-remote q2.bytes_long in
    let s-kind = more z _ _ b.kind 712 128 s-bytes q2.kind_long in
    let s-condition = more z _ _ b.condition 840 128 s-kind q2.condition_long in
    let s-decider = more z _ _ b.decider 968 6 s-condition q2.decider_long in
    let s2 = regained z _ _ _ _ q2.stores s-decider in
    let s-intofirst = more z _ _ b.intofirst 974 65 s2 q3.intofirst_long in
    let s-into = more z _ _ b.into 1039 128 s-intofirst q3.into_long in
    let s-dispatchfirst = more z _ _ b.dispatchfirst 1167 65 s-into q3.dispatchfirst_long in
    let s-dispatch = more z _ _ b.dispatch 1232 128 s-dispatchfirst q3.dispatch_long in
    let s-queuefirst = more z _ _ b.queuefirst 1360 65 s-dispatch q3.queuefirst_long in
    let s-queue = more z _ _ b.queue 1425 128 s-queuefirst q3.queue_long in
    let s3 = regained z _ _ _ _ q3.stores s-queue in
    let s-offset = more z _ _ b.offset 1553 8 s3 q4.offset_long in
    let s-lasts = more z _ _ b.lasts 1561 8 s-offset q4.lasts_long in
    let s-rooms = more z _ _ b.rooms 1569 8 s-lasts q4.rooms_long in
    let s-decides = more z _ _ b.decides 1577 8 s-rooms q4.decides_long in
    let s4 = regained z _ _ _ _ q4.stores s-decides in
    let s-span = more z _ _ b.span 1585 198 s4 q5.span_long in
    let s-sender = more z _ _ b.sender 1783 198 s-span q5.sender_long in
    let s-size = more z _ _ b.size 1981 198 s-sender q5.size_long in
    let s5 = regained z _ _ _ _ q5.stores s-size in
    let long : length (joined (counts b) (parts b)) ≡ length z = s5.long ∙ sym (ap length zs ∙ length-replicate {A = ℕ} 2179 0) in
    laid_parts b u5 q1.node_long q1.ticks_long q1.asany_long q2.from_long q2.knownby_long q2.remote_long q2.bytes_long q2.kind_long q2.condition_long q2.decider_long q3.intofirst_long q3.into_long q3.dispatchfirst_long q3.dispatch_long q3.queuefirst_long q3.queue_long q4.offset_long q4.lasts_long q4.rooms_long q4.decides_long q5.span_long q5.sender_long q5.size_long
    (s5.store ∙ sets_whole (joined (counts b) (parts b)) z long ∙ regroup (counts b) (parts b))
