-- Document 01, "Refused, in checking order": sentences 12 to 20, and sound tables.
-- Assumes nothing.
use Rattle.std.specs.Prelude.{ℕ, ◌+◌, ◌%◌, ◌^◌, ◌≡◌, Bool, not, ◌&&◌, ◌||◌, List, map, eqb, leb, ltb, length, if◌then◌else◌}
use Rattle.lists.specs.Lists.{any, keep, below, greatest}
use Rattle.model.specs.Plan.{Lines, process, decider, into, local, unit}
use Rattle.model.specs.Activity.{all_heard, combinations, active, carries}
use Rattle.model.specs.Bus.{begins, slot_of, rows, is_process, is_edge, row_edge, row_condition, sender, row_node, row_bytes}
use Rattle.model.specs.Log.{Placed, Log, of_row, full_ticks, over, known, delivered, delay}
use Rattle.model.specs.Refusals.{Refusal, nothing, sentence, or_else, plan_refusal}
use Rattle.model.specs.Table.{Entry, entries_of, known_bits, bits_within, column_met}

-- 13: "An entry has no such row, is a local edge's, has known bits without condition, value bits outside the known,
-- tick above 999,999,999, place above 63, or a process's place not 0."
unfoldable pub ill_formed : Lines → Entry → Bool
ill_formed p e =
    leb (rows p) e.row
    || (not (is_process p e.row) && is_edge p e.row && local p (row_edge p e.row))
    || leb (2 ^ length p.conditions) e.known
    || not (bits_within 32 e.values e.known)
    || ltb 999999999 e.tick
    || ltb 63 e.place
    || (is_process p e.row && ltb 0 e.place)

-- "A column is met when the combination has its values at its known bits."
unfoldable pub met_entries : List Entry → List Bool → List Entry
met_entries es c = keep (column_met (all_heard c)) es

-- "In 14 to 20 a combination's starts and items are its met entries, at their own ticks".
abbrev pub own : Entry → Placed
own e = record { row = e.row; tick = e.tick; place = e.place }

unfoldable pub met_log : List Entry → List Bool → Log
met_log es c = map own (met_entries es c)

-- "a due row (active process, carrying edge between nodes, active decider's broadcast)"
unfoldable pub due : Lines → List Bool → ℕ → Bool
due p c r =
    if is_process p r
    then active p c r
    else if is_edge p r
    then carries p c (row_edge p r) && not (local p (row_edge p r))
    else active p c (decider p (row_condition p r))

-- 14: "a due row [..] has not exactly one entry whose column is met, or another row has one"
unfoldable pub miscounted : Lines → List Bool → Log → ℕ → Bool
miscounted p c log r = not (eqb (length (of_row log r)) (if due p c r then 1 else 0))

unfoldable pub not_once : Lines → List Entry → List Bool → Bool
not_once p es c = let log : Log = met_log es c in any (miscounted p c log) (below (rows p))

-- 15: "a met column uses a value not known by its tick"
unfoldable pub column_unknown : Lines → List Bool → Log → Entry → Bool
column_unknown p c log e = not (bits_within 32 e.known (known_bits (known p c (over p (full_ticks p) log e.tick))))

unfoldable pub uses_unknown : Lines → List Entry → List Bool → Bool
uses_unknown p es c = let log : Log = met_log es c in any (column_unknown p c log) (met_entries es c)

-- 16: "A process starts before a carrying edge has delivered, or an item before its sender's end."
unfoldable pub missing : Lines → List Bool → (ℕ → Bool) → ℕ → Bool
missing p c done e = carries p c e && not (delivered p (known p c done) done e)

unfoldable pub placed_early : Lines → List Bool → Log → Placed → Bool
placed_early p c log x =
    let done : ℕ → Bool = over p (full_ticks p) log x.tick in
    if is_process p x.row then any (missing p c done) (into p x.row) else not (done (sender p x.row))

unfoldable pub too_early : Lines → List Entry → List Bool → Bool
too_early p es c = let log : Log = met_log es c in any (placed_early p c log) log

-- 17: "An item's tick is not a beginning of its sender's slot."
unfoldable pub off_beginning : Lines → Placed → Bool
off_beginning p x = not (is_process p x.row) && not (begins p (row_node p x.row) x.tick)

unfoldable pub off_slot : Lines → List Entry → List Bool → Bool
off_slot p es c = any (off_beginning p) (met_log es c)

-- la from a on and lb from b on do not overlap
unfoldable pub apart : ℕ → ℕ → ℕ → ℕ → Bool
apart a la b lb = leb (a + la) b || leb (b + lb) a

-- 18: "Two processes overlap on a node."
unfoldable pub run_together : Lines → Placed → Placed → Bool
run_together p x y =
    ltb x.row y.row && eqb (unit p x.row) (unit p y.row)
    && not (apart x.tick (process p x.row).ticks y.tick (process p y.row).ticks)

unfoldable pub overlap : Lines → List Entry → List Bool → Bool
overlap p es c = let log : Log = keep (λ x. is_process p x.row) (met_log es c) in any (λ x. any (run_together p x) log) log

-- 19: "Two items of a frame share a byte, or one passes the slot's last byte", of the slot's data: "Capacity and places
-- still count data only" (document 02, point 1).
unfoldable pub past_end : Lines → Placed → Bool
past_end p x = ltb (slot_of p (row_node p x.row)).bytes (x.place + row_bytes p x.row)

unfoldable pub lie_together : Lines → Placed → Placed → Bool
lie_together p x y =
    ltb x.row y.row && eqb x.tick y.tick && eqb (row_node p x.row) (row_node p y.row)
    && not (apart x.place (row_bytes p x.row) y.place (row_bytes p y.row))

unfoldable pub share_byte : Lines → List Entry → List Bool → Bool
share_byte p es c =
    let log : Log = keep (λ x. not (is_process p x.row)) (met_log es c) in any (λ x. past_end p x || any (lie_together p x) log) log

-- 20: "The stated delay is not the greatest delay."
unfoldable pub greatest_delay : Lines → List Entry → ℕ
greatest_delay p es = greatest (map (λ c. delay p (full_ticks p) (met_log es c)) (combinations p))

unfoldable pub in_some : Lines → (List Bool → Bool) → Bool
in_some p f = any f (combinations p)

unfoldable pub table_refusal : Lines → List ℕ → ℕ → Refusal
table_refusal p words stated =
    let es : List Entry = entries_of words in
    sentence 12 (not (eqb (length words % 5) 0))
    (sentence 13 (any (ill_formed p) es)
    (sentence 14 (in_some p (not_once p es))
    (sentence 15 (in_some p (uses_unknown p es))
    (sentence 16 (in_some p (too_early p es))
    (sentence 17 (in_some p (off_slot p es))
    (sentence 18 (in_some p (overlap p es))
    (sentence 19 (in_some p (share_byte p es))
    (sentence 20 (not (eqb stated (greatest_delay p es)))
    nothing))))))))

-- the checker's answer: 2 to 9 on the plan, then 12 to 20 on the table
unfoldable pub check : Lines → List ℕ → ℕ → Refusal
check p words stated = or_else (plan_refusal p) (table_refusal p words stated)

-- "A table is sound, for a plan in which 2 to 9 find nothing and a stated delay, when 12 to 20 find nothing."
abbrev pub Sound : Lines → List ℕ → ℕ → Type 0
Sound p words stated = check p words stated ≡ nothing
