-- The planner's answer, given room for 3,000 entries and the frames of all, is listed as document 01 says: 10 where
-- there are more entries, and otherwise the listing of the words made, which 10 or 11 may refuse.
-- Assumes nothing.
use mathlib.Core.Path.{◌≡◌, refl, sym, ap, subst, ◌∙◌}
use mathlib.Core.Bool.{Bool, true, false, ◌||◌}
use mathlib.Core.List.{List}
use Prim.Native.Nat.{ℕ, ◌≤◌, ◌<◌, min}
use native.Mathlib.Omega.{arith}
use borrow.Author.Tests.{lt-ltb, le-ltb, ltb-false}
use lib.Dec.{ltb}
use lib.ListN.{length, take}
use lib.Seq.{take_all}
use Rattle.std.specs.Prelude.{Result, Err}
use Rattle.limits.specs.Limits.{NODES}
use Rattle.model.specs.Plan.{Lines}
use Rattle.model.specs.Refusals.{Refusal, nothing, sentence, or_else, plan_refusal}
use Rattle.model.specs.Table as model
use Rattle.model.specs.Table.{Answer, turned_down, made, result, entry_words, frame_words, entries_of, frames_of, answered, room_refusal, plan_answer}
use Rattle.model.specs.Text.{Written, not_written, unless_refused, fitting, bytes_after}
use Rattle.model.specs.Listing.{listing, words_listing, printed, plan_listing, listing_refusal, list_plan}
use Rattle.laws.proofs.Words.{printed_words}
use Rattle.plan.specs.declared.Plan.{Plan}
use Rattle.plan.specs.Memory.{lines}
use Rattle.planner_table.specs.declared.Made.{Made}
use Rattle.planner_table.specs.Planner.{answer_of as planned_of}
use Rattle.planner_table.proofs.Given.{made_suffice, turned, Stands}
use Rattle.listing_count.specs.Parts.{listing_of}
use Rattle.text_lines.specs.Answer.{answer_of}
use Rattle.listing.specs.Answer.{written_of}
use Rattle.listing.proofs.Written.{plan_listing as of-counts}
use Rattle.program.specs.Listing.{listed_in}
use Rattle.program.proofs.Room.{frame_words_few}

-- where more than 2,000 frames are listed, 10 or 11 applies
many_frames : (lent framewords : ℕ) (bytes : List ℕ) (b : Bool) → 6000 < framewords → ltb lent (length bytes) ≡ b →
    listed_in lent framewords bytes ≡ not_written (elim b [ true ↦ 10 | false ↦ 11 ])
unfolding listed_in unless_refused
many_frames lent framewords bytes true h e = rw e refl
many_frames lent framewords bytes false h e = rw (e, lt-ltb 6000 framewords h) refl

pub many_refused : (p : Plan) (delay : ℕ) (passed table frames : List ℕ) (nodes lent : ℕ) (b : Bool) → 6000 < length frames → length passed ≡ NODES → nodes ≡ min p.slots NODES →
    b ≡ ltb lent (length (listing_of p.processes p.edges p.conditions delay (take nodes passed) table frames)) →
    Err (elim b [ true ↦ 10 | false ↦ 11 ]) ≡ answer_of (listed_in lent (length frames) (words_listing (lines p) delay passed table frames))
many_refused p delay passed table frames nodes lent b h eight few e =
    let bytes : List ℕ = words_listing (lines p) delay passed table frames in
    let q : ltb lent (length bytes) ≡ b = ap (λ (z : List ℕ). ltb lent (length z)) (of-counts p delay passed table frames nodes eight few) ∙ sym e in
    sym (ap answer_of (many_frames lent (length frames) bytes b h q))

pub many_unchanged : (lent framewords : ℕ) (bytes out : List ℕ) → 6000 < framewords → out ≡ bytes_after (listed_in lent framewords bytes) out
unfolding bytes_after
many_unchanged lent framewords bytes out h = sym (ap (λ (w : Written). bytes_after w out) (many_frames lent framewords bytes (ltb lent (length bytes)) h refl))

-- where no more are listed, 10 alone
few_frames : (lent framewords : ℕ) (bytes : List ℕ) → framewords ≤ 6000 → written_of lent bytes ≡ listed_in lent framewords bytes
unfolding listed_in written_of fitting
few_frames lent framewords bytes h = rw (le-ltb 6000 framewords h) refl

-- two equal answers are given, and leave the lent bytes, alike
pub listed_so : (lent : List ℕ) {one two : Written} {now : List ℕ} {l : Result ℕ ℕ} → one ≡ two → l ≡ answer_of one → now ≡ bytes_after one lent →
    (l ≡ answer_of two) × (now ≡ bytes_after two lent)
listed_so lent e a b = (a ∙ ap answer_of e, b ∙ ap (λ (w : Written). bytes_after w lent) e)

pub few_listed : (lent now bytes : List ℕ) (framewords : ℕ) (l : Result ℕ ℕ) → framewords ≤ 6000 → l ≡ answer_of (written_of (length lent) bytes) →
    now ≡ bytes_after (written_of (length lent) bytes) lent →
    (l ≡ answer_of (listed_in (length lent) framewords bytes)) × (now ≡ bytes_after (listed_in (length lent) framewords bytes) lent)
few_listed lent now bytes framewords l h a b = listed_so lent (few_frames (length lent) framewords bytes h) a b

-- a listing names as many of the counts lent as the plan has nodes
counts_listed : (p : Lines) (delay : ℕ) (words counts table frames : List ℕ) → take (length p.slots) words ≡ counts → length counts ≡ length p.slots →
    words_listing p delay words table frames ≡ words_listing p delay counts table frames
unfolding words_listing
counts_listed p delay words counts table frames e n =
    ap (λ (z : List ℕ). listing p delay z (entries_of table) (frames_of frames)) (e ∙ sym (take_all (length p.slots) counts (omega arith)))

module _ (p : Lines) (fine : plan_refusal p ≡ nothing) (lent : ℕ) where
  -- the planner refuses with 10 alone, and so does the listing
  pub refused_listing : (n : ℕ) → plan_answer p 15000 9000 ≡ turned_down n → list_plan p lent ≡ not_written n
  unfolding plan_answer list_plan listing_refusal or_else room_refusal answered unless_refused
  refused_listing n e = rw fine (at (ltb 15000 (length (entry_words (result p).entries))) refl (sym (ap (λ (x : Refusal). answered (or_else x (room_refusal (result p) 15000 9000)) (result p)) fine) ∙ e))
    where
      at : (b : Bool) → ltb 15000 (length (entry_words (result p).entries)) ≡ b → answered (or_else nothing (room_refusal (result p) 15000 9000)) (result p) ≡ turned_down n →
          unless_refused (or_else nothing (sentence 10 (b || ltb lent (length (plan_listing p))) (sentence 11 (ltb 6000 (length (frame_words (result p).frames))) nothing))) (plan_listing p) ≡ not_written n
      at true q h =
          let t : ◌≡◌ {A = Answer} (turned_down 10) (turned_down n) = sym (ap (λ (b : Bool). answered (sentence 10 b (sentence 11 (ltb 9000 (length (frame_words (result p).frames))) nothing)) (result p)) q) ∙ h in
          let k : 10 ≡ n = cc in
          ap not_written k
      at false q h =
          let f = frame_words_few p fine (ltb-false _ _ q) in
          let g : ltb 9000 (length (frame_words (result p).frames)) ≡ false = le-ltb 9000 (length (frame_words (result p).frames)) f in
          let t : ◌≡◌ {A = Answer} (made (result p)) (turned_down n) = sym (λ i. answered (sentence 10 (q i) (sentence 11 (g i) nothing)) (result p)) ∙ h in
          absurd (let z : ◌≡◌ {A = ℕ} 0 1 = cc in omega arith)

  -- what it makes is listed
  pub made_listing : (r : model.Result) → plan_answer p 15000 9000 ≡ made r → list_plan p lent ≡ listed_in lent (length (frame_words (result p).frames)) (plan_listing p)
  unfolding list_plan listing_refusal listed_in or_else
  made_listing r e = rw (fine, le-ltb 15000 (length (entry_words (result p).entries)) (made_suffice p 15000 9000 r e).enough) refl

  -- the words made are those of the listing, which names the counts of the plan's nodes alone
  pub words_listed : {m : Made} {table frames passed table-now frames-now passed-now : List ℕ} → Stands p (plan_answer p 15000 9000) m table frames passed table-now frames-now passed-now →
      listed_in lent (length (take m.framewords frames-now)) (words_listing p m.delay passed-now (take m.words table-now) (take m.framewords frames-now)) ≡ list_plan p lent
  unfolding plan_listing
  words_listed {m} {frames-now = frames-now} {passed-now} s =
      let w = s.was in
      let r : model.Result = w.result in
      let k = (made_suffice p 15000 9000 r w.is_made).same in
      (λ i. listed_in lent (length (s.frames_words i)) (words_listing p (w.delay i) passed-now (s.table_words i) (s.frames_words i)))
      ∙ ap (listed_in lent (length (frame_words r.frames)))
      (counts_listed p r.delay passed-now r.passed (entry_words r.entries) (frame_words r.frames) s.counts_words s.counts_many ∙ sym (printed_words p r s.counts_many))
      ∙ ap (λ (r : model.Result). listed_in lent (length (frame_words r.frames)) (printed p (made r))) k
      ∙ sym (made_listing r w.is_made)

-- the same over the words that were lent
module _ (p : Lines) (fine : plan_refusal p ≡ nothing) (words room : ℕ) (w : words ≡ 15000) (f : room ≡ 9000) where
  pub refused_words : (n : ℕ) (out : List ℕ) → Err n ≡ planned_of (plan_answer p words room) →
      (Err n ≡ answer_of (list_plan p (length out))) × (out ≡ bytes_after (list_plan p (length out)) out)
  unfolding bytes_after
  refused_words n out e =
      let q : list_plan p (length out) ≡ not_written n = refused_listing p fine (length out) n ((λ i. plan_answer p (sym w i) (sym f i)) ∙ turned (plan_answer p words room) n e) in
      (sym (ap answer_of q), sym (ap (λ (z : Written). bytes_after z out) q))

  pub made_words : (lent : ℕ) {m : Made} {table frames passed table-now frames-now passed-now : List ℕ} → Stands p (plan_answer p words room) m table frames passed table-now frames-now passed-now →
      listed_in lent (length (take m.framewords frames-now)) (words_listing p m.delay passed-now (take m.words table-now) (take m.framewords frames-now)) ≡ list_plan p lent
  made_words lent {m} {table} {frames} {passed} {table-now} {frames-now} {passed-now} s =
      words_listed p fine lent (subst (λ (a : Answer). Stands p a m table frames passed table-now frames-now passed-now) (λ i. plan_answer p (w i) (f i)) s)
