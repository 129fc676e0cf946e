-- The fields of a plan index stored one behind the other in a list.
-- Assumes nothing.
use Rattle.std.specs.Prelude.{ℕ, ◌≡◌, List, [], ◌∷◌, length}
use Rattle.std.proofs.lemmas.List.Edits.{sets}
use Rattle.plan_index.specs.declared.PlanIndex.{PlanIndex}

-- n numbers are stored from a place on
pub record Stored (at n : ℕ) (numbers before after : List ℕ) : Type 0 where
  pub store : after ≡ sets before at numbers
  pub long : length numbers ≡ n

-- the counts of a plan index
abbrev pub counts : PlanIndex → List ℕ
counts b = b.processes ∷ b.edges ∷ b.conditions ∷ b.slots ∷ b.conditionrow ∷ b.rows ∷ b.round ∷ b.reciprocal ∷ []

-- the arrays of a kind are stored one after another, and how long each is
pub record ProcessesLaid (b : PlanIndex) (before after : List ℕ) : Type 0 where
  pub stores : after ≡ sets (sets (sets before 8 b.node) 72 b.ticks) 136 b.asany
  pub node_long : length b.node ≡ 64
  pub ticks_long : length b.ticks ≡ 64
  pub asany_long : length b.asany ≡ 64

pub record EdgesLaid (b : PlanIndex) (before after : List ℕ) : Type 0 where
  pub stores : after ≡ sets (sets (sets (sets (sets (sets (sets before 200 b.from) 328 b.knownby) 456 b.remote) 584 b.bytes) 712 b.kind) 840 b.condition) 968 b.decider
  pub from_long : length b.from ≡ 128
  pub knownby_long : length b.knownby ≡ 128
  pub remote_long : length b.remote ≡ 128
  pub bytes_long : length b.bytes ≡ 128
  pub kind_long : length b.kind ≡ 128
  pub condition_long : length b.condition ≡ 128
  pub decider_long : length b.decider ≡ 6

pub record OrdersLaid (b : PlanIndex) (before after : List ℕ) : Type 0 where
  pub stores : after ≡ sets (sets (sets (sets (sets (sets before 974 b.intofirst) 1039 b.into) 1167 b.dispatchfirst) 1232 b.dispatch) 1360 b.queuefirst) 1425 b.queue
  pub intofirst_long : length b.intofirst ≡ 65
  pub into_long : length b.into ≡ 128
  pub dispatchfirst_long : length b.dispatchfirst ≡ 65
  pub dispatch_long : length b.dispatch ≡ 128
  pub queuefirst_long : length b.queuefirst ≡ 65
  pub queue_long : length b.queue ≡ 128

pub record BusLaid (b : PlanIndex) (before after : List ℕ) : Type 0 where
  pub stores : after ≡ sets (sets (sets (sets before 1553 b.offset) 1561 b.lasts) 1569 b.rooms) 1577 b.decides
  pub offset_long : length b.offset ≡ 8
  pub lasts_long : length b.lasts ≡ 8
  pub rooms_long : length b.rooms ≡ 8
  pub decides_long : length b.decides ≡ 8

pub record RowsLaid (b : PlanIndex) (before after : List ℕ) : Type 0 where
  pub stores : after ≡ sets (sets (sets before 1585 b.span) 1783 b.sender) 1981 b.size
  pub span_long : length b.span ≡ 198
  pub sender_long : length b.sender ≡ 198
  pub size_long : length b.size ≡ 198
