-- The number of each refusal, and an answer with the number in place of the refusal.
-- Assumes nothing.
use Rattle.std.specs.Prelude.{ℕ, Result, Ok, Err}
use Rattle.refusals.specs.declared.Refusal.{Refusal}
use Rattle.refusals.specs.declared.Refusal.TheVariants as refusal

-- "A refusal yields its number only"
abbrev pub number_of : Refusal → ℕ
number_of refusal.PlanText = 1
number_of refusal.Counts = 2
number_of refusal.Sizes = 3
number_of refusal.Nodes = 4
number_of refusal.Deciders = 5
number_of refusal.EdgeEnds = 6
number_of refusal.TwinEdges = 7
number_of refusal.Whens = 8
number_of refusal.LongMessage = 9
number_of refusal.LentRoom = 10
number_of refusal.FrameRoom = 11
number_of refusal.WordCount = 12
number_of refusal.EntryForm = 13
number_of refusal.DueRows = 14
number_of refusal.UnknownValue = 15
number_of refusal.EarlyStart = 16
number_of refusal.OffSlot = 17
number_of refusal.Overlap = 18
number_of refusal.SharedByte = 19
number_of refusal.StatedDelay = 20
number_of refusal.ListingText = 21
number_of refusal.ListedFrames = 22

-- an answer, with the number of what refuses
abbrev pub numbered : {A : Type 0} → Result A Refusal → Result A ℕ
numbered (Ok x) = Ok x
numbered (Err r) = Err (number_of r)
