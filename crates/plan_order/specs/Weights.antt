-- What the pick goes by, and the key of a message.
-- Assumes nothing.
use Rattle.std.specs.Prelude.{ℕ, List, eqb, replicate, if◌then◌else◌}
use Rattle.plan.specs.declared.Pick.{Pick}
use Rattle.plan.specs.declared.Pick.TheVariants.{Urgency, Number}

-- what the pick goes by
abbrev pub weights_of : Pick → List ℕ → List ℕ
weights_of Urgency urgency = urgency
weights_of Number urgency = replicate 64 0

-- the node that sends, or 8, which is no node, where sender and receiver are of one node
abbrev pub sender_key : ℕ → ℕ → ℕ
sender_key sender receiver = if eqb sender receiver then 8 else sender
