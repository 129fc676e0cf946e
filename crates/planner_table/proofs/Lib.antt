-- Answering (the planner's answer by its refusals, and what the lent words hold after it), Entering (the entries listed
-- are those of the table), Framing (the frames collected are those of the frame list), CountsOfModel (the counts copied
-- are the plan's), PlannedSound (the table written is sound with the delay given: `planned_sound`, `given_sound`),
-- Given (what was made stands at the front of what was lent), Most (how many words a table and a frame list have at
-- most).
pub mod Answering
pub mod Entering
pub mod Framing
pub mod CountsOfModel
pub mod PlannedSound
pub mod Given
pub mod Most
