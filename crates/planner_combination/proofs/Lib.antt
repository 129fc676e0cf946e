-- One event is what the definition says, by what is kept by node from event to event: Ahead (when the next event is),
-- Endings (when a process next ends), Beginnings (when a slot begins), Filling (what a slot changes), Begun (what
-- starts change), Pending (when what is pending stays), Arrivals (at which nodes items arrive), NextSends (what is
-- looked at as an event begins), Queue (what a slot takes of the messages that wait), Keeping (that what is kept says
-- the truth at every event), WholeEvent (an event as a whole). EventParts has what the proofs of the functions rest on.
pub mod Ahead
pub mod Endings
pub mod EventParts
pub mod Beginnings
pub mod Filling
pub mod Begun
pub mod Pending
pub mod Arrivals
pub mod Queue
pub mod NextSends
pub mod Keeping
pub mod WholeEvent
-- Planning from event to event is the planning of the model: Noting (what is noted as values become known),
-- EventOfModel (what one event does to what the arrays hold, specs/Standing), Planned (where a run of events leads).
-- EventRuns and RunBegins have what the proof of the loop rests on, EventSteps what that of an event does: its steps
-- one after another, by the rows and nodes that each leaves.
pub mod Noting
pub mod EventOfModel
pub mod Planned
pub mod EventRuns
pub mod EventSteps
pub mod RunBegins
