-- Storing (rows and notes of a combination stored in its parts of the arrays), PrefixOfModel (where planning stands as
-- a value arrives in a plan), Fitting (planning can go by a plan's index), OnePlanned (the plan of one combination,
-- from where a run of events leads), TakenOver (what a combination takes over from its source, and its plan from
-- there), FromPrefix (the same of a combination's rows and nodes), AllPlanned (the combinations one after another:
-- their logs, the worst delay, the pass-over counts).
pub mod Storing
pub mod PrefixOfModel
pub mod Fitting
pub mod OnePlanned
pub mod TakenOver
pub mod FromPrefix
pub mod AllPlanned
