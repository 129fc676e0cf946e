-- The demands: One (a result, or the first refusal that applies, and then no buffer is changed), Two (a plan text
-- means what its printed form says, and what is planned is list scheduling), Three (the checker accepts exactly the
-- sound tables, those of the planner among them, and an accepted table runs as it should). Contracts has what is
-- known of a call of each function, and Called that nothing more is. Firsts, Told, Within, OneC and PlannedC (what
-- `riscadru_plan_table` writes, `riscadru_check_table` accepts) are what these rest on, and Listings for what is
-- answered to a printed table. PointOne to PointFour are document 02's points 1 to 4.
pub mod Contracts
pub mod Called
pub mod Firsts
pub mod Told
pub mod Within
pub mod OneC
pub mod Listings
pub mod One
pub mod Two
pub mod PlannedC
pub mod Three
pub mod PointOne
pub mod PointTwo
pub mod PointThree
pub mod PointFour
