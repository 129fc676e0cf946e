-- Laws of the timetable: TicksMost (how long a slot can be), TimetableOfModel (what the slots and the bus of a plan keep
-- to, and what a timetable says of them), Beginnings (how early and how late a slot begins), Rounds (which is the
-- beginning of a tick's round, and how many rounds lie in so many ticks).
pub mod TicksMost
pub mod TimetableOfModel
pub mod Beginnings
pub mod Rounds
