-- Laws of what a slot takes: RowsRest (what is left alone by row), Scan (the two loops, item by item), Decided
-- (the broadcasts of a node are among the conditions that it decides), Rows (the same as
-- rows tried one after another), Packs (in arrays that hold a log), SlotOfModel (what a slot takes, and what a node has
-- pending, is what the model says), Left (what a node has pending after its slot).
pub mod RowsRest
pub mod Scan
pub mod Decided
pub mod Places
pub mod Taking
pub mod Rows
pub mod Packs
pub mod SlotOfModel
pub mod Left
-- Laws of the clocks of an event: Firsts (the first number that passes a test), Rests (what is left alone by node), Waits
-- (what stands in the array of the messages that wait), ChangedOnly (the nodes for which nothing is new need not be
-- looked up).
pub mod Firsts
pub mod Rests
pub mod Waits
pub mod ChangedOnly
