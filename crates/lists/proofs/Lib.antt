-- Laws of the definitions in specs/: Tests (and, or, not), Members (what a test over a list says of its members), Keep
-- (equations), Different (no number twice), Sums, Sorting, Order (comparison and insertion in order), Front (a buffer
-- after a call), Fill (an array filled one by one), Loops (a loop over the numbers below n), Marks (numbers found
-- twice), Places (a list by its places), Stores (bytes stored one by one), Parts (a part of a list), Counts (how many a
-- test keeps), Greatest (the greatest over a loop), Insertion (sorting in an array), Joined (lists joined one after
-- another), Cutting (one of the arrays that stand in a list).
pub mod Tests
pub mod Members
pub mod Keep
pub mod Different
pub mod Sums
pub mod Sorting
pub mod Order
pub mod Front
pub mod Fill
pub mod Loops
pub mod Marks
pub mod Places
pub mod Stores
pub mod Parts
pub mod Counts
pub mod Greatest
pub mod Insertion
pub mod Joined
pub mod Cutting
