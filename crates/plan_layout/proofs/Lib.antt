-- RowBounds (how large the numbers of the arrays are).
pub mod RowBounds
-- OrderParts (a part of an order's array), Columns (a plan's lines in its tables), EdgesOfModel (what a combination
-- leaves unmet), IndexOfModel (what the plan index of a plan says, in the words of the model), IndexOfLines (the plan
-- index of a plan is that of its lines).
pub mod OrderParts
pub mod Columns
pub mod EdgesOfModel
pub mod IndexOfModel
pub mod IndexOfLines
-- InOneArray (the fields read off the array in which they are stored), Bounds (how large the numbers are).
pub mod InOneArray
pub mod Bounds
