-- Laws of the definitions in specs/: Sets (the members of a mask), Built (masks built bit by bit), Passing (the members
-- of a mask that pass a test), Steps (steps for the
-- nodes of a mask), Known (the words of a table entry), Numbered (the combinations by their numbers).
pub mod Sets
pub mod Built
pub mod Passing
pub mod Steps
pub mod Known
pub mod Numbered
