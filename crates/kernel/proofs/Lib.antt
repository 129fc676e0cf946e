-- Laws of what is heard: ColumnBits (two tests on words are a test on each bit).
pub mod ColumnBits
-- Laws of the search: SearchTurns (the test of an entry, and the turns of the search).
pub mod SearchTurns
-- Laws of the lookup: NodesOfModel (the node that is read for a row, and so the search, is the model's).
pub mod NodesOfModel
