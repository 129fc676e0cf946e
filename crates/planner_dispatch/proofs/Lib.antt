-- Laws of the starts at one event: Picks (the first of a part of an array), Found (the first of a node, in the code and
-- in the model), Rows (the order in which the units start does not matter), Ends (where the nodes' last processes end,
-- after a start), Steps (what the start of one node does to the arrays), StartsOfModel (`starts_link`: the starts over
-- the arrays are those of the model), NodeOrders (what stands in the dispatch order of a node is its own),
-- UnchangedNodes (a node for which nothing is new has nothing to start), Fresh (the starts of the nodes for which
-- something is new are those of all, and the first end of what starts).
pub mod Picks
pub mod Found
pub mod Rows
pub mod Ends
pub mod Steps
pub mod StartsOfModel
pub mod NodeOrders
pub mod UnchangedNodes
pub mod Fresh
