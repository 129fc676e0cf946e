-- Sources (the combination that another takes over from), LastEnds (the last ends one by one, and where a source's
-- counts stand), Filling (what is copied into empty rows and nodes).
pub mod Sources
pub mod LastEnds
pub mod Filling
-- Adding has that counts are added to totals node by node.
pub mod Adding
