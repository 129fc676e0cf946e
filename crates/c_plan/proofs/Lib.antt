-- Laws of a plan planned into lent bytes: TotalsOfWords (the totals stored as words), Putting (the planner's answer put
-- into them), Lending (more words than a table and a frame list have are never needed).
pub mod TotalsOfWords
pub mod Putting
pub mod Lending
