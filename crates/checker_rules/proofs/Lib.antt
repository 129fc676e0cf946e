-- Bits (bits that are all among others), KnownRows (the conditions known by a combination's rows), SlotBounds (what refusal 13 leaves of the arrays), RulesOfModel (what the
-- definitions say is what refusals 15, 17 and 18 say).
pub mod Bits
pub mod KnownRows
pub mod SlotBounds
pub mod RulesOfModel
-- Laws of refusal 13: EntryCases (a table's entries one by one), FormOfModel (it is the model's).
pub mod EntryCases
pub mod FormOfModel
