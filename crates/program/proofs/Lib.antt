-- Laws of a listing and of what is printed: Room (how many bytes a listing has at most), ListingOfPlan (what is written
-- for the planner's answer is the plan's listing), ListingOfText (the same for what a text reads as), PrintedOfText
-- (what the program prints is the listing, or the line of the refusal).
pub mod Room
pub mod ListingOfPlan
pub mod ListingOfText
pub mod PrintedOfText
