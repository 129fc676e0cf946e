-- Laying (parts one behind the other in an array).
pub mod Laying
-- Gathering (groups in an array).
pub mod Gathering
-- Downward (urgencies from the last process down).
pub mod Downward
-- OrdersOfModel (the arrays of a plan and its lines).
pub mod OrdersOfModel
