-- Laws of a lookup in a table for a text that is read: Looking (the number answered).
pub mod Looking
