-- Laws of a slot: FilledParts (what it leaves, part by part), Rests (what is left alone).
pub mod FilledParts
pub mod Rests
