-- FrameBounds (what refusal 13 leaves of the arrays), SharingOfModel (what `share_byte` answers is what refusal 19
-- says).
pub mod FrameBounds
pub mod SharingOfModel
