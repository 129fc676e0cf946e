pub mod Rules
pub mod EntryForm
