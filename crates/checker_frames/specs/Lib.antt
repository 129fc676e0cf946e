pub mod SharedBytes
