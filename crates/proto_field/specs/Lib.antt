pub mod Refusal
pub mod Varint
pub mod Signed
pub mod Unsigned
pub mod Tag
pub mod Value
pub mod Fields
