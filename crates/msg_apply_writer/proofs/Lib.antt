pub mod Texts
pub mod Ascii
pub mod Listed
