pub mod Told
pub mod Varints
pub mod SignedNumbers
pub mod Places
