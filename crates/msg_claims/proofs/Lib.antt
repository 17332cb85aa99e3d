pub mod Values
pub mod Fields
pub mod RoundTrip
pub mod Premises
pub mod ByHand
