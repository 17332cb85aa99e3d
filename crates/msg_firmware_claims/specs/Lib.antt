pub mod RoundTrip
pub mod Premises
pub mod Worked
