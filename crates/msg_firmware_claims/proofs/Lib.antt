pub mod Segments
pub mod Components
pub mod Applies
pub mod Told
pub mod Premises
pub mod ByHand
