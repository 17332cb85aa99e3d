pub mod CutApart
pub mod Arrives
pub mod Premises
pub mod ReadAgain
pub mod Untouched
pub mod Instance
