pub mod Cut
pub mod Answers
pub mod ReadAgain
pub mod Untouched
pub mod Instance
