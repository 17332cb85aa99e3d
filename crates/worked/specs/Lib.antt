pub mod Question
pub mod Cases
pub mod LimitEnds
