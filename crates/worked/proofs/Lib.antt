pub mod Cases
pub mod LimitEnds
