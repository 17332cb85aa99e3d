pub mod Table
pub mod WellFormed
pub mod Claims
