pub mod Body
pub mod Front
