pub mod Row
pub mod Called
