pub mod Header
pub mod Control
pub mod Reader
