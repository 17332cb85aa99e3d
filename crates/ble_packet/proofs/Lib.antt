pub mod Headers
pub mod Controls
pub mod Reading
pub mod Written
