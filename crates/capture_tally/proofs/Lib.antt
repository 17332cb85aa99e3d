pub mod Fitting
pub mod Counting
pub mod Passing
pub mod Taking
