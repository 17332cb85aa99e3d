pub mod HiddenLemmas
pub mod Begins
