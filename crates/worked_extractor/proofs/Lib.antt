pub mod Rows
pub mod ExtractorCases
