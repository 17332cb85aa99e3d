pub mod ExtractorCases
