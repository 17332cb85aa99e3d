pub mod OneLeavesAll
pub mod SizesSuffice
pub mod RowsAgree
pub mod StringsWellFormed
pub mod NumbersJudged
