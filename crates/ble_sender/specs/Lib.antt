pub mod Piece
pub mod Writer
