pub mod Largest
pub mod Pieces
pub mod Packets
pub mod Guard
pub mod Later
