pub mod NextPacket
pub mod Expected
