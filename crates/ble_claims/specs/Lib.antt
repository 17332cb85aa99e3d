pub mod AcknowledgementsReturn
pub mod Answering
pub mod Delivery
pub mod Instance
