pub mod AcknowledgementsReturn
pub mod Answering
pub mod Reading
pub mod Growing
pub mod Steps
pub mod MessagesArrive
pub mod Instance
