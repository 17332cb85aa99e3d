pub mod CallsGiveAll
