pub mod Rooms
pub mod Tickets
pub mod Lawful
pub mod Decoding
pub mod Reading
pub mod Laws
