pub mod ByteFields
pub mod OneReading
pub mod PackedMessages
pub mod PartsStand
pub mod ReadBuffers
pub mod ReadMessages
pub mod ToldMessages
pub mod Walks
