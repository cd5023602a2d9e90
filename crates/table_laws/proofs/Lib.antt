-- What the words of a picture say: links, levels, flags, free rows, and the row of a place from the root down.
pub mod DownRows
pub mod FlaggedRows
pub mod KidRows
pub mod LevelWords
pub mod LinkedRows
pub mod Pictured
pub mod TakenRows
pub mod PlainPicture
