-- Words that are read as they stand.
pub mod Readable
