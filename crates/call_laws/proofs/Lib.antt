-- The calls on lent lists that pass the first checks, and what the code makes of the rows.
pub mod Called
pub mod Rowed
pub mod Paged
pub mod Scanned
pub mod Looked
pub mod FindingRows
pub mod WalkablePicture
pub mod WalkedRows
