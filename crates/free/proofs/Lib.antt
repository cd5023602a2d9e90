-- What the map of free numbers is after each of its steps, and what it answers.
pub mod MapBits
pub mod Switching
pub mod FirstFree
pub mod FreeRows
pub mod LoadingMap
