-- Free numbers, and the map of them that is kept along a tape.
pub mod FreeMap
pub mod Free
