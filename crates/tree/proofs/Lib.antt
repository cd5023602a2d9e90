-- The tests of a row's parent, kids and neighbours, as the code makes them from what it read, are those of the definitions.
pub mod FamilyRows
pub mod Seaming
