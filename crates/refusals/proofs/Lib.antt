-- The refusals and the marks of a table that is a state's picture are the rules'.
pub mod AskedRows
pub mod Besides
pub mod Lacking
pub mod CountedFree
pub mod OtherGround
pub mod Refusing
pub mod OneRow
pub mod Arms
