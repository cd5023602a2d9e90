-- The kids near a cell, by their parents and digits.
pub mod NearSpots
