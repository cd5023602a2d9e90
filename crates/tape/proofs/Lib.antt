-- From one request to the next.
pub mod Turning
pub mod Running
pub mod TapeCalled
