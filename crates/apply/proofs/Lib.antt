-- From a request on a picture to the rules', and from bytes to requests.
pub mod Drawing
pub mod Tamed
pub mod Deciding
pub mod Tallying
pub mod Applying
pub mod Following
pub mod Untouched
pub mod Asking
