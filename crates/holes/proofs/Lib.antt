-- `Rooms`: what a stretch that moves leaves; `Closes`: what closing a hole does.
pub mod Rooms
pub mod Closes
