-- What each return of the four calls tells.
pub mod Draws
pub mod Closes
