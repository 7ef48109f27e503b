-- `Made` is what the room is, `Spliced` what each return of the call tells.
pub mod Made
pub mod Spliced
