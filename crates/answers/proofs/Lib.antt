-- `Forms`: the one form says of an answer what its call says. `Fixed`: the one form is fixed by what is said of it.
pub mod Forms
pub mod Fixed
