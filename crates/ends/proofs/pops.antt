-- One law for each return of a pop; a function's proof applies them.
mod Laws
mod Conditional
