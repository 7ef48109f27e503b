-- One law for each return of a cut; a function's proof applies them.
mod Laws
