-- One law for each return of a look; a function's proof applies them.
mod Laws
