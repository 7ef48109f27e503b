-- One law for each return of a push; a function's proof applies them.
mod Laws
