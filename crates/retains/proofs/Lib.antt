-- `Keeps`, `Stages`: what is kept, and the two stages that keep it. `Retains`: one law for each return of the call.
mod Keeps
mod Stages
mod Retains
