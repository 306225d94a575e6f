mod Fitting
mod Awaiting
mod Standing
mod Renaming
