mod Leading
mod Phases
mod Leaving
mod Runs
