-- What only clauses of the code and lemmas cite: no promise of the programs rests on it.
pub mod Filled
pub mod Walked
