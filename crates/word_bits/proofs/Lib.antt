mod FirstBit
mod Halves
