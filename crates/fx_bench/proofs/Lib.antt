mod Fed
mod FirstMet
mod Numerators
