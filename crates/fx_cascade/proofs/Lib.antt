mod FirstForm
mod NeverRefused
mod Rows
mod SectionSums
mod SectionsMeet
mod Transposed
