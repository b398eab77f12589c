mod Dividing
mod Fitting
