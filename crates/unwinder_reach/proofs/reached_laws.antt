mod Members
mod Weights
mod Counts
mod Sizes
