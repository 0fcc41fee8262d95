mod Flows
mod Values
mod Rows
mod Whole
