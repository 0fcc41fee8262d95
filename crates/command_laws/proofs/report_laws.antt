mod Answers
mod Inputs
mod Lines
mod Report
