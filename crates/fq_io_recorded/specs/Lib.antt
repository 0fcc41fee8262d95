pub mod Answers
pub mod Handed
pub mod HandedFiles
pub mod Read
pub mod Times
pub mod Told
pub mod ToldSink
