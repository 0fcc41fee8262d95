pub mod Alike
pub mod AlikeStatements
