pub mod Stands
pub mod Numbered
pub mod StatementsStand
pub mod NumberedStatements
pub mod Units
pub mod Reading
