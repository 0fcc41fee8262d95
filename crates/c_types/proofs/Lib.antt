pub mod DeclarationLaws
pub mod FunctionLaws
pub mod GlobalLaws
pub mod ParameterLaws
pub mod PartLaws
pub mod ScopedLaws
pub mod StatementLaws
pub mod UnitLaws
