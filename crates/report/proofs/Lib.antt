pub mod EventLines
pub mod GeneratedLaws
pub mod JsonTexts
pub mod NoFloats
pub mod ValueLaws
